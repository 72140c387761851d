use Rattle.std.proofs.Common.{◌≡◌, List, filter, find, option_map, ap, ◌∙◌, subst}
use Rattle.std.specs.Option.{option_copied}
use Rattle.std.specs.Map.{values_of}
use Rattle.itch_book.specs.Settled.{its_order, is_of_locate, wants}
use Rattle.itch_book.proofs.LeastLemmas.{line_in_order}
use Rattle.itch_book.proofs.PartLemmas.{line_is, same_found}
use Rattle.itch_book.proofs.arrivals.sought.Goals as goal

pub part_of-part-requires : goal.part_of-part-requires
part_of-part-requires g c =
    line_in_order (values_of c.args.references.now.entries) _ _ c.requires (ap option_copied c.in-Some.is)

pub returns-in-Some : goal.returns-in-Some
returns-in-Some g c =
    let w = c.args.wanted in let line = c.in-Some.line.now in let part = c.part_of-part.result.orders.now in
    let all = subst (λ l. filter (is_of_locate l) part ≡ filter (is_of_locate l) line) c.locate_of-locate.ensures c.part_of-part.ensures.all in
    let laid = line_is (values_of c.args.references.now.entries) _ line c.requires (ap option_copied c.in-Some.is) in
    c.first_in_part.ensures ∙ ap (option_map its_order) (same_found w part line all ∙ ap (find (wants w)) laid)
