use Rattle.std.proofs.Common.{◌≡◌, ◌<◌, ◌-◌, nat_lt, suc, Some, length, take, slice_get, refl, sym, ap, ◌∙◌, arith}
use Rattle.std.specs.List.{list_all}
use Rattle.std.proofs.lemmas.Bool.Decides.{nat_tests}
use Rattle.std.proofs.lemmas.Option.{slice_get_read}
use Rattle.itch_book.specs.declared.arrived.Arrived.{Arrived}
use Rattle.itch_book.specs.Settled.{is_lower}
use Rattle.itch_book.proofs.PartLemmas.{lower_to}
use Rattle.itch_book.proofs.line.all_lower_before.Goals as goal

pub returns : goal.returns
returns c =
    let l = c.args.locate in let line = c.args.line.now in let i = c.args.place - 1 in let x = c.index-line-place.result in
    let some = c.if-place-eq0.false in let le = c.requires.within in
    let next : suc i ≡ c.args.place = grind (arith, nat_tests) in
    let here : slice_get line i ≡ Some x = slice_get_read line (length line) i x refl (omega arith) c.index-line-place.is in
    ap (λ (y : Arrived). nat_lt y.order.locate l) (sym c.index-line-place.is)
    ∙ sym (lower_to l line i x c.requires.order here)
    ∙ ap (λ n. list_all (is_lower l) (take n line)) next
