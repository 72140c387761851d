use Rattle.std.proofs.Common.{◌≡◌, nat_lt, Some, None, slice_get, sym}
use Rattle.itch_book.proofs.LineLemmas.{read_at, read_past}
use Rattle.itch_book.proofs.PartLemmas.{higher_from, higher_end}
use Rattle.itch_book.proofs.line.all_higher_from.Goals as goal

pub returns-in-Some : goal.returns-in-Some
returns-in-Some c =
    let line = c.args.line.now in let i = c.args.place in let x = c.in-Some.one.now in
    sym (higher_from c.args.locate line i x c.requires (sym (read_at line i x c.in-Some.ensures.lookup.0 c.in-Some.ensures.lookup.1)))
