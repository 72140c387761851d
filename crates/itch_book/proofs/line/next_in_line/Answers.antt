use Rattle.std.proofs.Common.{◌≡◌, ◌+◌, Some, length, slice_get, refl}
use Rattle.std.proofs.lemmas.Option.{slice_get_read}
use Rattle.itch_book.proofs.LineLemmas.{read_at}
use Rattle.itch_book.proofs.NextLemmas.{next_hit, next_miss}
use Rattle.itch_book.proofs.line.next_in_line.Goals as goal

pub returns-then-next-here : goal.returns-then-next-here
returns-then-next-here c =
    let line = c.args.line.now in let i = c.args.place in let x = c.index-line-place.result in let y = c.in_ok-next.next.now in
    let here : slice_get line i ≡ Some x = slice_get_read line (length line) i x refl c.requires.within c.index-line-place.is in
    next_hit i line x c.requires.order here y (read_at line (i + 1) y c.in_ok-next.ensures.lookup.0 c.in_ok-next.ensures.lookup.1) c.if-next-here.true

pub returns-else-next-here : goal.returns-else-next-here
returns-else-next-here c =
    let line = c.args.line.now in let i = c.args.place in let x = c.index-line-place.result in let y = c.in_ok-next.next.now in
    let here : slice_get line i ≡ Some x = slice_get_read line (length line) i x refl c.requires.within c.index-line-place.is in
    next_miss i line x c.requires.order here y (read_at line (i + 1) y c.in_ok-next.ensures.lookup.0 c.in_ok-next.ensures.lookup.1) c.if-next-here.false
