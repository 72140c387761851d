use Rattle.std.proofs.Common.{◌≡◌, ◌+◌, length, ap, ◌∙◌, arith}
use Rattle.itch_adaptive.proofs.CopiedBooks.{all_copied, complete}
use Rattle.itch_adaptive.proofs.copying.copy_of.Goals as goal
use Rattle.itch_adaptive.proofs.copying.copy_of.Goals.{else-loop-locate-test, then-loop-locate-test+else-len+in_ok-copy_locate+else-locate-lt65535}

pub returns-then-len : goal.returns-then-len
returns-then-len g c =
    c.loop-locate.invariant
    ∙ complete (g.S.OrderBook.orders c.args.book.now) (g.met.S.OrderBook.is_book c.args.book.now) c.loop-locate.locate (omega arith)
    (omega (arith, ap length c.loop-locate.invariant, c.len.ensures, c.len-in-loop-locate.ensures, c.if-len.true))

pub returns : goal.returns
returns g c = elim c.loop-locate-test.branch [
  | else-loop-locate-test w ↦ absurd (omega arith)
  | then-loop-locate-test+else-len+in_ok-copy_locate+else-locate-lt65535 w ↦
      let last : c.loop-locate.locate + 1 ≡ 65536 = omega arith in
      rw w.copy-is (w.in_ok-copy_locate.ensures ∙ all_copied (g.S.OrderBook.orders c.args.book.now) (g.met.S.OrderBook.is_book c.args.book.now) c.loop-locate.locate last)
]
