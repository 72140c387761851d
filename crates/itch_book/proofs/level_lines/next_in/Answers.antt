use Rattle.std.proofs.Common.{◌≡◌, ◌-◌, suc, sym, ◌∙◌, arith}
use Rattle.itch_book.proofs.RisingLemmas.{next_none, next_some}
use Rattle.itch_book.proofs.level_lines.next_in.Goals as goal

pub returns-then-end-eq0 : goal.returns-then-end-eq0
returns-then-end-eq0 c = next_none c.args.side c.args.last c.args.levels.now c.requires (sym c.end_of-end.ensures.end ∙ c.if-end-eq0.true)

pub returns : goal.returns
returns c =
    let some : c.end_of-end.result ≡ suc (c.end_of-end.result - 1) = omega (arith, c.if-end-eq0.false) in
    next_some c.args.side c.args.last c.args.levels.now (c.end_of-end.result - 1) (record { price = 0; queue = 0 }) c.requires (sym c.end_of-end.ensures.end ∙ some)
