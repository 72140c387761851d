use Rattle.std.proofs.Common.{◌≡◌, eqb, false, sym, ◌∙◌, arith}
use Rattle.std.proofs.lemmas.Bool.Decides.{nat_tests}
use Rattle.itch_book.proofs.RisingLemmas.{hit, miss, past, read_level, read_past}
use Rattle.itch_book.proofs.level_lines.queue_in.Goals as goal

pub returns-then-level-price : goal.returns-then-level-price
returns-then-level-price c =
    let s = c.args.side in let p = c.args.price in let xs = c.args.levels.now in
    sym (hit s p xs c.requires c.place_of.result c.place_of.ensures.place c.in_ok-level.level.now (read_level xs c.place_of.result c.in_ok-level.level.now c.in_ok-level.ensures.lookup.0 c.in_ok-level.ensures.lookup.1) c.if-level-price.true)

pub returns-else-level-price : goal.returns-else-level-price
returns-else-level-price c =
    let s = c.args.side in let p = c.args.price in let xs = c.args.levels.now in
    let other : eqb p c.in_ok-level.level.now.price ≡ false = let differ = c.if-level-price.false in grind (arith, nat_tests) in
    sym (miss s p xs c.requires c.place_of.result c.place_of.ensures.place c.in_ok-level.level.now (read_level xs c.place_of.result c.in_ok-level.level.now c.in_ok-level.ensures.lookup.0 c.in_ok-level.ensures.lookup.1) other)

pub returns-in_err-level : goal.returns-in_err-level
returns-in_err-level c =
    let s = c.args.side in let p = c.args.price in let xs = c.args.levels.now in
    c.from_residual.ensures ∙ sym (past s p xs c.requires c.place_of.result c.place_of.ensures.place (read_past xs c.place_of.result c.in_err-level.ensures.lookup.0))
