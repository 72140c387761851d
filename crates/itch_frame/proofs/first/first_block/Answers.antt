use Rattle.std.proofs.Common.{ℕ, take, sym, subst, arith}
use Rattle.itch_frame.specs.Blocks.{IsBlock}
use Rattle.itch_frame.proofs.SplitterLemmas.{first_needed}
use Rattle.itch_frame.proofs.first.first_block.Goals as goal

pub returns-clause-block : goal.returns-clause-block
returns-clause-block c =
    let size = c.needed-size.ensures in
    subst (λ (n : ℕ). IsBlock (take n c.args.bytes.now)) (sym size.count)
    (first_needed c.args.bytes.now (omega arith) (omega (arith, size.count)) (omega (arith, size.count, size.bound)) size.bytes)
