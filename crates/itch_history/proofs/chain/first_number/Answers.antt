use Rattle.std.proofs.Common.{◌∙◌, arith}
use Rattle.itch_history.proofs.Replacements.{back_begun, back_on}
use Rattle.itch_history.proofs.chain.first_number.Goals as goal

pub loop-index-init : goal.loop-index-init
loop-index-init c = back_begun c.args.replacements.now c.args.number

pub loop-index-preserved : goal.loop-index-preserved
loop-index-preserved c =
    let loop = c.loop-index in
    c.before_replacement-first.ensures
    ∙ back_on c.args.replacements.now _ loop.index c.args.number loop.first (omega (arith, c.loop-index-test.true)) (omega (arith, loop.auto.index)) loop.invariant
