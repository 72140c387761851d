use Rattle.std.proofs.Common.{subst, arith}
use Rattle.std.proofs.lemmas.List.{take_all}
use Rattle.itchsnap_cli.specs.Tallies.{CountsOn}
use Rattle.itchsnap_cli.proofs.Tallying.{on_nothing, on_next}
use Rattle.itchsnap_cli.proofs.input.messages.BlockCounter.pass.Goals as goal

pub loop-byte-init : goal.loop-byte-init
loop-byte-init c = on_nothing _

pub loop-byte-preserved : goal.loop-byte-preserved
loop-byte-preserved c = on_next _ _ _ c.args.piece.now c.loop-byte.byte-index (omega arith) c.loop-byte.invariant c.step.ensures

pub returns : goal.returns
returns c = subst (λ taken. CountsOn c.args.self.now taken c.loop-byte.self) (take_all c.loop-byte.byte-index c.args.piece.now (omega arith)) c.loop-byte.invariant
