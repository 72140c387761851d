use Rattle.std.specs.Prelude.{slice_index}
use Rattle.itch_commands.proofs.InfoTexts.{TypesSoFar}
use Rattle.itch_commands.proofs.info.writing.write_types.Given as goal

abbrev pub invariant-loop-kind : goal.invariant-loop-kind
invariant-loop-kind g l = TypesSoFar g.W.CountedWrite.contents g.W.CountedWrite.failures l.form (slice_index l.counts.counts) l.is_first l.kind l.initial.out l.out
