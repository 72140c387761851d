use Rattle.std.proofs.Common.{drop}
use Rattle.itch_commands.proofs.SavedInTurn.{EachSaved}
use Rattle.itch_commands.proofs.snap.saving.save_each.Given as goal

abbrev pub invariant-loop-limit : goal.invariant-loop-limit
invariant-loop-limit g l =
    EachSaved g.R.CountedRead.remaining g.R.CountedRead.failures g.S.Fault.From.from_gives g.S.PointSaver.saves l.initial.pass.first.value l.parts (drop l.limit-index l.parts) l.initial.saver l.saver
    l.pass.first.value l.pass.reader l.pass.limit.value l.pass.tracked l.pass.stop.value
