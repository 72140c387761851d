use Rattle.itch_commands.proofs.SavedInTurn.{EverySaved}
use Rattle.itch_commands.proofs.snap.saving.save_every.Given as goal

abbrev pub invariant-loop : goal.invariant-loop
invariant-loop g l =
    EverySaved g.R.CountedRead.remaining g.R.CountedRead.failures g.S.Fault.From.from_gives g.S.PointSaver.saves l.step l.initial.pass.first.value l.counter l.initial.saver l.saver
    l.pass.first.value l.pass.reader l.pass.tracked l.pass.limit.value l.pass.stop.value
