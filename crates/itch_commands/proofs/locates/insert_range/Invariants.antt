use Rattle.itch_commands.proofs.LocateLists.{InsertedBefore}
use Rattle.itch_commands.proofs.locates.insert_range.Given as goal

abbrev pub invariant-loop-locate : goal.invariant-loop-locate
invariant-loop-locate g l = InsertedBefore l.fn.first l.locate l.initial.set l.set
