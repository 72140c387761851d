use Rattle.std.proofs.Common.{drop}
use Rattle.itch_commands.proofs.InfoTexts.{EventsSoFar}
use Rattle.itch_commands.proofs.info.writing.write_events.Given as goal

abbrev pub invariant-loop-event : goal.invariant-loop-event
invariant-loop-event g l = EventsSoFar g.W.CountedWrite.contents g.W.CountedWrite.failures l.form l.events l.is_first (drop l.event-index l.events) l.initial.out l.out
