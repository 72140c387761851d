use Rattle.itch_commands.proofs.RecordedLines.{Recorded}
use Rattle.itch_commands.proofs.show.snapshot_file.write_lines.Given as goal

abbrev pub invariant-loop-message : goal.invariant-loop-message
invariant-loop-message g l =
    Recorded g.W.CountedWrite.contents g.W.CountedWrite.failures l.fn.form l.initial.choice l.market l.next l.initial.out l.yielded l.message-iterator l.number l.choice l.out
