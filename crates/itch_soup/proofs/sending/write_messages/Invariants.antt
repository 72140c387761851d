use Rattle.itch_soup.proofs.SentSessions.{DataSent}
use Rattle.itch_soup.proofs.sending.write_messages.Given as goal

abbrev pub invariant-loop-message : goal.invariant-loop-message
invariant-loop-message g l =
    DataSent g.W.CountedWrite.contents g.W.CountedWrite.failures l.fn.messages l.initial.writer l.yielded l.message-iterator l.count l.writer
