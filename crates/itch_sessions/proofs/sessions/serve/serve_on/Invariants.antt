use Rattle.itch_sessions.proofs.Lines.{AreServed}
use Rattle.itch_sessions.proofs.sessions.serve.serve_on.Given as goal

abbrev pub invariant-loop-before : goal.invariant-loop-before
invariant-loop-before g l =
    AreServed g.R.Stream.Read.remaining g.R.Stream.Write.contents g.W.CountedWrite.contents g.W.CountedWrite.failures l.fn.market l.fn.next l.fn.config l.initial.out l.before l.out
