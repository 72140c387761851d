use Rattle.itch_soup.proofs.SentSessions.{one_passed}
use Rattle.itch_soup.proofs.sending.pass_over.Goals as goal

pub loop-passed-preserved : goal.loop-passed-preserved
loop-passed-preserved g c = one_passed c.args.messages.now c.loop-passed.messages c.next.new.self c.loop-passed._passed c.next.result c.next.ensures.steps c.loop-passed.invariant
