use Rattle.std.proofs.Common.{Ok, ap, subst, ◌∙◌, arith}
use Rattle.itch_frame.specs.Passing.{PassesMessages}
use Rattle.itch_clients.proofs.Passed.{passes_on}
use Rattle.itch_clients.proofs.playback.Playback.pass_over.Goals as goal

pub returns-in-Ok-true : goal.returns-in-Ok-true
returns-in-Ok-true g c = λ first stands.
    let over = subst (λ r. PassesMessages g.S.CountedRead.remaining g.S.CountedRead.failures c.args.most c.args.self.now.blocks c.pass_messages-count.result.0 r c.pass_messages-count.new.self)
    (c.in-Ok-true.is ∙ ap Ok c.in-Ok-true.field-0-test) c.pass_messages-count.ensures in
    passes_on g.S.CountedRead.remaining g.S.CountedRead.failures first c.args.self.now.blocks c.pass_messages-count.new.self c.args.self.now.number c.pass_messages-count.result.0 c.saturating_add-self.result
    c.args.self.now.message.items c.clear.new.self.items stands over.1 (omega (arith, c.saturating_add-self.ensures, over.0, c.requires)) c.clear.ensures.items
