use Rattle.std.proofs.Common.{Ok, ap, subst, ◌∙◌, arith}
use Rattle.itch_frame.specs.Reading.{NextMessage}
use Rattle.itch_clients.proofs.Passed.{takes_next}
use Rattle.itch_clients.proofs.playback.Playback.take_next.Goals as goal

pub returns-in_ok-extend_from_slice-in-Ok-Some : goal.returns-in_ok-extend_from_slice-in-Ok-Some
returns-in_ok-extend_from_slice-in-Ok-Some g c = λ first stands.
    let held = c.next_message.follows.holds-at-none in
    takes_next g.S.CountedRead.remaining g.S.CountedRead.failures first c.args.self.now.blocks c.next_message.follows.lender-at-none c.args.self.now.number c.saturating_add-self.result
    c.args.self.now.message.items c.extend_from_slice.new.self.items c.in-Ok-Some.payload stands
    (subst (λ r. NextMessage g.S.CountedRead.remaining g.S.CountedRead.failures c.args.self.now.blocks r c.next_message.follows.lender-at-none) (c.in-Ok-Some.is ∙ ap Ok c.in-Ok-Some.field-0-is) held.0)
    (omega (arith, c.saturating_add-self.ensures, c.requires))
    (grind arith)
