use Rattle.itch_commands.proofs.CanonicalBytes.{matched_on, not_matched, matched_all, not_closed}
use Rattle.itch_commands.proofs.canon.canonical.is_closed.Goals as goal

pub loop-message-preserved : goal.loop-message-preserved
loop-message-preserved g c =
    matched_on _ _ _ _ _ c.loop-message.invariant _ _ _ c.recall_invariant.ensures.good c.in-Some.ensures.steps c.in-Some-after_message.ensures.strips

pub returns-in-None-after_message : goal.returns-in-None-after_message
returns-in-None-after_message g c =
    not_matched _ _ _ _ _ c.loop-message.invariant _ _ c.args.next c.recall_invariant.ensures.good c.in-Some.ensures.steps c.in-None-after_message.ensures.strips

pub returns-in-Some-after_message-2 : goal.returns-in-Some-after_message-2
returns-in-Some-after_message-2 g c =
    matched_all _ _ _ _ _ c.loop-message.invariant c.args.next c.in-None.ensures.steps.0 c.in-Some-after_message-2.more.now c.is_empty.result
    c.in-Some-after_message-2.ensures.fits c.in-Some-after_message-2.ensures.strips c.is_empty.ensures

pub returns-in-None-after_message-2 : goal.returns-in-None-after_message-2
returns-in-None-after_message-2 g c =
    not_closed _ _ _ _ _ c.loop-message.invariant c.args.next c.in-None.ensures.steps.0 c.in-None-after_message-2.ensures.fits c.in-None-after_message-2.ensures.strips
