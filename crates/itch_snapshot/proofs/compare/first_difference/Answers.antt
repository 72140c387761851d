use Rattle.std.proofs.Common.{refl}
use Rattle.itch_snapshot.proofs.Partings.{one_more, shorter_one, shorter_other, other_element}
use Rattle.itch_snapshot.proofs.compare.first_difference.Goals as goal

pub loop-message-preserved : goal.loop-message-preserved
loop-message-preserved g c =
    one_more _ _ _ _ _ _ _ _ _ _ c.loop-message.invariant c.in-Some.ensures.steps c.in-Some-next.ensures.steps (c.if-is_same.ensures.0 refl)

pub returns-in_default-clause-place : goal.returns-in_default-clause-place
returns-in_default-clause-place g c =
    other_element _ _ _ _ _ _ _ _ _ _ c.loop-message.invariant c.in-Some.ensures.steps c.in-Some-next.ensures.steps
    (λ same. let no_one = c.if-is_same.ensures.1 same in cc)

pub returns-in_default-2-clause-place : goal.returns-in_default-2-clause-place
returns-in_default-2-clause-place g c =
    shorter_other _ _ _ _ _ _ _ _ c.loop-message.invariant c.in-Some.ensures.steps (rw c.in_default.is at c.next-in-loop-message.ensures.steps).0

pub returns-in-Some-next-2-clause-place : goal.returns-in-Some-next-2-clause-place
returns-in-Some-next-2-clause-place g c = shorter_one _ _ _ _ _ _ _ _ c.loop-message.invariant c.in-None.ensures.steps.0 c.in-Some-next-2.ensures.steps
