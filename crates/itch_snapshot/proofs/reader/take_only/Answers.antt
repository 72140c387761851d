use Rattle.std.proofs.Common.{sym, ◌∙◌, eq-eqb}
use Rattle.itch_market.specs.Wanted.{has}
use Rattle.itch_snapshot.proofs.TakenMessages.{taken_full, taken_so}
use Rattle.itch_snapshot.proofs.reader.take_only.Goals as goal

pub returns-then-taken-eq-MOST_MESSAGES : goal.returns-then-taken-eq-MOST_MESSAGES
returns-then-taken-eq-MOST_MESSAGES g c = λ payload decodes.
    taken_full (has c.args.set.now) _ _ _ payload c.take.result (eq-eqb _ _ c.if-taken-eq-MOST_MESSAGES.true) (c.take.ensures payload decodes)

pub returns : goal.returns
returns g c = λ payload decodes.
    taken_so (has c.args.set.now) _ _ _ payload _ (sym (c.is_skipped.ensures payload decodes) ∙ c.if-is_skipped.false) (c.take-2.ensures payload decodes)
