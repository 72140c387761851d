use Rattle.std.proofs.Common.{sym, ◌∙◌}
use Rattle.itch_day.proofs.DayCursors.{in_part}
use Rattle.itch_day.proofs.cursor.DayCursor.is_in.Goals as goal

pub returns-then-is_within-clause-early : goal.returns-then-is_within-clause-early
returns-then-is_within-clause-early c = λ payloads is in_it.
    in_part c.args.limit c.args.self.now payloads is (sym c.is_within.ensures ∙ c.if-is_within.true) (sym c.is_before.ensures ∙ in_it)
