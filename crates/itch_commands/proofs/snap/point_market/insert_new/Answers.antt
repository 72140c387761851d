use Rattle.std.proofs.Common.{not, sym, ap, ◌∙◌}
use Rattle.itch_market.specs.Wanted.{has}
use Rattle.itch_commands.proofs.PointMarkets.{inserted_alike, no_entry, when_is_ok}
use Rattle.itch_commands.proofs.snap.point_market.insert_new.Goals as goal

pub returns-then-is_none : goal.returns-then-is_none
returns-then-is_none g c = λ good ok.
    inserted_alike c.args.whole.now good (has c.insert.new.self) (has c.args.set.now) c.args.locate
    (sym c.security.ensures ∙ no_entry c.security.result (c.is_none.ensures ∙ ap not c.if-is_none.true))
    (when_is_ok c.insert.result (sym c.is_ok.ensures.value ∙ ok) c.insert.ensures.ok)
