use Rattle.std.proofs.Common.{◌≡◌, false, sym, ◌∙◌}
use Rattle.itch_market.specs.Content.{laid}
use Rattle.itch_market.specs.Effects.{effect}
use Rattle.itch_market.specs.Partial.{only}
use Rattle.itch_market.specs.Wanted.{has}
use Rattle.itch_commands.proofs.PointMarkets.{applied_part, followed_part, skipped_part, when_ok}
use Rattle.itch_commands.proofs.snap.point_market.follow.Goals as goal
use Rattle.itch_commands.proofs.snap.point_market.follow.Goals.{else-not-skips-via-then-not-skips+else-is_err, else-not-skips-via-else-not-skips}

pub returns-else-not-skips : goal.returns-else-not-skips
returns-else-not-skips g c = λ before good in_order fits none cut.
    let part = c.args.part.now in
    let set = c.in-Some.set in
    let x = c.args.message.now in
    let is : part ≡ only (has set) before = followed_part c.args.followed.now set before part c.in-Some.is cut in
    elim c.else-not-skips.branch [
      | else-not-skips-via-then-not-skips+else-is_err w ↦
          w.part-is ∙ applied_part before part good in_order x fits none set is (sym c.skips.ensures ∙ w.if-not-skips.true) w.apply.new.self
          (when_ok w.apply.result (sym w.is_err.ensures.value ∙ w.if-is_err.false) w.apply.ensures.ok)
      | else-not-skips-via-else-not-skips w ↦ w.part-is ∙ skipped_part before part good in_order x fits none set is (sym c.skips.ensures ∙ w.if-not-skips.false)
    ]
