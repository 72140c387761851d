use Rattle.itch_commands.proofs.PointMarkets.{empty_part}
use Rattle.itch_commands.proofs.snap.point_market.PointMarket.new.Goals as goal

pub invariant_of-result : goal.invariant_of-result
invariant_of-result g c = empty_part c.match-followed.followed.0 c.new-2.result c.new-3.result c.new-2.ensures c.new-3.ensures
