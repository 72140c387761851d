use Rattle.itch_market.specs.Content.{Content}
use Rattle.itch_commands.proofs.PointMarkets.{FollowedSoFar}
use Rattle.itch_commands.proofs.snap.point_market.follows_all.Given as goal

abbrev pub invariant-loop-locate : goal.invariant-loop-locate
invariant-loop-locate g l = FollowedSoFar (Content.securities l.whole) l.set l.followed l.yielded l.locate-iterator
