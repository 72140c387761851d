use Rattle.itch_live.proofs.Feeds.{joining, stands_joined}
use Rattle.itch_live.proofs.laws.market_of_the_feed.Goals as goal

pub returns : goal.returns
returns g c = λ set cap feed begun past f bytes j followed.
    stands_joined set cap feed f bytes (joining g.W.CountedWrite.contents g.W.CountedWrite.failures set cap feed begun past f j followed)
