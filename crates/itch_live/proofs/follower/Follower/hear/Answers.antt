use Rattle.itch_live.proofs.Shutting.{hears_whole}
use Rattle.itch_live.proofs.follower.Follower.hear.Goals as goal

pub returns : goal.returns
returns g c =
    hears_whole g.W.CountedWrite.contents g.W.CountedWrite.failures _ _ _ _ _ _ _ _ _ _ _ _ _ _ c.self.view_is c.take-count.ensures c.in-Some.ensures.some
    c.hear_packet-news.ensures c.clear.ensures
