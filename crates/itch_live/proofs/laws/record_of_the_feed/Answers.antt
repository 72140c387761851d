use Rattle.itch_live.proofs.Recorded.{all_recorded}
use Rattle.itch_live.proofs.laws.record_of_the_feed.Goals as goal

pub returns : goal.returns
returns g c = λ set feed begun past f record_begun record_now bytes j followed one.
    all_recorded g.W.CountedWrite.contents g.W.CountedWrite.failures set feed bytes begun record_begun j past f record_now followed one
