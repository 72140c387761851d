use Rattle.std.proofs.Common.{subst}
use Rattle.itch_market.specs.Wanted.{has}
use Rattle.itch_join.specs.Rules.{Rules}
use Rattle.itch_join.proofs.SkippedMessages.{all_rules}
use Rattle.itch_live.specs.LiveServers.{sent_at}
use Rattle.itch_live.specs.FeedServers.{AreHonest, IsSentOfFeed}
use Rattle.itch_live.proofs.FeedServers.{sent_of_feed}
use Rattle.itch_live.proofs.laws.snapshots_of_the_feed.Goals as goal

pub returns-clause-only : goal.returns-clause-only
returns-clause-only g c = λ set cap feed begun past d k bytes j h honest.
    sent_of_feed g.W.CountedWrite.contents g.W.CountedWrite.failures begun set cap feed bytes j k past d h honest

pub returns-clause-market : goal.returns-clause-market
returns-clause-market g c = λ set cap feed begun past d k all bytes j h honest.
    let P : Rules → Type 0 = λ R. AreHonest R feed past → IsSentOfFeed R feed k past (sent_at k past) in
    subst P (all_rules (has set) all) (sent_of_feed g.W.CountedWrite.contents g.W.CountedWrite.failures begun set cap feed bytes j k past d h) honest
