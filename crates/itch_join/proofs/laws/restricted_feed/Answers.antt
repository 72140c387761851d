use Rattle.itch_join.proofs.RestrictedFeeds.{restricted}
use Rattle.itch_join.proofs.laws.restricted_feed.Goals as goal

pub returns-clause-follows : goal.returns-clause-follows
returns-clause-follows c = λ wanted feed k bytes low. (restricted wanted feed k bytes low).0

pub returns-clause-leaves : goal.returns-clause-leaves
returns-clause-leaves c = λ wanted feed k bytes low. (restricted wanted feed k bytes low).1
