use Rattle.itch_join.specs.Rules.{market_rules, rules_of}
use Rattle.itch_join.proofs.LawfulRules.{market_lawful, only_lawful}
use Rattle.itch_join.proofs.JoinerSteps.{stands}
use Rattle.itch_join.proofs.WholeFeeds.{at_end}
use Rattle.itch_join.proofs.laws.whole_feed.Goals as goal

pub returns-clause-market : goal.returns-clause-market
returns-clause-market c = λ cap feed past now j bytes fine h is set all. at_end market_rules cap feed past now j fine (stands market_rules market_lawful cap feed bytes past now h) is set all

pub returns-clause-only : goal.returns-clause-only
returns-clause-only c = λ wanted cap feed past now j bytes fine h is set all.
    at_end (rules_of wanted) cap feed past now j fine (stands (rules_of wanted) (only_lawful wanted) cap feed bytes past now h) is set all
