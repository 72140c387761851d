use Rattle.itch_join.proofs.LawfulRules.{market_lawful, only_lawful}
use Rattle.itch_join.proofs.SkippedMessages.{all_rules}
use Rattle.itch_join.proofs.laws.lawful_market.Goals as goal

pub returns-clause-market : goal.returns-clause-market
returns-clause-market c = market_lawful

pub returns-clause-only : goal.returns-clause-only
returns-clause-only c = only_lawful

pub returns-clause-all : goal.returns-clause-all
returns-clause-all c = all_rules
