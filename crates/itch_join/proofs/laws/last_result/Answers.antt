use Rattle.itch_join.specs.Rules.{market_rules, rules_of}
use Rattle.itch_join.proofs.LawfulRules.{market_lawful, only_lawful}
use Rattle.itch_join.proofs.LastResults.{last_right}
use Rattle.itch_join.proofs.laws.last_result.Goals as goal

pub returns-clause-market : goal.returns-clause-market
returns-clause-market c = λ cap feed past now bytes short h. last_right market_rules market_lawful cap feed bytes past now short h

pub returns-clause-only : goal.returns-clause-only
returns-clause-only c = λ wanted cap feed past now bytes short h. last_right (rules_of wanted) (only_lawful wanted) cap feed bytes past now short h

pub returns-clause-every_rules : goal.returns-clause-every_rules
returns-clause-every_rules c = λ rules cap feed past now lawful bytes short h. last_right rules lawful cap feed bytes past now short h
