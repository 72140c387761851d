use Rattle.itch_join.specs.Rules.{market_rules, rules_of}
use Rattle.itch_join.proofs.LawfulRules.{market_lawful, only_lawful}
use Rattle.itch_join.proofs.JoinerSteps.{stands}
use Rattle.itch_join.proofs.laws.late_joiner.Goals as goal

pub returns-clause-market : goal.returns-clause-market
returns-clause-market c = λ cap feed past now bytes h. stands market_rules market_lawful cap feed bytes past now h

pub returns-clause-only : goal.returns-clause-only
returns-clause-only c = λ wanted cap feed past now bytes h. stands (rules_of wanted) (only_lawful wanted) cap feed bytes past now h

pub returns-clause-every_rules : goal.returns-clause-every_rules
returns-clause-every_rules c = λ rules cap feed past now lawful bytes h. stands rules lawful cap feed bytes past now h
