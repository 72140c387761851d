use Rattle.std.proofs.Common.{refl}
use Rattle.itch_soup.proofs.LoginWaits.{idle_turn, turn_idle}
use Rattle.itch_soup.proofs.laws.waits_by_the_table.Goals as goal

pub returns-clause-over : goal.returns-clause-over
returns-clause-over c = idle_turn

pub returns-clause-only : goal.returns-clause-only
returns-clause-only c = turn_idle

pub returns-clause-login : goal.returns-clause-login
returns-clause-login c = λ config total login. refl

pub returns-clause-logout : goal.returns-clause-logout
returns-clause-logout c = λ config total. refl
