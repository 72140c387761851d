use Rattle.itch_soup.proofs.SomeWait as found
use Rattle.itch_soup.proofs.laws.some_wait.Goals as goal

pub returns : goal.returns
returns c = found.some_wait
