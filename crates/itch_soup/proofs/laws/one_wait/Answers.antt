use Rattle.itch_soup.proofs.OneWait as once
use Rattle.itch_soup.proofs.laws.one_wait.Goals as goal

pub returns : goal.returns
returns c = once.one_wait
