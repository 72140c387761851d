use Rattle.itch_soup.specs.Fetching.{asking}
use Rattle.itch_soup.proofs.OneFetch as once
use Rattle.itch_soup.proofs.laws.one_fetch.Goals as goal

pub returns : goal.returns
returns c = λ credentials bytes left other result found. once.one_fetch (asking credentials) bytes left other result found
