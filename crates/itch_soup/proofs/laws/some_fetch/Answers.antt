use Rattle.std.proofs.Common.{refl}
use Rattle.itch_soup.specs.Fetching.{asking}
use Rattle.itch_soup.proofs.SomeFetch as found
use Rattle.itch_soup.proofs.laws.some_fetch.Goals as goal

pub returns : goal.returns
returns c = λ credentials bytes held. found.some_fetch (asking credentials) bytes refl held
