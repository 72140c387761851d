use Rattle.itch_soup.proofs.ServedIsFetched.{served_fetched}
use Rattle.itch_market.proofs.SameMarkets.{laid_is_same}
use Rattle.itch_soup.proofs.laws.served_is_fetched.Goals as goal

pub returns-clause-fetched : goal.returns-clause-fetched
returns-clause-fetched c = λ m next config credentials more good number alpha few accepted.
    served_fetched m next config good number alpha few credentials more accepted

pub returns-clause-same : goal.returns-clause-same
returns-clause-same c = laid_is_same
