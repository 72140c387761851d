use Rattle.itch_soup.proofs.ServedRest.{served_rest, rest_joined}
use Rattle.itch_soup.proofs.laws.rest_is_fetched.Goals as goal

pub returns-clause-fetched : goal.returns-clause-fetched
returns-clause-fetched c = λ m next n config credentials more good number alpha few low high accepted.
    served_rest m next n config good number alpha few low high credentials more accepted

pub returns-clause-joined : goal.returns-clause-joined
returns-clause-joined c = rest_joined
