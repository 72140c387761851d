use Rattle.itch_soup.proofs.SessionNames.{padded_to-fits}
use Rattle.itch_soup.proofs.login.client_session.Goals as goal

pub returns-clause-fits : goal.returns-clause-fits
returns-clause-fits c = padded_to-fits 10 _ c.session_name-name.ensures.width c.session_name-name.ensures.printable
