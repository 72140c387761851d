use Rattle.itch_soup.proofs.SessionNames.{padded_on_left-fits}
use Rattle.itch_soup.proofs.login.server_session.Goals as goal

pub returns-clause-fits : goal.returns-clause-fits
returns-clause-fits c = padded_on_left-fits 10 _ c.session_name-name.ensures.width c.session_name-name.ensures.printable
