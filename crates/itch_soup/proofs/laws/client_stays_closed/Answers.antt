use Rattle.itch_soup.proofs.ClosedSessions.{client_stays-closed}
use Rattle.itch_soup.proofs.laws.client_stays_closed.Goals as goal

pub returns : goal.returns
returns c = client_stays-closed
