use Rattle.itch_soup.proofs.ClosedSessions.{server_stays-closed}
use Rattle.itch_soup.proofs.laws.server_stays_closed.Goals as goal

pub returns : goal.returns
returns c = server_stays-closed
