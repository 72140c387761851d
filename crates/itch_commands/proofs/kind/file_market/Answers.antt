use Rattle.itch_commands.proofs.kind.file_market.Goals as goal

pub returns-in-Day : goal.returns-in-Day
returns-in-Day g c = rw c.in-Day.is c.day_market.ensures

pub returns-in-Snapshot : goal.returns-in-Snapshot
returns-in-Snapshot g c = rw c.in-Snapshot.is c.recorded_market.ensures
