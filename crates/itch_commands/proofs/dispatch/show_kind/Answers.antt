use Rattle.itch_commands.proofs.dispatch.show_kind.Goals as goal

pub returns-in-Snapshot : goal.returns-in-Snapshot
returns-in-Snapshot g c = rw c.in-Snapshot.is c.show_snapshot.ensures
