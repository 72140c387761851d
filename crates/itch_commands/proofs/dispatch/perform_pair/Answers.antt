use Rattle.itch_commands.proofs.dispatch.perform_pair.Goals as goal

pub returns-in-Compare : goal.returns-in-Compare
returns-in-Compare g c = rw c.in-Compare.is c.compare_blocks.ensures

pub returns-in-CompareFirst : goal.returns-in-CompareFirst
returns-in-CompareFirst g c = rw c.in-CompareFirst.is c.compare_first_blocks.ensures

pub returns-in-Join : goal.returns-in-Join
returns-in-Join g c = rw c.in-Join.is c.join_selected.ensures
