use Rattle.itch_commands.proofs.dispatch.snap_selected.Goals as goal

pub returns-in-Stocks : goal.returns-in-Stocks
returns-in-Stocks g c = rw c.in-Stocks.is c.snap_stocks.ensures

pub returns-in-All : goal.returns-in-All
returns-in-All g c = rw c.in-All.is c.snap_blocks.ensures

pub returns-in-Locates : goal.returns-in-Locates
returns-in-Locates g c = rw c.in-Locates.is c.snap_blocks-in-Locates.ensures
