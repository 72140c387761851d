use Rattle.itch_commands.proofs.dispatch.perform.Goals as goal

pub returns-in-Snap : goal.returns-in-Snap
returns-in-Snap g c = rw c.in-Snap.is c.snap_selected.ensures

pub returns-in-Check : goal.returns-in-Check
returns-in-Check g c = rw c.in-Check.is c.check_blocks.ensures

pub returns-in-Book : goal.returns-in-Book
returns-in-Book g c = rw c.in-Book.is c.book_selected.ensures

pub returns-in-Show : goal.returns-in-Show
returns-in-Show g c = rw c.in-Show.is c.show_file.ensures

pub returns-in-ShowOrders : goal.returns-in-ShowOrders
returns-in-ShowOrders g c = rw c.in-ShowOrders.is c.orders_blocks.ensures

pub returns-in-Info : goal.returns-in-Info
returns-in-Info g c = rw c.in-Info.is c.info_blocks.ensures

pub returns-in-Cut : goal.returns-in-Cut
returns-in-Cut g c = rw c.in-Cut.is c.cut_blocks.ensures
