use Rattle.std.proofs.Common.{◌∙◌}
use Rattle.itch_book.proofs.PlaceLemmas.{after_there}
use Rattle.itch_book.proofs.priority.next_of.Goals as goal

pub returns : goal.returns
returns c =
    c.first_in.ensures
    ∙ after_there c.args.reference c.args.orders.now c.index_of-index.result c.index-orders-index.result c.requires c.index_of-index.ensures.place
