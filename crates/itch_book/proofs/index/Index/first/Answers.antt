use Rattle.std.proofs.Common.{sym, ◌∙◌}
use Rattle.itch_book.proofs.FrontLemmas.{first_bid, first_ask}
use Rattle.itch_book.proofs.index.Index.first.Goals as goal

pub returns-in-Some : goal.returns-in-Some
returns-in-Some g c = sym (first_bid c.args.locate c.args.self.now c.in-Some.placed.order.now c.in-Some.ensures.book.in_place (sym c.in-Some.ensures.front))

pub returns-in-None : goal.returns-in-None
returns-in-None g c = c.best-in-None.ensures.front ∙ sym (first_ask c.args.locate c.args.self.now (sym c.in-None.ensures.front))
