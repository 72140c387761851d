use Rattle.std.proofs.Common.{sym, ap, ◌∙◌}
use Rattle.itch_book.specs.Orders.{level_total}
use Rattle.itch_book.specs.Queued.{keys_at}
use Rattle.itch_book.proofs.IndexSteps.{level_none, level_some}
use Rattle.itch_book.proofs.Lists.{some_of}
use Rattle.itch_book.proofs.index.Index.level_total.Goals as goal

pub totals-requires : goal.totals-requires
totals-requires g c = c.self.invariant.index.there c.args.side c.args.locate c.args.price c.in-Some.queue (sym c.in-Some.ensures)

pub returns-in-None : goal.returns-in-None
returns-in-None g c =
    sym (ap (λ os. level_total os c.args.locate c.args.side c.args.price) (sym c.self.view_is) ∙ level_none _ _ _ _ c.self.invariant.index c.args.locate c.args.side c.args.price (sym c.in-None.ensures))

pub returns-in-Some : goal.returns-in-Some
returns-in-Some g c =
    let there = c.self.invariant.index.there c.args.side c.args.locate c.args.price c.in-Some.queue (sym c.in-Some.ensures) in
    let keys = some_of (keys_at c.self.inside.queues c.in-Some.queue) there in
    c.totals.ensures keys.0 keys.1
    ∙ sym (ap (λ os. level_total os c.args.locate c.args.side c.args.price) (sym c.self.view_is) ∙ level_some _ _ _ _ c.self.invariant.index c.args.locate c.args.side c.args.price c.in-Some.queue keys.0 (sym c.in-Some.ensures) keys.1)
