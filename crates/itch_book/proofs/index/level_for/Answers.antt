use Rattle.itch_book.proofs.LevelLemmas.{on_ok, level_index, level_view, level_busy}
use Rattle.itch_book.proofs.index.level_for.Goals as goal

pub returns-clause-index : goal.returns-clause-index
returns-clause-index g c references is =
    level_index _ _ _ _ c.args.queues.now c.level.new.queues c.args.side c.args.locate c.args.price c.level.result
    c.level.ensures.known c.level.ensures.opened c.level.ensures.placed c.level.ensures.bids c.level.ensures.asks c.level.ensures.kept references is

pub returns-clause-view : goal.returns-clause-view
returns-clause-view g c references is =
    level_view _ _ _ _ c.args.queues.now c.level.new.queues c.args.side c.args.locate c.args.price c.level.result
    c.level.ensures.known c.level.ensures.opened c.level.ensures.placed c.level.ensures.bids c.level.ensures.asks c.level.ensures.kept references is

pub returns-clause-busy : goal.returns-clause-busy
returns-clause-busy g c =
    on_ok c.level.result
    (level_busy _ _ _ _ c.args.queues.now c.level.new.queues c.args.side c.args.locate c.args.price c.level.result
    c.level.ensures.known c.level.ensures.opened c.level.ensures.placed c.level.ensures.bids c.level.ensures.asks c.level.ensures.kept)
