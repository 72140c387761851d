use Rattle.itch_market.specs.Content.{Content}
use Rattle.itch_commands.specs.Stocks.{names_of}
use Rattle.itch_commands.proofs.StockNames.{StocksSoFar}
use Rattle.itch_commands.proofs.stocks.stock_locates.Given as goal

abbrev pub invariant-loop-locate : goal.invariant-loop-locate
invariant-loop-locate g l = StocksSoFar (Content.securities l.market) (names_of l.names) l.yielded l.locate-iterator l.stocks l.set
