use Rattle.itch_commands.proofs.StockLookup.{found_past, known_past}
use Rattle.itch_commands.proofs.laws.stock_lookup.Goals as goal

pub returns-clause-located : goal.returns-clause-located
returns-clause-located c = found_past

pub returns-clause-known : goal.returns-clause-known
returns-clause-known c = known_past
