-- The fault of a search for an order, as that of a command.
use Rattle.std.specs.Prelude.{ℕ}
use Rattle.itch_history.specs.declared.fault.SearchFault.{SearchFault}
use Rattle.itch_history.specs.declared.fault.SearchFault.TheVariants.{Short, Frame, Codec, TooMany, OutOfMemory}
use Rattle.itch_market.specs.declared.stop.Stop.{Stop}
use Rattle.itch_market.specs.declared.stop.Stop.TheVariants as stop
use Rattle.itch_commands.specs.declared.fault.Source.TheVariants.{Only}
use Rattle.itch_commands.specs.declared.fault.ToolFault.{ToolFault}
use Rattle.itch_commands.specs.declared.fault.ToolFault.TheVariants as tool

-- the only file stops after that many messages
abbrev pub stopped : ℕ → Stop → ToolFault
stopped count why = tool.Stopped Only (record { count = count; stop = why })

abbrev pub search_fault : SearchFault → ToolFault
search_fault (Short count) = tool.Short Only count
search_fault (Frame count fault) = stopped count (stop.Frame fault)
search_fault (Codec count fault) = stopped count (stop.Codec fault)
search_fault (TooMany count) = stopped count stop.TooManyMessages
search_fault OutOfMemory = tool.OutOfMemory
