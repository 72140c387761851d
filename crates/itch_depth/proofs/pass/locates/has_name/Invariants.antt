use Rattle.std.proofs.Common.{◌≡◌, length, IsUtf8}
use Rattle.itch_commands.specs.Stocks.{names_of}
use Rattle.itch_depth.specs.Own.{has_name}
use Rattle.itch_depth.proofs.pass.locates.has_name.Given as goal

abbrev pub invariant-loop-name : goal.invariant-loop-name
invariant-loop-name l = record { so_far : has_name (names_of l.names) l.stock ≡ has_name (names_of l.rest) l.stock; utf8 : IsUtf8 l.rest }

abbrev pub decreases-loop-name : goal.decreases-loop-name
decreases-loop-name l = length l.rest
