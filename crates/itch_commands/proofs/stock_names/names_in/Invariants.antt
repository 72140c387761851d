use Rattle.std.proofs.Common.{length, map, IsUtf8}
use Rattle.itch_commands.proofs.SoughtNames.{Named}
use Rattle.itch_commands.proofs.stock_names.names_in.Given as goal

abbrev pub invariant-loop-name : goal.invariant-loop-name
invariant-loop-name g l = record { so_far : Named l.text (map (λ n. n.now) l.names.items) l.rest; utf8 : IsUtf8 l.rest }

abbrev pub decreases-loop-name : goal.decreases-loop-name
decreases-loop-name g l = length l.rest
