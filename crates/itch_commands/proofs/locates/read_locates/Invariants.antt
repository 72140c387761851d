use Rattle.std.proofs.Common.{length, IsUtf8}
use Rattle.itch_commands.proofs.LocateLists.{Gathered}
use Rattle.itch_commands.proofs.locates.read_locates.Given as goal

abbrev pub invariant-loop-first : goal.invariant-loop-first
invariant-loop-first g l = record { so_far : Gathered l.text l.set l.rest; utf8 : IsUtf8 l.rest }

abbrev pub decreases-loop-first : goal.decreases-loop-first
decreases-loop-first g l = length l.rest
