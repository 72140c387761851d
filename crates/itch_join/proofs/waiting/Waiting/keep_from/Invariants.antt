use Rattle.std.proofs.Common.{◌≡◌, length}
use Rattle.std.specs.List.{filter}
use Rattle.itch_join.proofs.Waits.{is_kept}
use Rattle.itch_join.proofs.waiting.Waiting.keep_from.Given as goal

-- only messages that are to be dropped were dropped
abbrev pub invariant-loop-number : goal.invariant-loop-number
invariant-loop-number g l = filter (is_kept l.next) l.self-inside.messages.entries ≡ filter (is_kept l.next) l.initial.self-inside.messages.entries

abbrev pub decreases-loop-number : goal.decreases-loop-number
decreases-loop-number g l = length l.self-inside.messages.entries
