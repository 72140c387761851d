use Rattle.std.proofs.Common.{◌≡◌, take}
use Rattle.std.specs.Option.{option_copied}
use Rattle.itch_book.proofs.LeastLemmas.{least_of}
use Rattle.itch_book.proofs.references.least.Given as goal

abbrev pub invariant-loop-arrived : goal.invariant-loop-arrived
invariant-loop-arrived g l = option_copied l.least ≡ least_of l.wanted (take l.arrived-index l.arrived-items)
