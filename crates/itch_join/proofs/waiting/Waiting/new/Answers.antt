use Rattle.std.proofs.Common.{ap, map}
use Rattle.std.specs.FinMap as finite
use Rattle.itch_join.specs.Waits.{entry_of}
use Rattle.itch_join.proofs.Waits.{numbers_none}
use Rattle.itch_join.proofs.waiting.Waiting.new.Goals as goal

pub invariant_of-result : goal.invariant_of-result
invariant_of-result g c = numbers_none _ (ap (λ es. finite.from_entries (map entry_of es)) c.new.ensures.empty)
