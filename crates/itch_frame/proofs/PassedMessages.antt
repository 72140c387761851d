-- One more message is passed over.
use Rattle.std.proofs.Common.{ℕ, ◌+◌, true, List, [], ◌∷◌, ◌++◌, Option, Ok, ap, ◌∙◌, length-append}
use Rattle.itch_frame.specs.Blocks.{IsFull}
use Rattle.itch_frame.specs.Passing.{PassedOver, PassesMessage}
use Rattle.itch_frame.specs.Reading.{Reading}
use Rattle.itch_frame.specs.declared.tally.Failures.{Failures}
use Rattle.itch_frame.proofs.BlockLemmas.{consumed_more, each-push}

module _ {R : Type 0} (remaining : R → Option (List ℕ)) (failures : R → Failures) where
  pub one_more : (old mid new : Reading R) (count : ℕ) → PassedOver remaining failures old count mid → PassesMessage remaining failures mid (Ok true) new
      → PassedOver remaining failures old (count + 1) new
  one_more old mid new count so_far (payload, full, bytes, uncounted) = record {
    payloads = so_far.payloads ++ payload ∷ [];
    counted = length-append so_far.payloads (payload ∷ []) ∙ ap (λ n. n + 1) so_far.counted;
    full = each-push IsFull so_far.payloads payload so_far.full full;
    bytes = consumed_more _ _ _ so_far.payloads payload so_far.bytes bytes;
    uncounted = uncounted ∙ so_far.uncounted;
  }
