-- Several writes, one after another.
use Rattle.std.proofs.Common.{◌≡◌, ℕ, ◌+◌, ◌-◌, ◌<◌, ◌≤◌, List, [], ◌∷◌, ◌++◌, length, take, drop, sym, ap, subst, ◌∙◌, append_assoc, arith, Option, Some, None, Err}
use Rattle.std.proofs.lemmas.List.{take-take}
use Rattle.std.proofs.Math.Seq.{take-add}
use Rattle.std.specs.Io.KnownBytes.{Appends}
use Rattle.itch_frame.specs.Blocks.{IsPayload, block, blocks}
use Rattle.itch_frame.specs.Counting.{failed}
use Rattle.itch_frame.specs.declared.tally.Failures.{Failures}
use Rattle.itch_frame.specs.Writing.{WriteBlock, WriteBlocks}
use Rattle.itch_frame.specs.declared.fault.FrameFault.{FrameFault}
use Rattle.itch_frame.specs.declared.fault.FrameFault.TheVariants.{Read, Truncated, Write, TooLong}
use Rattle.itch_frame.proofs.BlockLemmas.{blocks-push}

-- some bytes, and then others
pub Appends-more : (old mid new : Option (List ℕ)) (xs ys : List ℕ) → Appends old mid xs → Appends mid new ys → Appends old new (xs ++ ys)
Appends-more None mid new xs ys first second = tt
Appends-more (Some a) None new xs ys first second = absurd first
Appends-more (Some a) (Some b) None xs ys first second = absurd second
Appends-more (Some a) (Some b) (Some c) xs ys first second = second ∙ ap (λ t. t ++ ys) first ∙ append_assoc a xs ys

-- the same bytes, in another form
pub Appends-same : (old new : Option (List ℕ)) (xs ys : List ℕ) → xs ≡ ys → Appends old new xs → Appends old new ys
Appends-same old new xs ys same wrote = subst (Appends old new) same wrote

-- the first bytes of a list, and then the next ones
pub Appends-on : (old mid new : Option (List ℕ)) (bytes following : List ℕ) (sent count : ℕ) → following ≡ take (length bytes - sent) (drop sent bytes) → count ≤ length bytes - sent
    → Appends old mid (take sent bytes) → Appends mid new (take count following) → Appends old new (take (sent + count) bytes)
Appends-on old mid new bytes following sent count is within first second =
    let parts : take count following ≡ take count (drop sent bytes) = ap (take count) is ∙ take-take count (length bytes - sent) (drop sent bytes) within in
    Appends-same old new (take sent bytes ++ take count following) (take (sent + count) bytes)
    (ap (λ t. take sent bytes ++ t) parts ∙ sym (take-add sent count bytes))
    (Appends-more old mid new (take sent bytes) (take count following) first second)

-- the blocks of some payloads, and then the block of one more
pub Appends-block : (old mid new : Option (List ℕ)) (done : List (List ℕ)) (payload : List ℕ)
    → Appends old mid (blocks done) → Appends mid new (block payload) → Appends old new (blocks (done ++ payload ∷ []))
Appends-block old mid new done payload first second =
    Appends-same old new (blocks done ++ block payload) (blocks (done ++ payload ∷ [])) (sym (blocks-push done payload))
    (Appends-more old mid new (blocks done) (block payload) first second)

module _ {W : Type 0} (contents : W → Option (List ℕ)) (failures : W → Failures) where
  -- a block that was not written completely, after some that were
  pub part_written : (old mid new : W) (done : List (List ℕ)) (payload : List ℕ) (more all : List (List ℕ)) → all ≡ done ++ payload ∷ more → IsPayload payload
      → Appends (contents old) (contents mid) (blocks done) → failures mid ≡ failures old
      → (fault : FrameFault) → WriteBlock contents failures mid payload (Err fault) new → WriteBlocks contents failures old all (Err fault) new
  part_written old mid new done payload more all is fits so_far count (Write sent error) wrote =
      let start : sent - 0 ≡ sent = omega arith in
      let within : sent < length (block payload) = omega (arith, wrote.1.1) in
      let part : Appends (contents mid) (contents new) (take sent (block payload)) =
      subst (λ n. Appends (contents mid) (contents new) (take n (block payload))) start wrote.1.2 in (
        done,
        payload,
        more,
        is,
        within,
        Appends-more (contents old) (contents mid) (contents new) (blocks done) (take sent (block payload)) so_far part,
        wrote.1.3 ∙ ap (failed error) count,
      )
  part_written old mid new done payload more all is fits so_far count TooLong wrote = absurd (let long : 65535 < length payload = wrote.0 in omega arith)
  part_written old mid new done payload more all is fits so_far count (Read error) wrote = absurd wrote
  part_written old mid new done payload more all is fits so_far count (Truncated held) wrote = absurd wrote
