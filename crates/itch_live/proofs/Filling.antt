-- A buffer with room for all bytes that are written to it.
use Rattle.std.proofs.Common.{◌≡◌, ℕ, ◌<◌, ◌≤◌, List, [], ◌∷◌, ◌++◌, length, take, Option, Some, Err, sym, ap, subst, arith, length-append}
use Rattle.std.proofs.lemmas.List.{length-take}
use Rattle.itch_frame.specs.Blocks.{block, blocks}
use Rattle.itch_frame.specs.Writing.{WriteBlocks}
use Rattle.itch_frame.specs.declared.tally.Failures.{Failures}
use Rattle.itch_frame.specs.declared.fault.FrameFault.{FrameFault}
use Rattle.itch_frame.specs.declared.fault.FrameFault.TheVariants.{Read, Truncated, Write, TooLong}
use Rattle.itch_frame.proofs.BlockLemmas.{blocks-append}
use Rattle.itch_live.specs.declared.buffer.FixedBuffer.{FixedBuffer}

-- the room comes before the bytes
pub grown : (room size : ℕ) (old new bytes : List ℕ) → size ∷ new ≡ room ∷ (old ++ bytes) → old ≡ [] → (size ≡ room) × (new ≡ bytes)
grown room size old new bytes is empty = let front : old ++ bytes ≡ bytes = ap (λ xs. xs ++ bytes) empty in (cc, cc)

module _ {A : Type 0} where
  abbrev written : FixedBuffer A → Option (List ℕ)
  written s = Some (s.room ∷ s.bytes.items)

  abbrev failing : FixedBuffer A → Failures
  failing s = s.failures

  -- a write fails only if the buffer is full, so it does not fail if there is room for everything
  pub never_full : (old new : FixedBuffer A) (payloads : List (List ℕ)) (fault : FrameFault) → old.bytes.items ≡ [] → length (blocks payloads) ≤ old.room
      → WriteBlocks written failing old payloads (Err fault) new → ⊥
  never_full old new payloads (Write sent error) empty fits (done, payload, more, whole, short, appended, counted) =
      let is = grown old.room new.room old.bytes.items new.bytes.items (blocks done ++ take sent (block payload)) appended empty in
      let some : 0 < new.failures.count = subst (λ (f : Failures). 0 < f.count) (sym counted) (omega arith) in
      let most = new.full some in
      omega (
        arith,
        most,
        new.bytes.ok.0,
        is.0,
        ap length is.1,
        length-append (blocks done) (take sent (block payload)),
        length-take sent (block payload),
        short,
        ap (λ ps. length (blocks ps)) whole,
        ap length (blocks-append done (payload ∷ more)),
        length-append (blocks done) (block payload ++ blocks more),
        length-append (block payload) (blocks more),
        fits,
      )
  never_full old new payloads TooLong empty fits wrote = wrote
  never_full old new payloads (Read error) empty fits wrote = wrote
  never_full old new payloads (Truncated held) empty fits wrote = wrote
