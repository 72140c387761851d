-- The written bytes after a failed write of several blocks.
use Rattle.std.proofs.Common.{◌≡◌, ℕ, ◌+◌, ◌<◌, ◌≤◌, List, [], ◌∷◌, ◌++◌, map, length, take, Option, Err, sym, ap, subst, ◌∙◌, append-nil, arith, length-append}
use Rattle.std.proofs.lemmas.List.{take-append-le}
use Rattle.std.proofs.Math.Seq.{take-append-add}
use Rattle.std.specs.declared.io.Error.{Error}
use Rattle.std.specs.Io.KnownBytes.{Appends}
use Rattle.itch_codec.specs.Messages.{spelling}
use Rattle.itch_codec.specs.declared.message.Message.TheVariants as is
use Rattle.itch_frame.specs.Blocks.{block, blocks}
use Rattle.itch_frame.specs.Counting.{failed}
use Rattle.itch_frame.specs.Writing.{WriteBlocks}
use Rattle.itch_frame.specs.declared.fault.FrameFault.TheVariants.{Write}
use Rattle.itch_frame.proofs.BlockLemmas.{blocks-append}
use Rattle.itch_frame.specs.declared.tally.Failures.{Failures}
use Rattle.itch_market.specs.Content.{Content}
use Rattle.itch_snapshot.specs.Bytes.{canon, closing}
use Rattle.itch_snapshot.specs.Snapshot.{snap}
use Rattle.itch_snapshot.specs.Writes.{payloads}

-- some blocks and a prefix of the next one are a prefix of all of them
beginning : (done more : List (List ℕ)) (payload : List ℕ) (sent : ℕ) → sent < length (block payload)
    → take (length (blocks done) + sent) (blocks (done ++ payload ∷ more)) ≡ blocks done ++ take sent (block payload)
beginning done more payload sent within =
    let short : sent ≤ length (block payload) = omega arith in
    ap (take (length (blocks done) + sent)) (blocks-append done (payload ∷ more))
    ∙ take-append-add (blocks done) (block payload ++ blocks more) sent
    ∙ ap (λ t. blocks done ++ t) (take-append-le sent (block payload) (blocks more) short)

within_all : (done more : List (List ℕ)) (payload : List ℕ) (sent : ℕ) → sent < length (block payload) → length (blocks done) + sent < length (blocks (done ++ payload ∷ more))
within_all done more payload sent within =
    let whole : length (blocks (done ++ payload ∷ more)) ≡ length (blocks done) + (length (block payload) + length (blocks more)) =
    ap length (blocks-append done (payload ∷ more)) ∙ length-append (blocks done) (block payload ++ blocks more)
    ∙ ap (λ n. length (blocks done) + n) (length-append (block payload) (blocks more)) in
    omega arith

-- the blocks of a snapshot are its canonical bytes and its closing block
snapshot_blocks : (m : Content) (next : ℕ) → blocks (payloads m next) ≡ canon m ++ closing next
snapshot_blocks m next =
    blocks-append (map spelling (snap m)) (spelling (is.End next) ∷ []) ∙ ap (λ t. canon m ++ t) (append-nil (closing next))

module _ {W : Type 0} (contents : W → Option (List ℕ)) (failures : W → Failures) where
  -- a snapshot that was not written completely
  pub snapshot_cut : (m : Content) (next sent : ℕ) (error : Error) (old new : W) → WriteBlocks contents failures old (payloads m next) (Err (Write sent error)) new
      → (n : ℕ) × (n < length (canon m ++ closing next)) × Appends (contents old) (contents new) (take n (canon m ++ closing next))
      × (failures new ≡ failed error (failures old))
  snapshot_cut m next sent error old new (done, payload, more, is, within, part, rises) =
      let bytes : blocks (done ++ payload ∷ more) ≡ canon m ++ closing next = ap blocks (sym is) ∙ snapshot_blocks m next in
      let n = length (blocks done) + sent in (
        n,
        subst (λ b. n < length b) bytes (within_all done more payload sent within),
        subst (λ b. Appends (contents old) (contents new) (take n b)) bytes
            (subst (Appends (contents old) (contents new)) (sym (beginning done more payload sent within)) part),
        rises,
      )
