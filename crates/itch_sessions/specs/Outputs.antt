-- The output and the result of a session.
use Rattle.std.specs.Prelude.{◌≡◌, ℕ, ◌<◌, ◌⊎◌, Bool, List, ◌++◌, length, take, Option, Result, Ok, Err}
use Rattle.std.specs.Io.KnownBytes.{Appends}
use Rattle.itch_frame.specs.Counting.{failed}
use Rattle.itch_frame.specs.declared.tally.Failures.{Failures}
use Rattle.itch_market.specs.Content.{Content}
use Rattle.itch_snapshot.specs.Bytes.{canon, closing}
use Rattle.itch_sessions.specs.declared.session_fault.SessionFault.{SessionFault}
use Rattle.itch_sessions.specs.declared.session_fault.SessionFault.TheVariants as session_fault

-- the bytes of the snapshot of a market, with the number of the first message that is not in it
abbrev pub closed_bytes : Content × ℕ → List ℕ
closed_bytes done = canon done.0 ++ closing done.1

module _ {W : Type 0} (contents : W → Option (List ℕ)) (failures : W → Failures) where
  -- these bytes were written, and no write failed
  abbrev pub Wrote : List ℕ → W → W → Type 0
  Wrote bytes old new = Appends (contents old) (contents new) bytes × (failures new ≡ failures old)

  -- these bytes were written, or a write failed after a prefix of them
  abbrev pub WritesText : List ℕ → W → Result (Unit {0}) SessionFault → W → Type 0
  WritesText bytes old (Ok done) new = Wrote bytes old new
  WritesText bytes old (Err (session_fault.Write error)) new =
      (sent : ℕ) × (sent < length bytes) × Appends (contents old) (contents new) (take sent bytes) × (failures new ≡ failed error (failures old))
  WritesText bytes old (Err fault) new = ⊥

  -- the same, and the result is this verdict
  abbrev pub WritesOutput : List ℕ → Bool → W → Result Bool SessionFault → W → Type 0
  WritesOutput bytes verdict old (Ok answer) new = (answer ≡ verdict) × WritesText bytes old (Ok tt) new
  WritesOutput bytes verdict old (Err fault) new = WritesText bytes old (Err fault) new

  -- The output and the result after a fetch: the session failed and nothing is written; or it fetched a value, and `output` of this value is
  -- written, with its verdict.
  abbrev pub Outputs : {X : Type 0} → (Result X SessionFault → Type 0) → (X → List ℕ) → (X → Bool) → W → Result Bool SessionFault → W → Type 0
  Outputs {X} reads output verdict old result new =
      ((fault : SessionFault) × (result ≡ Err fault) × reads (Err fault) × (new ≡ old))
      ⊎ ((x : X) × reads (Ok x) × WritesOutput (output x) (verdict x) old result new)
