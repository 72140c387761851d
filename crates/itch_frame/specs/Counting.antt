-- Readers and writers that count their failures: the effect of a call on the known bytes and on the count.
use Rattle.std.specs.Prelude.{◌≡◌, ℕ, ◌+◌, ◌-◌, ◌^◌, ◌<◌, min, List, length, take, Option, Some, Result, MatchResult}
use Rattle.std.specs.declared.io.Error.{Error}
use Rattle.std.specs.Io.KnownBytes.{Keeps, Appends}
use Rattle.itch_frame.specs.declared.tally.Failures.{Failures}

-- the failures after one more call has failed, with this error; the count remains at its maximum
abbrev pub failed : Error → Failures → Failures
failed error old = record { count = min (old.count + 1) (2 ^ 64 - 1); last = Some error }

-- a failed call is counted with its error, and no other call is counted
abbrev pub CountsErr : {T : Type 0} → Result T Error → Failures → Failures → Type 0
CountsErr result old new = MatchResult result (λ _. new ≡ old) (λ error. new ≡ failed error old)

-- `write_some(buf)` returned `Ok(n)` and appended the n bytes that it accepted, at least one unless `buf` is empty; or it returned `Err`, and
-- appended nothing
abbrev pub Takes : {E : Type 0} → Option (List ℕ) → Option (List ℕ) → Result ℕ E → List ℕ → Type 0
Takes old new r buf = MatchResult r (λ n. Appends old new (take n buf) × (0 < length buf → 0 < n)) (λ _. Keeps old new)
