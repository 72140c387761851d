-- Offering the bytes in memory to a consumer.
use Rattle.std.specs.Prelude.{◌≡◌, ℕ, ◌⊎◌, List, length, Option}
use Rattle.std.specs.Io.KnownBytes.{Consumes}

-- The consumer used these bytes, which came off the front. If there are none, nothing changed except the consumer by itself.
pub record Offers {R T : Type 0} (remaining : R → Option (List ℕ)) (uses : T → List ℕ → T → Type 0) (old : R) (count : ℕ) (new : R) (t u : T) : Type 0 where
  pub bytes : List ℕ
  pub counted : length bytes ≡ count
  pub read : Consumes (remaining old) (remaining new) bytes
  pub unread : count ≡ 0 → new ≡ old
  pub used : ((count ≡ 0) × (u ≡ t)) ⊎ uses t bytes u
