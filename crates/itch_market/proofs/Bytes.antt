-- Bytes of an array, by position.
use Rattle.std.proofs.Common.{◌≡◌, ℕ, suc, ◌<◌, List, [], ◌∷◌, length, get_or, arith}
use Rattle.std.specs.List.{AllByRecursion}
use Rattle.itch_codec.specs.Fields.{IsBytes}

all_by_place : (bytes : List ℕ) → ((k : ℕ) → k < length bytes → get_or bytes k 0 < 256) → AllByRecursion (λ byte. byte < 256) bytes
all_by_place [] each = tt
all_by_place (b ∷ bs) each = (each 0 (omega arith), all_by_place bs (λ k low. each (suc k) (omega arith)))

pub bytes_by_place : (width : ℕ) (bytes : List ℕ) → length bytes ≡ width → ((k : ℕ) → k < width → get_or bytes k 0 < 256) → IsBytes width bytes
bytes_by_place width bytes long each = (long, all_by_place bytes (λ k low. each k (omega arith)))
