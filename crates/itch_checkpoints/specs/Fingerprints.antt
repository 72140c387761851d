-- Fingerprints, which distinguish the messages before a position in a day file from those of another day.
use Rattle.std.specs.Prelude.{◌≡◌, ℕ, ◌-◌, ◌^◌, ◌++◌, min, Bool, List, ◌&&◌, bytes_eq, drop, length, take, Option, None, Some, if◌then◌else◌}
use Rattle.hex.specs.Hex.{encode_lower}
use Rattle.sha2.specs.Sha256.{sha256}
use Rattle.itch_checkpoints.specs.declared.fingerprint.Fingerprint.{Fingerprint}
use Rattle.itch_checkpoints.specs.declared.fingerprint.Unfit.{Unfit}
use Rattle.itch_checkpoints.specs.declared.fingerprint.Unfit.TheVariants as unfit

-- sixteen hexadecimal digits of the SHA-256 digest of these bytes
abbrev pub digits_of : List ℕ → List ℕ
digits_of bytes = encode_lower (take 8 (sha256 bytes))

-- the first bytes before a position, up to 65,536
abbrev pub first_bytes : ℕ → List ℕ → List ℕ
first_bytes place bytes = take (min place 65536) bytes

-- the bytes right before a position, up to 256
abbrev pub last_bytes : ℕ → List ℕ → List ℕ
last_bytes place bytes = drop (place - 256) (take place bytes)

-- the fingerprint of the bytes of a day file before a position
abbrev pub fingerprint : ℕ → List ℕ → Fingerprint
fingerprint place bytes = record { first = digits_of (first_bytes place bytes); last = digits_of (last_bytes place bytes) }

-- the first ones of the bytes that were read, and recent ones in two parts; and their number
pub record HavePassed (first older newer : List ℕ) (count : ℕ) (bytes : List ℕ) : Type 0 where
  pub head : first ≡ take 65536 bytes
  pub before : List ℕ
  pub recent : bytes ≡ before ++ (older ++ newer)
  pub total : count ≡ min (length bytes) (2 ^ 64 - 1)

-- two fingerprints have the same digits
abbrev pub is_same : Fingerprint → Fingerprint → Bool
is_same f g = bytes_eq f.first g.first && bytes_eq f.last g.last

-- The reason why a feed cannot be read from a checkpoint on: the feed ends before the checkpoint, or the index contains another fingerprint
-- than that of the feed's bytes. An index without a fingerprint is trusted.
abbrev pub unfit_of : Option Fingerprint → Option Fingerprint → Option Unfit
unfit_of recorded None = Some unfit.Beyond
unfit_of None (Some found) = None
unfit_of (Some recorded) (Some found) = if is_same recorded found then None else Some unfit.OtherDay
