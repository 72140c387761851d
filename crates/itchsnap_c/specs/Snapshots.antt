-- The effect of writing a snapshot into C's memory.
use Rattle.std.specs.Prelude.{◌≡◌, ℕ, ◌<◌, ◌≤◌, ◌^◌, ◌⊎◌, Bool, nat_eq, List, ◌++◌, length, drop, Option, Some, None, Result, Ok, Err}
use Rattle.std.specs.declared.alloc.Global.{Global}
use Rattle.std.specs.declared.vec.Vec.{Vec}
use Rattle.std.specs.List.{list_any}
use Rattle.itch_market.specs.Content.{Content}
use Rattle.itch_snapshot.specs.Bytes.{canon, closing}
use Rattle.itch_snapshot.specs.Snapshot.{snap}
use Rattle.itchsnap_c.specs.declared.answers.Written.{Written}

-- the number of a message that follows: 1 to 10^19
abbrev pub IsNumber : ℕ → Type 0
IsNumber number = (1 ≤ number) × (number ≤ 10 ^ 19)

-- the locate is in the list
abbrev pub is_listed : List ℕ → ℕ → Bool
is_listed locates locate = list_any (nat_eq locate) locates

-- nothing was written, for this reason
abbrev pub unwritten : ℕ → Written
unwritten code = record { len = 0; code = code }

-- the bytes, or other items, are at the front of the memory, or the memory is too short and unchanged
abbrev pub Copies : {T : Type 0} → List T → List T → Written → List T → Type 0
Copies items old written new =
    ((written ≡ record { len = length items; code = 0 }) × (length items ≤ length old) × (new ≡ items ++ drop (length items) old))
    ⊎ ((written ≡ record { len = length items; code = 49 }) × (length old < length items) × (new ≡ old))

-- the bytes are made, unless memory runs out, and then copied
abbrev pub Writes : List ℕ → List ℕ → Written → List ℕ → Type 0
Writes bytes old written new = Copies bytes old written new ⊎ ((written ≡ unwritten 48) × (new ≡ old))

-- The result of writing the snapshot of a market, or of its restriction, closed with a number, and the memory afterwards. It is refused if
-- and only if the number is not a sequence number, or else the market has too many messages.
abbrev pub Puts : Content → Content → ℕ → List ℕ → Written → List ℕ → Type 0
Puts m cut next old written new =
    (IsNumber next × (length (snap m) < 10 ^ 19) × Writes (canon cut ++ closing next) old written new)
    ⊎ ((written ≡ unwritten 54) × (¬ IsNumber next) × (new ≡ old))
    ⊎ ((written ≡ unwritten 33) × IsNumber next × (10 ^ 19 ≤ length (snap m)) × (new ≡ old))

-- the same for a handle's market
abbrev pub PutsHeld : (Content → Content) → Option Content → ℕ → List ℕ → Written → List ℕ → Type 0
PutsHeld cut (Some m) next old written new = Puts m (cut m) next old written new
PutsHeld cut None next old written new = (written ≡ unwritten 50) × (new ≡ old)

-- The number that closes the snapshot of a market, or the code for why there is none: the number is not a sequence number, or else the
-- market has too many messages.
abbrev pub Closes : Content → ℕ → Result ℕ ℕ → Type 0
Closes m next (Ok number) = (number ≡ next) × IsNumber next × (length (snap m) < 10 ^ 19)
Closes m next (Err code) = ((code ≡ 54) × (¬ IsNumber next)) ⊎ ((code ≡ 33) × IsNumber next × (10 ^ 19 ≤ length (snap m)))

-- the snapshot of a market, or of its restriction, closed with a number, or the code for why there is none
abbrev pub Spells : Content → Content → ℕ → Result (Vec ℕ Global) ℕ → Type 0
Spells m cut next (Ok bytes) = IsNumber next × (length (snap m) < 10 ^ 19) × (bytes.items ≡ canon cut ++ closing next)
Spells m cut next (Err code) = Closes m next (Err code) ⊎ ((code ≡ 48) × IsNumber next × (length (snap m) < 10 ^ 19))

-- the bytes, or other items, are copied, if there are any
abbrev pub Stores : {T : Type 0} → Result (Vec T Global) ℕ → List T → Written → List T → Type 0
Stores (Ok items) old written new = Copies items.items old written new
Stores (Err code) old written new = (written ≡ unwritten code) × (new ≡ old)
