-- Sets of locates that together contain all locates, as when the work on a feed is divided.
use Rattle.std.specs.Prelude.{◌≡◌, ℕ, ◌<◌, Bool, true, List}
use Rattle.std.specs.List.{AllByRecursion, list_any}
use Rattle.itch_market.specs.Content.{Content}
use Rattle.itch_market.specs.Partial.{only}
use Rattle.itch_snapshot.specs.Bytes.{canon}

-- each locate is in one of the sets, or in several
abbrev pub Covers : List (ℕ → Bool) → Type 0
Covers sets = (locate : ℕ) → locate < 65536 → list_any (λ wanted. wanted locate) sets ≡ true

-- restricted to each of the sets, two markets have the same canonical bytes
abbrev pub HaveSameParts : List (ℕ → Bool) → Content → Content → Type 0
HaveSameParts sets m n = AllByRecursion (λ wanted. canon (only wanted m) ≡ canon (only wanted n)) sets
