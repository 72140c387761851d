-- The directory by locate: slots from locate 0 on, each with the security there, if there is one.
use Rattle.std.specs.Prelude.{ℕ, zero, suc, ◌<◌, ◌≡◌, Bool, false, List, [], ◌∷◌, Option, Some, None, length, drop, replicate}
use Rattle.std.specs.Str.{bytes_eq}
use Rattle.std.specs.FinMap as map
use Rattle.std.specs.Map.{keys_of}
use Rattle.itch_market.specs.Content.{Listing, Securities}

-- the securities of slots with their locates in ascending order; the first slot has this locate
abbrev pub entries_from : ℕ → List (Option Listing) → List (ℕ × Listing)
entries_from locate [] = []
entries_from locate (None ∷ slots) = entries_from (suc locate) slots
entries_from locate (Some s ∷ slots) = (locate, s) ∷ entries_from (suc locate) slots

-- the directory in these slots
abbrev pub directory : List (Option Listing) → Securities
directory slots = map.from_entries (entries_from 0 slots)

-- the locates with a security, from this one on
abbrev pub locates_from : ℕ → List (Option Listing) → List ℕ
locates_from locate slots = keys_of (entries_from locate (drop locate slots))

-- this is the first locate with a security, from another one on
abbrev pub IsFirstFrom : ℕ → List (Option Listing) → Option ℕ → Type 0
IsFirstFrom from slots None = locates_from from slots ≡ []
IsFirstFrom from slots (Some locate) = (locate < length slots) × (locates_from from slots ≡ locate ∷ locates_from (suc locate) slots)

-- the slot at a locate
abbrev pub slot : List (Option Listing) → ℕ → Option Listing
slot [] q = None
slot (s ∷ slots) zero = s
slot (s ∷ slots) (suc q) = slot slots q

-- a slot has a security with this stock
abbrev pub has_stock : Option Listing → List ℕ → Bool
has_stock None stock = false
has_stock (Some s) stock = bytes_eq s.entry.stock stock

-- the stock of the security in a slot, or eight zeros
abbrev pub stock_in : Option Listing → List ℕ
stock_in None = replicate 8 0
stock_in (Some s) = s.entry.stock
