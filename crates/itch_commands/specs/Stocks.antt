-- Stocks by their names, and the locates of the directory that have them.
use Rattle.std.specs.Prelude.{◌≡◌, ℕ, ◌==◌, ◌⊎◌, Bool, true, false, if◌then◌else◌, List, [], ◌∷◌, bytes_eq, not, Option, None, Some, Result, Ok, Err}
use Rattle.std.specs.List.{filter, list_all, list_any}
use Rattle.std.specs.FinMap as finite
use Rattle.itch_codec.specs.Text.{before_spaces}
use Rattle.itch_market.specs.Content.{Content, Listing, Securities}
use Rattle.itch_market.specs.Partial.{only}
use Rattle.itch_market.specs.Wanted.{Wanted, has}
use Rattle.itch_commands.specs.Lookup.{Names}
use Rattle.itch_commands.specs.declared.fault.ToolFault.{ToolFault}
use Rattle.itch_commands.specs.declared.fault.ToolFault.TheVariants as tool

-- a byte before the first of these parts
abbrev pub with_first : ℕ → List (List ℕ) → List (List ℕ)
with_first byte [] = (byte ∷ []) ∷ []
with_first byte (part ∷ parts) = (byte ∷ part) ∷ parts

-- the names of a list: the parts between its commas, one more than there are commas
abbrev pub names_of : List ℕ → List (List ℕ)
names_of [] = [] ∷ []
names_of (byte ∷ bytes) = if byte == 44 then [] ∷ names_of bytes else with_first byte (names_of bytes)

-- an entry of the directory has the stock with this name: the same bytes, without the padding
abbrev pub is_named : List ℕ → Option Listing → Bool
is_named name None = false
is_named name (Some s) = bytes_eq (before_spaces s.entry.stock) name

-- a locate has the stock with this name
abbrev pub has_stock : Securities → List ℕ → ℕ → Bool
has_stock listings name locate = is_named name (finite.get listings locate)

-- a locate has the stock with one of these names
abbrev pub has_one_of : Securities → List (List ℕ) → ℕ → Bool
has_one_of listings names locate = list_any (λ name. has_stock listings name locate) names

-- a market restricted to the locates that have one of these stocks
abbrev pub only_stocks : List (List ℕ) → Content → Content
only_stocks names m = only (has_one_of (Content.securities m) names) m

-- a locate of the directory has the stock with this name
abbrev pub is_known : Securities → List ℕ → Bool
is_known listings name = list_any (has_stock listings name) (finite.keys listings)

-- the same for each of these names
abbrev pub are_known : Securities → List (List ℕ) → Bool
are_known listings names = list_all (is_known listings) names

-- the reason why the locates of these names are not found: one of the names is unknown, or memory runs out
abbrev pub IsStockFault : Securities → List (List ℕ) → ToolFault → Type 0
IsStockFault listings names fault = ((fault ≡ tool.UnknownStock) × (are_known listings names ≡ false)) ⊎ (fault ≡ tool.OutOfMemory)

-- the result of looking these names up: each is known, and the set has the locates with one of them
abbrev pub FindsStocks : Securities → List (List ℕ) → Result Wanted ToolFault → Type 0
FindsStocks listings names (Ok set) = (are_known listings names ≡ true) × ((locate : ℕ) → has set locate ≡ has_one_of listings names locate)
FindsStocks listings names (Err fault) = IsStockFault listings names fault

-- names of stocks after the stock of a locate has come, if it has one
abbrev pub passed_at : Securities → ℕ → Names → Names
passed_at listings locate n = record { names = n.names; missing = filter (λ name. not (has_stock listings name locate)) n.missing }

-- a reading succeeds, and the directory after it knows each of these names; or the reading is refused, or they are not found
abbrev pub ReadsStocks : {X : Type 0} → (X → Securities) → List (List ℕ) → (Result X ToolFault → Type 0) → Result X ToolFault → Type 0
ReadsStocks listings names reads (Ok x) = reads (Ok x) × (are_known (listings x) names ≡ true)
ReadsStocks {X} listings names reads (Err fault) = reads (Err fault) ⊎ ((x : X) × reads (Ok x) × IsStockFault (listings x) names fault)
