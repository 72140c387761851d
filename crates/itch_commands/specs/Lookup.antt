-- A search for stocks by their names while the messages of a file pass.
use Rattle.std.specs.Prelude.{ℕ, Bool, true, false, not, List, [], ◌∷◌, Option, None, Some, bytes_eq, replicate, set, length, slice_index_or, if◌then◌else◌, ◌==◌}
use Rattle.std.specs.List.{list_any, filter}
use Rattle.itch_codec.specs.Headers.{header}
use Rattle.itch_codec.specs.Text.{before_spaces}
use Rattle.itch_codec.specs.declared.header.Header.{Header}
use Rattle.itch_codec.specs.declared.message.Message.{Message}
use Rattle.itch_codec.specs.declared.message.Message.TheVariants as is

-- names of stocks, and those of them that have not come yet
pub record Names : Type 0 where
  pub names : List (List ℕ)
  pub missing : List (List ℕ)

-- a name has come, by its mark
abbrev pub has_come : Option Bool → Bool
has_come None = false
has_come (Some come) = come

-- The names, those that no Stock Directory message had so far, and for each locate whether its last Stock Directory message has one of the
-- names.
pub record Lookup : Type 0 where
  pub names : List (List ℕ)
  pub missing : List (List ℕ)
  pub found : List Bool

-- no message has passed yet
abbrev pub lookup : List (List ℕ) → Lookup
lookup names = record { names = names; missing = names; found = replicate 65536 false }

-- a stock has one of these names
abbrev pub is_one_of : List (List ℕ) → List ℕ → Bool
is_one_of names stock = list_any (λ name. bytes_eq name stock) names

-- the names other than that of a stock
abbrev pub others : List (List ℕ) → List ℕ → List (List ℕ)
others names stock = filter (λ name. not (bytes_eq name stock)) names

-- the locate and the stock of a Stock Directory message
abbrev pub listed : Message → Option (ℕ × List ℕ)
listed (is.StockDirectory m) = Some (m.header.locate, before_spaces m.entry.stock)
listed message = None

-- a locate is listed with a stock, which counts from here on
abbrev pub lookup_with : Option (ℕ × List ℕ) → Lookup → Lookup
lookup_with None s = s
lookup_with (Some entry) s = record { names = s.names; missing = others s.missing entry.1; found = set s.found entry.0 (is_one_of s.names entry.1) }

-- a message has passed
abbrev pub lookup_after : Message → Lookup → Lookup
lookup_after message s = lookup_with (listed message) s

-- a locate has one of the stocks, according to the messages so far
abbrev pub is_found : Lookup → ℕ → Bool
is_found s locate = slice_index_or s.found locate false

-- a header has a locate with one of the stocks; a message without a header does not
abbrev pub is_found_in : Lookup → Option Header → Bool
is_found_in s None = false
is_found_in s (Some h) = is_found s h.locate

-- the listed stock is one of the stocks, or without one the locate of the header has one
abbrev pub is_listed : Lookup → Option (ℕ × List ℕ) → Option Header → Bool
is_listed s (Some entry) h = is_one_of s.names entry.1
is_listed s None h = is_found_in s h

-- a message is about one of the stocks, according to the Stock Directory messages up to it
abbrev pub is_about_one : Lookup → Message → Bool
is_about_one s message = is_listed s (listed message) (header message)

-- the same if stocks are searched for
abbrev pub is_sought : Option Lookup → Message → Bool
is_sought None message = true
is_sought (Some s) message = is_about_one s message

-- each of the stocks searched for has come
abbrev pub are_found : Option Lookup → Bool
are_found None = true
are_found (Some s) = length s.missing == 0

-- a locate has one of the stocks searched for
abbrev pub found_at : Option Lookup → ℕ → Bool
found_at None locate = false
found_at (Some s) locate = is_found s locate

-- the listed stock has this name
abbrev pub is_named : List ℕ → Option (ℕ × List ℕ) → Bool
is_named name None = false
is_named name (Some entry) = bytes_eq name entry.1

-- a Stock Directory message has the stock of this name
abbrev pub has_name : List ℕ → Message → Bool
has_name name message = is_named name (listed message)

-- the stock of a locate, if it has one, has one of these names
abbrev pub is_of_one : List (List ℕ) → Option (List ℕ) → Bool
is_of_one names None = false
is_of_one names (Some stock) = is_one_of names stock

-- the stock of a locate once this is listed
abbrev pub stock_with : ℕ → Option (ℕ × List ℕ) → Option (List ℕ) → Option (List ℕ)
stock_with locate None stock = stock
stock_with locate (Some entry) stock = if entry.0 == locate then Some entry.1 else stock

-- the stock of a locate after these messages: that of its last Stock Directory message
unfoldable pub stock_past : ℕ → List Message → Option (List ℕ) → Option (List ℕ)
stock_past locate [] stock = stock
stock_past locate (message ∷ messages) stock = stock_past locate messages (stock_with locate (listed message) stock)
