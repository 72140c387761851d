-- A market of some of the locates of a market, beside it.
use Rattle.std.specs.Prelude.{◌≡◌, ◌⊎◌, ⊤, ℕ, ◌+◌, ◌*◌, ◌==◌, ◌||◌, nat_le, Bool, true, false, List, ◌∷◌, bytes_eq, Option, None, Some, is_some, option_map, Result, Ok, Err}
use Rattle.std.specs.List.{filter, list_any}
use Rattle.std.specs.FinMap as finite
use Rattle.itch_codec.specs.Headers.{header, stamp_in}
use Rattle.itch_codec.specs.Text.{before_spaces}
use Rattle.itch_codec.specs.declared.header.Header.{Header}
use Rattle.itch_codec.specs.declared.message.Message.{Message}
use Rattle.itch_codec.specs.declared.message.Message.TheVariants as is
use Rattle.itch_day.specs.Limits.{IsLate, is_late}
use Rattle.itch_day.specs.declared.limit.Limit.{Limit}
use Rattle.itch_day.specs.declared.stop.PartStop.{PartStop}
use Rattle.itch_day.specs.declared.stop.PartStop.TheVariants as part
use Rattle.itch_market.specs.Content.{Content, Listing, laid}
use Rattle.itch_market.specs.Effects.{effect, takes_memory}
use Rattle.itch_market.specs.Reasons.{reason}
use Rattle.itch_market.specs.Replays.{IsRefusal}
use Rattle.itch_market.specs.Takings.{RefusesMessage}
use Rattle.itch_market.specs.Wanted.{Wanted, has}
use Rattle.itch_market.specs.declared.refused.Refused.{Refused}
use Rattle.itch_market.specs.declared.refused.Refused.TheVariants as refused
use Rattle.itch_commands.specs.Stocks.{names_of}
use Rattle.itch_commands.specs.declared.selection.Selection.{Selection}
use Rattle.itch_commands.specs.declared.selection.Selection.TheVariants.{Stocks}
use Rattle.itch_depth.specs.declared.pass.markets.Untaken.{Untaken}
use Rattle.itch_depth.specs.declared.pass.markets.Untaken.TheVariants as untaken

-- the stock of a locate of the directory, if it has one
abbrev pub stock_at : Content → ℕ → Option (List ℕ)
stock_at m locate = option_map (λ (s : Listing). s.entry.stock) (finite.get m.securities locate)

-- the same at a locate that is kept apart, and nothing elsewhere
abbrev pub own_stock : Bool → Option (List ℕ) → Option (List ℕ)
own_stock true stock = stock
own_stock false stock = None

-- A market of some locates, as part of a market. Whether a locate is one of them depends on the locate and on its stock. The directory has
-- these locates with the same stocks, and the orders are theirs.
pub record IsOwn (wants : ℕ → Option (List ℕ) → Bool) (m own : Content) : Type 0 where
  pub listed : (locate : ℕ) → stock_at own locate ≡ own_stock (wants locate (stock_at m locate)) (stock_at m locate)
  pub orders : own.orders ≡ filter (λ x. wants x.locate (stock_at m x.locate)) m.orders

-- the payload is that of an entry of the directory, or has the locate of a security of the market, where a header has it
abbrev pub may_concern : Content → List ℕ → Bool
may_concern own (kind ∷ high ∷ low ∷ rest) = (kind == 82) || is_some (finite.get own.securities (256 * high + low))
may_concern own payload = false

-- the locate of a header, if there is one, is in the directory of the market
abbrev pub is_located : Content → Option Header → Bool
is_located own None = false
is_located own (Some h) = is_some (finite.get own.securities h.locate)

-- the message is about a locate of the market, or makes a locate one of them
abbrev pub concerns : (ℕ → Option (List ℕ) → Bool) → Content → Message → Bool
concerns wants own (is.StockDirectory x) = wants x.header.locate (Some x.entry.stock)
concerns wants own message = is_located own (header message)

-- ---- selected locates

-- the names of the stocks, or else the set, of the locates that are kept apart; none, if there is neither
pub record Apart : Type 0 where
  pub names : Option (List ℕ)
  pub set : Option Wanted

abbrev pub none_apart : Apart
none_apart = record { names = None; set = None }

abbrev pub is_neither : Option (List ℕ) → Option Wanted → Bool
is_neither None None = true
is_neither names set = false

abbrev pub are_none : Apart → Bool
are_none apart = is_neither apart.names apart.set

-- a stock has one of these names
abbrev pub has_name : List (List ℕ) → List ℕ → Bool
has_name names text = list_any (λ name. bytes_eq text name) names

-- a locate with this stock in the directory, or none, is one of the names or of the set
abbrev pub is_one : Option (List ℕ) → Option Wanted → ℕ → Option (List ℕ) → Bool
is_one (Some names) set locate None = false
is_one (Some names) set locate (Some stock) = has_name (names_of names) (before_spaces stock)
is_one None (Some set) locate stock = has set locate
is_one None None locate stock = false

abbrev pub is_own : Apart → ℕ → Option (List ℕ) → Bool
is_own apart = is_one apart.names apart.set

-- the market of the locates that are kept apart, if there are any
abbrev pub IsApartBy : Bool → Apart → Content → Content → Type 0
IsApartBy true apart m own = ⊤
IsApartBy false apart m own = IsOwn (is_own apart) m own

abbrev pub IsApart : Apart → Content → Content → Type 0
IsApart apart = IsApartBy (are_none apart) apart

-- the same locates are kept apart, or none from now on
abbrev pub Keeps : Apart → Apart → Type 0
Keeps old new = (new ≡ old) ⊎ (new ≡ none_apart)

-- the locates that are kept apart, if there are any, are those selected
abbrev pub FitsOne : Option (List ℕ) → Option Wanted → Selection → Option Wanted → Type 0
FitsOne None None selection only = ⊤
FitsOne (Some text) set (Stocks names) only = text ≡ names.now
FitsOne (Some text) set selection only = ⊥
FitsOne None (Some set) (Stocks names) only = ⊥
FitsOne None (Some set) selection only = only ≡ Some set

abbrev pub Fits : Apart → Selection → Option Wanted → Type 0
Fits apart = FitsOne apart.names apart.set

-- ---- messages before a time

-- the messages before a time, if there is one
abbrev pub before_time : Option ℕ → Limit
before_time until = record { after = None; until = until }

-- a time is this one or later, or unknown
abbrev pub is_from_or_unknown : ℕ → Option ℕ → Bool
is_from_or_unknown until None = true
is_from_or_unknown until (Some time) = nat_le until time

-- the message of a payload may be at a time or later, if there is a time
abbrev pub may_be_late : Option ℕ → List ℕ → Bool
may_be_late None payload = false
may_be_late (Some until) payload = is_from_or_unknown until (stamp_in payload)

-- the market applies a message before a time; or the message is not before it, or the market refuses it
abbrev pub PassesTimed : Option ℕ → Message → Content → Result (Unit {0}) Untaken → Content → Type 0
PassesTimed until message m (Ok done) n = (is_late until message ≡ false) × (reason m message ≡ None) × (n ≡ laid (effect m message))
PassesTimed until message m (Err untaken.Late) n = is_late until message ≡ true
PassesTimed until message m (Err (untaken.Refused (refused.Rule why))) n =
    (is_late until message ≡ false) × IsRefusal (reason m message) (takes_memory m message) why
PassesTimed until message m (Err (untaken.Refused (refused.Codec fault))) n = ⊥

-- a payload is not taken: its message is not before the time, or the market refuses it
abbrev pub Untakes : Option ℕ → Content → ℕ → List ℕ → Untaken → Type 0
Untakes until m number payload untaken.Late = IsLate (before_time until) payload
Untakes until m number payload (untaken.Refused why) = RefusesMessage m number payload why m × (IsLate (before_time until) payload → ⊥)

-- the stop of a part for the stop of its messages before a time
abbrev pub stop_by : PartStop Untaken → PartStop Refused
stop_by part.Full = part.Full
stop_by part.Late = part.Late
stop_by part.End = part.End
stop_by (part.Frame fault) = part.Frame fault
stop_by part.TooMany = part.TooMany
stop_by (part.Refused untaken.Late) = part.Late
stop_by (part.Refused (untaken.Refused why)) = part.Refused why
