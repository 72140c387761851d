-- A market as contracts describe it, that is, the data kept from the messages of TotalView-ITCH 5.0: the last "System Event", the "Stock
-- Directory" with the trading states, and the live orders of "Add Order".
use Rattle.std.specs.Prelude.{ℕ, List, [], Option, None}
use Rattle.std.specs.Ordering.{nat_cmp}
use Rattle.std.specs.Cmp.Lexicographic.{slice_cmp}
use Rattle.std.specs.FinMap as map
use Rattle.itch_book.specs.declared.order.Order.{Order}
use Rattle.itch_book.specs.Orders as book
use Rattle.itch_codec.specs.declared.stocks.Directory.{Directory}
use Rattle.itch_market.specs.declared.security.Action.{Action}

-- the last action of an operational halt at each market code
abbrev pub HaltActions : Type 0
HaltActions = map.FinMap nat_cmp ℕ

-- the last position of each market participant: primary market maker, mode and state
abbrev pub ParticipantPositions : Type 0
ParticipantPositions = map.FinMap (slice_cmp nat_cmp) (List ℕ)

-- the data of a security: its last directory entry, its trading states, its halts and its participants' positions
pub record Listing : Type 0 where
  pub entry : Directory
  pub action : Option Action
  pub sho : Option ℕ
  pub halts : HaltActions
  pub positions : ParticipantPositions

-- the directory: the data of the security at each locate
abbrev pub Securities : Type 0
Securities = map.FinMap nat_cmp Listing

-- a market: the last event code, the directory with its trading states, and the live orders
pub record Content : Type 0 where
  pub event : Option ℕ
  pub securities : Securities
  pub orders : List Order

-- the market before any message
abbrev pub empty : Content
empty = record { event = None; securities = map.empty; orders = [] }

-- the market with its orders in snapshot order
abbrev pub laid : Content → Content
laid m = record m { orders = book.lay m.orders }
