-- The ranges of the fields of securities and orders.
use Rattle.std.specs.Prelude.{ℕ, ◌<◌, ◌^◌, List, Option, Some, None}
use Rattle.std.specs.FinMap as map
use Rattle.itch_codec.specs.Fields.{IsBytes, IsAlpha}
use Rattle.itch_codec.specs.Widths.{IsDirectory}
use Rattle.itch_book.specs.declared.order.Order.{Order}
use Rattle.itch_market.specs.Content.{Listing}
use Rattle.itch_market.specs.declared.security.Action.{Action}

-- a property of the value, if there is one
abbrev pub IsMaybe : {A : Type 0} → (A → Type 0) → Option A → Type 0
IsMaybe P None = Unit {0}
IsMaybe P (Some x) = P x

pub record IsAction (a : Action) : Type 0 where
  pub state : a.state < 256
  pub reason : IsBytes 4 a.reason

-- a market code, and an action
abbrev pub IsHalt : ℕ → ℕ → Type 0
IsHalt market_code action = (market_code < 256) × (action < 256)

-- a market participant's text, and three bytes
abbrev pub IsPosition : List ℕ → List ℕ → Type 0
IsPosition mpid position = IsAlpha 4 mpid × IsBytes 3 position

pub record IsSecurity (s : Listing) : Type 0 where
  pub entry : IsDirectory s.entry
  pub action : IsMaybe IsAction s.action
  pub sho : IsMaybe (λ sho. sho < 256) s.sho
  pub halts : (market_code : ℕ) → IsMaybe (IsHalt market_code) (map.get s.halts market_code)
  pub positions : (mpid : List ℕ) → IsMaybe (IsPosition mpid) (map.get s.positions mpid)

pub record IsOrder (x : Order) : Type 0 where
  pub reference : x.reference < 2 ^ 64
  pub shares : x.shares < 2 ^ 32
  pub price : x.price < 2 ^ 32
  pub mpid : IsMaybe (IsAlpha 4) x.mpid
