-- The plainest message with the effect of another one on a market.
use Rattle.std.specs.Prelude.{ℕ, ◌==◌, Bool, false, ◌&&◌, if◌then◌else◌, List, Option, Some, None}
use Rattle.std.specs.Str.{bytes_eq}
use Rattle.std.specs.FinMap as map
use Rattle.itch_book.specs.declared.order.Order.{Order}
use Rattle.itch_book.specs.Orders as book
use Rattle.itch_codec.specs.declared.header.Header.{Header}
use Rattle.itch_codec.specs.declared.message.Message.{Message}
use Rattle.itch_codec.specs.declared.message.Message.TheVariants as is
use Rattle.itch_codec.specs.declared.stocks.Directory.{Directory}
use Rattle.itch_market.specs.declared.security.Action.{Action}
use Rattle.itch_market.specs.Content.{Content, Listing}
use Rattle.itch_market.specs.Effects.{action_of, position_of}

-- the header that has only a locate
abbrev pub plain_header : ℕ → Header
plain_header locate = record { locate = locate; tracking = 0; stamp = 0 }

-- the plainest message that changes nothing
abbrev pub nothing : Message
nothing = is.BrokenTrade (record { header = plain_header 0; match_number = 0 })

-- ---- values that are already set

abbrev pub is_number : Option ℕ → ℕ → Bool
is_number None n = false
is_number (Some k) n = k == n

abbrev pub is_text : Option (List ℕ) → List ℕ → Bool
is_text None text = false
is_text (Some old) text = bytes_eq old text

abbrev pub is_action : Option Action → Action → Bool
is_action None x = false
is_action (Some a) x = (a.state == x.state) && bytes_eq a.reason x.reason

-- the same stock, with the same fields
abbrev pub same_entry : Directory → Directory → Bool
same_entry a b =
    bytes_eq a.stock b.stock && (a.market_category == b.market_category) && (a.financial_status == b.financial_status)
    && (a.round_lot_size == b.round_lot_size) && (a.round_lots_only == b.round_lots_only)
    && (a.issue_classification == b.issue_classification) && bytes_eq a.issue_sub_type b.issue_sub_type
    && (a.authenticity == b.authenticity) && (a.short_sale_threshold == b.short_sale_threshold) && (a.ipo_flag == b.ipo_flag)
    && (a.luld_price_tier == b.luld_price_tier) && (a.etp_flag == b.etp_flag)
    && (a.etp_leverage_factor == b.etp_leverage_factor) && (a.inverse_indicator == b.inverse_indicator)

abbrev pub has_entry : Option Listing → Directory → Bool
has_entry None entry = false
has_entry (Some s) entry = same_entry s.entry entry

abbrev pub has_action : Option Listing → Action → Bool
has_action None action = false
has_action (Some s) action = is_action s.action action

abbrev pub has_sho : Option Listing → ℕ → Bool
has_sho None sho = false
has_sho (Some s) sho = is_number s.sho sho

abbrev pub has_halt : Option Listing → (market_code action : ℕ) → Bool
has_halt None market_code action = false
has_halt (Some s) market_code action = is_number (map.get s.halts market_code) action

abbrev pub has_position : Option Listing → (mpid position : List ℕ) → Bool
has_position None mpid position = false
has_position (Some s) mpid position = is_text (map.get s.positions mpid) position

-- ---- the plainest message

-- a message that sets a value, unless it is already set
abbrev pub unless : Bool → Message → Message
unless set x = if set then nothing else x

-- these are all the shares of the order
abbrev pub are_all : Option Order → ℕ → Bool
are_all None shares = false
are_all (Some x) shares = x.shares == shares

-- shares taken from an order: none, all or some of them
abbrev pub plain_take : Option Order → (locate reference shares : ℕ) → Message
plain_take o locate reference shares =
    unless (shares == 0)
    (if are_all o shares then is.OrderDelete (record { header = plain_header locate; reference = reference })
    else is.OrderCancel (record { header = plain_header locate; reference = reference; shares = shares }))

-- the plainest message with the effect of this one on a market, if it is not refused
abbrev pub plain : Content → Message → Message
plain m (is.SystemEvent x) = unless (is_number m.event x.code) (is.SystemEvent (record { header = plain_header 0; code = x.code }))
plain m (is.StockDirectory x) =
    unless (has_entry (map.get m.securities x.header.locate) x.entry)
    (is.StockDirectory (record x { header = plain_header x.header.locate }))
plain m (is.TradingAction x) =
    unless (has_action (map.get m.securities x.header.locate) (action_of x))
    (is.TradingAction (record x { header = plain_header x.header.locate; reserved = 0 }))
plain m (is.RegSho x) =
    unless (has_sho (map.get m.securities x.header.locate) x.action) (is.RegSho (record x { header = plain_header x.header.locate }))
plain m (is.Halt x) =
    unless (has_halt (map.get m.securities x.header.locate) x.market_code x.action)
    (is.Halt (record x { header = plain_header x.header.locate }))
plain m (is.Position x) =
    unless (has_position (map.get m.securities x.header.locate) x.mpid (position_of x))
    (is.Position (record x { header = plain_header x.header.locate }))
plain m (is.AddOrder x) = is.AddOrder (record x { header = plain_header x.header.locate })
plain m (is.AttributedAddOrder x) =
    is.AttributedAddOrder (record x { order = record x.order { header = plain_header x.order.header.locate } })
plain m (is.OrderExecuted x) = plain_take (book.get m.orders x.reference) x.header.locate x.reference x.shares
plain m (is.OrderExecutedWithPrice x) =
    plain_take (book.get m.orders x.execution.reference) x.execution.header.locate x.execution.reference x.execution.shares
plain m (is.OrderCancel x) = plain_take (book.get m.orders x.reference) x.header.locate x.reference x.shares
plain m (is.OrderDelete x) = is.OrderDelete (record x { header = plain_header x.header.locate })
plain m (is.OrderReplace x) = is.OrderReplace (record x { header = plain_header x.header.locate })
plain m (is.Trade x) = nothing
plain m (is.CrossTrade x) = nothing
plain m (is.BrokenTrade x) = nothing
plain m (is.End next) = nothing
plain m (is.Other payload) = nothing
