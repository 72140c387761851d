-- The rest of a snapshot that is read message by message.
use Rattle.std.specs.Prelude.{◌≡◌, ℕ, Bool, true, List, [], ◌++◌, map, Option, Some, None, IsSome, IfSome}
use Rattle.std.specs.Option.{option_map}
use Rattle.std.specs.List.{flat_map, AllByRecursion}
use Rattle.std.specs.FinMap as finite
use Rattle.itch_codec.specs.declared.message.Message.{Message}
use Rattle.itch_book.specs.declared.order.Order.{Order}
use Rattle.itch_book.specs.declared.order.Placed.{Placed}
use Rattle.itch_book.specs.Orders as book
use Rattle.itch_market.specs.Content.{Content, Listing}
use Rattle.itch_market.specs.Partial.{only}
use Rattle.itch_market.specs.Wanted.{Wanted, has}
use denote.Ref.{Bor}
use Rattle.itch_snapshot.specs.declared.named_order.NamedOrder.{NamedOrder}
use Rattle.itch_snapshot.specs.Snapshot.{event_part, order_part, locate_part}

-- the remaining messages of a list, if there is one
abbrev pub listed : Option (List Message) → List Message
listed None = []
listed (Some messages) = messages

-- the order with the stock of its locate, and its place
abbrev pub named : List ℕ → Option Placed → Option NamedOrder
named stock placed = option_map (λ p. record { stock = stock; order = p.order.now; place = p.place }) placed

-- an order, and the orders of its locate after it
abbrev pub order_parts : List Order → Option NamedOrder → List Message
order_parts orders None = []
order_parts orders (Some x) = map (order_part x.stock) (book.from_order orders (Some x.order))

abbrev pub found_part : List Order → ℕ → Option Listing → List Message
found_part orders locate None = []
found_part orders locate (Some s) = locate_part orders (locate, s)

-- all messages about a locate
abbrev pub part_at : Content → ℕ → List Message
part_at m locate = found_part m.orders locate (finite.get m.securities locate)

-- the rest: an event, the states of a security, orders of its locate, and complete locates
abbrev pub left : Content → Option ℕ → Option (List Message) → Option NamedOrder → List ℕ → List Message
left m event states order locates = event_part event ++ (listed states ++ (order_parts m.orders order ++ flat_map (part_at m) locates))

-- the wanted locates: those of a set, or all if there is no set
abbrev pub in_set : Option (Bor Wanted) → ℕ → Bool
in_set None locate = true
in_set (Some set) locate = has set.now locate

-- the market of the wanted locates
abbrev pub cut_to : Option (Bor Wanted) → Content → Content
cut_to None m = m
cut_to (Some set) m = only (has set.now) m

-- the next order is live, and the locates are in the directory
pub record IsCursor (m : Content) (order : Option NamedOrder) (locates : List ℕ) : Type 0 where
  pub live : IfSome order (λ x. book.get m.orders x.order.reference ≡ Some x.order)
  pub listed : AllByRecursion (λ locate. IsSome (finite.get m.securities locate)) locates
