-- An index of queues by price, as the list of its orders, level by level.
use Rattle.std.specs.Prelude.{◌≡◌, ℕ, ◌<◌, ◌^◌, ◌&&◌, Bool, true, false, List, [], ◌∷◌, ◌++◌, eqb, Option, Some, None, IsSome}
use Rattle.std.specs.declared.cmp.Ordering.{Ordering}
use Rattle.std.specs.Ordering.{nat_cmp, ordering_then}
use Rattle.std.specs.List.{AllByRecursion, list_any}
use Rattle.std.specs.Map.{lookup}
use Rattle.std.specs.BTreeMap.{is_at}
use Rattle.itch_codec.specs.declared.orders.Side.{Side}
use Rattle.itch_codec.specs.declared.orders.Side.TheVariants.{Buy, Sell}
use Rattle.itch_book.specs.declared.order.Order.{Order}
use Rattle.itch_book.specs.Orders.{is_level, is_better, is_worse, same_side, lay, IsLive, IsBook}
use Rattle.itch_book.specs.Queued.{Seen, found}

-- a locate, and a price
abbrev pub Place : Type 0
Place = ℕ × ℕ

-- comparison by locate, and then by price
abbrev pub place_cmp : Place → Place → Ordering
place_cmp a b = ordering_then (nat_cmp a.0 b.0) (nat_cmp a.1 b.1)

-- the queue at a place
abbrev pub queue_at : List (Place × ℕ) → ℕ → ℕ → Option ℕ
queue_at es locate price = lookup (is_at (place_cmp (locate, price))) es

-- no place has two queues
abbrev pub AreApart : List (Place × ℕ) → Type 0
AreApart [] = Unit {0}
AreApart (e ∷ es) = (queue_at es e.0.0 e.0.1 ≡ None) × AreApart es

-- the orders of these nodes, if there are nodes
abbrev pub orders_in : (ℕ → Option Order) → Option (List ℕ) → List Order
orders_in orders None = []
orders_in orders (Some ks) = found orders ks

-- the orders of a queue, in order
abbrev pub line : Seen → ℕ → List Order
line v q = orders_in (v.orders) (v.keys q)

-- the orders of the queues of one side
abbrev pub joined : Seen → List (Place × ℕ) → List Order
joined v [] = []
joined v (e ∷ es) = line v e.1 ++ joined v es

-- all orders, in snapshot order
abbrev pub indexed : Seen → List (Place × ℕ) → List (Place × ℕ) → List Order
indexed v bids asks = lay (joined v bids ++ joined v asks)

-- the queue at a price of a side
abbrev pub queue_of_side : Side → List (Place × ℕ) → List (Place × ℕ) → ℕ → ℕ → Option ℕ
queue_of_side Buy bids asks locate price = queue_at bids locate price
queue_of_side Sell bids asks locate price = queue_at asks locate price

-- this side and place
abbrev pub is_there : Side → ℕ → ℕ → Side → ℕ → ℕ → Bool
is_there s0 l0 p0 s l p = same_side s0 s && is_at (place_cmp (l0, p0)) (l, p)

-- a node is in the queue of its order's price
pub record IsListed (v : Seen) (bids asks : List (Place × ℕ)) (k : ℕ) (x : Order) : Type 0 where
  pub queue : ℕ
  pub keys : List ℕ
  pub at_price : queue_of_side x.side bids asks x.locate x.price ≡ Some queue
  pub keys_are : v.keys queue ≡ Some keys
  pub member : list_any (eqb k) keys ≡ true

-- a reference has a node with an order of that reference
pub record IsKnown (v : Seen) (k r : ℕ) : Type 0 where
  pub order : Order
  pub there : v.orders k ≡ Some order
  pub reference : order.reference ≡ r

-- a queue is that of a price
pub record IsPlaced (bids asks : List (Place × ℕ)) (q : ℕ) : Type 0 where
  pub side : Side
  pub locate : ℕ
  pub price : ℕ
  pub at_price : queue_of_side side bids asks locate price ≡ Some q

-- the two sides and places are equal
abbrev pub IsPlace : Side → ℕ → ℕ → Side → ℕ → ℕ → Type 0
IsPlace s l p t m n = (s ≡ t) × (l ≡ m) × (p ≡ n)

-- each reference leads to the node of its order, and only to that, and each price to its queue; every queue belongs to a price
pub record IsIndexed (references : ℕ → Option ℕ) (bids asks : List (Place × ℕ)) (v : Seen) : Type 0 where
  pub book : IsBook (indexed v bids asks)
  pub live : (k : ℕ) (x : Order) → v.orders k ≡ Some x → IsLive x
  pub priced : (k : ℕ) (x : Order) → v.orders k ≡ Some x → x.price < 2 ^ 32
  pub bids_apart : AreApart bids
  pub asks_apart : AreApart asks
  pub levels : (s : Side) (l p q : ℕ) → queue_of_side s bids asks l p ≡ Some q → AllByRecursion (λ x. is_level l s p x ≡ true) (line v q)
  pub there : (s : Side) (l p q : ℕ) → queue_of_side s bids asks l p ≡ Some q → IsSome (v.keys q)
  pub placed : (q : ℕ) → IsSome (v.keys q) → IsPlaced bids asks q
  pub apart : (s t : Side) (l p m n q : ℕ) → queue_of_side s bids asks l p ≡ Some q → queue_of_side t bids asks m n ≡ Some q → IsPlace s l p t m n
  pub named : (k : ℕ) (x : Order) → v.orders k ≡ Some x → references x.reference ≡ Some k
  pub known : (r k : ℕ) → references r ≡ Some k → IsKnown v k r
  pub listed : (k : ℕ) (x : Order) → v.orders k ≡ Some x → IsListed v bids asks k x
  pub full : (q : ℕ) (keys : List ℕ) (k : ℕ) → v.keys q ≡ Some keys → list_any (eqb k) keys ≡ true → IsSome (v.orders k)

-- a queue has nodes
abbrev pub has_keys : Option (List ℕ) → Bool
has_keys None = false
has_keys (Some []) = false
has_keys (Some (k ∷ ks)) = true

-- the queue of each price has nodes
abbrev pub IsBusy : Seen → List (Place × ℕ) → List (Place × ℕ) → Type 0
IsBusy v bids asks = (s : Side) (l p q : ℕ) → queue_of_side s bids asks l p ≡ Some q → has_keys (v.keys q) ≡ true

-- each queue except one has nodes
abbrev pub IsBusyBut : Seen → List (Place × ℕ) → List (Place × ℕ) → ℕ → Type 0
IsBusyBut v bids asks but = (s : Side) (l p q : ℕ) → queue_of_side s bids asks l p ≡ Some q → eqb but q ≡ false → has_keys (v.keys q) ≡ true

-- an index between calls, in which no queue is empty
pub record IsWhole (references : ℕ → Option ℕ) (bids asks : List (Place × ℕ)) (v : Seen) : Type 0 where
  pub index : IsIndexed references bids asks v
  pub busy : IsBusy v bids asks

-- the price and the queue of an entry
abbrev pub level_entry : Place × ℕ → ℕ × ℕ
level_entry e = (e.0.1, e.1)

-- the best price of a side that is worse than the last, and its queue
pub record IsNextLevel (at : ℕ → Option ℕ) (side : Side) (last : Option ℕ) (e : ℕ × ℕ) : Type 0 where
  pub here : at e.0 ≡ Some e.1
  pub worse : is_worse side last e.0 ≡ true
  pub best : (p : ℕ) → p < 2 ^ 32 → is_worse side last p ≡ true → IsSome (at p) → is_better side p e.0 ≡ false

-- the same, or there is no worse price
abbrev pub IsNextOr : (ℕ → Option ℕ) → Side → Option ℕ → Option (ℕ × ℕ) → Type 0
IsNextOr at side last None = (p : ℕ) → p < 2 ^ 32 → is_worse side last p ≡ true → at p ≡ None
IsNextOr at side last (Some e) = IsNextLevel at side last e
