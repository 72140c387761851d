-- Queues of orders as contracts describe them: the keys of each queue in order, and the order of each node.
use Rattle.std.specs.Prelude.{◌≡◌, ℕ, ◌-◌, not, eqb, List, [], ◌∷◌, map, length, Option, Some, None, option_map, slice_index_or}
use Rattle.std.specs.List.{filter, sum_by}
use Rattle.slab.specs.Slab.{Slab, get, slab_len}
use Rattle.itch_book.specs.declared.order.Order.{Order}
use Rattle.itch_book.specs.declared.queues.Node.{Node}
use Rattle.itch_book.specs.declared.queues.Head.{Head}
use Rattle.itch_book.specs.Links.{order_of, walked, at_key}

-- for each queue key, the keys of the queue's nodes, if there is such a queue; for each node key, the order, if there is one; the keys of the
-- next node and of the next queue; and how many more nodes and queues fit
pub record Queued : Type 0 where
  pub queues : List (Option (List ℕ))
  pub orders : List (Option Order)
  pub next_key : ℕ
  pub next_queue : ℕ
  pub node_room : ℕ
  pub queue_room : ℕ

-- the keys of the nodes of a queue, in order
abbrev pub keys_at : Queued → ℕ → Option (List ℕ)
keys_at v q = slice_index_or v.queues q None

-- the order of a node
abbrev pub order_at : Queued → ℕ → Option Order
order_at v k = slice_index_or v.orders k None

-- the queues with one more, which is empty
pub record Opens (q : ℕ) (old new : Queued) : Type 0 where
  pub vacant : keys_at old q ≡ None
  pub keys : (k : ℕ) → keys_at new k ≡ at_key q (Some []) (keys_at old) k
  pub orders : new.orders ≡ old.orders
  pub next_key : new.next_key ≡ old.next_key
  pub node_room : new.node_room ≡ old.node_room

-- the keys without this one
abbrev pub without_key : ℕ → List ℕ → List ℕ
without_key key ks = filter (λ k. not (eqb key k)) ks

-- the number of additional values for which a slab has room
abbrev pub room : {T : Type 0} → Slab T → ℕ
room s = s.capacity - slab_len s

-- the slabs as contracts describe them
abbrev pub queued : Slab Node → Slab Head → Queued
queued nodes heads = record {
  queues = map (option_map (walked (get nodes))) heads.slots;
  orders = map order_of nodes.slots;
  next_key = nodes.vacant_key;
  next_queue = heads.vacant_key;
  node_room = room nodes;
  queue_room = room heads;
}

-- an order, if there is one, before others
abbrev pub shown : Option Order → List Order → List Order
shown None rest = rest
shown (Some x) rest = x ∷ rest

-- the orders of these nodes
abbrev pub found : (ℕ → Option Order) → List ℕ → List Order
found orders [] = []
found orders (k ∷ ks) = shown (orders k) (found orders ks)

-- all shares of some orders, and their number
abbrev pub totals_of : List Order → ℕ × ℕ
totals_of orders = (sum_by (λ x. x.shares) orders, length orders)

-- the order with this many shares left
abbrev pub left_with : ℕ → Order → Order
left_with shares x = record x { shares = shares }

-- the part of queues that an index uses: the keys of each queue, and the order of each node
pub record Seen : Type 0 where
  pub keys : ℕ → Option (List ℕ)
  pub orders : ℕ → Option Order

-- this part of some queues
abbrev pub seen : Queued → Seen
seen v = record { keys = keys_at v; orders = order_at v }
