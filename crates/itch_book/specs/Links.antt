-- Queues of doubly linked nodes.
use Rattle.std.specs.Prelude.{◌≡◌, ℕ, zero, suc, ◌+◌, ◌-◌, ◌^◌, ◌<◌, true, cond, eqb, List, [], ◌∷◌, length, Option, Some, None, option_map}
use Rattle.std.specs.List.{IsDistinct, list_any}
use Rattle.itch_book.specs.declared.order.Order.{Order}
use Rattle.itch_book.specs.declared.queues.Node.{Node}
use Rattle.itch_book.specs.declared.queues.Head.{Head}

-- the nodes by key
abbrev pub Nodes : Type 0
Nodes = ℕ → Option Node

-- the key after a node
abbrev pub next_of : Option Node → Option ℕ
next_of None = None
next_of (Some x) = x.after

-- at most n keys along the links
abbrev pub walk : Nodes → ℕ → Option ℕ → List ℕ
walk f zero from = []
walk f (suc n) None = []
walk f (suc n) (Some k) = k ∷ walk f n (next_of (f k))

-- the first key, or the key after the list
abbrev pub first_or : List ℕ → Option ℕ → Option ℕ
first_or [] after = after
first_or (k ∷ ks) after = Some k

-- the last key, or the key before the list
abbrev pub last_or : Option ℕ → List ℕ → Option ℕ
last_or before [] = before
last_or before (k ∷ ks) = last_or (Some k) ks

-- the node of this key is in this queue, between these two
pub record IsLink (f : Nodes) (queue : ℕ) (before : Option ℕ) (k : ℕ) (after : Option ℕ) : Type 0 where
  pub node : Node
  pub here : f k ≡ Some node
  pub queue_is : node.queue ≡ queue
  pub before_is : node.before ≡ before
  pub after_is : node.after ≡ after

-- the nodes of these keys are linked in this order, after one node and before another
abbrev pub IsLinked : Nodes → ℕ → Option ℕ → List ℕ → Option ℕ → Type 0
IsLinked f queue before [] after = Unit {0}
IsLinked f queue before (k ∷ ks) after = IsLink f queue before k (first_or ks after) × IsLinked f queue (Some k) ks after

-- the order of a node
abbrev pub order_of : Option Node → Option Order
order_of None = None
order_of (Some x) = Some x.order

-- the shares of the order of a node
abbrev pub shares_of : Option Node → ℕ
shares_of None = 0
shares_of (Some x) = x.order.shares

-- the shares of the nodes of these keys
abbrev pub total : Nodes → List ℕ → ℕ
total f [] = 0
total f (k ∷ ks) = shares_of (f k) + total f ks

-- these are the keys of a queue, in order
pub record IsQueue (f : Nodes) (queue : ℕ) (head : Head) (keys : List ℕ) : Type 0 where
  pub linked : IsLinked f queue None keys None
  pub distinct : IsDistinct eqb keys
  pub first : head.first ≡ first_or keys None
  pub last : head.last ≡ last_or None keys
  pub orders : head.orders ≡ length keys
  pub shares : head.shares ≡ total f keys

-- the keys of a queue, from its head
abbrev pub walked : Nodes → Head → List ℕ
walked f head = walk f head.orders head.first

-- a node is in the queue that it refers to, and its shares fit
pub record IsHome (f : Nodes) (heads : ℕ → Option Head) (k : ℕ) (x : Node) : Type 0 where
  pub head : Head
  pub there : heads x.queue ≡ Some head
  pub member : list_any (eqb k) (walked f head) ≡ true
  pub small : x.order.shares < 2 ^ 32

-- each head has its queue, and each node is in its own queue
pub record IsSound (f : Nodes) (heads : ℕ → Option Head) : Type 0 where
  pub queues : (q : ℕ) (head : Head) → heads q ≡ Some head → IsQueue f q head (walked f head)
  pub homes : (k : ℕ) (x : Node) → f k ≡ Some x → IsHome f heads k x

-- one of two values, depending on whether there is a key
abbrev pub cond_none : Option ℕ → Option ℕ → Option ℕ → Option ℕ
cond_none None there other = there
cond_none (Some k) there other = other

-- the nodes with another next node for this key
abbrev pub with_after : Option ℕ → Option ℕ → Nodes → Nodes
with_after None after f k = f k
with_after (Some p) after f k = cond (eqb p k) (option_map (λ (x : Node). record x { after = after }) (f k)) (f k)

-- the nodes with another previous node for this key
abbrev pub with_before : Option ℕ → Option ℕ → Nodes → Nodes
with_before None before f k = f k
with_before (Some p) before f k = cond (eqb p k) (option_map (λ (x : Node). record x { before = before }) (f k)) (f k)

-- the nodes with this value at a key
abbrev pub at_key : {X : Type 0} → ℕ → Option X → (ℕ → Option X) → ℕ → Option X
at_key key slot f k = cond (eqb key k) slot (f k)

-- the head of a queue after a node was removed from it
abbrev pub unlinked_head : Node → Head → Head
unlinked_head x head = record head {
  first = cond_none x.before x.after head.first;
  last = cond_none x.after x.before head.last;
  shares = head.shares - x.order.shares;
  orders = head.orders - 1;
}

-- the head of a queue after a node was appended to it
abbrev pub pushed_head : ℕ → Node → Head → Head
pushed_head key x head = record head {
  first = cond_none x.before (Some key) head.first;
  last = Some key;
  shares = head.shares + x.order.shares;
  orders = head.orders + 1;
}
