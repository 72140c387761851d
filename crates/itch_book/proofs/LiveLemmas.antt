-- The node of a live order.
use Rattle.std.proofs.Common.{◌≡◌, ℕ, List, Option, Some, None, IsSome, IsSomeAnd, IfSome, refl, sym, subst}
use Rattle.std.proofs.lemmas.Bool.{false≢true}
use Rattle.itch_book.specs.declared.order.Order.{Order}
use Rattle.itch_book.specs.Orders.{get}
use Rattle.itch_book.specs.Queued.{Seen}
use Rattle.itch_book.specs.Indexed.{Place, indexed, IsIndexed}
use Rattle.itch_book.proofs.IndexSteps.{get_some, get_none}

module _ (references : ℕ → Option ℕ) (bids asks : List (Place × ℕ)) (v : Seen) (is : IsIndexed references bids asks v) (r : ℕ) where
  -- a live order has a node
  pub live_node : IsSome (get (indexed v bids asks) r) → IsSomeAnd (references r) (λ k. IsSome (v.orders k))
  live_node some = by_node (references r) refl
    where
      by_node : (o : Option ℕ) → references r ≡ o → IsSomeAnd o (λ k. IsSome (v.orders k))
      by_node None e = absurd (false≢true (subst IsSome (get_none references bids asks v is r e) some))
      by_node (Some k) e = subst IsSome (sym (is.known r k e).there) refl

  -- the node holds that order
  pub live_order : (x : Order) → IsSome (get (indexed v bids asks) r) → IfSome (references r) (λ k. v.orders k ≡ Some x) → get (indexed v bids asks) r ≡ Some x
  live_order x some decided = by_node (references r) refl decided
    where
      by_node : (o : Option ℕ) → references r ≡ o → IfSome o (λ k. v.orders k ≡ Some x) → get (indexed v bids asks) r ≡ Some x
      by_node None e h = absurd (false≢true (subst IsSome (get_none references bids asks v is r e) some))
      by_node (Some k) e h = get_some references bids asks v is r k x e h
