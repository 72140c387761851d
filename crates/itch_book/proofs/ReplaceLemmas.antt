-- Adding a new order, and removing the one that it replaces.
use Rattle.std.proofs.Common.{◌≡◌, ℕ, Bool, true, false, not, List, [], ◌∷◌, ◌++◌, find, Some, None, IsSome, refl, sym, ap, ◌∙◌, subst}
use Rattle.std.proofs.lemmas.List.Elements.{filter-append}
use Rattle.itch_book.specs.declared.order.Order.{Order}
use Rattle.itch_book.specs.Orders.{lay, added, without, replaced, replaced_by, has_reference, get, fits, AllFit, IsLive, IsBook}
use Rattle.itch_book.proofs.Lists.{by_test, All-append_rec, All-found_rec}
use Rattle.itch_book.proofs.Distinct.{own_reference, live_fit, IsDistinct-added}
use Rattle.itch_book.proofs.OrderLemmas.{get-lay}
use Rattle.itch_book.proofs.BookLemmas.{lay-without_laid}
use Rattle.itch_book.proofs.QueueSteps.{none_some}

find_left : (p : Order → Bool) (xs ys : List Order) (x : Order) → find p xs ≡ Some x → find p (xs ++ ys) ≡ Some x
find_left p [] ys x h = none_some refl h
find_left p (y ∷ xs) ys x h = by_test (p y)
    (λ e. let it : Some y ≡ Some x = simp e at h in simp e it)
    (λ e. let it : find p xs ≡ Some x = simp e at h in simp e (find_left p xs ys x it))

module _ (original reference shares price : ℕ) (xs : List Order) (x : Order) (book : IsBook xs) (found : get xs original ≡ Some x) (fresh : get xs reference ≡ None) where
  abbrev pub substitute : Order
  substitute = record x { reference = reference; shares = shares; price = price }

  -- the original is still there
  pub still_there : IsSome (get (lay (added substitute xs)) original)
  still_there =
      let fit : AllFit (added substitute xs) = All-append_rec (λ y. fits y ≡ true) xs (substitute ∷ []) (live_fit xs book.live) ((All-found_rec IsLive (has_reference original) xs x book.live found).1, tt) in
      subst IsSome (sym (get-lay (added substitute xs) original (IsDistinct-added substitute xs fresh book.distinct) fit ∙ find_left (has_reference original) xs (substitute ∷ []) x found)) refl

  -- the new order has another reference
  other : has_reference original substitute ≡ false
  other = by_test (has_reference original substitute)
      (λ e. none_some fresh (ap (get xs) (own_reference original substitute e) ∙ found))
      (λ e. e)

  pub put_and_cut : lay (without original (lay (added substitute xs))) ≡ lay (replaced original reference shares price xs)
  put_and_cut =
      lay-without_laid original (added substitute xs)
      ∙ ap lay (filter-append (λ y. not (has_reference original y)) xs (substitute ∷ []) ∙ ap (λ t. without original xs ++ t) alone)
      ∙ ap (λ o. lay (replaced_by o original reference shares price xs)) (sym found)
    where
      alone : without original (substitute ∷ []) ≡ substitute ∷ []
      alone = let n = other in simp n refl
