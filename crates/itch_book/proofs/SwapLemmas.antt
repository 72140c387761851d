-- The orders by arrival when a new order replaces another one.
use Rattle.std.proofs.Common.{◌≡◌, ℕ, ◌+◌, eqb, List, [], ◌∷◌, Some, None, ap, ◌∙◌}
use Rattle.std.specs.List.Sorted.{IsPermutation}
use Rattle.std.specs.Map.{values_of, remove_entry}
use Rattle.std.proofs.lemmas.List.Sorted.{IsPermutation-refl}
use Rattle.itch_book.specs.declared.order.Order.{Order}
use Rattle.itch_book.specs.declared.arrived.Arrived.{Arrived}
use Rattle.itch_book.specs.Orders.{get, lay, added, without, has_reference, IsLive}
use Rattle.itch_book.specs.Settled.{settled, IsArrived}
use Rattle.itch_book.proofs.Lists.{by_test}
use Rattle.itch_book.proofs.BookLemmas.{without-book}
use Rattle.itch_book.proofs.ArrivedSteps.{arrived_as, put_is, put_arrived, cut_is, cut_arrived}

-- a reference that is not in the list is not in it afterwards
get_left : (r q : ℕ) (os : List Order) → get os q ≡ None → get (without r os) q ≡ None
get_left r q [] h = h
get_left r q (y ∷ os) h =
    by_test (has_reference q y)
    (λ e. let no : Some y ≡ None = simp e at h in absurd (let no_one : ⊥ = cc in no_one))
    (λ e. let rest : get os q ≡ None = simp e at h in
    by_test (has_reference r y)
    (λ f. simp f (get_left r q os rest))
    (λ f. simp (f, e) (get_left r q os rest)))

module _ (r : ℕ) (x : Order) (next : ℕ) (es fs : List (ℕ × Arrived)) (is : IsArrived es next) (s : IsPermutation ((x.reference, arrived_as x next) ∷ remove_entry (eqb r) es) fs) where
  left_arrived : IsArrived (remove_entry (eqb r) es) next
  left_arrived = cut_arrived r next es (remove_entry (eqb r) es) is (IsPermutation-refl (remove_entry (eqb r) es))

  left_is : settled (values_of (remove_entry (eqb r) es)) ≡ without r (settled (values_of es))
  left_is = cut_is r next es (remove_entry (eqb r) es) is (IsPermutation-refl (remove_entry (eqb r) es)) ∙ without-book r (settled (values_of es)) is.book

  pub swap_is : IsLive x → settled (values_of fs) ≡ lay (added x (without r (settled (values_of es))))
  swap_is live = put_is x next (remove_entry (eqb r) es) fs left_arrived s live ∙ ap (λ (os : List Order). lay (added x os)) left_is

  pub swap_arrived : IsLive x → get (settled (values_of es)) x.reference ≡ None → IsArrived fs (next + 1)
  swap_arrived live fresh =
      put_arrived x next (remove_entry (eqb r) es) fs left_arrived s live
      (ap (λ (os : List Order). get os x.reference) left_is ∙ get_left r x.reference (settled (values_of es)) fresh)
