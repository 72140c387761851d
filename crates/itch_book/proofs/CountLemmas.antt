-- The number of references is the number of orders.
use Rattle.std.proofs.Common.{◌≡◌, ℕ, true, false, eqb, List, [], ◌∷◌, map, length, Option, Some, None, is_some, refl, sym, ap, ◌∙◌, arith}
use Rattle.std.specs.List.{AllByRecursion, list_any, IsDistinct as AreDistinct}
use Rattle.std.proofs.lemmas.Bool.Decides.{nat_tests}
use Rattle.std.proofs.lemmas.Cmp.{nat_eq_equiv}
use Rattle.std.proofs.lemmas.List.{length-map}
use Rattle.std.proofs.lemmas.Map.Made.{length-from_same_keys}
use Rattle.itch_book.specs.Table.{IsCount}
use Rattle.itch_book.specs.declared.order.Order.{Order}
use Rattle.itch_book.specs.Orders.{get, has_reference, IsDistinct}
use Rattle.itch_book.specs.Queued.{Seen}
use Rattle.itch_book.specs.Indexed.{Place, indexed, IsIndexed}
use Rattle.itch_book.proofs.Lists.{by_test}
use Rattle.itch_book.proofs.Distinct.{head_distinct, tail_distinct}
use Rattle.itch_book.proofs.IndexSteps.{get_some, get_none}

-- the references of these orders
abbrev names_of : List Order → List ℕ
names_of xs = map (λ (x : Order). x.reference) xs

-- an order has a reference if it is among the references of all
among : (r : ℕ) (xs : List Order) → is_some (get xs r) ≡ list_any (eqb r) (names_of xs)
among r [] = refl
among r (x ∷ xs) =
    let same : has_reference r x ≡ eqb r x.reference = grind (arith, nat_tests) in
    by_test (has_reference r x)
    (λ e. let f = sym same ∙ e in simp (e, f) refl)
    (λ e. let f = sym same ∙ e in simp (e, f) (among r xs))

none_equal : (r : ℕ) (xs : List ℕ) → list_any (eqb r) xs ≡ false → AllByRecursion (λ y. eqb r y ≡ false) xs
none_equal r [] h = tt
none_equal r (x ∷ xs) h = let rest = none_equal r xs in by_test (eqb r x) (λ e. let no : true ≡ false = simp e at h in absurd (let no_one : ⊥ = cc in no_one)) (λ e. (e, rest (simp e at h)))

apart : (xs : List Order) → IsDistinct xs → AreDistinct eqb (names_of xs)
unfolding AreDistinct
apart [] d = tt
apart (x ∷ xs) d = (none_equal x.reference (names_of xs) (sym (among x.reference xs) ∙ ap is_some (head_distinct x xs d)), apart xs (tail_distinct x xs d))

-- the number of keys with a node is the number of orders
pub counted : (references : ℕ → Option ℕ) (bids asks : List (Place × ℕ)) (v : Seen) → IsIndexed references bids asks v → (n : ℕ) → IsCount references n → n ≡ length (indexed v bids asks)
counted references bids asks v is n count =
    let orders = indexed v bids asks in
    sym count.long
    ∙ length-from_same_keys nat_eq_equiv count.keys (names_of orders) count.distinct (apart orders is.book.distinct) (λ q. sym (count.known q) ∙ referred q (references q) refl ∙ among q orders)
    ∙ length-map orders (λ (x : Order). x.reference)
  where
    referred : (q : ℕ) (o : Option ℕ) → references q ≡ o → is_some (references q) ≡ is_some (get (indexed v bids asks) q)
    referred q None e = ap is_some e ∙ sym (ap is_some (get_none references bids asks v is q e))
    referred q (Some k) e = let known = is.known q k e in ap is_some e ∙ sym (ap is_some (get_some references bids asks v is q k known.order e known.there))
