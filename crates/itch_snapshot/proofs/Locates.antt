-- The locates of a directory ascend, and their orders, one locate after another, are the orders in snapshot order.
use Rattle.std.proofs.Common.{◌≡◌, ℕ, ◌<◌, ◌==◌, Bool, true, false, cond, T, ◌||◌, List, [], ◌∷◌, ◌++◌, filter, flat_map, Option, Some, None, IsSome, is_some, refl, sym, ap, ap₂, ◌∙◌, subst, arith}
use Rattle.std.specs.List.{AllByRecursion}
use Rattle.std.specs.Ordering.{nat_cmp, is_lt, eq_by_cmp}
use Rattle.std.specs.FinMap as finite
use Rattle.std.specs.FinMap.{FinMap, find, is_sorted}
use Rattle.std.specs.FinMap.Entries.{below_all}
use Rattle.std.proofs.lemmas.Bool.Decides.{nat_tests}
use Rattle.itch_book.specs.declared.order.Order.{Order}
use Rattle.itch_book.specs.Orders.{sides, stands_before, is_in}
use Rattle.itch_book.specs.StableLists.{in_order}
use Rattle.itch_book.proofs.Lists.{by_test, All-weaker_rec, All-both_rec, filter_all}
use Rattle.itch_book.proofs.StableLemmas.{in_order-parts}
use Rattle.itch_book.proofs.OrderLemmas.{both_queues, stands_order, lower_stands, in_is}
use Rattle.itch_market.proofs.Maps.{get-insert, get_elsewhere, same_map}
use Rattle.itch_market.proofs.Trees.{both}

-- each number is below those after it
abbrev pub Rise : {X : Type 0} → List (ℕ × X) → Type 0
Rise [] = Unit {0}
Rise (e ∷ es) = AllByRecursion (λ f. e.0 < f.0) es × Rise es

T_true : (a : Bool) → T a → a ≡ true
T_true true h = refl
T_true false h = absurd h

-- a key is found if the numbers are equal
key_test : (q k : ℕ) → eq_by_cmp nat_cmp q k ≡ (q == k)
key_test q k = grind (arith, nat_tests)

less_key : (k q : ℕ) → is_lt (nat_cmp k q) ≡ true → k < q
less_key k q h = grind (arith, nat_tests)

module _ {X : Type 0} where
  below_rise : (k : ℕ) (es : List (ℕ × X)) → T (below_all nat_cmp k es) → AllByRecursion (λ f. k < f.0) es
  below_rise k [] h = tt
  below_rise k (e ∷ es) h =
      let parts = both (is_lt (nat_cmp k e.0)) (below_all nat_cmp k es) h in
      (less_key k e.0 (T_true _ parts.0), below_rise k es parts.1)

  sorted_rise : (es : List (ℕ × X)) → T (is_sorted nat_cmp es) → Rise es
  sorted_rise [] h = tt
  sorted_rise (e ∷ es) h =
      let parts = both (below_all nat_cmp e.0 es) (is_sorted nat_cmp es) h in
      (below_rise e.0 es parts.0, sorted_rise es parts.1)

  -- the entries of a map ascend
  pub rise : (m : FinMap nat_cmp X) → Rise (finite.entries m)
  rise m = sorted_rise (finite.entries m) (finite.entries_sorted m)

  -- one of the entries has this key
  abbrev pub has_key : List (ℕ × X) → ℕ → Bool
  has_key es q = is_some (find nat_cmp q es)

  -- a number below all keys is not among them
  pub below_absent : (k : ℕ) (es : List (ℕ × X)) → AllByRecursion (λ f. k < f.0) es → find nat_cmp k es ≡ None
  below_absent k [] h = refl
  below_absent k (e ∷ es) h =
      let off : eq_by_cmp nat_cmp k e.0 ≡ false = let less = h.0 in grind (arith, nat_tests) in
      ap (λ b. cond b (Some e.1) (find nat_cmp k es)) off ∙ below_absent k es h.1

  key_above : (k q : ℕ) (es : List (ℕ × X)) → AllByRecursion (λ f. k < f.0) es → has_key es q ≡ true → k < q
  key_above k q [] h there = absurd (cc there)
  key_above k q (e ∷ es) h there = by_test (eq_by_cmp nat_cmp q e.0)
      (λ on. let less = h.0 in grind (arith, nat_tests))
      (λ off. key_above k q es h.1 (simp off at there))

  some_either : (b : Bool) (x : X) (o : Option X) → is_some (cond b (Some x) o) ≡ (b || is_some o)
  some_either true x o = refl
  some_either false x o = refl

  key_first : (q : ℕ) (e : ℕ × X) (es : List (ℕ × X)) → has_key (e ∷ es) q ≡ ((q == e.0) || has_key es q)
  key_first q e es = ap (λ b. is_some (cond b (Some e.1) (find nat_cmp q es))) (key_test q e.0) ∙ some_either (q == e.0) e.1 (find nat_cmp q es)

  -- the orders of these locates, one locate after another
  abbrev pub joined : List Order → List (ℕ × X) → List Order
  joined orders es = flat_map (λ e. sides orders e.0) es

  pub joined_is : (orders : List Order) (es : List (ℕ × X)) → Rise es → joined orders es ≡ in_order stands_before (filter (λ x. has_key es x.locate) orders)
  joined_is orders [] rising = sym (ap (in_order stands_before) (none orders))
    where
      none : (xs : List Order) → filter (λ x. has_key [] x.locate) xs ≡ []
      none [] = refl
      none (x ∷ xs) = none xs
  joined_is orders (e ∷ es) rising =
      ap₂ ◌++◌ (both_queues orders e.0) (joined_is orders es rising.1)
      ∙ sym (in_order-parts stands_before stands_order (is_in e.0) (λ x. has_key es x.locate) (λ x. has_key (e ∷ es) x.locate)
      (λ x y here there. lower_stands x y (subst (λ l. l < y.locate) (sym (in_is e.0 x here)) (key_above e.0 y.locate es rising.0 there)))
      (λ x. key_first x.locate e es) orders)

  -- if each order's locate is in the map, the orders of its locates are all orders, in snapshot order
  pub joined_all : (orders : List Order) (m : FinMap nat_cmp X) → AllByRecursion (λ (x : Order). IsSome (finite.get m x.locate)) orders
      → joined orders (finite.entries m) ≡ in_order stands_before orders
  joined_all orders m listed =
      joined_is orders (finite.entries m) (rise m)
      ∙ ap (in_order stands_before) (filter_all (λ x. has_key (finite.entries m) x.locate) orders
      (All-weaker_rec (λ x. IsSome (finite.get m x.locate)) (λ x. has_key (finite.entries m) x.locate ≡ true)
      (λ x there. sym (ap is_some (finite.get-entries m x.locate)) ∙ there) orders listed))

  -- a map after the insertion of these entries, one after another
  abbrev pub insert_all : FinMap nat_cmp X → List (ℕ × X) → FinMap nat_cmp X
  insert_all m [] = m
  insert_all m (e ∷ es) = insert_all (finite.insert m e.0 e.1) es

  -- the first value, or the second if there is no first
  abbrev pub either : Option X → Option X → Option X
  either None o = o
  either (Some x) o = Some x

  either_none : (o : Option X) → either o None ≡ o
  either_none None = refl
  either_none (Some x) = refl

  get-insert_all : (m : FinMap nat_cmp X) (es : List (ℕ × X)) (q : ℕ) → Rise es → finite.get (insert_all m es) q ≡ either (find nat_cmp q es) (finite.get m q)
  get-insert_all m [] q rising = refl
  get-insert_all m (e ∷ es) q rising =
      get-insert_all (finite.insert m e.0 e.1) es q rising.1
      ∙ by_test (eq_by_cmp nat_cmp q e.0)
      (λ on.
      let same : q ≡ e.0 = grind (arith, nat_tests) in
      let absent : find nat_cmp q es ≡ None = subst (λ k. find nat_cmp k es ≡ None) (sym same) (below_absent e.0 es rising.0) in
      ap (λ o. either o (finite.get (finite.insert m e.0 e.1) q)) absent
      ∙ get-insert m e.0 e.1 q ∙ ap (λ b. cond b (Some e.1) (finite.get m q)) (sym (key_test q e.0) ∙ on)
      ∙ sym (ap (λ b. either (cond b (Some e.1) (find nat_cmp q es)) (finite.get m q)) on))
      (λ off.
      ap (either (find nat_cmp q es)) (get_elsewhere m e.0 e.1 q (λ same. grind (arith, nat_tests)))
      ∙ sym (ap (λ b. either (cond b (Some e.1) (find nat_cmp q es)) (finite.get m q)) off))

  -- a map is the result of inserting its entries into the empty map
  pub insert_all-entries : (m : FinMap nat_cmp X) → insert_all finite.empty (finite.entries m) ≡ m
  insert_all-entries m = same_map (insert_all finite.empty (finite.entries m)) m (λ q.
      get-insert_all finite.empty (finite.entries m) q (rise m)
      ∙ ap (either (find nat_cmp q (finite.entries m))) (finite.get-empty nat_cmp q)
      ∙ either_none (find nat_cmp q (finite.entries m))
      ∙ sym (finite.get-entries m q))

  -- no entry's key is in the map
  abbrev pub AreNew : FinMap nat_cmp X → List (ℕ × X) → Type 0
  AreNew m es = AllByRecursion (λ e. finite.get m e.0 ≡ None) es

  pub new_in_empty : (es : List (ℕ × X)) → AreNew finite.empty es
  new_in_empty [] = tt
  new_in_empty (e ∷ es) = (finite.get-empty nat_cmp e.0, new_in_empty es)

  -- keys above that of an entry are still new after its insertion
  pub new_above : (m : FinMap nat_cmp X) (k : ℕ) (v : X) (es : List (ℕ × X)) → AllByRecursion (λ f. k < f.0) es → AreNew m es → AreNew (finite.insert m k v) es
  new_above m k v [] above new = tt
  new_above m k v (e ∷ es) above new =
      let less = above.0 in
      (get_elsewhere m k v e.0 (λ same. omega arith) ∙ new.0, new_above m k v es above.1 new.1)

  there_tail : (e : ℕ × X) (es : List (ℕ × X)) → AllByRecursion (λ f. e.0 < f.0) es → AllByRecursion (λ f. find nat_cmp f.0 es ≡ Some f.1) es
      → AllByRecursion (λ f. find nat_cmp f.0 (e ∷ es) ≡ Some f.1) es
  there_tail e es above there =
      All-weaker_rec (λ f. (e.0 < f.0) × (find nat_cmp f.0 es ≡ Some f.1)) (λ f. find nat_cmp f.0 (e ∷ es) ≡ Some f.1)
      (λ f h. let off : eq_by_cmp nat_cmp f.0 e.0 ≡ false = let less = h.0 in grind (arith, nat_tests) in ap (λ b. cond b (Some e.1) (find nat_cmp f.0 es)) off ∙ h.1) es
      (All-both_rec (λ f. e.0 < f.0) (λ f. find nat_cmp f.0 es ≡ Some f.1) es above there)

  there_rising : (es : List (ℕ × X)) → Rise es → AllByRecursion (λ e. find nat_cmp e.0 es ≡ Some e.1) es
  there_rising [] rising = tt
  there_rising (e ∷ es) rising =
      let on : eq_by_cmp nat_cmp e.0 e.0 ≡ true = grind (arith, nat_tests) in
      (ap (λ b. cond b (Some e.1) (find nat_cmp e.0 es)) on, there_tail e es rising.0 (there_rising es rising.1))

  -- each entry of a map is found in it
  pub each_entry : (m : FinMap nat_cmp X) → AllByRecursion (λ e. finite.get m e.0 ≡ Some e.1) (finite.entries m)
  each_entry m = All-weaker_rec (λ e. find nat_cmp e.0 (finite.entries m) ≡ Some e.1) (λ e. finite.get m e.0 ≡ Some e.1) (λ e h. finite.get-entries m e.0 ∙ h)
      (finite.entries m) (there_rising (finite.entries m) (rise m))
