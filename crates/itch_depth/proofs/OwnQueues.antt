-- The directory and the queues of a market of some locates.
use Rattle.std.proofs.Common.{T, ◌&&◌, is_lt, nat_cmp, ◌≡◌, ℕ, ◌==◌, Bool, true, false, cond, List, [], ◌∷◌, map, Option, None, Some, is_some, option_map, refl, sym, ap, ap₂, ◌∙◌, subst, arith}
use Rattle.std.specs.List.{filter}
use Rattle.std.specs.FinMap as finite
use Rattle.std.specs.FinMap.{nat_cmp-IsAntisymmetric}
use Rattle.std.specs.FinMap.Entries.{below_all, is_sorted}
use Rattle.std.specs.Ordering.{eq_by_cmp}
use Rattle.std.specs.Cmp.{nat_cmp_total}
use Rattle.std.proofs.lemmas.Bool.Decides.{nat_tests}
use Rattle.itch_codec.specs.declared.orders.Side.{Side}
use Rattle.itch_book.specs.declared.order.Order.{Order}
use Rattle.itch_book.specs.StableLists.{in_order}
use Rattle.itch_book.specs.Orders.{is_better, is_of, queue}
use Rattle.itch_book.proofs.Lists.{by_test, filter_within}
use Rattle.itch_market.specs.Content.{Content, Listing, Securities}
use Rattle.itch_market.proofs.Maps.{same_map}
use Rattle.itch_market.proofs.Trees.{same_entries_of}
use Rattle.itch_market.proofs.Partials.{get_cut}
use Rattle.itch_depth.specs.Own.{IsOwn, own_stock}
use Rattle.itch_depth.proofs.OwnMarkets.{kept_in}

-- ---- keys

abbrev Empty : Type 0
Empty = Unit {0}

module _ {X : Type 0} where
  abbrev no_value : X → Empty
  no_value x = tt

  bare : List (ℕ × X) → List (ℕ × Empty)
  bare [] = []
  bare (e ∷ es) = (e.0, tt) ∷ bare es

  below_bare : (k : ℕ) (es : List (ℕ × X)) → below_all nat_cmp k (bare es) ≡ below_all nat_cmp k es
  unfolding bare
  below_bare k [] = refl
  below_bare k (e ∷ es) = ap (λ b. is_lt (nat_cmp k e.0) && b) (below_bare k es)

  sorted_bare : (es : List (ℕ × X)) → is_sorted nat_cmp (bare es) ≡ is_sorted nat_cmp es
  unfolding bare
  sorted_bare [] = refl
  sorted_bare (e ∷ es) = ap₂ ◌&&◌ (below_bare e.0 es) (sorted_bare es)

  find_bare : (q : ℕ) (es : List (ℕ × X)) → finite.find nat_cmp q (bare es) ≡ option_map no_value (finite.find nat_cmp q es)
  unfolding bare
  find_bare q [] = refl
  find_bare q (e ∷ es) = ap (cond (eq_by_cmp nat_cmp q e.0) (Some tt)) (find_bare q es) ∙ by_key (eq_by_cmp nat_cmp q e.0) where
    by_key : (b : Bool) → cond b (Some tt) (option_map no_value (finite.find nat_cmp q es)) ≡ option_map no_value (cond b (Some e.1) (finite.find nat_cmp q es))
    by_key true = refl
    by_key false = refl

  keys_bare : (es : List (ℕ × X)) → map (λ (e : ℕ × Empty). e.0) (bare es) ≡ map (λ (e : ℕ × X). e.0) es
  unfolding bare
  keys_bare [] = refl
  keys_bare (e ∷ es) = ap (λ ks. e.0 ∷ ks) (keys_bare es)

  -- the keys of a map, with no values
  key_set : finite.FinMap nat_cmp X → finite.FinMap nat_cmp Empty
  key_set m = finite.from_sorted (bare (finite.entries m))

  bare_sorted : (m : finite.FinMap nat_cmp X) → T (is_sorted nat_cmp (bare (finite.entries m)))
  bare_sorted m = subst T (sym (sorted_bare (finite.entries m))) (finite.entries_sorted m)

  get_key : (m : finite.FinMap nat_cmp X) (q : ℕ) → finite.get (key_set m) q ≡ option_map no_value (finite.get m q)
  unfolding key_set
  get_key m q = finite.get-from_sorted nat_cmp (bare (finite.entries m)) q (bare_sorted m) ∙ find_bare q (finite.entries m) ∙ ap (option_map no_value) (sym (finite.get-entries m q))

  keys_alone : (m : finite.FinMap nat_cmp X) → finite.keys (key_set m) ≡ finite.keys m
  unfolding key_set
  keys_alone m = ap (map (λ (e : ℕ × Empty). e.0)) (finite.entries-from_sorted nat_cmp (bare (finite.entries m)) (bare_sorted m)) ∙ keys_bare (finite.entries m)

  -- maps with values for the same keys have the same keys
  pub same_keys : (m n : finite.FinMap nat_cmp X) → ((q : ℕ) → is_some (finite.get m q) ≡ is_some (finite.get n q)) → finite.keys m ≡ finite.keys n
  same_keys m n same =
      sym (keys_alone m) ∙ ap finite.keys (same_map (key_set m) (key_set n) (λ q. get_key m q ∙ alike (finite.get m q) (finite.get n q) (same q) ∙ sym (get_key n q))) ∙ keys_alone n where
        alike : (o p : Option X) → is_some o ≡ is_some p → option_map no_value o ≡ option_map no_value p
        alike None None is = refl
        alike None (Some y) is = absurd (cc is)
        alike (Some x) None is = absurd (cc is)
        alike (Some x) (Some y) is = refl

-- the keys that are kept
kept_keys : (s : Securities) (w : ℕ → Bool) → finite.keys (finite.retain_keys s w) ≡ filter w (finite.keys s)
kept_keys s w = ap (map (λ (e : ℕ × Listing). e.0)) (same_entries_of nat_cmp_total nat_cmp-IsAntisymmetric w s) ∙ of_pairs (finite.entries s) where
  of_pairs : (es : List (ℕ × Listing)) → map (λ (e : ℕ × Listing). e.0) (filter (λ e. w e.0) es) ≡ filter w (map (λ (e : ℕ × Listing). e.0) es)
  of_pairs [] = refl
  of_pairs (e ∷ es) = by_test (w e.0) (λ keeps. simp keeps (ap (λ ks. e.0 ∷ ks) (of_pairs es))) (λ drops. simp drops (of_pairs es))

-- ---- the market of some locates

module _ (w : ℕ → Option (List ℕ) → Bool) (m own : Content) (is_own : IsOwn w m own) where
  pub own_keys : finite.keys own.securities ≡ filter (kept_in w m) (finite.keys m.securities)
  own_keys = same_keys own.securities (finite.retain_keys m.securities (kept_in w m)) same ∙ kept_keys m.securities (kept_in w m) where
    by_stock : (b : Bool) (o p : Option Listing) → option_map (λ (s : Listing). s.entry.stock) p ≡ own_stock b (option_map (λ (s : Listing). s.entry.stock) o) → is_some p ≡ is_some (cond b o None)
    by_stock true None None is = refl
    by_stock true None (Some t) is = absurd (cc is)
    by_stock true (Some s) None is = absurd (cc is)
    by_stock true (Some s) (Some t) is = refl
    by_stock false o None is = refl
    by_stock false o (Some t) is = absurd (cc is)

    same : (q : ℕ) → is_some (finite.get own.securities q) ≡ is_some (finite.get (finite.retain_keys m.securities (kept_in w m)) q)
    same q =
        by_stock (kept_in w m q) (finite.get m.securities q) (finite.get own.securities q) (IsOwn.listed is_own q)
        ∙ ap is_some (sym (get_cut (kept_in w m) m.securities q))

  -- the orders of one of the locates
  pub own_queue : (l : ℕ) (s : Side) → kept_in w m l ≡ true → queue m.orders l s ≡ queue own.orders l s
  own_queue l s has =
      let before : Order → Order → Bool = λ x y. is_better s x.price y.price in
      sym (ap (λ os. in_order before (filter (is_of l s) os)) is_own.orders
      ∙ ap (in_order before) (filter_within (is_of l s) (λ x. kept_in w m x.locate) (λ x of. at_locate x (x.locate == l) refl of) m.orders)) where
        at_locate : (x : Order) (b : Bool) → (x.locate == l) ≡ b → is_of l s x ≡ true → kept_in w m x.locate ≡ true
        at_locate x true on of = let here : x.locate ≡ l = grind (arith, nat_tests) in ap (kept_in w m) here ∙ has
        at_locate x false off of = let no : is_of l s x ≡ false = simp off refl in absurd (cc (sym no ∙ of))
