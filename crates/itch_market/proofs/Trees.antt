-- Finite maps with keys in any total order that distinguishes keys: the content of a `BTreeMap`, and the map of its entries.
use Rattle.std.proofs.Common.{T, ◌&&◌, is_lt, is_eq, Ordering, Less, Equal, Greater, ◌≡◌, Bool, true, false, cond, List, [], ◌∷◌, Option, Some, None, refl, sym, ap, ◌∙◌, subst, arith, length, filter}
use Rattle.std.specs.Ordering.{eq_by_cmp}
use Rattle.std.specs.Cmp.{IsTotalOrder, eq_by_cmp_equiv, tied_itself}
use Rattle.std.specs.FinMap as map
use Rattle.std.specs.FinMap.{FinMap, IsAntisymmetric}
use Rattle.std.specs.FinMap.Entries.{put, by_order, below_all, is_sorted}
use Rattle.std.specs.Map.{lookup, keys_of}
use Rattle.std.specs.List.{AllByRecursion}
use Rattle.std.specs.List.Sorted.{IsStrictlySortedBy}
use Rattle.std.proofs.lemmas.Map.Keys.{sorted_head, sorted_tail}
use Rattle.std.specs.BTreeMap as tree
use Rattle.std.specs.BTreeMap.{BTreeMap}
use Rattle.itch_market.specs.Widths.{IsMaybe}

no_entries : {A : Type 0} (es : List A) → length es ≡ 0 → es ≡ []
no_entries [] none = refl
no_entries (e ∷ es) none = absurd (omega arith)

-- two conditions that both hold
pub both : (a b : Bool) → T (a && b) → T a × T b
both true b holds = (tt, holds)
both false b holds = absurd holds

joined_tests : (a b : Bool) → T a → T b → T (a && b)
joined_tests true b first second = second
joined_tests false b first second = first

pub less : (o : Ordering) → T (is_lt o) → o ≡ Less
less Less holds = refl
less Equal holds = absurd holds
less Greater holds = absurd holds

equal : (o : Ordering) → is_eq o ≡ true → o ≡ Equal
equal Less same = cc
equal Equal same = refl
equal Greater same = cc

module _ {K X : Type 0} {R : K → K → Ordering} (total : IsTotalOrder R) (exact : IsAntisymmetric R) where
  found : (es : List (K × X)) (k : K) → map.find R k es ≡ lookup (tree.is_at (R k)) es
  found [] k = refl
  found (e ∷ es) k = ap (cond (eq_by_cmp R k e.0) (Some e.1)) (found es k)

  -- a tree and the map of its entries have the same value for a key
  pub get_of_tree : (m : BTreeMap K X) (k : K) → map.get (map.from_entries {R = R} m.entries) k ≡ tree.get R m k
  get_of_tree m k = map.get-from_entries total m.entries k ∙ found m.entries k

  -- the tree after a key got a value is the map with that entry inserted
  pub insert_of_tree : (m n : BTreeMap K X) (k : K) (v : X) → tree.Updates R m n k (Some v) → map.from_entries {R = R} n.entries ≡ map.insert (map.from_entries m.entries) k v
  insert_of_tree m n k v updates =
      map.same_map total exact _ _ (λ q. get_of_tree n q ∙ updates.0 q ∙ ap (λ b. cond b (Some v) (tree.get R m q)) ((eq_by_cmp_equiv total).symm k q)
      ∙ ap (cond (eq_by_cmp R q k) (Some v)) (sym (get_of_tree m q)) ∙ sym (map.get-insert total (map.from_entries m.entries) k v q))

  -- the entries of a tree, whose keys ascend, are the entries of their map
  pub entries_of_tree : (es : List (K × X)) → IsStrictlySortedBy R (keys_of es) → map.entries (map.from_entries {R = R} es) ≡ es
  entries_of_tree [] rise = no_entries (map.entries (map.empty {R = R})) (sym (map.len-entries map.empty) ∙ map.len-empty R X)
  entries_of_tree (e ∷ []) rise =
      map.entries-insert total map.empty e.0 e.1 ∙ ap (put R e.0 e.1) (entries_of_tree [] (sorted_tail R e.0 [] rise))
  entries_of_tree (e ∷ f ∷ es) rise =
      map.entries-insert total (map.from_entries (f ∷ es)) e.0 e.1
      ∙ ap (put R e.0 e.1) (entries_of_tree (f ∷ es) (sorted_tail R e.0 _ rise))
      ∙ ap (λ o. by_order o (e ∷ f ∷ es) ((f.0, e.1) ∷ es) (f ∷ put R e.0 e.1 es)) (sorted_head R e.0 _ rise).0

  -- inserting the value that a key already has changes nothing
  pub insert_present : (m : FinMap R X) (k : K) (v : X) → map.get m k ≡ Some v → map.insert m k v ≡ m
  insert_present m k v there = map.same_map total exact _ _ (λ q. map.get-insert total m k v q ∙ by_key q (eq_by_cmp R q k) refl) where
    by_key : (q : K) (b : Bool) → eq_by_cmp R q k ≡ b → cond b (Some v) (map.get m q) ≡ map.get m q
    by_key q true on = sym (ap (map.get m) (exact q k (equal (R q k) on)) ∙ there)
    by_key q false off = refl

  -- a property of each entry still holds after the insertion of an entry with that property
  pub each_after : (P : K → X → Type 0) (m : FinMap R X) (k : K) (v : X) → ((q : K) → IsMaybe (P q) (map.get m q)) → P k v
      → (q : K) → IsMaybe (P q) (map.get (map.insert m k v) q)
  each_after P m k v each new q = subst (IsMaybe (P q)) (sym (map.get-insert total m k v q)) (by_key (eq_by_cmp R q k) refl) where
    by_key : (b : Bool) → eq_by_cmp R q k ≡ b → IsMaybe (P q) (cond b (Some v) (map.get m q))
    by_key true on = subst (λ l. P l v) (sym (exact q k (equal (R q k) on))) new
    by_key false off = each q

  -- a map after the insertion of these entries, one after another
  abbrev pub insert_all : FinMap R X → List (K × X) → FinMap R X
  insert_all m [] = m
  insert_all m (e ∷ es) = insert_all (map.insert m e.0 e.1) es

  -- the first value, or the second if there is no first
  abbrev pub either : Option X → Option X → Option X
  either None o = o
  either (Some x) o = Some x

  either_none : (o : Option X) → either o None ≡ o
  either_none None = refl
  either_none (Some x) = refl

  -- a key below all others is not among them
  below_absent : (k : K) (es : List (K × X)) → T (below_all R k es) → map.find R k es ≡ None
  below_absent k [] below = refl
  below_absent k (e ∷ es) below =
      let parts = both (is_lt (R k e.0)) (below_all R k es) below in
      ap (λ o. cond (is_eq o) (Some e.1) (map.find R k es)) (less (R k e.0) parts.0) ∙ below_absent k es parts.1

  get-insert_all : (m : FinMap R X) (es : List (K × X)) (q : K) → T (is_sorted R es) → map.get (insert_all m es) q ≡ either (map.find R q es) (map.get m q)
  get-insert_all m [] q sorted = refl
  get-insert_all m (e ∷ es) q sorted =
      let parts = both (below_all R e.0 es) (is_sorted R es) sorted in
      get-insert_all (map.insert m e.0 e.1) es q parts.1
      ∙ ap (either (map.find R q es)) (map.get-insert total m e.0 e.1 q)
      ∙ by_key parts.0 (eq_by_cmp R q e.0) refl
    where
      by_key : T (below_all R e.0 es) → (b : Bool) → eq_by_cmp R q e.0 ≡ b
          → either (map.find R q es) (cond b (Some e.1) (map.get m q)) ≡ either (cond b (Some e.1) (map.find R q es)) (map.get m q)
      by_key below true on =
          ap (λ o. either o (Some e.1)) (ap (λ k. map.find R k es) (exact q e.0 (equal (R q e.0) on)) ∙ below_absent e.0 es below)
      by_key below false off = refl

  -- a map is the result of inserting its entries into the empty map
  pub insert_all-entries : (m : FinMap R X) → insert_all map.empty (map.entries m) ≡ m
  insert_all-entries m = map.same_map total exact (insert_all map.empty (map.entries m)) m (λ q.
      get-insert_all map.empty (map.entries m) q (map.entries_sorted m)
      ∙ ap (either (map.find R q (map.entries m))) (map.get-empty R q)
      ∙ either_none (map.find R q (map.entries m))
      ∙ sym (map.get-entries m q))

  there_after : (e : K × X) (es fs : List (K × X)) → T (below_all R e.0 fs) → AllByRecursion (λ f. map.find R f.0 es ≡ Some f.1) fs
      → AllByRecursion (λ f. map.find R f.0 (e ∷ es) ≡ Some f.1) fs
  there_after e es [] below there = tt
  there_after e es (f ∷ fs) below there =
      let parts = both (is_lt (R e.0 f.0)) (below_all R e.0 fs) below in
      let off : eq_by_cmp R f.0 e.0 ≡ false = (eq_by_cmp_equiv total).symm f.0 e.0 ∙ ap is_eq (less (R e.0 f.0) parts.0) in
      (ap (λ b. cond b (Some e.1) (map.find R f.0 es)) off ∙ there.0, there_after e es fs parts.1 there.1)

  there_sorted : (es : List (K × X)) → T (is_sorted R es) → AllByRecursion (λ e. map.find R e.0 es ≡ Some e.1) es
  there_sorted [] sorted = tt
  there_sorted (e ∷ es) sorted =
      let parts = both (below_all R e.0 es) (is_sorted R es) sorted in
      (ap (λ o. cond (is_eq o) (Some e.1) (map.find R e.0 es)) (tied_itself total e.0), there_after e es es parts.0 (there_sorted es parts.1))

  -- a property of each value at its key is a property of each entry
  pub each_entry : (P : K → X → Type 0) (m : FinMap R X) → ((q : K) → IsMaybe (P q) (map.get m q)) → AllByRecursion (λ e. P e.0 e.1) (map.entries m)
  each_entry P m each = go (map.entries m) (there_sorted (map.entries m) (map.entries_sorted m)) where
    go : (es : List (K × X)) → AllByRecursion (λ e. map.find R e.0 (map.entries m) ≡ Some e.1) es → AllByRecursion (λ e. P e.0 e.1) es
    go [] there = tt
    go (e ∷ es) there = (subst (IsMaybe (P e.0)) (map.get-entries m e.0 ∙ there.0) (each e.0), go es there.1)

  -- the retained entries, in their order
  found_retained : (p : K → Bool) (q : K) (es : List (K × X)) → map.find R q (filter (λ e. p e.0) es) ≡ cond (p q) (map.find R q es) None
  found_retained p q [] = nothing (p q) where
    nothing : (b : Bool) → ◌≡◌ {A = Option X} None (cond b None None)
    nothing true = refl
    nothing false = refl
  found_retained p q (e ∷ es) = by_key (found_retained p q es) (p e.0) refl (eq_by_cmp R q e.0) refl where
    by_key : map.find R q (filter (λ f. p f.0) es) ≡ cond (p q) (map.find R q es) None → (b : Bool) → p e.0 ≡ b → (same : Bool) → eq_by_cmp R q e.0 ≡ same
        → map.find R q (cond b (e ∷ filter (λ f. p f.0) es) (filter (λ f. p f.0) es)) ≡ cond (p q) (cond same (Some e.1) (map.find R q es)) None
    by_key rest true kept true on =
        ap (λ b. cond b (Some e.1) (map.find R q (filter (λ f. p f.0) es))) on
        ∙ sym (ap (λ b. cond b (Some e.1) None) (ap p (exact q e.0 (equal (R q e.0) on)) ∙ kept))
    by_key rest true kept false off = ap (λ b. cond b (Some e.1) (map.find R q (filter (λ f. p f.0) es))) off ∙ rest
    by_key rest false out true on =
        let no = ap p (exact q e.0 (equal (R q e.0) on)) ∙ out in
        rest ∙ ap (λ b. cond b (map.find R q es) None) no ∙ sym (ap (λ b. cond b (Some e.1) None) no)
    by_key rest false out false off = rest

  below_filter : (p : K → Bool) (k : K) (es : List (K × X)) → T (below_all R k es) → T (below_all R k (filter (λ e. p e.0) es))
  below_filter p k [] below = tt
  below_filter p k (e ∷ es) below =
      let parts = both (is_lt (R k e.0)) (below_all R k es) below in
      by_key parts.0 (below_filter p k es parts.1) (p e.0)
    where
      by_key : T (is_lt (R k e.0)) → T (below_all R k (filter (λ f. p f.0) es)) → (b : Bool) → T (below_all R k (cond b (e ∷ filter (λ f. p f.0) es) (filter (λ f. p f.0) es)))
      by_key first rest true = joined_tests (is_lt (R k e.0)) _ first rest
      by_key first rest false = rest

  sorted_filter : (p : K → Bool) (es : List (K × X)) → T (is_sorted R es) → T (is_sorted R (filter (λ e. p e.0) es))
  sorted_filter p [] sorted = tt
  sorted_filter p (e ∷ es) sorted =
      let parts = both (below_all R e.0 es) (is_sorted R es) sorted in
      by_key (below_filter p e.0 es parts.0) (sorted_filter p es parts.1) (p e.0)
    where
      by_key : T (below_all R e.0 (filter (λ f. p f.0) es)) → T (is_sorted R (filter (λ f. p f.0) es)) → (b : Bool) → T (is_sorted R (cond b (e ∷ filter (λ f. p f.0) es) (filter (λ f. p f.0) es)))
      by_key first rest true = joined_tests (below_all R e.0 (filter (λ f. p f.0) es)) _ first rest
      by_key first rest false = rest

  pub same_entries_of : (p : K → Bool) (m : FinMap R X) → map.entries (map.retain_keys m p) ≡ filter (λ e. p e.0) (map.entries m)
  same_entries_of p m =
      let kept = filter (λ (e : K × X). p e.0) (map.entries m) in
      let sorted = sorted_filter p (map.entries m) (map.entries_sorted m) in
      ap map.entries (map.same_map total exact (map.retain_keys m p) (map.from_sorted kept) (λ q.
      map.get-retain_keys m p q (λ x tie. ap p (sym (exact q x tie)))
      ∙ ap (λ o. cond (p q) o None) (map.get-entries m q)
      ∙ sym (map.get-from_sorted R kept q sorted ∙ found_retained p q (map.entries m))))
      ∙ map.entries-from_sorted R kept sorted
