-- The lines of one side together with the overflow levels: the queue at each place, and the effect of a change.
use Rattle.std.proofs.Common.{◌≡◌, ℕ, zero, suc, ◌≤◌, ◌<◌, ◌+◌, true, false, cond, eqb, List, [], ◌∷◌, ◌++◌, length, set, get_or, Vec, Option, Some, None, refl, sym, ap, ◌∙◌, subst, arith}
use Rattle.std.specs.declared.cmp.Ordering.TheVariants.{Less}
use Rattle.std.specs.Ordering.{is_eq}
use Rattle.std.specs.List.{AllByRecursion}
use Rattle.std.specs.Map.{lookup, keys_of}
use Rattle.std.specs.BTreeMap.{is_at}
use Rattle.std.specs.List.Sorted.{IsStrictlySortedBy}
use Rattle.std.proofs.lemmas.Bool.{false≢true}
use Rattle.std.proofs.lemmas.Bool.Decides.{nat_tests}
use Rattle.std.proofs.Math.Dec.{ltb}
use Rattle.std.proofs.lemmas.List.{get_or-map, get_or_past, get_or-set_same, get_or-set_other, length-map, map-append, map-set}
use Rattle.std.proofs.Math.Seq.{map-set_same}
use Rattle.std.proofs.lemmas.Map.Keys.{sorted_head, sorted_tail}
use Rattle.itch_codec.specs.declared.orders.Side.{Side}
use Rattle.itch_book.specs.Table.{or_else}
use Rattle.itch_book.specs.declared.level_lines.Level.{Level}
use Rattle.itch_book.specs.Indexed.{Place, place_cmp, queue_at, AreApart}
use Rattle.itch_book.specs.SideLevels.{as_lines, line_of, queue_in, places_of, places_from, levels_in, queue_among, IsRising, IsParted}
use Rattle.itch_book.proofs.Lists.{by_test}
use Rattle.itch_book.proofs.IndexLemmas.{place_is, place_self}
use Rattle.itch_book.proofs.RisingLemmas.{all_better}

same : (m n : ℕ) → eqb m n ≡ true → m ≡ n
same m n h = grind (arith, nat_tests)

other : (m n : ℕ) → (m ≡ n → ⊥) → eqb m n ≡ false
other m n h = by_test (eqb m n) (λ e. absurd (h (same m n e))) (λ e. e)

none_some : {X : Type 0} {P : Type 0} {x : X} → None ≡ Some x → P
none_some h = absurd (let no_one : ⊥ = cc in no_one)

or_none : (o : Option ℕ) → or_else o None ≡ o
or_none None = refl
or_none (Some x) = refl

-- places of the same locate differ by their prices
one_line : (l p n : ℕ) → is_at (place_cmp (l, p)) (l, n) ≡ eqb p n
one_line l p n =
    by_test (eqb p n)
    (λ e. subst (λ m. is_at (place_cmp (l, p)) (l, m) ≡ true) (same p n e) (place_self (l, p)) ∙ sym e)
    (λ e. by_test (is_at (place_cmp (l, p)) (l, n))
    (λ f. let is : p ≡ n = ap (λ (a : Place). a.1) (place_is (l, p) (l, n) f) in
    absurd (false≢true (sym e ∙ subst (λ m. eqb p m ≡ true) is (let own : eqb p p ≡ true = grind (arith, nat_tests) in own))))
    (λ f. f ∙ sym e))

two_lines : (l p m n : ℕ) → eqb l m ≡ false → is_at (place_cmp (l, p)) (m, n) ≡ false
two_lines l p m n h = by_test (is_at (place_cmp (l, p)) (m, n))
    (λ f. let is : l ≡ m = ap (λ (a : Place). a.0) (place_is (l, p) (m, n) f) in
    absurd (false≢true (sym h ∙ subst (λ k. eqb l k ≡ true) is (let own : eqb l l ≡ true = grind (arith, nat_tests) in own))))
    (λ f. f)

lookup_line : (l p : ℕ) (xs : List Level) → queue_at (places_of l xs) l p ≡ queue_in xs p
lookup_line l p [] = refl
lookup_line l p (x ∷ xs) =
    ap (λ b. cond b (Some x.queue) (queue_at (places_of l xs) l p)) (one_line l p x.price) ∙ ap (cond (eqb p x.price) (Some x.queue)) (lookup_line l p xs)

lookup_other : (l p m : ℕ) (xs : List Level) → eqb l m ≡ false → queue_at (places_of m xs) l p ≡ None
lookup_other l p m [] h = refl
lookup_other l p m (x ∷ xs) h = let f = two_lines l p m x.price h in simp f (lookup_other l p m xs h)

lookup_both : (es bs : List (Place × ℕ)) (l p : ℕ) → queue_at (es ++ bs) l p ≡ or_else (queue_at es l p) (queue_at bs l p)
lookup_both [] bs l p = refl
lookup_both (a ∷ es) bs l p = let rest = lookup_both es bs l p in by_test (is_at (place_cmp (l, p)) a.0) (λ e. simp e refl) (λ e. simp e rest)

lookup_before : (n l p : ℕ) (ls : List (List Level)) → l < n → queue_at (places_from n ls) l p ≡ None
lookup_before n l p [] h = refl
lookup_before n l p (xs ∷ ls) h =
    lookup_both (places_of n xs) (places_from (suc n) ls) l p
    ∙ ap (λ o. or_else o (queue_at (places_from (suc n) ls) l p)) (lookup_other l p n xs (other l n (λ e. let no : ⊥ = omega arith in no)))
    ∙ lookup_before (suc n) l p ls (omega arith)

lookup_from : (n l m p : ℕ) (ls : List (List Level)) → m ≡ n + l → queue_at (places_from n ls) m p ≡ queue_in (line_of ls l) p
lookup_from n l m p [] h = refl
lookup_from n zero m p (xs ∷ ls) h =
    let here : n ≡ m = omega arith in
    lookup_both (places_of n xs) (places_from (suc n) ls) m p
    ∙ ap (or_else (queue_at (places_of n xs) m p)) (lookup_before (suc n) m p ls (omega arith))
    ∙ or_none (queue_at (places_of n xs) m p) ∙ subst (λ k. queue_at (places_of n xs) k p ≡ queue_in xs p) here (lookup_line n p xs)
lookup_from n (suc l) m p (xs ∷ ls) h =
    lookup_both (places_of n xs) (places_from (suc n) ls) m p
    ∙ ap (λ o. or_else o (queue_at (places_from (suc n) ls) m p)) (lookup_other m p n xs (other m n (λ e. let no : ⊥ = omega arith in no)))
    ∙ lookup_from (suc n) l m p ls (omega arith)

-- the queue at a place is in its line, or in a overflow level
pub on_levels : (ls : List (List Level)) (overflow : List (Place × ℕ)) (l p : ℕ) → queue_at (levels_in ls overflow) l p ≡ queue_among ls overflow l p
on_levels ls overflow l p = lookup_both (places_from 0 ls) overflow l p ∙ ap (λ o. or_else o (queue_at overflow l p)) (lookup_from 0 l l p ls (omega arith))

-- no place has two queues
apart_both : (es bs : List (Place × ℕ)) → AreApart es → AreApart bs → ((l p q : ℕ) → queue_at es l p ≡ Some q → queue_at bs l p ≡ None) → AreApart (es ++ bs)
apart_both [] bs a b differ = b
apart_both (e ∷ es) bs a b differ = (
  lookup_both es bs e.0.0 e.0.1 ∙ ap (λ o. or_else o (queue_at bs e.0.0 e.0.1)) a.0 ∙ differ e.0.0 e.0.1 e.1 (let own = place_self e.0 in simp own refl),
  apart_both es bs a.1 b (λ l p q h. by_test (is_at (place_cmp (l, p)) e.0) (λ f. differ l p e.1 (simp f refl)) (λ f. differ l p q (simp f h))),
)

apart_line : (s : Side) (l : ℕ) (xs : List Level) → IsRising s xs → AreApart (places_of l xs)
apart_line s l [] h = tt
apart_line s l (x ∷ xs) h = (lookup_line l x.price xs ∙ all_better s x.price xs h.0, apart_line s l xs h.1)

apart_from : (s : Side) (n : ℕ) (ls : List (List Level)) → ((l : ℕ) → IsRising s (line_of ls l)) → AreApart (places_from n ls)
apart_from s n [] h = tt
apart_from s n (xs ∷ ls) h = apart_both (places_of n xs) (places_from (suc n) ls) (apart_line s n xs (h 0)) (apart_from s (suc n) ls (λ l. h (suc l)))
    (λ l p q found. by_test (eqb l n)
    (λ e. lookup_before (suc n) l p ls (let is = same l n e in omega arith))
    (λ e. none_some (sym (lookup_other l p n xs e) ∙ found)))

-- nothing is found beyond a larger place
past_none : (a : Place) (es : List (Place × ℕ)) → AllByRecursion (λ (k : Place). place_cmp a k ≡ Less) (keys_of es) → lookup (is_at (place_cmp a)) es ≡ None
past_none a [] h = refl
past_none a (e ∷ es) h = let f = ap is_eq h.0 in simp f (past_none a es h.1)

apart_far : (es : List (Place × ℕ)) → IsStrictlySortedBy place_cmp (keys_of es) → AreApart es
apart_far [] h = tt
apart_far (e ∷ es) h = (past_none e.0 es (sorted_head place_cmp e.0 (keys_of es) h), apart_far es (sorted_tail place_cmp e.0 (keys_of es) h))

pub apart_levels : (s : Side) (ls : List (List Level)) (overflow : List (Place × ℕ)) → IsParted s ls overflow → AreApart (levels_in ls overflow)
apart_levels s ls overflow is =
    apart_both (places_from 0 ls) overflow (apart_from s 0 ls is.rising) (apart_far overflow is.sorted) (λ l p q h. is.parted l p q (sym (lookup_from 0 l l p ls (omega arith)) ∙ h))

-- the line of a vector
line_here : {A : Type 0} (lines : List (Vec Level A)) (l : ℕ) (v : Vec Level A) → l < length lines → v ≡ get_or lines l v → v.items ≡ line_of (as_lines lines) l
line_here {A = A} lines l v within read = ap (λ (u : Vec Level A). u.items) read ∙ sym (get_or-map (λ (u : Vec Level A). u.items) lines l v [] within)

-- the line found by indexing vectors
pub line_read : {A : Type 0} (lines : List (Vec Level A)) (l : ℕ) (v : Vec Level A) → true ≡ ltb l (length lines) → v ≡ get_or lines l v → v.items ≡ line_of (as_lines lines) l
line_read {A = A} lines l v within read =
    let lt : l < length lines = grind (arith, nat_tests) in line_here lines l v lt read

pub line_past : {A : Type 0} (lines : List (Vec Level A)) (l : ℕ) → false ≡ ltb l (length lines) → [] ≡ line_of (as_lines lines) l
line_past {A = A} lines l past =
    let le : length (as_lines lines) ≤ l = (let e : length lines ≤ l = grind (arith, nat_tests) in let f = length-map lines (λ (u : Vec Level A). u.items) in omega (arith, e, f)) in
    sym (get_or_past (as_lines lines) l [] le)

-- one more line without levels
pub line_more : (ls : List (List Level)) (l : ℕ) → line_of (ls ++ [] ∷ []) l ≡ line_of ls l
line_more [] zero = refl
line_more [] (suc l) = refl
line_more (xs ∷ ls) zero = refl
line_more (xs ∷ ls) (suc l) = line_more ls l

pub places_more : (n : ℕ) (ls : List (List Level)) → places_from n (ls ++ [] ∷ []) ≡ places_from n ls
places_more n [] = refl
places_more n (xs ∷ ls) = ap (λ t. places_of n xs ++ t) (places_more (suc n) ls)

-- the lines extend further, with the same levels
pub record IsReach (old new : List (List Level)) : Type 0 where
  pub lines : (l : ℕ) → line_of new l ≡ line_of old l
  pub places : places_from 0 new ≡ places_from 0 old

pub reach_more : {A : Type 0} (old : List (List Level)) (lines lines' : List (Vec Level A)) (v : Vec Level A) → lines' ≡ lines ++ v ∷ [] → v.items ≡ [] → IsReach old (as_lines lines) → IsReach old (as_lines lines')
reach_more {A = A} old lines lines' v pushed empty is =
    let more : as_lines lines' ≡ as_lines lines ++ [] ∷ [] =
    ap (λ (vs : List (Vec Level A)). as_lines vs) pushed ∙ map-append (λ (u : Vec Level A). u.items) lines (v ∷ []) ∙ ap (λ (t : List Level). as_lines lines ++ t ∷ []) empty in
    subst (IsReach old) (sym more) (record { lines = λ l. line_more (as_lines lines) l ∙ is.lines l; places = places_more 0 (as_lines lines) ∙ is.places })

pub reach_same : {A : Type 0} (old : List (List Level)) (lines lines' : List (Vec Level A)) → lines' ≡ lines → IsReach old (as_lines lines) → IsReach old (as_lines lines')
reach_same {A = A} old lines lines' same_items is = subst (λ (vs : List (Vec Level A)). IsReach old (as_lines vs)) (sym same_items) is

-- another line of a locate
module _ (ls : List (List Level)) (l : ℕ) (xs : List Level) (within : l < length ls) where
  line_set : (k : ℕ) → eqb l k ≡ true → line_of (set ls l xs) k ≡ xs
  line_set k e = subst (λ n. line_of (set ls l xs) n ≡ xs) (same l k e) (get_or-set_same ls l xs [] within)

  line_kept : (k : ℕ) → eqb l k ≡ false → line_of (set ls l xs) k ≡ line_of ls k
  line_kept k e = get_or-set_other ls l k xs [] (λ (is : k ≡ l). false≢true (sym e ∙ subst (λ n. eqb l n ≡ true) (sym is) (let own : eqb l l ≡ true = grind (arith, nat_tests) in own)))

  pub set_rising : (s : Side) → ((k : ℕ) → IsRising s (line_of ls k)) → IsRising s xs → (k : ℕ) → IsRising s (line_of (set ls l xs) k)
  set_rising s h new k = by_test (eqb l k) (λ e. subst (IsRising s) (sym (line_set k e)) new) (λ e. subst (IsRising s) (sym (line_kept k e)) (h k))

  pub set_queues : (price : ℕ) (o : Option ℕ) → ((p : ℕ) → queue_in xs p ≡ cond (eqb price p) o (queue_in (line_of ls l) p))
      → (k p : ℕ) → queue_in (line_of (set ls l xs) k) p ≡ cond (is_at (place_cmp (l, price)) (k, p)) o (queue_in (line_of ls k) p)
  set_queues price o h k p = by_test (eqb l k)
      (λ e. subst (λ n. queue_in (line_of (set ls l xs) n) p ≡ cond (is_at (place_cmp (l, price)) (n, p)) o (queue_in (line_of ls n) p)) (same l k e)
      (ap (λ (t : List Level). queue_in t p) (get_or-set_same ls l xs [] within) ∙ h p ∙ ap (λ b. cond b o (queue_in (line_of ls l) p)) (sym (one_line l price p))))
      (λ e. let f = two_lines l price k p e in ap (λ (t : List Level). queue_in t p) (line_kept k e) ∙ simp f refl)

-- another vector of a locate
module _ {A : Type 0} (lines : List (Vec Level A)) (l : ℕ) (v v' : Vec Level A) (within : l < length lines) (read : v ≡ get_or lines l v) where
  inside : l < length (as_lines lines)
  inside = let e = length-map lines (λ (u : Vec Level A). u.items) in omega (arith, e, within)

  written : as_lines (set lines l v') ≡ set (as_lines lines) l v'.items
  written = map-set (λ (u : Vec Level A). u.items) lines l v'

  pub vec_line : v.items ≡ line_of (as_lines lines) l
  vec_line = line_here lines l v within read

  pub vec_rising : (s : Side) → ((k : ℕ) → IsRising s (line_of (as_lines lines) k)) → IsRising s v'.items → (k : ℕ) → IsRising s (line_of (as_lines (set lines l v')) k)
  vec_rising s h new k = subst (λ (t : List (List Level)). IsRising s (line_of t k)) (sym written) (set_rising (as_lines lines) l v'.items inside s h new k)

  pub vec_queues : (price : ℕ) (o : Option ℕ) → ((p : ℕ) → queue_in v'.items p ≡ cond (eqb price p) o (queue_in v.items p))
      → (k p : ℕ) → queue_in (line_of (as_lines (set lines l v')) k) p ≡ cond (is_at (place_cmp (l, price)) (k, p)) o (queue_in (line_of (as_lines lines) k) p)
  vec_queues price o h k p =
      ap (λ (t : List (List Level)). queue_in (line_of t k) p) written
      ∙ set_queues (as_lines lines) l v'.items inside price o (λ n. h n ∙ ap (λ (t : List Level). cond (eqb price n) o (queue_in t n)) vec_line) k p

  pub vec_same : v'.items ≡ v.items → as_lines (set lines l v') ≡ as_lines lines
  vec_same h = map-set_same (λ (u : Vec Level A). u.items) lines l v' v (h ∙ ap (λ (u : Vec Level A). u.items) read)

-- lines that extend further
module _ (ls ls' : List (List Level)) (overflow : List (Place × ℕ)) (lines_same : (l : ℕ) → line_of ls' l ≡ line_of ls l) where
  pub reached_queues : (l p : ℕ) → queue_among ls' overflow l p ≡ queue_among ls overflow l p
  reached_queues l p = ap (λ (t : List Level). or_else (queue_in t p) (queue_at overflow l p)) (lines_same l)

pub reached_parted : (s : Side) (ls ls' : List (List Level)) (overflow : List (Place × ℕ)) → IsParted s ls overflow → ((l : ℕ) → line_of ls' l ≡ line_of ls l) → IsParted s ls' overflow
reached_parted s ls ls' overflow is same_lines = record {
  rising = λ l. subst (IsRising s) (sym (same_lines l)) (is.rising l);
  parted = λ l p q h. is.parted l p q (ap (λ (t : List Level). queue_in t p) (sym (same_lines l)) ∙ h);
  sorted = is.sorted;
}

-- a change at one place
module _ (s : Side) (ls : List (List Level)) (overflow : List (Place × ℕ)) (is : IsParted s ls overflow) (l price : ℕ) where
  -- it is that place or another one
  pub by_place : (P : ℕ → ℕ → Type 0) (k p : ℕ) → (is_at (place_cmp (l, price)) (l, price) ≡ true → P l price) → (is_at (place_cmp (l, price)) (k, p) ≡ false → P k p) → P k p
  by_place P k p here there = by_test (is_at (place_cmp (l, price)) (k, p))
      (λ e. subst (λ (a : Place). P a.0 a.1) (place_is (l, price) (k, p) e) (here (place_self (l, price))))
      there

  both_none : queue_among ls overflow l price ≡ None → (queue_in (line_of ls l) price ≡ None) × (queue_at overflow l price ≡ None)
  both_none h = by (queue_in (line_of ls l) price) refl
    where
      by : (o : Option ℕ) → queue_in (line_of ls l) price ≡ o → (o ≡ None) × (queue_at overflow l price ≡ None)
      by None e = (refl, sym (ap (λ o. or_else o (queue_at overflow l price)) e) ∙ h)
      by (Some x) e = none_some (sym h ∙ ap (λ o. or_else o (queue_at overflow l price)) e)

  module _ (new : queue_among ls overflow l price ≡ None) (q : ℕ) where
    pub none_near : queue_in (line_of ls l) price ≡ None
    none_near = (both_none new).0

    module _ (overflow' : List (Place × ℕ)) (sorted : IsStrictlySortedBy place_cmp (keys_of overflow'))
        (puts : (k p : ℕ) → queue_at overflow' k p ≡ cond (is_at (place_cmp (l, price)) (k, p)) (Some q) (queue_at overflow k p)) where
      pub overflow_parted : IsParted s ls overflow'
      overflow_parted = record {
        rising = is.rising;
        parted = λ k p n h. by_place (λ k p. queue_in (line_of ls k) p ≡ Some n → queue_at overflow' k p ≡ None) k p
            (λ e found. none_some (sym none_near ∙ found))
            (λ e found. puts k p ∙ (let kept : cond (is_at (place_cmp (l, price)) (k, p)) (Some q) (queue_at overflow k p) ≡ queue_at overflow k p = simp e refl in kept) ∙ is.parted k p n found) h;
        sorted = sorted;
      }

      pub overflow_queues : (k p : ℕ) → queue_among ls overflow' k p ≡ cond (is_at (place_cmp (l, price)) (k, p)) (Some q) (queue_among ls overflow k p)
      overflow_queues k p = by_place (λ k p. queue_among ls overflow' k p ≡ cond (is_at (place_cmp (l, price)) (k, p)) (Some q) (queue_among ls overflow k p)) k p
          (λ e. ap (λ o. or_else o (queue_at overflow' l price)) none_near ∙ puts l price ∙ simp e refl)
          (λ e. ap (or_else (queue_in (line_of ls k) p)) (puts k p) ∙ simp e refl)

  -- the queue of the place was removed from its line
  module _ (ls' : List (List Level)) (rising : (k : ℕ) → IsRising s (line_of ls' k))
      (cuts : (k p : ℕ) → queue_in (line_of ls' k) p ≡ cond (is_at (place_cmp (l, price)) (k, p)) None (queue_in (line_of ls k) p)) where
    still : (k p n : ℕ) → queue_in (line_of ls' k) p ≡ Some n → (is_at (place_cmp (l, price)) (k, p) ≡ false) × (queue_in (line_of ls k) p ≡ Some n)
    still k p n h = by_test (is_at (place_cmp (l, price)) (k, p))
        (λ e. let gone : queue_in (line_of ls' k) p ≡ None = cuts k p ∙ simp e refl in none_some (sym gone ∙ h))
        (λ e. (e, sym (cuts k p ∙ simp e refl) ∙ h))

    module _ (overflow' : List (Place × ℕ)) (sorted : IsStrictlySortedBy place_cmp (keys_of overflow'))
        (takes : (k p : ℕ) → queue_at overflow' k p ≡ cond (is_at (place_cmp (l, price)) (k, p)) None (queue_at overflow k p)) where
      pub gone_parted : IsParted s ls' overflow'
      gone_parted = record {
        rising = rising;
        parted = λ k p n h. takes k p ∙ (let it = still k p n h in let e = it.0 in simp e (is.parted k p n it.1));
        sorted = sorted;
      }

      pub gone_queues : (k p : ℕ) → queue_among ls' overflow' k p ≡ cond (is_at (place_cmp (l, price)) (k, p)) None (queue_among ls overflow k p)
      gone_queues k p = ap (λ o. or_else o (queue_at overflow' k p)) (cuts k p) ∙ ap (or_else (cond (is_at (place_cmp (l, price)) (k, p)) None (queue_in (line_of ls k) p))) (takes k p)
          ∙ by_test (is_at (place_cmp (l, price)) (k, p)) (λ e. simp e refl) (λ e. simp e refl)
