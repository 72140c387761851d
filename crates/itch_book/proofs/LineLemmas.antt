-- In a sorted line, a wanted order is at the end of the search, or there is none.
use Rattle.std.proofs.Common.{◌≡◌, ℕ, ◌≤◌, ◌<◌, ◌==◌, nat_lt, ltb, Bool, true, false, not, cond, ◌&&◌, ◌||◌, List, [], ◌∷◌, length, find, get_or, slice_get, Option, Some, None, refl, sym, ap, ◌∙◌, arith, inl, inr}
use Rattle.std.specs.List.{AllByRecursion, position_or_len}
use Rattle.std.specs.List.Sorted.{IsPartitionedBy, IsPartitionPoint}
use Rattle.std.proofs.lemmas.Bool.{false≢true, cases_eq, not-true, not-false, not_from_false}
use Rattle.std.proofs.lemmas.Bool.Decides.{nat_tests}
use Rattle.std.proofs.lemmas.List.Sums.{position_or_len_is}
use Rattle.std.proofs.lemmas.List.Folds.{find_at}
use Rattle.std.proofs.lemmas.Option.{slice_get_read, slice_get_past}
use Rattle.itch_codec.specs.declared.orders.Side.{Side}
use Rattle.itch_codec.specs.declared.orders.Side.TheVariants.{Buy, Sell}
use Rattle.itch_book.specs.declared.arrived.Arrived.{Arrived}
use Rattle.itch_book.specs.declared.arrived.Wanted.{Wanted}
use Rattle.itch_book.specs.declared.arrived.Wanted.TheVariants.{In, Next, After}
use Rattle.itch_book.specs.StableLists.{IsInOrder}
use Rattle.itch_book.specs.Orders.{is_in, same_side, is_worse, place_before, stands_before}
use Rattle.itch_book.specs.Settled.{comes_before, wants, begins}
use Rattle.itch_book.proofs.Lists.{by_test, All-weaker_rec}
use Rattle.itch_book.proofs.OrderLemmas.{lower_stands}
use Rattle.itch_book.proofs.PlaceLemmas.{in_order_places}
use Rattle.itch_book.proofs.StableLemmas.{before_chain}
use Rattle.itch_book.proofs.SettledLemmas.{arrival_order}

-- the match, if it meets a condition
abbrev pub kept : (Arrived → Bool) → Option Arrived → Option Arrived
kept q None = None
kept q (Some x) = cond (q x) (Some x) None

find_none : (q : Arrived → Bool) (xs : List Arrived) → AllByRecursion (λ x. q x ≡ false) xs → find q xs ≡ None
find_none q [] h = refl
find_none q (x ∷ xs) h = simp (h.0) (find_none q xs h.1)

module _ (q b : Arrived → Bool) (early : (y : Arrived) → b y ≡ false → q y ≡ false) (late : (y z : Arrived) → b y ≡ true → q y ≡ false → comes_before z y ≡ false → q z ≡ false) where
  -- the first match of q is at the first match of b or after it
  pub found_from : (line : List Arrived) → IsInOrder comes_before line → find q line ≡ kept q (find b line)
  found_from [] h = refl
  found_from (y ∷ ys) h =
      by_test (b y)
      (λ e. by_test (q y) (λ f. simp (e, f) refl) (λ f. simp (e, f) (find_none q ys (All-weaker_rec (λ z. comes_before z y ≡ false) (λ z. q z ≡ false) (λ z k. late y z e f k) ys h.0))))
      (λ e. let f = early y e in simp (e, f) (found_from ys h.1))

  module _ (on : (y z : Arrived) → b y ≡ true → comes_before z y ≡ false → b z ≡ true) where
    parted_by : (line : List Arrived) → IsInOrder comes_before line → IsPartitionedBy (λ y. not (b y)) line
    parted_by line h i j d le within e =
        let last : b (get_or line j d) ≡ false = not-true (b (get_or line j d)) e in
        elim (cases_eq i j) [
          | inl same ↦ rw same e
          | inr differ ↦ by_test (b (get_or line i d))
              (λ f. absurd (false≢true (sym last ∙ on (get_or line i d) (get_or line j d) f (in_order_places comes_before line i j d h (omega arith) within))))
              (λ f. not_from_false (b (get_or line i d)) f)
        ]

    -- the end of the search
    place_by : (line : List Arrived) (i : ℕ) (d : Arrived) → i ≤ length line → IsPartitionPoint (λ y. not (b y) ≡ true) (λ y. not (b y) ≡ false) line i → IsInOrder comes_before line
        → find q line ≡ kept q (slice_get line i)
    place_by line i d within point h =
        let place : i ≡ position_or_len b line =
        sym (position_or_len_is b line i d within (λ k lt. not-true (b (get_or line k d)) (point.0 k d (omega arith) lt)) (λ lt. not-false (b (get_or line i d)) (point.1 i d (omega arith) lt))) in
        found_from line h ∙ ap (kept q) (find_at b line ∙ ap (slice_get line) (sym place))

-- an order that does not come before another one has no lower locate, and is not before it
pub not_standing : (y z : Arrived) → comes_before z y ≡ false → stands_before z.order y.order ≡ false
not_standing y z k =
    by_test (stands_before z.order y.order)
    (λ e. let no : true ≡ false = simp e at k in absurd (false≢true (sym no)))
    (λ e. e)

pub not_lower : (y z : Arrived) → comes_before z y ≡ false → nat_lt z.order.locate y.order.locate ≡ false
not_lower y z k =
    by_test (nat_lt z.order.locate y.order.locate)
    (λ e. let lower : z.order.locate < y.order.locate = grind (arith, nat_tests) in
    absurd (false≢true (sym (not_standing y z k) ∙ lower_stands z.order y.order lower)))
    (λ e. e)

in_late : (l : ℕ) (y z : Arrived) → begins (In l) y ≡ true → wants (In l) y ≡ false → comes_before z y ≡ false → wants (In l) z ≡ false
in_late l y z h k f = let n = not_lower y z f in grind (arith, nat_tests)

in_on : (l : ℕ) (y z : Arrived) → begins (In l) y ≡ true → comes_before z y ≡ false → begins (In l) z ≡ true
in_on l y z h f = let n = not_lower y z f in grind (arith, nat_tests)

-- an order of this locate and side, or one after all of those
abbrev at_side : ℕ → Side → ℕ → Side → Bool
at_side l s m t = (m == l) && same_side t s

abbrev from_side : ℕ → Side → ℕ → Side → Bool
from_side l s m t = nat_lt l m || ((m == l) && (same_side s Buy || same_side t Sell))

abbrev from_next : ℕ → Side → Option ℕ → ℕ → Side → ℕ → Bool
from_next l s last m t q = from_side l s m t && (not (at_side l s m t) || is_worse s last q)

abbrev next_at : ℕ → Side → Option ℕ → ℕ → Side → ℕ → Bool
next_at l s last m t q = at_side l s m t && is_worse s last q

next_early : (s t : Side) (last : Option ℕ) (l m q : ℕ) → from_next l s last m t q ≡ false → next_at l s last m t q ≡ false
next_early Buy Buy None l m q h = grind (arith, nat_tests)
next_early Buy Buy (Some p) l m q h = grind (arith, nat_tests)
next_early Buy Sell None l m q h = grind (arith, nat_tests)
next_early Buy Sell (Some p) l m q h = grind (arith, nat_tests)
next_early Sell Buy None l m q h = grind (arith, nat_tests)
next_early Sell Buy (Some p) l m q h = grind (arith, nat_tests)
next_early Sell Sell None l m q h = grind (arith, nat_tests)
next_early Sell Sell (Some p) l m q h = grind (arith, nat_tests)

next_late : (s t u : Side) (last : Option ℕ) (l m q n r : ℕ) → from_next l s last m t q ≡ true → next_at l s last m t q ≡ false → place_before n u r m t q ≡ false → next_at l s last n u r ≡ false
next_late Buy Buy Buy None l m q n r h k f = grind (arith, nat_tests)
next_late Buy Buy Buy (Some p) l m q n r h k f = grind (arith, nat_tests)
next_late Buy Buy Sell None l m q n r h k f = grind (arith, nat_tests)
next_late Buy Buy Sell (Some p) l m q n r h k f = grind (arith, nat_tests)
next_late Buy Sell Buy None l m q n r h k f = grind (arith, nat_tests)
next_late Buy Sell Buy (Some p) l m q n r h k f = grind (arith, nat_tests)
next_late Buy Sell Sell None l m q n r h k f = grind (arith, nat_tests)
next_late Buy Sell Sell (Some p) l m q n r h k f = grind (arith, nat_tests)
next_late Sell Buy Buy None l m q n r h k f = grind (arith, nat_tests)
next_late Sell Buy Buy (Some p) l m q n r h k f = grind (arith, nat_tests)
next_late Sell Buy Sell None l m q n r h k f = grind (arith, nat_tests)
next_late Sell Buy Sell (Some p) l m q n r h k f = grind (arith, nat_tests)
next_late Sell Sell Buy None l m q n r h k f = grind (arith, nat_tests)
next_late Sell Sell Buy (Some p) l m q n r h k f = grind (arith, nat_tests)
next_late Sell Sell Sell None l m q n r h k f = grind (arith, nat_tests)
next_late Sell Sell Sell (Some p) l m q n r h k f = grind (arith, nat_tests)

next_on : (s t u : Side) (last : Option ℕ) (l m q n r : ℕ) → from_next l s last m t q ≡ true → place_before n u r m t q ≡ false → from_next l s last n u r ≡ true
next_on Buy Buy Buy None l m q n r h f = grind (arith, nat_tests)
next_on Buy Buy Buy (Some p) l m q n r h f = grind (arith, nat_tests)
next_on Buy Buy Sell None l m q n r h f = grind (arith, nat_tests)
next_on Buy Buy Sell (Some p) l m q n r h f = grind (arith, nat_tests)
next_on Buy Sell Buy None l m q n r h f = grind (arith, nat_tests)
next_on Buy Sell Buy (Some p) l m q n r h f = grind (arith, nat_tests)
next_on Buy Sell Sell None l m q n r h f = grind (arith, nat_tests)
next_on Buy Sell Sell (Some p) l m q n r h f = grind (arith, nat_tests)
next_on Sell Buy Buy None l m q n r h f = grind (arith, nat_tests)
next_on Sell Buy Buy (Some p) l m q n r h f = grind (arith, nat_tests)
next_on Sell Buy Sell None l m q n r h f = grind (arith, nat_tests)
next_on Sell Buy Sell (Some p) l m q n r h f = grind (arith, nat_tests)
next_on Sell Sell Buy None l m q n r h f = grind (arith, nat_tests)
next_on Sell Sell Buy (Some p) l m q n r h f = grind (arith, nat_tests)
next_on Sell Sell Sell None l m q n r h f = grind (arith, nat_tests)
next_on Sell Sell Sell (Some p) l m q n r h f = grind (arith, nat_tests)

after_early : (t y : Arrived) → comes_before t y ≡ false → wants (After t) y ≡ false
after_early t y h = by_test (is_in t.order.locate y.order) (λ i. simp (i, h) refl) (λ i. simp (i, h) refl)

after_late : (t y z : Arrived) → comes_before t y ≡ true → wants (After t) y ≡ false → comes_before z y ≡ false → wants (After t) z ≡ false
after_late t y z h k f =
    let n = not_lower y z f in
    let m = not_lower t y (arrival_order.one_way t y h) in
    let other : is_in t.order.locate y.order ≡ false = by_test (is_in t.order.locate y.order) (λ i. let no : true ≡ false = simp (i, h) at k in absurd (false≢true (sym no))) (λ i. i) in
    let apart : is_in t.order.locate z.order ≡ false = grind (arith, nat_tests) in simp apart refl

-- no wanted order is before the point where they may begin
pub early : (w : Wanted) (y : Arrived) → begins w y ≡ false → wants w y ≡ false
early (In l) y h = grind (arith, nat_tests)
early (Next l s last) y h = next_early s y.order.side last l y.order.locate y.order.price h
early (After t) y h = after_early t y h

-- and none is after the first order from there on that is not wanted
pub late : (w : Wanted) (y z : Arrived) → begins w y ≡ true → wants w y ≡ false → comes_before z y ≡ false → wants w z ≡ false
late (In l) y z h k f = in_late l y z h k f
late (Next l s last) y z h k f = next_late s y.order.side z.order.side last l y.order.locate y.order.price z.order.locate z.order.price h k (not_standing y z f)
late (After t) y z h k f = after_late t y z h k f

on : (w : Wanted) (y z : Arrived) → begins w y ≡ true → comes_before z y ≡ false → begins w z ≡ true
on (In l) y z h f = in_on l y z h f
on (Next l s last) y z h f = next_on s y.order.side z.order.side last l y.order.locate y.order.price z.order.locate z.order.price h (not_standing y z f)
on (After t) y z h f = before_chain comes_before arrival_order t y z h f

pub line_parted : (w : Wanted) (line : List Arrived) → IsInOrder comes_before line → IsPartitionedBy (λ y. not (begins w y)) line
line_parted w line h = parted_by (wants w) (begins w) (early w) (late w) (on w) line h

-- the order at an index, unless the index is past the end
pub read_at : (line : List Arrived) (i : ℕ) (x : Arrived) → true ≡ ltb i (length line) → x ≡ get_or line i x → Some x ≡ slice_get line i
read_at line i x e read = let lt : i < length line = grind (arith, nat_tests) in sym (slice_get_read line (length line) i x refl lt read)

pub read_past : (line : List Arrived) (i : ℕ) → false ≡ ltb i (length line) → None ≡ slice_get line i
read_past line i e = let le : length line ≤ i = grind (arith, nat_tests) in sym (slice_get_past line i le)

module _ (w : Wanted) (line : List Arrived) (h : IsInOrder comes_before line) (i : ℕ) (within : i ≤ length line) (point : IsPartitionPoint (λ y. not (begins w y) ≡ true) (λ y. not (begins w y) ≡ false) line i) where
  line_place : (d : Arrived) → find (wants w) line ≡ kept (wants w) (slice_get line i)
  line_place d = place_by (wants w) (begins w) (early w) (late w) (on w) line i d within point h

  pub line_hit : (x : Arrived) → Some x ≡ slice_get line i → wants w x ≡ true → Some x ≡ find (wants w) line
  line_hit x here e = sym (line_place x ∙ ap (kept (wants w)) (sym here) ∙ simp e refl)

  pub line_miss : (x : Arrived) → Some x ≡ slice_get line i → wants w x ≡ false → None ≡ find (wants w) line
  line_miss x here e = sym (line_place x ∙ ap (kept (wants w)) (sym here) ∙ simp e refl)

  pub line_end : None ≡ slice_get line i → None ≡ find (wants w) line
  line_end none = by line refl
    where
      by : (ys : List Arrived) → ys ≡ line → None ≡ find (wants w) line
      by [] e = ap (find (wants w)) e
      by (d ∷ ys) e = sym (line_place d ∙ ap (kept (wants w)) (sym none))
