-- The list after a change is a book's list.
use Rattle.std.proofs.Common.{◌≡◌, ℕ, ◌<◌, true, List, None, sym, subst}
use Rattle.std.specs.Prelude.{Result, Ok, Err, OnOk, OnErr}
use Rattle.itch_book.specs.declared.order.Order.{Order}
use Rattle.itch_book.specs.Orders.{get, lay, added, taken, without, replaced, fits, IsBook}
use Rattle.itch_book.proofs.BookLemmas.{IsBook-added, IsBook-taken, IsBook-without, IsBook-replaced}

either : {T E P Q R : Type 0} (r : Result T E) → OnOk r P → OnErr r Q → (P → R) → (Q → R) → R
either (Ok x) p q f g = f p
either (Err e) p q f g = g q

pub kept_added : {T E : Type 0} (r : Result T E) (x : Order) (xs ys : List Order) → IsBook xs → 0 < x.shares → fits x ≡ true → get xs x.reference ≡ None → OnOk r (ys ≡ lay (added x xs)) → OnErr r (ys ≡ xs) → IsBook ys
kept_added r x xs ys book some fit fresh ok err = either r ok err (λ e. subst IsBook (sym e) (IsBook-added x xs book (some, fit) fresh)) (λ e. subst IsBook (sym e) book)

pub kept_taken : (r n : ℕ) (xs ys : List Order) → IsBook xs → ys ≡ lay (taken r n xs) → IsBook ys
kept_taken r n xs ys book e = subst IsBook (sym e) (IsBook-taken r n xs book)

pub kept_without : (r : ℕ) (xs ys : List Order) → IsBook xs → ys ≡ lay (without r xs) → IsBook ys
kept_without r xs ys book e = subst IsBook (sym e) (IsBook-without r xs book)

pub kept_replaced : {T E : Type 0} (result : Result T E) (original reference shares price : ℕ) (xs ys : List Order) → IsBook xs → 0 < shares → get xs reference ≡ None
    → OnOk result (ys ≡ lay (replaced original reference shares price xs)) → OnErr result (ys ≡ xs) → IsBook ys
kept_replaced result original reference shares price xs ys book some fresh ok err =
    either result ok err (λ e. subst IsBook (sym e) (IsBook-replaced original reference shares price xs book some fresh)) (λ e. subst IsBook (sym e) book)
