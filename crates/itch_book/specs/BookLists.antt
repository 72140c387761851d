-- Any two proofs that a list is the list of a book are equal, so a book may contain such a proof as a ghost field.
use Rattle.std.specs.Prelude.{◌≡◌, false, List, [], ◌∷◌}
use Rattle.std.specs.Coded.{×_prop, Π_prop, Unit-prop, le_prop, Coded-set, coded_bool}
use Rattle.std.specs.List.{AllByRecursion-prop}
use Rattle.itch_book.specs.declared.order.Order.{Order}
use Rattle.itch_book.specs.StableLists.{IsInOrder}
use Rattle.itch_book.specs.Orders.{stands_before, fits, IsLive, IsDistinct, IsBook}

-- any two proofs that a list is in order are equal
pub IsInOrder-prop : (xs : List Order) → IsProp (IsInOrder stands_before xs)
IsInOrder-prop [] = Unit-prop
IsInOrder-prop (x ∷ xs) = ×_prop (AllByRecursion-prop (λ y. stands_before y x ≡ false) (λ y. Coded-set coded_bool (stands_before y x) false) xs) (IsInOrder-prop xs)

-- any two proofs that references are distinct are equal
pub IsDistinct-prop : (xs : List Order) → IsProp (IsDistinct xs)
IsDistinct-prop xs = Π_prop (λ reference. le_prop)

-- any two proofs that an order may be live are equal
pub IsLive-prop : (x : Order) → IsProp (IsLive x)
IsLive-prop x = ×_prop le_prop (Coded-set coded_bool (fits x) _)

-- any two proofs that a list is the list of a book are equal
pub IsBook-prop : (xs : List Order) → IsProp (IsBook xs)
IsBook-prop xs = λ a b i. record {
  in_place = IsInOrder-prop xs a.in_place b.in_place i;
  distinct = IsDistinct-prop xs a.distinct b.distinct i;
  live = AllByRecursion-prop IsLive IsLive-prop xs a.live b.live i;
}
