-- Lists sorted by a comparison, in which elements that tie keep their original order.
use Rattle.std.specs.Prelude.{◌≡◌, Bool, false, List, [], ◌∷◌, cond}
use Rattle.std.specs.List.{AllByRecursion}

-- x, which came earlier than all elements of the list, is inserted before the first element that is not before it
abbrev pub earlier_in : {A : Type 0} → (A → A → Bool) → A → List A → List A
earlier_in before x [] = x ∷ []
earlier_in before x (y ∷ ys) = cond (before y x) (y ∷ earlier_in before x ys) (x ∷ y ∷ ys)

-- the sorted list
abbrev pub in_order : {A : Type 0} → (A → A → Bool) → List A → List A
in_order before [] = []
in_order before (x ∷ xs) = earlier_in before x (in_order before xs)

-- no element is before an earlier one
abbrev pub IsInOrder : {A : Type 0} → (A → A → Bool) → List A → Type 0
IsInOrder before [] = Unit {0}
IsInOrder before (x ∷ xs) = AllByRecursion (λ y. before y x ≡ false) xs × IsInOrder before xs
