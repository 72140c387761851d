-- The price levels of one side: one line of levels per locate, the best price last, and overflow levels, whose line was full.
use Rattle.std.specs.Prelude.{◌≡◌, ℕ, suc, true, cond, eqb, List, [], ◌∷◌, ◌++◌, map, Option, Some, None, slice_index_or}
use Rattle.std.specs.List.{AllByRecursion}
use Rattle.std.specs.List.Sorted.{IsStrictlySortedBy}
use Rattle.std.specs.Map.{keys_of}
use Rattle.std.specs.declared.vec.Vec.{Vec}
use Rattle.itch_codec.specs.declared.orders.Side.{Side}
use Rattle.itch_book.specs.Table.{or_else}
use Rattle.itch_book.specs.declared.level_lines.Level.{Level}
use Rattle.itch_book.specs.declared.side_levels.SideLevels.{SideLevels}
use Rattle.itch_book.specs.Orders.{is_better}
use Rattle.itch_book.specs.Indexed.{Place, place_cmp, queue_at}

-- the lines by locate
abbrev pub as_lines : {A : Type 0} → List (Vec Level A) → List (List Level)
as_lines {A} lines = map (λ (v : Vec Level A). v.items) lines

-- the line of a locate
abbrev pub line_of : List (List Level) → ℕ → List Level
line_of ls l = slice_index_or ls l []

-- the queue at a price of a line
abbrev pub queue_in : List Level → ℕ → Option ℕ
queue_in [] price = None
queue_in (x ∷ xs) price = cond (eqb price x.price) (Some x.queue) (queue_in xs price)

-- each price of a line is better than those before it
abbrev pub IsRising : Side → List Level → Type 0
IsRising side [] = Unit {0}
IsRising side (x ∷ xs) = AllByRecursion (λ (y : Level). is_better side y.price x.price ≡ true) xs × IsRising side xs

-- the queues of a line by their places
abbrev pub places_of : ℕ → List Level → List (Place × ℕ)
places_of l xs = map (λ (x : Level). ((l, x.price), x.queue)) xs

-- the queues of the lines of the locates from l on
abbrev pub places_from : ℕ → List (List Level) → List (Place × ℕ)
places_from l [] = []
places_from l (xs ∷ ls) = places_of l xs ++ places_from (suc l) ls

-- all queues of lines and of overflow levels
abbrev pub levels_in : List (List Level) → List (Place × ℕ) → List (Place × ℕ)
levels_in ls overflow = places_from 0 ls ++ overflow

-- the queue at a place
abbrev pub queue_among : List (List Level) → List (Place × ℕ) → ℕ → ℕ → Option ℕ
queue_among ls overflow l p = or_else (queue_in (line_of ls l) p) (queue_at overflow l p)

-- lines in order, and overflow levels in order, which are in no line
pub record IsParted (side : Side) (ls : List (List Level)) (overflow : List (Place × ℕ)) : Type 0 where
  pub rising : (l : ℕ) → IsRising side (line_of ls l)
  pub parted : (l p q : ℕ) → queue_in (line_of ls l) p ≡ Some q → queue_at overflow l p ≡ None
  pub sorted : IsStrictlySortedBy place_cmp (keys_of overflow)

-- the queues of the levels of a side
abbrev pub levels_on : {A : Type 0} → SideLevels A → List (Place × ℕ)
levels_on t = levels_in (as_lines t.lines.items) t.overflow.entries

abbrev pub queue_on : {A : Type 0} → SideLevels A → ℕ → ℕ → Option ℕ
queue_on t l p = queue_among (as_lines t.lines.items) t.overflow.entries l p

abbrev pub IsSideLevels : {A : Type 0} → Side → SideLevels A → Type 0
IsSideLevels side t = IsParted side (as_lines t.lines.items) t.overflow.entries

-- the better of two levels, if there are two
abbrev pub better_of : Side → Option (ℕ × ℕ) → Option (ℕ × ℕ) → Option (ℕ × ℕ)
better_of side None level = level
better_of side (Some one) None = Some one
better_of side (Some one) (Some other) = cond (is_better side other.0 one.0) (Some other) (Some one)

-- the queues of both sides by their places, as contracts describe the prices
pub record Priced : Type 0 where
  pub bids : List (Place × ℕ)
  pub asks : List (Place × ℕ)
