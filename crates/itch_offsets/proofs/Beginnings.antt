-- The row from which a range is read.
use Rattle.std.proofs.Common.{◌≡◌, ◌≤◌, ◌&&◌, nat_lt, Bool, true, false, List, [], ◌∷◌, Option, Some, IfSome, refl, sym, ap, subst, ◌∙◌, arith, if◌then◌else◌}
use Rattle.std.proofs.lemmas.Bool.{false≢true}
use Rattle.std.proofs.lemmas.Bool.Decides.{nat_tests}
use Rattle.std.specs.List.{AllByRecursion}
use Rattle.itch_book.proofs.Lists.{by_test}
use Rattle.itch_offsets.specs.Beginnings.{begin_after, better, may_begin, most_of}
use Rattle.itch_offsets.specs.declared.begin.Range.{Range}
use Rattle.itch_offsets.specs.declared.row.IndexRow.{IndexRow}

pub and_first : (x y : Bool) → (x && y) ≡ true → x ≡ true
and_first true y both = refl
and_first false y both = absurd (false≢true both)

pub and_second : (x y : Bool) → (x && y) ≡ true → y ≡ true
and_second true y both = both
and_second false y both = absurd (false≢true both)

pub one_more : (range : Range) (best : Option IndexRow) (row : IndexRow) (rows : List IndexRow) → begin_after range best (row ∷ rows) ≡ begin_after range (better range best row) rows
unfolding begin_after
one_more range best row rows = refl

pub no_more : (range : Range) (best : Option IndexRow) → begin_after range best [] ≡ best
unfolding begin_after
no_more range best = refl

-- a range can be read from this row
abbrev pub Begins : Range → IndexRow → Type 0
Begins range row = may_begin range row.cursor ≡ true

better_begins : (range : Range) (best : Option IndexRow) (row : IndexRow) → IfSome best (Begins range) → IfSome (better range best row) (Begins range)
better_begins range best row begins =
    by_test (nat_lt (most_of best) row.cursor.count && may_begin range row.cursor)
    (λ is. subst (λ (b : Bool). IfSome (if b then Some row else best) (Begins range)) (sym is) (and_second (nat_lt (most_of best) row.cursor.count) (may_begin range row.cursor) is))
    (λ not. subst (λ (b : Bool). IfSome (if b then Some row else best) (Begins range)) (sym not) begins)

pub begins : (range : Range) (best : Option IndexRow) (rows : List IndexRow) → IfSome best (Begins range) → IfSome (begin_after range best rows) (Begins range)
unfolding begin_after
begins range best [] h = h
begins range best (row ∷ rows) h = begins range (better range best row) rows (better_begins range best row h)

better_most : (range : Range) (best : Option IndexRow) (row : IndexRow) → most_of best ≤ most_of (better range best row)
better_most range best row =
    by_test (nat_lt (most_of best) row.cursor.count && may_begin range row.cursor)
    (λ is.
    let less : nat_lt (most_of best) row.cursor.count ≡ true = and_first (nat_lt (most_of best) row.cursor.count) (may_begin range row.cursor) is in
    subst (λ (b : Bool). most_of best ≤ most_of (if b then Some row else best)) (sym is) (grind (arith, nat_tests)))
    (λ not. subst (λ (b : Bool). most_of best ≤ most_of (if b then Some row else best)) (sym not) (omega arith))

better_than : (range : Range) (best : Option IndexRow) (row : IndexRow) → Begins range row → row.cursor.count ≤ most_of (better range best row)
better_than range best row here =
    by_test (nat_lt (most_of best) row.cursor.count)
    (λ less. subst (λ (b : Bool). row.cursor.count ≤ most_of (if b then Some row else best)) (sym (ap (λ b. b && may_begin range row.cursor) less ∙ here)) (omega arith))
    (λ not.
    let enough : row.cursor.count ≤ most_of best = grind (arith, nat_tests) in
    subst (λ (b : Bool). row.cursor.count ≤ most_of (if b then Some row else best)) (sym (ap (λ b. b && may_begin range row.cursor) not)) enough)

pub most_grows : (range : Range) (best : Option IndexRow) (rows : List IndexRow) → most_of best ≤ most_of (begin_after range best rows)
unfolding begin_after
most_grows range best [] = omega arith
most_grows range best (row ∷ rows) =
    let one = better_most range best row in
    let rest = most_grows range (better range best row) rows in
    omega (arith, one, rest)

pub most : (range : Range) (best : Option IndexRow) (rows : List IndexRow)
    → AllByRecursion (λ row. Begins range row → row.cursor.count ≤ most_of (begin_after range best rows)) rows
unfolding begin_after
most range best [] = tt
most range best (row ∷ rows) = (
  (λ here.
      let one = better_than range best row here in
      let rest = most_grows range (better range best row) rows in
      omega (arith, one, rest)),
  most range (better range best row) rows,
)
