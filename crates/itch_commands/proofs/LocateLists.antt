-- Lists of locates and of ranges of them, read one part at a time.
use Rattle.std.proofs.Common.{◌≡◌, ◌≢◌, ℕ, zero, suc, ◌+◌, ◌<◌, ◌≤◌, ◌^◌, Bool, true, false, eqb, nat_lt, not, ◌&&◌, ◌||◌, ◌⊎◌, inl, inr, List, [], ◌∷◌, ◌++◌, length, get_or, Result, Ok, Err, sym, refl, ap, subst, ◌∙◌, arith, rules, append_assoc, true≢false}
use Rattle.std.specs.Char.{is_ascii_digit}
use Rattle.std.specs.List.{list_any, list_all}
use Rattle.std.specs.Result.{MatchResult, IsErrAnd, OkIff}
use Rattle.std.specs.Str.Parse.{AllDigits, ParsesUnsigned, digits_value}
use Rattle.std.proofs.lemmas.Bool.Decides.{nat_tests}
use Rattle.std.proofs.lemmas.List.Folds.{list_any-append}
use Rattle.std.proofs.lemmas.Str.Parse.{IsNumeralModel, numerals_by_value, tells_digits, not_in_digits, parse_digits}
use Rattle.itch_market.specs.Wanted.{Wanted, has}
use Rattle.itch_commands.specs.Locates.{IsLocate, IsRange, is_in, IsListOf, ReadsLocates}
use Rattle.itch_commands.specs.declared.fault.ToolFault.{ToolFault}
use Rattle.itch_commands.specs.declared.fault.ToolFault.TheVariants as tool

-- the test of each byte holds for exactly the texts of digits
tested : IsNumeralModel (λ ds. list_all is_ascii_digit ds ≡ true) (digits_value 10)
tested = numerals_by_value _ (search rules)

numerals : IsNumeralModel (AllDigits 10) (digits_value 10)
numerals = numerals_by_value (AllDigits 10) tells_digits

-- a text with a byte that is not a digit is not a locate
pub not_digits : (text : List ℕ) (all : Bool) → all ≡ list_all is_ascii_digit text → all ≡ false → (locate : ℕ) → ¬ (IsLocate text locate)
not_digits text all decided other locate is = true≢false (sym (tested.from text is.0.1) ∙ sym decided ∙ other)

-- a text of digits is a locate exactly if it is read as a number of 16 bits
pub digits_parsed : {E : Type 0} (text : List ℕ) (all : Bool) (r : Result ℕ E) → all ≡ list_all is_ascii_digit text → all ≡ true → ParsesUnsigned 16 10 text r
    → MatchResult r (IsLocate text) (λ _. (locate : ℕ) → ¬ (IsLocate text locate))
digits_parsed text all r decided each parsed =
    let digits = tested.to text (sym decided ∙ each) in
    by_result r digits (parse_digits numerals 16 text r parsed digits) where
      by_result : {E : Type 0} (r : Result ℕ E) → AllDigits 10 text → OkIff r ((0 < length text) × (digits_value 10 text < 2 ^ 16)) (digits_value 10 text)
          → MatchResult r (IsLocate text) (λ _. (locate : ℕ) → ¬ (IsLocate text locate))
      by_result (Ok locate) digits ((some, low), same) = ((some, digits), sym same, omega arith)
      by_result (Err e) digits none = λ locate is. none (is.0.0, omega (arith, is.1, is.2))

-- and otherwise `map_err` returns the fault
pub fault_mapped : {E : Type 0} {Q : E → ToolFault → Type 0} (text : List ℕ) (r : Result ℕ E) (mapped : Result ℕ ToolFault)
    → MatchResult r (λ locate. mapped ≡ Ok locate) (λ e. IsErrAnd mapped (Q e)) → ((e : E) (fault : ToolFault) → Q e fault → fault ≡ tool.BadLocates)
    → MatchResult r (IsLocate text) (λ _. (locate : ℕ) → ¬ (IsLocate text locate))
    → MatchResult mapped (IsLocate text) (λ fault. (fault ≡ tool.BadLocates) × ((locate : ℕ) → ¬ (IsLocate text locate)))
fault_mapped text (Ok locate) mapped same bad is = rw same is
fault_mapped text (Err e) (Ok locate) same bad none = absurd same
fault_mapped text (Err e) (Err fault) same bad none = (bad e fault same, none)

-- a text without this byte
abbrev pub Lacks : ℕ → List ℕ → Type 0
Lacks byte xs = (i : ℕ) → i < length xs → get_or xs i 0 ≢ byte

-- a locate has no byte below the digits
locate_lacks : (byte : ℕ) → byte < 48 → (text : List ℕ) (locate : ℕ) → IsLocate text locate → Lacks byte text
locate_lacks byte low text locate is = not_in_digits numerals text byte is.0.1 (λ digit. absurd (omega arith))

byte_stands : (byte : ℕ) (xs ys : List ℕ) → Lacks byte (xs ++ byte ∷ ys) → ⊥
byte_stands byte [] ys h = h 0 (omega arith) refl
byte_stands byte (x ∷ xs) ys h = byte_stands byte xs ys (λ i less. h (suc i) (omega arith))

lacks_joined : (byte other : ℕ) (xs ys : List ℕ) → other ≢ byte → Lacks byte xs → Lacks byte ys → Lacks byte (xs ++ other ∷ ys)
lacks_joined byte other [] ys differs p q zero less = differs
lacks_joined byte other [] ys differs p q (suc i) less = q i (omega arith)
lacks_joined byte other (x ∷ xs) ys differs p q zero less = p 0 (omega arith)
lacks_joined byte other (x ∷ xs) ys differs p q (suc i) less = lacks_joined byte other xs ys differs (λ j fits. p (suc j) (omega arith)) q i (omega arith)

-- a byte has one first place in a text
first_place : (byte : ℕ) (xs ys us vs : List ℕ) → Lacks byte xs → Lacks byte us → xs ++ byte ∷ ys ≡ us ++ byte ∷ vs → (xs ≡ us) × (ys ≡ vs)
first_place byte [] ys [] vs p q e = (refl, cc)
first_place byte [] ys (u ∷ us) vs p q e = absurd (q 0 (omega arith) (cc))
first_place byte (x ∷ xs) ys [] vs p q e = absurd (p 0 (omega arith) (cc))
first_place byte (x ∷ xs) ys (u ∷ us) vs p q e =
    let h = first_place byte xs ys us vs (λ i less. p (suc i) (omega arith)) (λ i less. q (suc i) (omega arith)) (cc) in
    (cc, h.1)

-- a text with a hyphen is the range from the locate before the first one to the locate after it
pub range_cut : (text low high : List ℕ) (range : ℕ × ℕ) → text ≡ low ++ 45 ∷ high → Lacks 45 low → IsRange text range
    → IsLocate low range.0 × IsLocate high range.1 × (range.0 ≤ range.1)
range_cut text low high range cut lacks (inl is) = absurd (byte_stands 45 low high (subst (Lacks 45) cut (locate_lacks 45 (omega arith) text range.0 is.0)))
range_cut text low high range cut lacks (inr (us, vs, e, first, last, rising)) =
    let same = first_place 45 low high us vs lacks (locate_lacks 45 (omega arith) us range.0 first) (sym cut ∙ e) in
    (subst (λ t. IsLocate t range.0) (sym same.0) first, subst (λ t. IsLocate t range.1) (sym same.1) last, rising)

-- and a text without one is a single locate
pub range_whole : (text : List ℕ) (range : ℕ × ℕ) → Lacks 45 text → IsRange text range → IsLocate text range.0 × (range.1 ≡ range.0)
range_whole text range lacks (inl is) = is
range_whole text range lacks (inr (us, vs, e, first, last, rising)) = absurd (byte_stands 45 us vs (subst (Lacks 45) e lacks))

-- a text whose second locate is lower than the first is not a range
pub falls_refused : (text low high : List ℕ) (first last : ℕ) → text ≡ low ++ 45 ∷ high → Lacks 45 low → IsLocate low first → IsLocate high last → last < first
    → (range : ℕ × ℕ) → ¬ (IsRange text range)
falls_refused text low high first last cut lacks is_first is_last falls range is =
    let parts = range_cut text low high range cut lacks is in
    omega (arith, sym is_first.1 ∙ parts.0.1, sym is_last.1 ∙ parts.1.1, parts.2, falls)

-- a text is one range at most
ranges_same : (text : List ℕ) (a b : ℕ × ℕ) → IsRange text a → IsRange text b → a ≡ b
ranges_same text a b (inl is) other =
    let whole = range_whole text b (locate_lacks 45 (omega arith) text a.0 is.0) other in
    let same : a.0 ≡ b.0 = sym is.0.1 ∙ whole.0.1 in
    let last : a.1 ≡ b.1 = is.1 ∙ same ∙ sym whole.1 in
    λ i. (same i, last i)
ranges_same text a b (inr (us, vs, e, first, last, rising)) other =
    let cut = range_cut text us vs b e (locate_lacks 45 (omega arith) us a.0 first) other in
    let low : a.0 ≡ b.0 = sym first.1 ∙ cut.0.1 in
    let high : a.1 ≡ b.1 = sym last.1 ∙ cut.1.1 in
    λ i. (low i, high i)

range_lacks : (text : List ℕ) (range : ℕ × ℕ) → IsRange text range → Lacks 44 text
range_lacks text range (inl is) = locate_lacks 44 (omega arith) text range.0 is.0
range_lacks text range (inr (us, vs, e, first, last, rising)) =
    subst (Lacks 44) (sym e) (lacks_joined 44 45 us vs (λ same. omega (arith, same)) (locate_lacks 44 (omega arith) us range.0 first) (locate_lacks 44 (omega arith) vs range.1 last))

-- so a list whose text has a comma is the range before the first comma and the list after it
list_cut : (rs : List (ℕ × ℕ)) (rest first more : List ℕ) → rest ≡ first ++ 44 ∷ more → Lacks 44 first → IsListOf rs rest
    → (range : ℕ × ℕ) × (tail : List (ℕ × ℕ)) × (rs ≡ range ∷ tail) × IsRange first range × IsListOf tail more
list_cut [] rest first more cut lacks list = absurd list
list_cut (r ∷ []) rest first more cut lacks list = absurd (byte_stands 44 first more (subst (Lacks 44) cut (range_lacks rest r list)))
list_cut (r ∷ (q ∷ qs)) rest first more cut lacks (us, vs, e, is, list) =
    let same = first_place 44 first more us vs lacks (range_lacks us r is) (sym cut ∙ e) in
    (r, q ∷ qs, refl, subst (λ t. IsRange t r) (sym same.0) is, subst (IsListOf (q ∷ qs)) (sym same.1) list)

-- and a list whose text has none is one range
list_whole : (rs : List (ℕ × ℕ)) (rest : List ℕ) → Lacks 44 rest → IsListOf rs rest → (range : ℕ × ℕ) × (rs ≡ range ∷ []) × IsRange rest range
list_whole [] rest lacks list = absurd list
list_whole (r ∷ []) rest lacks list = (r, refl, list)
list_whole (r ∷ (q ∷ qs)) rest lacks (us, vs, e, is, list) = absurd (byte_stands 44 us vs (subst (Lacks 44) e lacks))

list_joined : (rs : List (ℕ × ℕ)) (first more : List ℕ) (range : ℕ × ℕ) → IsRange first range → IsListOf rs more → IsListOf (range ∷ rs) (first ++ 44 ∷ more)
list_joined [] first more range is list = absurd list
list_joined (r ∷ rs) first more range is list = (first, more, refl, is, list)

-- the text is a range, and the new set is the old one with it
abbrev pub Inserted : List ℕ → Wanted → Wanted → Type 0
Inserted text old new = (range : ℕ × ℕ) × IsRange text range × ((l : ℕ) → has new l ≡ (is_in l range || has old l))

-- memory ran out, or the text is not a range
abbrev pub Refused : List ℕ → ToolFault → Type 0
Refused text fault = (fault ≡ tool.OutOfMemory) ⊎ ((fault ≡ tool.BadLocates) × ((range : ℕ × ℕ) → ¬ (IsRange text range)))

-- the locates of a range before this one were inserted
abbrev pub InsertedBefore : ℕ → ℕ → Wanted → Wanted → Type 0
InsertedBefore first next old new = (l : ℕ) → has new l ≡ ((not (nat_lt l first) && nat_lt l next) || has old l)

pub none_yet : (first : ℕ) (set : Wanted) → InsertedBefore first first set set
none_yet first set l = nothing l first (has set l) where
  nothing : (l first : ℕ) (held : Bool) → held ≡ ((not (nat_lt l first) && nat_lt l first) || held)
  nothing l first held = grind (arith, nat_tests)

pub one_more : (first next : ℕ) (old mid new : Wanted) → first ≤ next → InsertedBefore first next old mid
    → ((other : ℕ) → has new other ≡ (eqb other next || has mid other)) → InsertedBefore first (next + 1) old new
one_more first next old mid new rising before added l = added l ∙ ap (λ b. eqb l next || b) (before l) ∙ wider l first next (has old l) rising where
  wider : (l first next : ℕ) (held : Bool) → first ≤ next
      → (eqb l next || ((not (nat_lt l first) && nat_lt l next) || held)) ≡ ((not (nat_lt l first) && nat_lt l (next + 1)) || held)
  wider l first next held rising = grind (arith, nat_tests)

pub all_in : (first last : ℕ) (old new : Wanted) → InsertedBefore first (last + 1) old new → (l : ℕ) → has new l ≡ (is_in l (first, last) || has old l)
all_in first last old new before l = before l ∙ ap (λ b. (not (nat_lt l first) && b) || has old l) (same l last) where
  same : (l last : ℕ) → nat_lt l (last + 1) ≡ not (nat_lt last l)
  same l last = grind (arith, nat_tests)

either_way : (a b : Bool) → (a || b) ≡ (b || (a || false))
either_way true true = refl
either_way true false = refl
either_way false true = refl
either_way false false = refl

members_more : (taken : List (ℕ × ℕ)) (range : ℕ × ℕ) (old new : Wanted) → ((l : ℕ) → has old l ≡ list_any (is_in l) taken)
    → ((l : ℕ) → has new l ≡ (is_in l range || has old l)) → (l : ℕ) → has new l ≡ list_any (is_in l) (taken ++ range ∷ [])
members_more taken range old new members added l =
    added l ∙ ap (λ b. is_in l range || b) (members l) ∙ either_way (is_in l range) (list_any (is_in l) taken) ∙ sym (list_any-append (is_in l) taken (range ∷ []))

-- a set has the locates of a text's front, and the rest of the text remains
pub record Gathered (text : List ℕ) (set : Wanted) (rest : List ℕ) : Type 0 where
  pub taken : List (ℕ × ℕ)
  pub joins : (rs : List (ℕ × ℕ)) → IsListOf rs rest → IsListOf (taken ++ rs) text
  pub parts : (rs : List (ℕ × ℕ)) → IsListOf rs text → (tail : List (ℕ × ℕ)) × (rs ≡ taken ++ tail) × IsListOf tail rest
  pub members : (l : ℕ) → has set l ≡ list_any (is_in l) taken

pub gathered_first : (text : List ℕ) (set : Wanted) → ((l : ℕ) → has set l ≡ false) → Gathered text set text
gathered_first text set empty = record { taken = []; joins = λ rs list. list; parts = λ rs list. (rs, refl, list); members = empty }

module _ (text : List ℕ) (set : Wanted) (rest : List ℕ) (so_far : Gathered text set rest) where
  -- one more range and its comma are read
  pub gathered_on : (new : Wanted) (first more : List ℕ) → rest ≡ first ++ 44 ∷ more → Lacks 44 first → Inserted first set new → Gathered text new more
  gathered_on new first more cut lacks (range, is, added) = record {
    taken = so_far.taken ++ range ∷ [];
    joins = λ rs list. rw append_assoc (so_far.joins (range ∷ rs) (subst (IsListOf (range ∷ rs)) (sym cut) (list_joined rs first more range is list)));
    parts = λ rs list.
        let p = so_far.parts rs list in
        let q = list_cut p.0 rest first more cut lacks p.2 in
        let same : q.0 ≡ range = ranges_same first q.0 range q.3 is in
        (q.1, p.1 ∙ ap (λ t. so_far.taken ++ t) q.2 ∙ ap (λ r. so_far.taken ++ r ∷ q.1) same ∙ sym (append_assoc so_far.taken (range ∷ []) q.1), q.4);
    members = members_more so_far.taken range set new so_far.members added;
  }

  -- the last range is read
  pub gathered_last : (new : Wanted) → Inserted rest set new → ReadsLocates text (Ok new)
  gathered_last new (range, is, added) =
      (so_far.taken ++ range ∷ [], so_far.joins (range ∷ []) is, members_more so_far.taken range set new so_far.members added)

  refused : (part : List ℕ) (fault : ToolFault) → (((range : ℕ × ℕ) → ¬ (IsRange part range)) → (rs : List (ℕ × ℕ)) → IsListOf rs text → ⊥) → Refused part fault → ReadsLocates text (Err fault)
  refused part fault never (inl is) = subst (λ f. ReadsLocates text (Err f)) (sym is) tt
  refused part fault never (inr (is, none)) = subst (λ f. ReadsLocates text (Err f)) (sym is) (never none)

  -- the part before a comma is refused
  pub part_refused : (fault : ToolFault) (first more : List ℕ) → rest ≡ first ++ 44 ∷ more → Lacks 44 first → Refused first fault → ReadsLocates text (Err fault)
  part_refused fault first more cut lacks = refused first fault (λ none rs list.
      let p = so_far.parts rs list in
      let q = list_cut p.0 rest first more cut lacks p.2 in
      none q.0 q.3)

  -- the last part is refused
  pub last_refused : (fault : ToolFault) → Lacks 44 rest → Refused rest fault → ReadsLocates text (Err fault)
  last_refused fault lacks = refused rest fault (λ none rs list.
      let p = so_far.parts rs list in
      let q = list_whole p.0 rest lacks p.2 in
      none q.0 q.2)
