-- Two day files have only one first difference.
use Rattle.std.proofs.Common.{◌≡◌, ℕ, ◌+◌, ◌≤◌, ◌<◌, true, false, List, [], ◌∷◌, ◌++◌, map, take, length, Option, None, Some, IfSome, inl, inr, refl, sym, ap, subst, ◌∙◌, arith}
use Rattle.std.specs.List.{AllByRecursion}
use Rattle.std.proofs.lemmas.Bool.{cases_lt}
use Rattle.std.proofs.lemmas.List.{append-nil, take-append-le}
use Rattle.std.proofs.Math.Seq.{take-append_seam}
use Rattle.itch_codec.specs.Messages.{message_of}
use Rattle.itch_frame.specs.Blocks.{block, blocks, Day, IsFull}
use Rattle.itch_frame.proofs.Days.{day_one, day_last, day_some, front_of_day}
use Rattle.itch_market.specs.Runs.{run}
use Rattle.itch_market.specs.SameMarkets.{Same}
use Rattle.itch_commands.specs.FirstDifferences.{IsSameAt, IsFront, IsPlaceIn, IsSameIn}
use Rattle.itch_day.specs.Limits.{IsEarly, is_late}
use Rattle.itch_market.specs.DayMessages.{AreTaken, IsPart, IsCut}
use Rattle.itch_day.specs.declared.limit.Limit.{Limit}
use Rattle.itch_commands.proofs.FirstDifferences.{within_so_far}

-- the payloads in front of a file are the first of all its payloads
front_of : (bytes : List ℕ) (p : List (List ℕ)) (left : List ℕ) (ps : List (List ℕ)) (rest : List ℕ) → AllByRecursion IsFull p → bytes ≡ blocks p ++ left → Day bytes ps rest → take (length p) ps ≡ p
front_of bytes p left ps rest full front day =
    let found = front_of_day p ps bytes left rest full front day in ap (take (length p)) found.1 ∙ take-append_seam p found.0

-- the payload after the first ones
next_of : (p more : List (List ℕ)) (q : List (List ℕ)) (others : List (List ℕ)) → p ++ more ≡ q ++ others → length p < length q → (x : List ℕ) × (following : List (List ℕ)) × (rest : List (List ℕ)) × (more ≡ x ∷ following) × (q ≡ p ++ x ∷ rest)
next_of [] more [] others same shorter = absurd (omega arith)
next_of [] more (x ∷ q) others same shorter = (x, q ++ others, q, same, refl)
next_of (y ∷ p) more [] others same shorter = absurd (omega arith)
next_of (y ∷ p) more (x ∷ q) others same shorter =
    let first : y ≡ x = cc in
    let later : p ++ more ≡ q ++ others = cc in
    let (z, following, rest, front, whole) = next_of p more q others later (omega arith) in
    (z, following, rest, front, (λ i. (sym first) i ∷ whole i))

early_there : (limit : Limit) (p : List (List ℕ)) (x : List ℕ) (rest : List (List ℕ)) → AllByRecursion (IsEarly limit) (p ++ x ∷ rest) → IsEarly limit x
early_there limit [] x rest all = all.0
early_there limit (y ∷ p) x rest all = early_there limit p x rest all.1

-- a requested part has no requested payload after it
no_more : (limit : Limit) (count : ℕ) (left : List ℕ) (more : List (List ℕ)) (rest : List ℕ) (x : List ℕ) (following : List (List ℕ)) → Day left more rest → more ≡ x ∷ following → IsEarly limit x
    → IfSome limit.after (λ most. count < most) → IsCut limit count left → ⊥
no_more limit count left more rest x following day is early within (inl all) = beyond limit.after within all where
  beyond : (after : Option ℕ) → IfSome after (λ most. count < most) → after ≡ Some count → ⊥
  beyond None within all = cc
  beyond (Some most) within all = let same : most ≡ count = cc in omega arith
no_more limit count left more rest x following day is early within (inr (inl (before, (payload, unread, front, full, late)))) =
    let found = front_of_day (payload ∷ []) more left unread rest (full, tt) (front ∙ ap (λ t. t ++ unread) (sym (append-nil (block payload)))) day in
    let whole : x ∷ following ≡ payload ∷ found.0 = sym is ∙ found.1 in
    let same : x ≡ payload = cc in
    let clash : false ≡ true = sym early ∙ subst (λ y. is_late limit.until (message_of y) ≡ true) (sym same) late.1 in let no : ⊥ = cc in no
no_more limit count left more rest x following day is early within (inr (inr (whole, ends))) =
    let none = day_one left more [] rest left day (day_last left (inl ends)) in let clash : [] ≡ x ∷ following = sym none.0 ∙ is in let no : ⊥ = cc in no

-- known facts about the first payloads of a part
record Front (limit : Limit) (bytes : List ℕ) (p : List (List ℕ)) : Type 0 where
  taken : AreTaken limit p
  left : List ℕ
  whole : bytes ≡ blocks p ++ left
  within : IfSome limit.after (λ most. length p ≤ most)

cut_within : (limit : Limit) (count : ℕ) (left : List ℕ) → IsCut limit count left → IfSome limit.after (λ most. count ≤ most)
cut_within limit count left (inl all) = subst (λ after. IfSome after (λ most. count ≤ most)) (sym all) (omega arith)
cut_within limit count left (inr (inl (before, late))) = within_so_far limit.after count before
cut_within limit count left (inr (inr (whole, ends))) = subst (λ after. IfSome after (λ most. count ≤ most)) (sym whole) tt

part_front : (limit : Limit) (bytes : List ℕ) (p : List (List ℕ)) → AreTaken limit p → IsPart limit bytes p → Front limit bytes p
part_front limit bytes p taken (left, whole, cut) = record { taken = taken; left = left; whole = whole; within = cut_within limit (length p) left cut }

some_front : (limit : Limit) (count : ℕ) (bytes : List ℕ) (p : List (List ℕ)) → IsFront limit count bytes p → Front limit bytes p
some_front limit count bytes p (taken, inl (counted, within, (left, whole, cut))) =
    record { taken = taken; left = left; whole = whole; within = subst (λ c. IfSome limit.after (λ most. c ≤ most)) (sym counted) within }
some_front limit count bytes p (taken, inr (fewer, part)) = part_front limit bytes p taken part

more_within : (after : Option ℕ) (count more : ℕ) → count < more → IfSome after (λ most. more ≤ most) → IfSome after (λ most. count < most)
more_within None count more less within = tt
more_within (Some most) count more less within = omega arith

-- no other one is longer than the part
no_longer : (limit : Limit) (bytes : List ℕ) (p q : List (List ℕ)) → AreTaken limit p → IsPart limit bytes p → Front limit bytes q → length q ≤ length p
no_longer limit bytes p q taken (left, whole, cut) front = elim (cases_lt (length p) (length q)) [
  | inl shorter ↦ absurd (beyond shorter (day_some bytes))
  | inr enough ↦ enough
] where
  beyond : length p < length q → (ps : List (List ℕ)) × (rest : List ℕ) × Day bytes ps rest → ⊥
  beyond shorter (ps, rest, day) =
      let one = front_of_day p ps bytes left rest taken.full whole day in
      let other = front_of_day q ps bytes front.left rest front.taken.full front.whole day in
      let (x, following, others, is, longer) = next_of p one.0 q other.0 (sym one.1 ∙ other.1) shorter in
      no_more limit (length p) left one.0 rest x following one.2 is
      (early_there limit p x others (subst (λ z. AllByRecursion (IsEarly limit) z) longer front.taken.early))
      (more_within limit.after (length p) (length q) shorter front.within) cut

-- one with fewer payloads than the limit is the part
is_whole : (limit : Limit) (count k : ℕ) (bytes : List ℕ) (p : List (List ℕ)) → length p < k → k ≤ count → IsFront limit count bytes p → IsPart limit bytes p
is_whole limit count k bytes p short within (taken, inl (counted, enough, part)) = absurd (omega (arith, short, within, counted))
is_whole limit count k bytes p short within (taken, inr (fewer, part)) = part

-- so the first payloads of a part are the same
module _ (limit : Limit) (bytes : List ℕ) (p q : List (List ℕ)) (n m k : ℕ) (least : k ≤ n) (less : k ≤ m) (one : IsFront limit n bytes p) (other : IsFront limit m bytes q) where
  first : Front limit bytes p
  first = some_front limit n bytes p one

  second : Front limit bytes q
  second = some_front limit m bytes q other

  both_whole : length p < k → length q < k → (ps : List (List ℕ)) × (rest : List ℕ) × Day bytes ps rest → take k p ≡ take k q
  both_whole short brief (ps, rest, day) =
      let longer : length q ≤ length p = no_longer limit bytes p q first.taken (is_whole limit n k bytes p short least one) second in
      let shorter : length p ≤ length q = no_longer limit bytes q p second.taken (is_whole limit m k bytes q brief less other) first in
      let same : length p ≡ length q = omega arith in
      let equal : p ≡ q = sym (front_of bytes p first.left ps rest first.taken.full first.whole day) ∙ ap (λ c. take c ps) same
      ∙ front_of bytes q second.left ps rest second.taken.full second.whole day in ap (take k) equal

  both_long : k ≤ length p → k ≤ length q → (ps : List (List ℕ)) × (rest : List ℕ) × Day bytes ps rest → take k p ≡ take k q
  both_long long tall (ps, rest, day) =
      let in_one = front_of_day p ps bytes first.left rest first.taken.full first.whole day in
      let in_other = front_of_day q ps bytes second.left rest second.taken.full second.whole day in
      sym (take-append-le k p in_one.0 long) ∙ ap (take k) (sym in_one.1 ∙ in_other.1) ∙ take-append-le k q in_other.0 tall

  same_front : take k p ≡ take k q
  same_front = elim (cases_lt (length p) k) [
    | inl short ↦ let longer : length q ≤ length p = no_longer limit bytes p q first.taken (is_whole limit n k bytes p short least one) second in
        both_whole short (omega arith) (day_some bytes)
    | inr long ↦ elim (cases_lt (length q) k) [
      | inl brief ↦ let shorter : length p ≤ length q = no_longer limit bytes q p second.taken (is_whole limit m k bytes q brief less other) first in absurd (omega arith)
      | inr tall ↦ both_long long tall (day_some bytes)
    ]
  ]

same_at_both : (p q r s : List (List ℕ)) (k : ℕ) → take k p ≡ take k r → take k q ≡ take k s → IsSameAt p q k → IsSameAt r s k
same_at_both p q r s k one other same =
    subst (λ x. Same (run (map message_of x)) (run (map message_of (take k s)))) one
    (subst (λ y. Same (run (map message_of (take k p))) (run (map message_of y))) other same)

-- no later one is the first
none_later : (limit : Limit) (one other : List ℕ) (n k : ℕ) → IsPlaceIn limit one other n → IsPlaceIn limit one other k → n < k → ⊥
none_later limit one other n k (p, q, in_one, in_other, first) (r, s, of_one, of_other, later) less =
    first.there (same_at_both r s p q n (same_front limit one r p k n n (omega arith) (omega arith) of_one in_one) (same_front limit other s q k n n (omega arith) (omega arith) of_other in_other) (later.before n less))

pub one_place : (limit : Limit) → (one other : List ℕ) → (n k : ℕ) → IsPlaceIn limit one other n → IsPlaceIn limit one other k → n ≡ k
one_place limit one other n k at again =
    elim (cases_lt n k) [
      | inl less ↦ absurd (none_later limit one other n k at again less)
      | inr most ↦ elim (cases_lt k n) [
        | inl less ↦ absurd (none_later limit one other k n again at less)
        | inr least ↦ omega arith
      ]
    ]

-- and files that are the same all along have none
pub no_place : (limit : Limit) → (one other : List ℕ) → (n : ℕ) → IsPlaceIn limit one other n → IsSameIn limit one other → ⊥
no_place limit one other n (p, q, in_one, in_other, first) (r, s, taken, part, also, rest, same) =
    first.there
    (same_at_both r s p q n (same_front limit one r p (length r + n + 1) n n (omega arith) (omega arith) (taken, inr (omega arith, part)) in_one)
    (same_front limit other s q (length s + n + 1) n n (omega arith) (omega arith) (also, inr (omega arith, rest)) in_other) (same n))
