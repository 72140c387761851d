-- Each stream has one reading as a day, also from its front on.
use Rattle.std.proofs.Common.{◌≡◌, ℕ, ◌+◌, ◌<◌, ◌≤◌, ◌⊎◌, List, [], ◌∷◌, ◌++◌, length, refl, sym, ap, ◌∙◌, inl, inr, append_assoc, arith}
use Rattle.std.specs.List.{AllByRecursion}
use Rattle.std.proofs.lemmas.Bool.{cases_lt}
use Rattle.itch_frame.specs.Blocks.{IsPayload, block, blocks, HasNoBlock, Ends, Open, IsFull, Day}
use Rattle.itch_frame.proofs.BlockLemmas.{same_block, HasNone, one_way, each-append, blocks-append}
use Rattle.itch_frame.proofs.Fronts.{by_blocks}

-- the end of a day does not begin with a block that is not empty
no_full : (rest : List ℕ) → Ends rest ⊎ Open rest → HasNone IsFull rest
no_full rest (inl (inl none)) payload more full same = cc
no_full rest (inl (inr (following, empty))) payload more full same =
    let first : ([] ≡ payload) × (following ≡ more) = same_block [] payload following more (omega arith) full.1 (sym empty ∙ same) in
    absurd (let length_is : 0 ≡ length payload = ap length first.0 in omega arith)
no_full rest (inr part) payload more full same = part.1 payload more full.1 same

-- a stream has one reading as a day
pub day_one : (bytes : List ℕ) (ps qs : List (List ℕ)) (r s : List ℕ) → Day bytes ps r → Day bytes qs s → (ps ≡ qs) × (r ≡ s)
day_one bytes ps qs r s p q =
    one_way IsFull (λ payload full. full.1) ps qs r s p.each q.each (no_full r p.last) (no_full s q.last) (sym p.whole ∙ q.whole)

-- a day without messages: only an end, or an unfinished block
pub day_last : (rest : List ℕ) → Ends rest ⊎ Open rest → Day rest [] rest
day_last rest last = record { whole = refl; each = tt; last = last }

-- one more block in front of a day
pub day_on : (p bytes : List ℕ) (ps : List (List ℕ)) (rest : List ℕ) → IsFull p → Day bytes ps rest → Day (block p ++ bytes) (p ∷ ps) rest
day_on p bytes ps rest full day = record {
  whole = ap (λ following. block p ++ following) day.whole ∙ sym (append_assoc (block p) (blocks ps) rest);
  each = (full, day.each);
  last = day.last;
}

-- several more blocks in front of a day
pub day_later : (done : List (List ℕ)) (bytes : List ℕ) (ps : List (List ℕ)) (rest : List ℕ) → AllByRecursion IsFull done → Day bytes ps rest → Day (blocks done ++ bytes) (done ++ ps) rest
day_later done bytes ps rest full day = record {
  whole = ap (λ following. blocks done ++ following) day.whole ∙ sym (append_assoc (blocks done) (blocks ps) rest) ∙ ap (λ front. front ++ rest) (sym (blocks-append done ps));
  each = each-append IsFull done ps full day.each;
  last = day.last;
}

abbrev SomeDay : List ℕ → Type 0
SomeDay bytes = (ps : List (List ℕ)) × (rest : List ℕ) × Day bytes ps rest

longer_day : (p bytes all : List ℕ) → IsFull p → all ≡ block p ++ bytes → SomeDay bytes → SomeDay all
longer_day p bytes all full front (ps, rest, day) = (p ∷ ps, rest, let longer : Day (block p ++ bytes) (p ∷ ps) rest = day_on p bytes ps rest full day in record { whole = front ∙ longer.whole; each = longer.each; last = longer.last })

-- if no block comes first, the bytes are the end of a day, or an unfinished block
last_day : (bytes : List ℕ) → HasNoBlock bytes → SomeDay bytes
last_day [] none = ([], [], day_last [] (inl (inl refl)))
last_day (x ∷ bytes) none = ([], x ∷ bytes, day_last (x ∷ bytes) (inr (omega arith, none)))

-- an empty block in front ends a day, and any other block is its first
first_day : (p more bytes : List ℕ) → IsPayload p → bytes ≡ block p ++ more → SomeDay more → SomeDay bytes
first_day [] more bytes fits front later = ([], bytes, day_last bytes (inl (inr (more, front))))
first_day (x ∷ p) more bytes fits front later = longer_day (x ∷ p) more bytes (omega arith, fits) front later

-- every list of numbers has a reading as a day
pub day_some : (bytes : List ℕ) → (ps : List (List ℕ)) × (rest : List ℕ) × Day bytes ps rest
day_some = by_blocks SomeDay last_day first_day

-- the blocks at the front of a day's bytes are its first ones, and the remaining bytes are a day with the others
pub front_of_day : (done ps : List (List ℕ)) (bytes left rest : List ℕ) → AllByRecursion IsFull done → bytes ≡ blocks done ++ left → Day bytes ps rest
    → (more : List (List ℕ)) × (ps ≡ done ++ more) × Day left more rest
front_of_day done ps bytes left rest full front day = found (day_some left) where
  found : SomeDay left → (more : List (List ℕ)) × (ps ≡ done ++ more) × Day left more rest
  found (more, end, later) =
      let longer : Day (blocks done ++ left) (done ++ more) end = day_later done left more end full later in
      let same : (ps ≡ done ++ more) × (rest ≡ end) =
      day_one (blocks done ++ left) ps (done ++ more) rest end (record { whole = sym front ∙ day.whole; each = day.each; last = day.last }) longer in
      (more, same.0, record { whole = later.whole ∙ ap (λ r. blocks more ++ r) (sym same.1); each = later.each; last = day.last })

-- the end of a day is not an unfinished block
pub end_once : (rest : List ℕ) → Ends rest → Open rest → ⊥
end_once rest (inl none) part = let length_is : length rest ≡ 0 = ap length none in omega arith
end_once rest (inr (more, empty)) part = part.1 [] more (omega arith) empty

-- if two bytes or more end a day, the first two are zeros
pub front-Ends : (x y : ℕ) (rest : List ℕ) → Ends (x ∷ y ∷ rest) → (x ≡ 0) × (y ≡ 0)
front-Ends x y rest (inl none) = cc
front-Ends x y rest (inr (more, empty)) = (cc, cc)

-- if two bytes or more are an unfinished block, the first two are not both zero
pub front-Open : (x y : ℕ) (rest : List ℕ) → Open (x ∷ y ∷ rest) → 0 < x + y
front-Open x y rest part = some (cases_lt 0 (x + y)) where
  some : (0 < x + y) ⊎ (x + y ≤ 0) → 0 < x + y
  some (inl more) = more
  some (inr zeros) =
      let high : x ≡ 0 = omega arith in let low : y ≡ 0 = omega arith in
      absurd (part.1 [] rest (omega arith) (λ i. high i ∷ low i ∷ rest))

-- a single byte is not the end of a day
pub one-Ends : (x : ℕ) → Ends (x ∷ []) → ⊥
one-Ends x (inl none) = cc
one-Ends x (inr (more, empty)) = cc
