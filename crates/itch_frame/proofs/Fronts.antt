-- A stream either begins with a block or does not, so it has a reading as blocks.
use Rattle.std.proofs.Common.{◌≡◌, ℕ, ◌+◌, ◌*◌, ◌/◌, ◌%◌, ◌<◌, ◌≤◌, ◌⊎◌, zero, suc, List, [], ◌∷◌, ◌++◌, length, take, drop, refl, sym, ap, ◌∙◌, inl, inr, append_assoc, arith, length-append}
use Rattle.std.proofs.lemmas.List.{take-append-drop, length-take-le}
use Rattle.std.proofs.lemmas.Bool.{cases_lt}
use Rattle.itch_frame.specs.Blocks.{IsPayload, block, blocks, HasNoBlock, Blocks}
use Rattle.itch_frame.proofs.BlockLemmas.{nothing_left}

-- no block begins here if fewer bytes follow than the length bytes require
too_short : (x y : ℕ) (rest : List ℕ) → length rest < x * 256 + y → HasNoBlock (x ∷ y ∷ rest)
too_short x y rest short payload more fits same =
    let high : x ≡ length payload / 256 % 256 = cc in
    let low : y ≡ length payload % 256 = cc in
    let following : rest ≡ payload ++ more = cc in
    absurd (omega (arith, ap length following, length-append payload more))

-- no block begins with a number that is not a byte
no_byte : (x y : ℕ) (rest : List ℕ) → (256 ≤ x) ⊎ (256 ≤ y) → HasNoBlock (x ∷ y ∷ rest)
no_byte x y rest (inl wide) payload more fits same = let high : x ≡ length payload / 256 % 256 = cc in absurd (omega arith)
no_byte x y rest (inr wide) payload more fits same = let low : y ≡ length payload % 256 = cc in absurd (omega arith)

-- one byte is not a block
one_byte : (x : ℕ) → HasNoBlock (x ∷ [])
one_byte x payload more fits same = cc

-- if enough bytes follow two length bytes, they are a payload and the bytes after it
front_block : (x y : ℕ) (rest : List ℕ) → x < 256 → y < 256 → x * 256 + y ≤ length rest → x ∷ y ∷ rest ≡ block (take (x * 256 + y) rest) ++ drop (x * 256 + y) rest
front_block x y rest x_fits y_fits enough =
    let n : length (take (x * 256 + y) rest) ≡ x * 256 + y = length-take-le (x * 256 + y) rest enough in
    let high : x ≡ length (take (x * 256 + y) rest) / 256 % 256 = omega arith in
    let low : y ≡ length (take (x * 256 + y) rest) % 256 = omega arith in
    let following : rest ≡ take (x * 256 + y) rest ++ drop (x * 256 + y) rest = sym (take-append-drop (x * 256 + y) rest) in
    λ i. high i ∷ low i ∷ following i

-- no block is at the front, or one is
abbrev pub Front : List ℕ → Type 0
Front bytes = HasNoBlock bytes ⊎ ((payload : List ℕ) × (more : List ℕ) × IsPayload payload × (bytes ≡ block payload ++ more))

front_from : (x y : ℕ) (rest : List ℕ) → (x < 256) ⊎ (256 ≤ x) → (y < 256) ⊎ (256 ≤ y) → (length rest < x * 256 + y) ⊎ (x * 256 + y ≤ length rest) → Front (x ∷ y ∷ rest)
front_from x y rest (inr wide) low size = inl (no_byte x y rest (inl wide))
front_from x y rest (inl x_fits) (inr wide) size = inl (no_byte x y rest (inr wide))
front_from x y rest (inl x_fits) (inl y_fits) (inl short) = inl (too_short x y rest short)
front_from x y rest (inl x_fits) (inl y_fits) (inr enough) =
    let n : length (take (x * 256 + y) rest) ≡ x * 256 + y = length-take-le (x * 256 + y) rest enough in
    inr (take (x * 256 + y) rest, drop (x * 256 + y) rest, omega arith, front_block x y rest x_fits y_fits enough)

pub front : (bytes : List ℕ) → Front bytes
front [] = inl (nothing_left IsPayload)
front (x ∷ []) = inl (one_byte x)
front (x ∷ y ∷ rest) = front_from x y rest (cases_lt x 256) (cases_lt y 256) (cases_lt (length rest) (x * 256 + y))

-- a property of streams without a block at the front that also holds for one more block in front holds for every stream
module _ (P : List ℕ → Type 0) (none : (bytes : List ℕ) → HasNoBlock bytes → P bytes)
    (more : (payload rest bytes : List ℕ) → IsPayload payload → bytes ≡ block payload ++ rest → P rest → P bytes) where
  within : (n : ℕ) (bytes : List ℕ) → length bytes ≤ n → Front bytes → P bytes
  within n bytes short (inl no_block) = none bytes no_block
  within zero bytes short (inr (payload, rest, fits, same)) =
      absurd (omega (arith, ap length same, length-append (block payload) rest))
  within (suc n) bytes short (inr (payload, rest, fits, same)) =
      more payload rest bytes fits same (within n rest (omega (arith, ap length same, length-append (block payload) rest)) (front rest))

  pub by_blocks : (bytes : List ℕ) → P bytes
  by_blocks bytes = within (length bytes) bytes (omega arith) (front bytes)

abbrev SomeBlocks : List ℕ → Type 0
SomeBlocks bytes = (ps : List (List ℕ)) × (rest : List ℕ) × Blocks bytes ps rest

no_blocks : (bytes : List ℕ) → HasNoBlock bytes → SomeBlocks bytes
no_blocks bytes none = ([], bytes, record { whole = refl; each = tt; no_more = none })

longer_blocks : (payload more bytes : List ℕ) → IsPayload payload → bytes ≡ block payload ++ more → SomeBlocks more → SomeBlocks bytes
longer_blocks payload more bytes fits front (ps, rest, later) = (
  payload ∷ ps,
  rest,
  record {
    whole = front ∙ ap (λ following. block payload ++ following) later.whole ∙ sym (append_assoc (block payload) (blocks ps) rest);
    each = (fits, later.each);
    no_more = later.no_more;
  },
)

-- every list of numbers has a reading as blocks and a rest
pub reading_some : (bytes : List ℕ) → (ps : List (List ℕ)) × (rest : List ℕ) × Blocks bytes ps rest
reading_some = by_blocks SomeBlocks no_blocks longer_blocks
