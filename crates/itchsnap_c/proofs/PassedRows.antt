-- The blocks that were passed, and the rows of those that are wanted.
use Rattle.std.proofs.Common.{◌≡◌, ◌⊎◌, inl, inr, ℕ, ◌+◌, ◌-◌, ◌<◌, ◌≤◌, Bool, if◌then◌else◌, List, [], ◌∷◌, ◌++◌, length, take, drop, replicate, min, option_to_list, Ok, Err, refl, sym, ap, ◌∙◌, subst, append-nil, append_assoc, arith, length-append}
use Rattle.std.specs.List.{AllByRecursion}
use Rattle.std.proofs.Math.Seq.{drop-append-add}
use Rattle.std.proofs.Math.Dec.{eqb-suc-zero}
use Rattle.std.proofs.Math.ListN.{set}
use Rattle.std.proofs.lemmas.List.{drop-drop, drop-replicate, take_at, take_min}
use Rattle.std.proofs.lemmas.List.Edits.{sets-eq}
use Rattle.itch_frame.specs.Blocks.{block, blocks, HasNoBlock, IsPayload}
use Rattle.itch_frame.proofs.BlockLemmas.{blocks-push, each-push}
use Rattle.itchsnap_c.specs.declared.answers.Answer.{Answer}
use Rattle.itchsnap_c.specs.declared.rows.Row.{Row}
use Rattle.itchsnap_c.specs.Codes.{coded, done}
use Rattle.itchsnap_c.specs.Rows.{Fills, Follows, Halts, IsPassed, row_bytes, Stays, TakesBlock, end_of, rows_of, stopped, wanted_row}

-- the first bytes of a payload, over zeros
pub row_bytes_are : (payload : List ℕ) (size : ℕ) → size ≡ min 48 (length payload) → take size payload ++ drop size (replicate {A = ℕ} 48 0) ≡ row_bytes payload
row_bytes_are payload size is = ap (λ (parts : List ℕ × List ℕ). parts.0 ++ parts.1) (λ i. (front i, back i)) where
  front : take size payload ≡ take 48 payload
  front = ap (λ n. take n payload) is ∙ take_min 48 payload

  left : 48 - size ≡ 48 - length payload
  left = omega (arith, is)

  back : drop size (replicate {A = ℕ} 48 0) ≡ replicate (48 - length payload) 0
  back = drop-replicate size 48 0 ∙ ap (λ n. replicate n 0) left

-- a list of no length has nothing
pub nothing_is : (xs : List ℕ) → length xs ≡ 0 → xs ≡ []
nothing_is [] none = refl
nothing_is (x ∷ xs) none = absurd (omega (arith, none))

-- a row is written behind the others
pub row_put : (made : Row) (before : ℕ) (old : List Row) → before < length old → Follows (made ∷ []) before old (before + 1) (set old before made)
row_put made before old room =
    record { rows_are = refl; within = omega arith; memory = sets-eq (made ∷ []) old before (omega arith) }

length-block : (p : List ℕ) → length (block p) ≡ length p + 2
length-block p = omega arith

-- a block is not nothing
pub fewer : (rest p after : List ℕ) → rest ≡ block p ++ after → length after < length rest
fewer rest p after split = omega (arith, ap length split, length-append (block p) after, length-block p)

-- the rows of some messages and of one more
rows_push : (types locates : List ℕ) (count offset : ℕ) (ps : List (List ℕ)) (p : List ℕ) → rows_of types locates count offset (ps ++ p ∷ [])
    ≡ rows_of types locates count offset ps ++ option_to_list (wanted_row types locates (count + length ps + 1) (offset + length (blocks ps) + 2) p)
rows_push types locates count offset [] p =
    let one : List Row = option_to_list (wanted_row types locates (count + 1) (offset + 2) p) in
    append-nil one ∙ ap (λ (at : ℕ × ℕ). option_to_list (wanted_row types locates (at.0 + 1) (at.1 + 2) p)) (λ i. (count_is i, offset_is i)) where
      count_is : count ≡ count + 0
      count_is = omega arith

      offset_is : offset ≡ offset + 0
      offset_is = omega arith
rows_push types locates count offset (q ∷ qs) p =
    ap (λ rs. option_to_list (wanted_row types locates (count + 1) (offset + 2) q) ++ rs) (rows_push types locates (count + 1) (offset + length (block q)) qs p ∙ ap
    (λ (at : ℕ × ℕ). rows_of types locates (count + 1) (offset + length (block q)) qs ++ option_to_list (wanted_row types locates (at.0 + 1) (at.1 + 2) p)) (λ i. (count_is i, offset_is i)))
    ∙ sym (append_assoc (option_to_list (wanted_row types locates (count + 1) (offset + 2) q)) (rows_of types locates (count + 1) (offset + length (block q)) qs) (option_to_list
    (wanted_row types locates (count + length (q ∷ qs) + 1) (offset + length (blocks (q ∷ qs)) + 2) p))) where
      count_is : count + 1 + length qs ≡ count + length (q ∷ qs)
      count_is = omega arith

      offset_is : offset + length (block q) + length (blocks qs) ≡ offset + length (blocks (q ∷ qs))
      offset_is = omega (arith, length-append (block q) (blocks qs))

module _ (types locates : List ℕ) (before : ℕ) (bytes : List ℕ) (old : List Row) where
  -- these blocks were passed, and their rows are at the front of the memory
  pub record RowsSoFar (count rows : ℕ) (rest : List ℕ) (out : List Row) : Type 0 where
    pub payloads : List (List ℕ)
    pub whole : bytes ≡ blocks payloads ++ rest
    pub each : AllByRecursion (IsPassed types locates) payloads
    pub counted : count ≡ before + length payloads
    pub filled : rows ≡ length (rows_of types locates before 0 payloads)
    pub within : rows ≤ length old
    pub memory : out ≡ rows_of types locates before 0 payloads ++ drop rows old

  pub rows_begun : RowsSoFar before 0 bytes old
  rows_begun = record { payloads = []; whole = refl; each = tt; counted = omega arith; filled = refl; within = omega arith; memory = refl }

  module _ (count rows : ℕ) (rest : List ℕ) (out : List Row) (so_far : RowsSoFar count rows rest out) where
    abbrev done_rows : List Row
    done_rows = rows_of types locates before 0 so_far.payloads

    -- where the next block begins
    pub passed_is : length bytes - length rest ≡ length (blocks so_far.payloads)
    passed_is = omega (arith, ap length so_far.whole, length-append (blocks so_far.payloads) rest)

    -- what is left is a part of the blocks, and so is the length of the next one
    pub rest_fits : length rest ≤ length bytes
    rest_fits = omega (arith, ap length so_far.whole, length-append (blocks so_far.payloads) rest)

    pub passed_fits : (p after : List ℕ) → rest ≡ block p ++ after → length bytes - length rest + 2 ≤ length bytes
    passed_fits p after split = omega (arith, rest_fits, ap length split, length-append (block p) after, length-block p)

    pub enough_room : length out ≡ length old → rows ≤ length out
    enough_room same = omega (arith, same, so_far.within)

    module _ (p after : List ℕ) (fits : IsPayload p) (split : rest ≡ block p ++ after) (rows' : ℕ) (out' : List Row) (same : length out ≡ length old)
        (takes : TakesBlock types locates count (length bytes - length rest) p rows out (Ok tt) rows' out') where
      abbrev more : List Row
      more = option_to_list (wanted_row types locates (count + 1) (length bytes - length rest + 2) p)

      follows : Follows more rows out rows' out'
      follows = takes.3

      all_rows : rows_of types locates before 0 (so_far.payloads ++ p ∷ []) ≡ done_rows ++ more
      all_rows =
          rows_push types locates before 0 so_far.payloads p
          ∙ ap (λ (at : ℕ × ℕ). done_rows ++ option_to_list (wanted_row types locates (at.0 + 1) (at.1 + 2) p)) (λ i. (sym so_far.counted i, offset_is i)) where
            offset_is : 0 + length (blocks so_far.payloads) ≡ length bytes - length rest
            offset_is = omega (arith, passed_is)

      front : take rows out ≡ done_rows
      front = ap (take rows) so_far.memory ∙ take_at done_rows (drop rows old) rows (sym so_far.filled)

      back : drop rows' out ≡ drop rows' old
      back =
          ap (λ n. drop n out) rows_are ∙ ap (drop (length done_rows + length more)) so_far.memory ∙ drop-append-add done_rows (drop rows old) (length more)
          ∙ drop-drop (length more) rows old ∙ ap (λ n. drop n old) (sym follows.rows_are) where
            rows_are : rows' ≡ length done_rows + length more
            rows_are = follows.rows_are ∙ ap (λ n. n + length more) so_far.filled

      pub rows_more : RowsSoFar (count + 1) rows' after out'
      rows_more = record {
        payloads = so_far.payloads ++ p ∷ [];
        whole = so_far.whole ∙ ap (λ r. blocks so_far.payloads ++ r) split ∙ sym (append_assoc (blocks so_far.payloads) (block p) after)
            ∙ ap (λ b. b ++ after) (sym (blocks-push so_far.payloads p));
        each = each-push (IsPassed types locates) so_far.payloads p so_far.each ((takes.0, fits), takes.2);
        counted = omega (arith, so_far.counted, length-append so_far.payloads (p ∷ []));
        filled = omega (arith, follows.rows_are, so_far.filled, ap length all_rows, length-append done_rows more);
        within = omega (arith, follows.within, same);
        memory = follows.memory ∙ ap (λ (parts : List Row × List Row). parts.0 ++ more ++ parts.1) (λ i. (front i, back i)) ∙ ap (λ rs. rs ++ drop rows' old) (sym all_rows);
      }

    -- it ends there, for this reason
    pub rows_end : length out ≡ length old → (answer : Answer) → Halts types locates count rows (length old) rest answer
        → Fills types locates before bytes old (stopped count rows (length bytes - length rest) answer) out
    rows_end same answer halts = record {
      payloads = so_far.payloads;
      rest = rest;
      whole = so_far.whole;
      each = so_far.each;
      count = so_far.counted;
      len = passed_is;
      rows = so_far.filled;
      memory = so_far.memory;
      halts = halts;
    }

    -- the message of the next block is not taken
    pub halted : (p after : List ℕ) → IsPayload p → rest ≡ block p ++ after → (answer : Answer)
        → (((p ≡ []) × (answer ≡ done)) ⊎ ((0 < length p) × Stays types locates count rows (length old) p answer)) → Halts types locates count rows (length old) rest answer
    halted p after fits split answer (inl (empty, is)) = inl (inr (after, split ∙ ap (λ q. block q ++ after) empty), is)
    halted p after fits split answer (inr (full, stays)) = inr (inr (p, after, (full, fits), split, stays))

    -- no block begins with what is left
    pub ended : HasNoBlock rest → Halts types locates count rows (length old) rest (end_of rest)
    ended none = by_rest rest none where
      by_rest : (r : List ℕ) → HasNoBlock r → Halts types locates count rows (length old) r (end_of r)
      by_rest [] none = inl (inl refl, refl)
      by_rest (b ∷ bs) none = inr (inl ((omega arith, none), ap (λ (is_end : Bool). if is_end then done else coded 32 (length (b ∷ bs))) (eqb-suc-zero (length bs))))

    -- the message of the next block is not taken, and there it ends
    pub rows_stopped : (p after : List ℕ) → IsPayload p → rest ≡ block p ++ after → length out ≡ length old → (answer : Answer) (rows' : ℕ) (out' : List Row)
        → TakesBlock types locates count (length bytes - length rest) p rows out (Err answer) rows' out'
        → Fills types locates before bytes old (stopped count rows' (length bytes - length rest) answer) out'
    rows_stopped p after fits split same answer rows' out' (why, rows_same, out_same) =
        let stays = subst (λ (room : ℕ). ((p ≡ []) × (answer ≡ done)) ⊎ ((0 < length p) × Stays types locates count rows room p answer)) same why in
        subst (λ (at : ℕ × List Row). Fills types locates before bytes old (stopped count at.0 (length bytes - length rest) answer) at.1)
        (λ i. (sym rows_same i, sym out_same i))
        (rows_end same answer (halted p after fits split answer stays))
