-- The parts of a text, written one after another.
use Rattle.std.proofs.Common.{◌≡◌, ℕ, ◌+◌, ◌<◌, ◌≤◌, List, [], ◌∷◌, ◌++◌, flat_map, length, take, drop, slice_get, Option, None, Some, Ok, Err, refl, sym, ap, subst, ◌∙◌, arith, get_or}
use Rattle.std.proofs.KnownBytes.{Appends-nil}
use Rattle.std.proofs.lemmas.List.{flat_map_more, take-append-drop, take_all, take_more}
use Rattle.std.proofs.lemmas.Grind.{flat_map-append}
use Rattle.std.proofs.lemmas.List.FromFn.{get_or-range_with_len, length-range_with_len}
use Rattle.std.proofs.lemmas.Option.{slice_get-get_or, slice_get_past}
use Rattle.std.specs.Borrow.{Bor}
use Rattle.std.specs.List.{range_with_len}
use Rattle.std.specs.Option.{option_copied}
use Rattle.std.specs.Slice.{IsItemAt}
use Rattle.itch_frame.specs.declared.tally.Failures.{Failures}
use Rattle.itch_commands.specs.declared.fault.ToolFault.{ToolFault}
use Rattle.itch_commands.specs.Outputs.{WritesText}
use Rattle.itch_commands.proofs.JoinedTexts.{text_then, text_fails}

module _ {W X : Type 0} (contents : W → Option (List ℕ)) (failures : W → Failures) (part : X → List ℕ) (all : List X) (old : W) where
  -- the first parts were written
  abbrev pub AreWritten : ℕ → W → Type 0
  AreWritten i new = WritesText contents failures (flat_map part (take i all)) old (Ok tt) new

  pub none_written : AreWritten 0 old
  none_written = (Appends-nil (contents old), refl)

  module _ (i : ℕ) (d : X) (within : i < length all) where
    more : take (i + 1) all ≡ take i all ++ get_or all i d ∷ []
    more = take_more all i d within

    -- one more is
    pub one_written : (mid new : W) → AreWritten i mid → WritesText contents failures (part (get_or all i d)) mid (Ok tt) new → AreWritten (i + 1) new
    one_written mid new so_far written =
        subst (λ text. WritesText contents failures text old (Ok tt) new) (flat_map_more part [] (take i all) (get_or all i d) ∙ ap (flat_map part) (sym more))
        (text_then contents failures (flat_map part (take i all)) (part (get_or all i d)) old mid new (Ok tt) so_far written)

    -- a write failed within one
    pub one_fails : (mid new : W) (fault : ToolFault) → AreWritten i mid → WritesText contents failures (part (get_or all i d)) mid (Err fault) new
        → WritesText contents failures (flat_map part all) old (Err fault) new
    one_fails mid new fault so_far written =
        let x : X = get_or all i d in
        let rest : List ℕ = flat_map part (drop (i + 1) all) in
        let first : flat_map part (take (i + 1) all) ≡ flat_map part (take i all) ++ part x = ap (flat_map part) more ∙ sym (flat_map_more part [] (take i all) x) in
        let whole : flat_map part all ≡ (flat_map part (take i all) ++ part x) ++ rest =
        ap (flat_map part) (sym (take-append-drop (i + 1) all)) ∙ flat_map-append part (take (i + 1) all) (drop (i + 1) all) ∙ ap (λ text. text ++ rest) first in
        subst (λ text. WritesText contents failures text old (Err fault) new) (sym whole)
        (text_fails contents failures (flat_map part (take i all) ++ part x) rest old new fault
        (text_then contents failures (flat_map part (take i all)) (part x) old mid new (Err fault) so_far written))

  -- all are
  pub all_written : (i : ℕ) (new : W) → length all ≤ i → AreWritten i new → WritesText contents failures (flat_map part all) old (Ok tt) new
  all_written i new past so_far = subst (λ xs. WritesText contents failures (flat_map part xs) old (Ok tt) new) (take_all i all past) so_far

-- the places below a number
pub place_at : (depth i : ℕ) → i < depth → get_or (range_with_len 0 depth) i 0 ≡ i
place_at depth i within = omega (arith, get_or-range_with_len 0 depth i 0 within)

pub is_place : (depth i : ℕ) → i < depth → i < length (range_with_len 0 depth)
is_place depth i within = omega (arith, length-range_with_len 0 depth)

pub past_places : (depth i : ℕ) → depth ≤ i → length (range_with_len 0 depth) ≤ i
past_places depth i past = omega (arith, length-range_with_len 0 depth)

-- an item that is looked up
pub at_index : {X : Type 0} (xs : List X) (i : ℕ) (r : Option (Bor X)) → IsItemAt xs i r → option_copied r ≡ slice_get xs i
at_index xs i None found = sym (slice_get_past xs i found.3)
at_index xs i (Some x) found = ap Some found.1 ∙ sym (slice_get-get_or xs i x.now found.3.0)
