-- The lines of blocks of Stock Directory messages.
use Rattle.std.proofs.Common.{◌≡◌, ℕ, ◌+◌, ◌<◌, List, [], ◌∷◌, ◌++◌, length, refl, sym, ap, ◌∙◌, arith, length-append}
use Rattle.std.specs.List.{AllByRecursion}
use Rattle.std.proofs.lemmas.List.{append-nil, append_assoc}
use Rattle.std.proofs.lemmas.List.Concat.{flat_map-append}
use Rattle.itch_frame.specs.Blocks.{Blocks, HasNoBlock, IsPayload, block, blocks}
use Rattle.itch_frame.proofs.BlockLemmas.{blocks-push, each-push, reading_one}
use Rattle.itch_offsets.specs.Rows.{directory_line, directory_lines}

-- the lines of the first blocks were appended; these bytes follow the blocks
pub record Appended (directory before rest now : List ℕ) : Type 0 where
  pub payloads : List (List ℕ)
  pub whole : directory ≡ blocks payloads ++ rest
  pub each : AllByRecursion IsPayload payloads
  pub appended : now ≡ before ++ directory_lines payloads

pub none_appended : (directory before : List ℕ) → Appended directory before directory before
none_appended directory before = record { payloads = []; whole = refl; each = tt; appended = sym (append-nil before) }

lines_push : (ps : List (List ℕ)) (p : List ℕ) → directory_lines (ps ++ p ∷ []) ≡ directory_lines ps ++ directory_line p
lines_push ps p = flat_map-append directory_line ps (p ∷ []) ∙ ap (λ line. directory_lines ps ++ line) (append-nil (directory_line p))

length-block : (p : List ℕ) → length (block p) ≡ length p + 2
length-block p = omega arith

-- a block is not nothing
pub fewer : (rest p after : List ℕ) → rest ≡ block p ++ after → length after < length rest
fewer rest p after split = omega (arith, ap length split, length-append (block p) after, length-block p)

module _ (directory before : List ℕ) where
  -- and the line of the next block
  pub one_appended : (rest now : List ℕ) → Appended directory before rest now → (p after : List ℕ) → IsPayload p → rest ≡ block p ++ after
      → (next : List ℕ) → next ≡ now ++ directory_line p → Appended directory before after next
  one_appended rest now so p after fits split next is = record {
    payloads = so.payloads ++ p ∷ [];
    whole = so.whole ∙ ap (λ r. blocks so.payloads ++ r) split ∙ sym (append_assoc (blocks so.payloads) (block p) after)
        ∙ ap (λ b. b ++ after) (sym (blocks-push so.payloads p));
    each = each-push IsPayload so.payloads p so.each fits;
    appended = is ∙ ap (λ l. l ++ directory_line p) so.appended ∙ append_assoc before (directory_lines so.payloads) (directory_line p)
        ∙ ap (λ l. before ++ l) (sym (lines_push so.payloads p));
  }

  -- and those of all
  pub all_appended : (rest now : List ℕ) → Appended directory before rest now → HasNoBlock rest → (ps : List (List ℕ)) (left : List ℕ) → Blocks directory ps left
      → now ≡ before ++ directory_lines ps
  all_appended rest now so none ps left is =
      let found : Blocks directory so.payloads rest = record { whole = so.whole; each = so.each; no_more = none } in
      so.appended ∙ ap (λ qs. before ++ directory_lines qs) (sym (reading_one directory ps so.payloads left rest is found).0)
