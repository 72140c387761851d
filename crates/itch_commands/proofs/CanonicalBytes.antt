-- Bytes compared with those of a market's snapshot, message by message.
use Rattle.std.proofs.Common.{Bool, true, false, ◌≡◌, ◌≢◌, ◌↔◌, ◌==◌, length, List, [], ◌∷◌, ◌++◌, map, ℕ, Option, None, Some, refl, sym, ap, ◌∙◌, subst, append-nil, append_assoc, arith}
use Rattle.std.proofs.lemmas.Bool.{true≢false, eqb-true}
use Rattle.std.proofs.lemmas.List.{map-append, append_cancel_left}
use Rattle.std.specs.Borrow.{Bor}
use Rattle.itch_codec.specs.declared.message.Message.{Message}
use Rattle.itch_codec.specs.declared.message.Message.TheVariants as is
use Rattle.itch_codec.specs.Messages.{spelling}
use Rattle.itch_codec.specs.Widths.{IsMessage}
use Rattle.itch_codec.proofs.Spelling.{spelling_short}
use Rattle.itch_frame.specs.Blocks.{IsPayload, block, blocks}
use Rattle.itch_frame.proofs.BlockLemmas.{blocks-append, blocks-push}
use Rattle.itch_market.specs.Content.{Content}
use Rattle.itch_market.specs.GoodMarkets.{IsGood}
use Rattle.itch_snapshot.specs.Bytes.{canon, closing}
use Rattle.itch_snapshot.specs.Snapshot.{snap}
use Rattle.std.specs.List.{AllByRecursion}
use Rattle.itch_book.proofs.Lists.{All-right_rec}
use Rattle.itch_snapshot.proofs.WrittenBlocks.{IsShort, snap_short}
use Rattle.itch_commands.specs.Canons.{StripsFront}

-- two prefixes stripped in turn are one prefix stripped
pub strips_both : (bytes rest a b : List ℕ) (found : Option (Bor (List ℕ))) → bytes ≡ a ++ rest → StripsFront rest b found → StripsFront bytes (a ++ b) found
strips_both bytes rest a b None first never = λ more same. never more (append_cancel_left a rest (b ++ more) (sym first ∙ same ∙ append_assoc a b more))
strips_both bytes rest a b (Some r) first second = first ∙ ap (λ l. a ++ l) second ∙ sym (append_assoc a b r.now)

-- and if the first one is not there, nothing is stripped
pub strips_neither : (bytes a b : List ℕ) → ((more : List ℕ) → bytes ≢ a ++ more) → (more : List ℕ) → bytes ≢ (a ++ b) ++ more
strips_neither bytes a b never more same = never (b ++ more) (same ∙ append_assoc a b more)

-- the bytes begin with the blocks of these messages, and the others remain
pub record Matched (m : Content) (bytes : List ℕ) (seen left : List Message) (rest : List ℕ) : Type 0 where
  pub messages : snap m ≡ seen ++ left
  pub front : bytes ≡ blocks (map spelling seen) ++ rest

pub matched_first : (m : Content) (bytes : List ℕ) → Matched m bytes [] (snap m) bytes
matched_first m bytes = record { messages = refl; front = refl }

module _ (m : Content) (bytes : List ℕ) (seen left : List Message) (rest : List ℕ) (so_far : Matched m bytes seen left rest) where
  -- the spelling of the next message fits a block
  next_short : (x : Message) (others : List Message) → IsGood m → left ≡ x ∷ others → IsPayload (spelling x)
  next_short x others good next =
      (All-right_rec IsShort seen (x ∷ others) (subst (AllByRecursion IsShort) (so_far.messages ∙ ap (λ ms. seen ++ ms) next) (snap_short m good))).0

  -- one more message
  pub matched_on : (x : Message) (others : List Message) (more : List ℕ) → IsGood m → left ≡ x ∷ others → (IsPayload (spelling x) → rest ≡ block (spelling x) ++ more)
      → Matched m bytes (seen ++ x ∷ []) others more
  matched_on x others more good next strips = record {
    messages = so_far.messages ∙ ap (λ ms. seen ++ ms) next ∙ sym (append_assoc seen (x ∷ []) others);
    front =
        so_far.front ∙ ap (λ b. blocks (map spelling seen) ++ b) (strips (next_short x others good next)) ∙ sym (append_assoc (blocks (map spelling seen)) (block (spelling x)) more)
        ∙ ap (λ b. b ++ more) (sym (ap blocks (map-append spelling seen (x ∷ [])) ∙ blocks-push (map spelling seen) (spelling x)));
  }

  -- if the bytes are those of the market, the rest is those of the remaining messages
  rest_is : (next : ℕ) → bytes ≡ canon m ++ closing next → rest ≡ blocks (map spelling left) ++ closing next
  rest_is next same =
      let whole : canon m ≡ blocks (map spelling seen) ++ blocks (map spelling left) =
      ap (λ ms. blocks (map spelling ms)) so_far.messages ∙ ap blocks (map-append spelling seen left) ∙ blocks-append (map spelling seen) (map spelling left) in
      append_cancel_left (blocks (map spelling seen)) rest (blocks (map spelling left) ++ closing next)
      (sym so_far.front ∙ same ∙ ap (λ b. b ++ closing next) whole ∙ append_assoc (blocks (map spelling seen)) (blocks (map spelling left)) (closing next))

  -- so they are not, if the block of the next message does not come first
  pub not_matched : (x : Message) (others : List Message) (next : ℕ) → IsGood m → left ≡ x ∷ others → (IsPayload (spelling x) → (more : List ℕ) → rest ≢ block (spelling x) ++ more)
      → (false ≡ true) ↔ (bytes ≡ canon m ++ closing next)
  not_matched x others next good here never = (
    λ wrong. absurd (true≢false (sym wrong)),
    λ same. absurd (never (next_short x others good here) (blocks (map spelling others) ++ closing next)
        (rest_is next same ∙ ap (λ ms. blocks (map spelling ms) ++ closing next) here ∙ append_assoc (block (spelling x)) (blocks (map spelling others)) (closing next))),
  )

  module _ (next : ℕ) (none : left ≡ []) where
    all_matched : rest ≡ closing next → bytes ≡ canon m ++ closing next
    all_matched closes =
        so_far.front
        ∙ ap (λ b. b ++ rest) (ap (λ ms. blocks (map spelling ms)) (sym (append-nil seen) ∙ ap (λ ms. seen ++ ms) (sym none) ∙ sym so_far.messages))
        ∙ ap (λ b. canon m ++ b) closes

    only_closing : bytes ≡ canon m ++ closing next → rest ≡ closing next
    only_closing same = rest_is next same ∙ ap (λ ms. blocks (map spelling ms) ++ closing next) none

    none_left : (more : List ℕ) → (length more == 0) ≡ true → more ≡ []
    none_left [] zero = refl
    none_left (x ∷ more) zero = let some : length (x ∷ more) ≡ 0 = eqb-true (length (x ∷ more)) 0 zero in absurd (omega (arith, some))

    -- after the last message come the closing block and nothing more
    pub matched_all : (more : List ℕ) (alone : Bool) → IsMessage (is.End next) → (IsPayload (spelling (is.End next)) → rest ≡ closing next ++ more) → alone ≡ (length more == 0)
        → (alone ≡ true) ↔ (bytes ≡ canon m ++ closing next)
    matched_all more alone fits strips says =
        let stripped : rest ≡ closing next ++ more = strips (spelling_short (is.End next) fits (λ kept. kept)) in (
          λ here. all_matched (stripped ∙ ap (λ b. closing next ++ b) (none_left more (sym says ∙ here)) ∙ append-nil (closing next)),
          λ same.
              says ∙ ap (λ b. length b == 0) (append_cancel_left (closing next) more [] (sym stripped ∙ only_closing same ∙ sym (append-nil (closing next)))),
        )

    -- or they do not
    pub not_closed : IsMessage (is.End next) → (IsPayload (spelling (is.End next)) → (more : List ℕ) → rest ≢ closing next ++ more) → (false ≡ true) ↔ (bytes ≡ canon m ++ closing next)
    not_closed fits never = (
      λ wrong. absurd (true≢false (sym wrong)),
      λ same. absurd (never (spelling_short (is.End next) fits (λ kept. kept)) [] (only_closing same ∙ sym (append-nil (closing next)))),
    )
