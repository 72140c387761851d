-- A tally, one byte further.
use Rattle.std.proofs.Common.{◌≡◌, ℕ, ◌+◌, ◌-◌, ◌^◌, ◌<◌, min, List, [], ◌∷◌, ◌++◌, length, take, get_or, replicate, refl, sym, ap, subst, ◌∙◌, append_assoc, append-nil, arith, length-append}
use Rattle.std.proofs.Math.Numerals.{add-one}
use Rattle.std.proofs.Math.Seq.{take-suc}
use Rattle.std.proofs.lemmas.List.{length-replicate}
use Rattle.itch_frame.specs.Blocks.{IsPayload, block, blocks, IsBlock, HasNoBlock}
use Rattle.itch_frame.proofs.BlockLemmas.{same_block, blocks-push, each-push, nothing_left}
use Rattle.itchsnap_cli.specs.declared.input.messages.BlockPosition.{BlockPosition}
use Rattle.itchsnap_cli.specs.declared.input.messages.BlockPosition.TheVariants.{Border, Length, Payload}
use Rattle.itchsnap_cli.specs.declared.input.messages.BlockCounter.{BlockCounter}
use Rattle.itchsnap_cli.specs.Tallies.{IsWholeAfter, IsAt, Reaches, Counts, CountsOn}

-- bytes that one or more further bytes complete do not begin with a block
unfinished_open : (count : ℕ) (bytes : List ℕ) → 0 < count → IsWholeAfter count bytes → HasNoBlock bytes
unfinished_open count bytes some whole payload more fits is = by_filler (whole (replicate count 0) (length-replicate {A = ℕ} count 0)) where
  by_filler : IsBlock (bytes ++ replicate count 0) → ⊥
  by_filler (other, of) =
      let same : block payload ++ (more ++ replicate count 0) ≡ block other ++ [] =
      sym (append_assoc (block payload) more (replicate count 0)) ∙ ap (λ b. b ++ replicate count 0) (sym is) ∙ of.1 ∙ sym (append-nil (block other)) in
      let nothing : more ++ replicate count 0 ≡ [] = (same_block payload other (more ++ replicate count 0) [] fits of.0 same).1 in
      omega (arith, ap length nothing, length-append more (replicate count 0), length-replicate {A = ℕ} count 0)

-- one byte does not begin with a block
byte_open : (byte : ℕ) → HasNoBlock (byte ∷ [])
byte_open byte payload more fits is = omega (arith, ap length is, length-append (block payload) more)

-- bytes at a place do not begin with a block
at_open : (place : BlockPosition) (bytes : List ℕ) → IsAt place bytes → HasNoBlock bytes
at_open Border bytes is = subst HasNoBlock (sym is) (nothing_left IsPayload)
at_open (Length high) bytes is = subst HasNoBlock (sym is.0) (byte_open high)
at_open (Payload count) bytes is = unfinished_open count bytes is.0 is.1

-- a byte of a payload
pub payload_byte : (bytes : List ℕ) (byte count : ℕ) → 0 < count → IsWholeAfter count bytes → IsWholeAfter (count - 1) (bytes ++ byte ∷ [])
payload_byte bytes byte count some whole more long =
    subst IsBlock (sym (append_assoc bytes (byte ∷ []) more)) (whole (byte ∷ more) (omega (arith, long)))

-- bytes that lack nothing are a block
pub lacks_nothing : (bytes : List ℕ) → IsWholeAfter 0 bytes → IsBlock bytes
lacks_nothing bytes whole = subst IsBlock (append-nil bytes) (whole [] refl)

-- an empty piece, and two adjacent pieces
pub on_nothing : (tally : BlockCounter) → CountsOn tally [] tally
on_nothing tally bytes counts = subst (Counts tally) (sym (append-nil bytes)) counts

on_both : (old mid new : BlockCounter) (first second : List ℕ) → CountsOn old first mid → CountsOn mid second new → CountsOn old (first ++ second) new
on_both old mid new first second one two bytes counts = subst (Counts new) (append_assoc bytes first second) (two (bytes ++ first) (one bytes counts))

-- the next byte of a piece
pub on_next : (old mid new : BlockCounter) (piece : List ℕ) (i : ℕ) → i < length piece
    → CountsOn old (take i piece) mid → CountsOn mid (get_or piece i 0 ∷ []) new → CountsOn old (take (i + 1) piece) new
on_next old mid new piece i inside so_far one =
    rw (add-one i) (subst (λ taken. CountsOn old taken new) (sym (take-suc piece i 0 inside))
    (on_both old mid new (take i piece) (get_or piece i 0 ∷ []) so_far one))

-- one more byte, and the next block is not complete
within_block : (old new : BlockCounter) (bytes : List ℕ) (byte : ℕ) (so_far : Counts old bytes)
    → IsAt new.place (so_far.rest ++ byte ∷ []) → new.messages ≡ old.messages → Counts new (bytes ++ byte ∷ [])
within_block old new bytes byte so_far at same = record {
  payloads = so_far.payloads;
  rest = so_far.rest ++ byte ∷ [];
  reading = record {
    whole = ap (λ b. b ++ byte ∷ []) so_far.reading.whole ∙ append_assoc (blocks so_far.payloads) so_far.rest (byte ∷ []);
    each = so_far.reading.each;
    no_more = at_open new.place (so_far.rest ++ byte ∷ []) at;
  };
  counted = same ∙ so_far.counted;
  place = at;
}

-- one more byte, and the next block is complete
after_block : (old new : BlockCounter) (bytes : List ℕ) (byte : ℕ) (so_far : Counts old bytes)
    → IsBlock (so_far.rest ++ byte ∷ []) → new.place ≡ Border → new.messages ≡ min (old.messages + 1) (2 ^ 64 - 1) → Counts new (bytes ++ byte ∷ [])
after_block old new bytes byte so_far (payload, is) at more = record {
  payloads = so_far.payloads ++ payload ∷ [];
  rest = [];
  reading = record {
    whole = ap (λ b. b ++ byte ∷ []) so_far.reading.whole ∙ append_assoc (blocks so_far.payloads) so_far.rest (byte ∷ [])
        ∙ ap (λ b. blocks so_far.payloads ++ b) is.1 ∙ sym (blocks-push so_far.payloads payload) ∙ sym (append-nil (blocks (so_far.payloads ++ payload ∷ [])));
    each = each-push IsPayload so_far.payloads payload so_far.reading.each is.0;
    no_more = nothing_left IsPayload;
  };
  counted = omega (arith, more, so_far.counted, length-append so_far.payloads (payload ∷ []));
  place = subst (λ place. IsAt place []) (sym at) refl;
}

-- one more byte
pub one_on : (old new : BlockCounter) (byte : ℕ) → ((bytes : List ℕ) → IsAt old.place bytes → Reaches new.place (bytes ++ byte ∷ []))
    → (new.place ≡ Border → new.messages ≡ min (old.messages + 1) (2 ^ 64 - 1)) → ((new.place ≡ Border → ⊥) → new.messages ≡ old.messages)
    → CountsOn old (byte ∷ []) new
one_on old new byte moves more same bytes so_far = by_place new.place refl (moves so_far.rest so_far.place) where
  by_place : (place : BlockPosition) → new.place ≡ place → Reaches place (so_far.rest ++ byte ∷ []) → Counts new (bytes ++ byte ∷ [])
  by_place Border is reached = after_block old new bytes byte so_far reached is (more is)
  by_place (Length high) is reached =
      within_block old new bytes byte so_far (subst (λ place. IsAt place (so_far.rest ++ byte ∷ [])) (sym is) reached) (same (λ border. let no_one : ⊥ = cc in no_one))
  by_place (Payload count) is reached =
      within_block old new bytes byte so_far (subst (λ place. IsAt place (so_far.rest ++ byte ∷ [])) (sym is) reached) (same (λ border. let no_one : ⊥ = cc in no_one))
