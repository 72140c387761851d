-- Stocks that are looked up in the messages of blocks.
use Rattle.std.proofs.Common.{◌≡◌, ℕ, ◌+◌, ◌<◌, List, [], ◌∷◌, ◌++◌, length, map, refl, sym, ap, subst, ◌∙◌, arith, append-nil, length-append}
use Rattle.std.proofs.lemmas.List.{append_assoc}
use Rattle.std.specs.List.{AllByRecursion}
use Rattle.itch_codec.specs.Messages.{message_of}
use Rattle.itch_frame.specs.Blocks.{IsPayload, HasNoBlock, block, blocks}
use Rattle.itch_frame.proofs.BlockLemmas.{blocks-push, each-push, nothing_left, one_way}
use Rattle.itch_commands.specs.Choices.{Chosen, chosen_listing, chosen_listing_all}
use Rattle.itch_commands.specs.Further.{AreListed}
use Rattle.itch_commands.specs.Showing.{IsClean}

-- the choice once stocks are looked up in the messages of the first blocks; these bytes follow the blocks
pub record Listed (directory : List ℕ) (old : Chosen) (rest : List ℕ) (now : Chosen) : Type 0 where
  pub payloads : List (List ℕ)
  pub whole : directory ≡ blocks payloads ++ rest
  pub each : AllByRecursion IsPayload payloads
  pub chosen : AllByRecursion IsClean payloads → now ≡ chosen_listing_all old (map message_of payloads)

pub listed_none : (directory : List ℕ) (old : Chosen) → Listed directory old directory old
unfolding chosen_listing_all
listed_none directory old = record { payloads = []; whole = refl; each = tt; chosen = λ clean. refl }

listing_push : (chosen : Chosen) (ps : List (List ℕ)) (p : List ℕ)
    → chosen_listing (chosen_listing_all chosen (map message_of ps)) (message_of p) ≡ chosen_listing_all chosen (map message_of (ps ++ p ∷ []))
unfolding chosen_listing_all
listing_push chosen [] p = refl
listing_push chosen (q ∷ ps) p = listing_push (chosen_listing chosen (message_of q)) ps p

clean_push : (ps : List (List ℕ)) (p : List ℕ) → AllByRecursion IsClean (ps ++ p ∷ []) → AllByRecursion IsClean ps × IsClean p
clean_push [] p clean = (tt, clean.0)
clean_push (q ∷ ps) p clean = let more = clean_push ps p clean.1 in ((clean.0, more.0), more.1)

length-block : (p : List ℕ) → length (block p) ≡ length p + 2
length-block p = omega arith

-- a block is not nothing
pub fewer : (rest p after : List ℕ) → rest ≡ block p ++ after → length after < length rest
fewer rest p after split = omega (arith, ap length split, length-append (block p) after, length-block p)

module _ (directory : List ℕ) (old : Chosen) where
  -- and in the message of the next block
  pub listed_more : (rest : List ℕ) (now : Chosen) → Listed directory old rest now → (p after : List ℕ) → IsPayload p → rest ≡ block p ++ after
      → (next : Chosen) → (IsClean p → next ≡ chosen_listing now (message_of p)) → Listed directory old after next
  listed_more rest now so p after fits split next lists = record {
    payloads = so.payloads ++ p ∷ [];
    whole = so.whole ∙ ap (λ r. blocks so.payloads ++ r) split ∙ sym (append_assoc (blocks so.payloads) (block p) after)
        ∙ ap (λ b. b ++ after) (sym (blocks-push so.payloads p));
    each = each-push IsPayload so.payloads p so.each fits;
    chosen = λ clean.
        let both = clean_push so.payloads p clean in
        lists both.1 ∙ ap (λ c. chosen_listing c (message_of p)) (so.chosen both.0) ∙ listing_push old so.payloads p;
  }

  -- and in all of them
  pub listed_all : (rest : List ℕ) (now : Chosen) → Listed directory old rest now → HasNoBlock rest → (ps : List (List ℕ)) → AreListed ps directory
      → now ≡ chosen_listing_all old (map message_of ps)
  listed_all rest now so none ps are =
      let both : blocks ps ++ [] ≡ blocks so.payloads ++ rest = append-nil (blocks ps) ∙ sym are.whole ∙ so.whole in
      let same : ps ≡ so.payloads = (one_way IsPayload (λ p fits. fits) ps so.payloads [] rest are.each so.each (nothing_left IsPayload) none both).0 in
      so.chosen (subst (AllByRecursion IsClean) same are.clean) ∙ ap (λ qs. chosen_listing_all old (map message_of qs)) (sym same)
