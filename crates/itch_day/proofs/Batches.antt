-- Messages taken together from the bytes in memory.
use Rattle.std.proofs.Common.{◌≡◌, ℕ, ◌+◌, ◌<◌, ◌≤◌, ◌⊎◌, inl, inr, List, [], ◌∷◌, ◌++◌, length, Option, None, Some, refl, sym, ap, subst, ◌∙◌, arith, append_assoc, length-append, min, ◌-◌, ◌^◌, IfSome}
use Rattle.std.specs.List.{AllByRecursion}
use Rattle.std.specs.Io.KnownBytes.{Consumes}
use Rattle.itch_frame.specs.Blocks.{block, blocks, IsFull}
use Rattle.itch_frame.specs.Offers.{Offers}
use Rattle.itch_frame.specs.Reading.{Reading, bytes_left}
use Rattle.itch_frame.specs.declared.reader.BlockStage.TheVariants.{Given}
use Rattle.itch_frame.specs.declared.tally.Failures.{Failures}
use Rattle.itch_day.specs.declared.limit.Limit.{Limit}
use Rattle.itch_day.specs.Batches.{TakesBlocks}
use Rattle.itch_day.specs.Limits.{IsNotLate, IsWithin, most_of}
use Rattle.itch_day.specs.Parts.{TakesSome}
use Rattle.itch_frame.proofs.BlockLemmas.{blocks-push, each-push}
use Rattle.itch_day.proofs.Progress.{takes_push}

-- without a time where the part ends, no message is late
never_late : (limit : Limit) (ps : List (List ℕ)) → limit.until ≡ None → AllByRecursion (IsNotLate limit) ps
never_late limit [] never = tt
never_late limit (p ∷ ps) never = (λ late. absurd (let is = rw never at late.1 in cc), never_late limit ps never)

-- no more messages than possible are no more than requested
within_most : (limit : Limit) (count : ℕ) → count ≤ most_of limit.after → IsWithin limit count
within_most limit count few = by_after limit.after few where
  by_after : (after : Option ℕ) → count ≤ most_of after → IsWithin (record { after = after; until = limit.until }) count
  by_after None few = tt
  by_after (Some most) few = few

-- blocks contain bytes
some_bytes : (ps : List (List ℕ)) (bytes : List ℕ) → bytes ≡ blocks ps → 0 < length ps → 0 < length bytes
some_bytes [] bytes whole some = absurd (omega (arith, some))
some_bytes (p ∷ ps) bytes whole some = omega (arith, ap length whole)

no_bytes : (ps : List (List ℕ)) (bytes : List ℕ) → bytes ≡ blocks ps → length ps ≡ 0 → length bytes ≡ 0
no_bytes [] bytes whole none = ap length whole
no_bytes (p ∷ ps) bytes whole none = absurd (omega (arith, none))

module _ {R T : Type 0} (remaining : R → Option (List ℕ)) (failures : R → Failures) (takes : T → ℕ → List ℕ → T → Type 0) (limit : Limit) where
  pub taken_together : (old new : Reading R) (before count : ℕ) (t u : T) (bytes : List ℕ) → limit.until ≡ None → Consumes (bytes_left remaining old) (bytes_left remaining new) bytes
      → (length bytes ≡ 0 → new ≡ old) → (0 < length bytes → (old.stage ≡ Given) × (new.stage ≡ Given) × (new.held ≡ [])) → failures new.reader ≡ failures old.reader
      → count ≤ most_of limit.after → TakesBlocks takes before count t u bytes → TakesSome remaining failures takes limit old new before count t u
  taken_together old new before count t u bytes never read unread between uncounted few batch =
      let ps = batch.payloads in
      record {
        payloads = ps;
        taken = record {
          bytes = subst (Consumes (bytes_left remaining old) (bytes_left remaining new)) batch.whole read;
          full = batch.full;
          early = never_late limit ps never;
          wanted = λ _. within_most limit count few;
          taken = batch.taken;
          counted = batch.counted;
        };
        passes = record {
          unread = λ none. unread (no_bytes ps bytes batch.whole none);
          given = λ some. let stages = between (some_bytes ps bytes batch.whole some) in (stages.2, stages.1, λ is. absurd (let no = sym stages.0 ∙ is in cc), λ is. absurd (let no = sym stages.0 ∙ is in cc));
        };
        uncounted = uncounted;
      }

-- bytes of length 0
no_length : (bytes : List ℕ) → length bytes ≡ 0 → bytes ≡ []
no_length [] none = refl
no_length (b ∷ bytes) none = absurd (omega (arith, none))

-- no more blocks
pub no_more_blocks : {T : Type 0} (takes : T → ℕ → List ℕ → T → Type 0) (before : ℕ) (t : T) → TakesBlocks takes before before t t []
no_more_blocks takes before t = record { payloads = []; whole = refl; full = tt; taken = refl; counted = omega arith }

-- one more block
pub block_more : {T : Type 0} (takes : T → ℕ → List ℕ → T → Type 0) (before count : ℕ) (t u v : T) (bytes rest after : List ℕ)
    → (front : List ℕ) × ((bytes ≡ front ++ rest) × TakesBlocks takes before count t u front)
    → (payload : List ℕ) × (IsFull payload × (rest ≡ block payload ++ after) × takes u (count + 1) payload v)
    → (front : List ℕ) × ((bytes ≡ front ++ after) × TakesBlocks takes before (count + 1) t v front)
block_more takes before count t u v bytes rest after (front, (whole, batch)) (p, (full, next, taken)) =
    let ps = batch.payloads in (
      front ++ block p,
      (
        whole ∙ ap (λ more. front ++ more) next ∙ sym (append_assoc front (block p) after),
        record {
          payloads = ps ++ p ∷ [];
          whole = ap (λ first. first ++ block p) batch.whole ∙ sym (blocks-push ps p);
          full = each-push IsFull ps p batch.full full;
          taken = takes_push takes t before ps u p v (count + 1) batch.taken (ap (λ k. k + 1) batch.counted) taken;
          counted = omega (arith, batch.counted, length-append ps (p ∷ []));
        },
      ),
    )

-- fewer messages than requested are no more than possible
pub below_bound : (after : Option ℕ) (count bound : ℕ) → IfSome after (λ most. count < most) → count ≤ 10 ^ 19 - 1 → bound ≡ min (most_of after) (10 ^ 19 - 1) → count ≤ bound
below_bound None count bound before few is = omega (arith, few, is)
below_bound (Some most) count bound before few is = omega (arith, before, few, is)

module _ {R T B : Type 0} (remaining : R → Option (List ℕ)) (failures : R → Failures) (takes : T → ℕ → List ℕ → T → Type 0) (is_ready : T → ℕ → Type 0) (limit : Limit)
    (sink : B → T) (name count bound : B → ℕ) where
  -- the effect of a batch on bytes
  abbrev Uses : B → List ℕ → B → Type 0
  Uses b bytes c = (name c ≡ name b) × TakesBlocks takes (count b) (count c) (sink b) (sink c) bytes × is_ready (sink c) (count c + 1) × (count c ≤ bound b)

  -- the effect of offering the bytes in memory to a batch
  pub offered : (old new : Reading R) (n : ℕ) (b c : B) → Offers (bytes_left remaining) Uses old n new b c → limit.until ≡ None → (0 < n → (old.stage ≡ Given) × (new.stage ≡ Given) × (new.held ≡ []))
      → failures new.reader ≡ failures old.reader → is_ready (sink b) (count b + 1) → count b ≤ bound b → bound b ≤ most_of limit.after
      → (name c ≡ name b) × TakesSome remaining failures takes limit old new (count b) (count c) (sink b) (sink c) × is_ready (sink c) (count c + 1) × (count c ≤ bound b)
  offered old new n b c offers never between uncounted ready few most = by_use offers.used where
    between_bytes : 0 < length offers.bytes → (old.stage ≡ Given) × (new.stage ≡ Given) × (new.held ≡ [])
    between_bytes some = between (omega (arith, some, offers.counted))

    together : TakesBlocks takes (count b) (count c) (sink b) (sink c) offers.bytes → count c ≤ bound b → TakesSome remaining failures takes limit old new (count b) (count c) (sink b) (sink c)
    together taken within =
        taken_together remaining failures takes limit old new (count b) (count c) (sink b) (sink c) offers.bytes never offers.read (λ none. offers.unread (omega (arith, none, offers.counted)))
        between_bytes uncounted (omega (arith, within, most)) taken

    by_use : ((n ≡ 0) × (c ≡ b)) ⊎ Uses b offers.bytes c
        → (name c ≡ name b) × TakesSome remaining failures takes limit old new (count b) (count c) (sink b) (sink c) × is_ready (sink c) (count c + 1) × (count c ≤ bound b)
    by_use (inl (none, same)) =
        let no_bytes : offers.bytes ≡ [] = no_length offers.bytes (offers.counted ∙ none) in
        let taken : TakesBlocks takes (count b) (count c) (sink b) (sink c) offers.bytes = rw (no_bytes, same) (no_more_blocks takes (count b) (sink b)) in
        let within : count c ≤ bound b = rw same few in
        (ap name same, together taken within, rw same ready, within)
    by_use (inr (named, taken, later, within)) = (named, together taken within, later, within)
