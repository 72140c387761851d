-- A replay reaches the end of a day file if and only if the file has an end, and its payloads are messages that follow the order rules.
use Rattle.std.proofs.Common.{◌≡◌, ℕ, ◌-◌, ◌^◌, ◌<◌, ◌≤◌, List, [], ◌∷◌, ◌++◌, map, length, take, drop, suc, Option, Some, None, refl, sym, ap, subst, ◌∙◌, ◌⊎◌, inl, inr, append_assoc, arith}
use Rattle.std.proofs.lemmas.List.{take-append-drop, length-take-le}
use Rattle.std.specs.Prelude.{slice_get, option_map, option_and_then}
use Rattle.std.specs.List.{AllByRecursion}
use Rattle.std.specs.Int.{bytes_high_first}
use Rattle.itch_codec.specs.declared.fault.CodecFault.{CodecFault}
use Rattle.itch_codec.specs.Fields.{AreBytes}
use Rattle.itch_codec.specs.Messages.{fault, message_of}
use Rattle.itch_codec.proofs.Spelling.{IsMessage-Spells, Spells-message_of}
use Rattle.itch_book.proofs.Lists.{All-left_rec, All-right_rec}
use Rattle.itch_frame.specs.Blocks.{block, blocks, Ends, Open, Day}
use Rattle.itch_frame.proofs.Days.{day_one}
use Rattle.itch_frame.specs.declared.fault.FrameFault.TheVariants.{Truncated}
use Rattle.itch_market.specs.declared.refusal.Refusal.{Refusal}
use Rattle.itch_market.specs.declared.stop.Stop.{Stop}
use Rattle.itch_market.specs.declared.stop.Stop.TheVariants.{End, Frame, TooManyMessages, Rule}
use Rattle.itch_market.specs.Content.{Content}
use Rattle.itch_market.specs.Reasons.{reason}
use Rattle.itch_market.specs.Effects.{effect}
use Rattle.itch_market.specs.Runs.{AreMessages, after, FollowsFrom}
use Rattle.itch_market.specs.FirstPlaces.{IsFirst}
use Rattle.itch_market.specs.Stops.{cause_by, cause, cause_at, end_of, stop_at, Stops}
use Rattle.itch_market.specs.Replays.{NoCause}
use Rattle.itch_market.proofs.Causes.{no_fault, none_clean, none_follows, follows_none, cause_before}
use Rattle.itch_market.proofs.StopPlaces.{no_later, none_before, place}
use Rattle.itch_market.proofs.ReplayStops.{none_ends, ends_stop, open_stops}

-- the payloads of bytes are bytes
pub payload_bytes : (ps : List (List ℕ)) (rest : List ℕ) → AreBytes (blocks ps ++ rest) → AllByRecursion AreBytes ps
payload_bytes [] rest h = tt
payload_bytes (p ∷ ps) rest h =
    let front : AreBytes (block p ++ (blocks ps ++ rest)) = subst AreBytes (append_assoc (block p) (blocks ps) rest) h in (
      All-right_rec (λ byte. byte < 256) (bytes_high_first 2 (length p)) p (All-left_rec (λ byte. byte < 256) (block p) (blocks ps ++ rest) front),
      payload_bytes ps rest (All-right_rec (λ byte. byte < 256) (block p) (blocks ps ++ rest) front),
    )

-- the fields of messages that are taken fit
messages_fit : (m : Content) (ps : List (List ℕ)) → NoCause m ps → AllByRecursion AreBytes ps → AreMessages (map message_of ps)
messages_fit m [] none b = tt
messages_fit m (p ∷ ps) none b = (
  IsMessage-Spells (message_of p) p b.0 (Spells-message_of p (no_fault m p (none 0 (omega arith)))),
  messages_fit (effect m (message_of p)) ps (λ k within. none (suc k) (omega arith)) b.1,
)

-- a payload is not the end of a day
no_end : (f : Option CodecFault) (r : Option Refusal) (m : Content) (p : List ℕ) → reason m (message_of p) ≡ r → cause_by f m p ≡ Some End → ⊥
no_end (Some f) r m p is h = let no : ⊥ = cc in no
no_end None None m p is h = let none : option_map Rule (reason m (message_of p)) ≡ None = ap (option_map Rule) is in let no : ⊥ = cc in no
no_end None (Some why) m p is h = let some : option_map Rule (reason m (message_of p)) ≡ Some (Rule why) = ap (option_map Rule) is in let no : ⊥ = cc in no

no_end_at : (m : Content) (found : Option (List ℕ)) → option_and_then (cause m) found ≡ Some End → ⊥
no_end_at m None h = let no : ⊥ = cc in no
no_end_at m (Some p) h = no_end (fault p) (reason m (message_of p)) m p refl h

-- a search that finds the end has passed all payloads
record AllTaken (ps : List (List ℕ)) (rest : List ℕ) (k : ℕ) : Type 0 where
  count : k ≡ length ps
  few : length ps ≤ 10 ^ 19 - 1
  ended : end_of rest ≡ End

ends_there : (rest : List ℕ) → Ends rest ⊎ Open rest → end_of rest ≡ End → Ends rest
ends_there rest (inl ends) h = ends
ends_there rest (inr part) h = let clash : Frame (Truncated (length rest)) ≡ End = sym (open_stops rest part) ∙ h in let no : ⊥ = cc in absurd no

module _ (m : Content) (ps : List (List ℕ)) (rest : List ℕ) (k : ℕ) (first : IsFirst (stop_at (10 ^ 19 - 1) m ps rest) k End) where
  all_taken : AllTaken ps rest k
  all_taken = elim (place m ps rest k End first) [
    | inl here ↦ absurd (no_end_at (after m (map message_of (take k ps))) (slice_get ps k) here.2)
    | inr later ↦ elim later [
      | inl here ↦ let clash : End ≡ TooManyMessages = here.2 in let no : ⊥ = cc in absurd no
      | inr here ↦ record { count = here.0; few = let low = no_later m ps rest k End first in let all : k ≡ length ps = here.0 in omega arith; ended = sym here.1 }
    ]
  ]

  none_refused : NoCause m ps
  none_refused i within = none_before m ps rest k End first i (omega (arith, within, all_taken.count))

-- the search of a file, for any reading of it as a day
search_of : (m : Content) (bytes : List ℕ) (ps : List (List ℕ)) (rest : List ℕ) (k : ℕ) (why : Stop) → Day bytes ps rest → Stops m bytes k why
    → IsFirst (stop_at (10 ^ 19 - 1) m ps rest) k why
search_of m bytes ps rest k why day stops =
    let same = day_one bytes stops.payloads ps stops.rest rest stops.day day in
    subst (λ r. IsFirst (stop_at (10 ^ 19 - 1) m ps r) k why) same.1
    (subst (λ payloads. IsFirst (stop_at (10 ^ 19 - 1) m payloads stops.rest) k why) same.0 stops.first)

-- the messages before the place where a replay stops
module _ (m : Content) (bytes : List ℕ) (ps : List (List ℕ)) (rest : List ℕ) (k : ℕ) (why : Stop) (day : Day bytes ps rest) (stops : Stops m bytes k why) where
  pub stopped_within : k ≤ length ps
  stopped_within = let low = no_later m ps rest k why (search_of m bytes ps rest k why day stops) in omega arith

  pub stopped_few : k < 10 ^ 19
  stopped_few = let low = no_later m ps rest k why (search_of m bytes ps rest k why day stops) in omega arith

  none_so_far : NoCause m (take k ps)
  none_so_far i within =
      sym (cause_before m (take k ps) (drop k ps) i within) ∙ ap (λ qs. cause_at m qs i) (take-append-drop k ps)
      ∙ none_before m ps rest k why (search_of m bytes ps rest k why day stops) i (omega (arith, within, length-take-le k ps stopped_within))

  pub stopped_follows : FollowsFrom m (map message_of (take k ps))
  stopped_follows = none_follows m (take k ps) none_so_far

  pub stopped_messages : AreBytes bytes → AreMessages (map message_of (take k ps))
  stopped_messages b =
      messages_fit m (take k ps) none_so_far
      (All-left_rec AreBytes (take k ps) (drop k ps)
      (subst (AllByRecursion AreBytes) (sym (take-append-drop k ps)) (payload_bytes ps rest (subst AreBytes day.whole b))))

module _ (m : Content) (bytes : List ℕ) (ps : List (List ℕ)) (rest : List ℕ) (k : ℕ) (day : Day bytes ps rest) (stops : Stops m bytes k End) where
  search : IsFirst (stop_at (10 ^ 19 - 1) m ps rest) k End
  search = search_of m bytes ps rest k End day stops

  pub day_count : k ≡ length ps
  day_count = let all = all_taken m ps rest k search in all.count

  pub day_few : length ps < 10 ^ 19
  day_few = let all = all_taken m ps rest k search in let few : length ps ≤ 10 ^ 19 - 1 = all.few in omega arith

  pub day_ends : Ends rest
  day_ends = let all = all_taken m ps rest k search in ends_there rest day.last all.ended

  pub day_clean : AllByRecursion (λ payload. fault payload ≡ None) ps
  day_clean = none_clean m ps (none_refused m ps rest k search)

  pub day_follows : FollowsFrom m (map message_of ps)
  day_follows = none_follows m ps (none_refused m ps rest k search)

  pub day_messages : AreBytes bytes → AreMessages (map message_of ps)
  day_messages b = messages_fit m ps (none_refused m ps rest k search) (payload_bytes ps rest (subst AreBytes day.whole b))

-- a replay takes a day file to its end if the file has an end, its payloads have no fault, and its messages follow the order rules
pub clean_stops : (m : Content) → (bytes : List ℕ) → (ps : List (List ℕ)) → (rest : List ℕ) → Day bytes ps rest → Ends rest → length ps < 10 ^ 19
    → AllByRecursion (λ payload. fault payload ≡ None) ps → FollowsFrom m (map message_of ps) → Stops m bytes (length ps) End
clean_stops m bytes ps rest day ends few clean follows =
    subst (Stops m bytes (length ps)) (ends_stop rest ends) (none_ends m bytes ps rest day (omega arith) (follows_none m ps clean follows))
