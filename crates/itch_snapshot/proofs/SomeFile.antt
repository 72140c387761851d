-- Every file is a snapshot file, or has a fault.
use Rattle.std.proofs.Common.{◌≡◌, ℕ, ◌+◌, ◌-◌, ◌<◌, ◌≤◌, ◌^◌, ◌⊎◌, zero, suc, List, [], ◌∷◌, ◌++◌, map, length, slice_get, Option, None, Some, IfSome, refl, sym, ap, subst, ◌∙◌, inl, inr, append_assoc, arith}
use Rattle.std.specs.Option.{option_map}
use Rattle.std.specs.List.{AllByRecursion}
use Rattle.std.proofs.lemmas.List.{length-map}
use Rattle.itch_codec.specs.declared.fault.CodecFault.{CodecFault}
use Rattle.itch_codec.specs.declared.message.Message.{Message}
use Rattle.itch_codec.specs.Messages.{fault, message_of}
use Rattle.itch_book.proofs.Lists.{All-weaker_rec, All-left_rec, All-right_rec}
use Rattle.itch_frame.specs.Blocks.{IsPayload, IsFull, block, blocks, Ends, Open, Day}
use Rattle.itch_frame.specs.declared.fault.FrameFault.TheVariants.{Truncated}
use Rattle.itch_frame.proofs.BlockLemmas.{blocks-append}
use Rattle.itch_market.specs.Content.{Content, empty}
use Rattle.itch_market.specs.Reasons.{reason}
use Rattle.itch_market.specs.Runs.{after}
use Rattle.itch_market.specs.declared.refusal.Refusal.{Refusal}
use Rattle.itch_market.specs.declared.stop.Stop.{Stop}
use Rattle.itch_market.specs.declared.stop.Stop.TheVariants as stop
use Rattle.itch_market.specs.Stops.{cause_by, cause, cause_at, end_of, Stops}
use Rattle.itch_market.specs.Replays.{NoCause}
use Rattle.itch_market.proofs.Causes.{cause_after, cause_before, none_clean, none_follows}
use Rattle.itch_market.proofs.OneStop.{stops_somewhere}
use Rattle.itch_market.proofs.StopPlaces.{none_before, place}
use Rattle.itch_market.proofs.ReplayStops.{ends_stop, open_stops}
use Rattle.itch_snapshot.specs.declared.fault.SnapFault.{SnapFault}
use Rattle.itch_snapshot.specs.declared.fault.SnapFault.TheVariants.{NoEnd, Frame, Codec, Rule, AfterEnd, TooManyMessages}
use Rattle.itch_snapshot.specs.TakenMessages.{closing_number}
use Rattle.itch_snapshot.specs.Files.{ClosesBefore, IsSnapshotFile, StopsAt, IsFaultOf}
use Rattle.itch_snapshot.proofs.FileLemmas.{Spells-number}
use Rattle.itch_snapshot.proofs.KnownFiles.{clean_spelled}

abbrev IsRead : List ℕ → Type 0
IsRead bytes = ((ms : List Message) × (next : ℕ) × IsSnapshotFile bytes ms next) ⊎ ((fault : SnapFault) × IsFaultOf bytes fault)

-- the payload at a position, and those before and after it
record IsSplit (ps : List (List ℕ)) (k : ℕ) : Type 0 where
  before : List (List ℕ)
  payload : List ℕ
  following : List (List ℕ)
  whole : ps ≡ before ++ payload ∷ following
  place_is : length before ≡ k

split_at : (ps : List (List ℕ)) (k : ℕ) → k < length ps → IsSplit ps k
split_at [] k within = absurd (omega arith)
split_at (p ∷ ps) zero within = record { before = []; payload = p; following = ps; whole = refl; place_is = refl }
split_at (p ∷ ps) (suc k) within =
    let later = split_at ps k (omega arith) in
    record { before = p ∷ later.before; payload = later.payload; following = later.following; whole = ap (λ qs. p ∷ qs) later.whole; place_is = omega (arith, later.place_is) }

slice_here : (ps : List (List ℕ)) (p : List ℕ) (qs : List (List ℕ)) → slice_get (ps ++ p ∷ qs) (length ps) ≡ Some p
slice_here [] p qs = refl
slice_here (q ∷ ps) p qs = slice_here ps p qs

-- the messages before an End of Snapshot are taken: the bytes after it determine whether the file is a snapshot file
module _ (bytes : List ℕ) (ps : List (List ℕ)) (p : List ℕ) (qs : List (List ℕ)) (rest : List ℕ) (day : Day bytes (ps ++ p ∷ qs) rest) (none : NoCause empty ps)
    (few : length ps ≤ 10 ^ 19 - 1) (next : ℕ) (number : closing_number p ≡ Some next) where
  closes_here : ClosesBefore (blocks qs ++ rest) bytes (map message_of ps) next
  closes_here = record {
    payloads = ps;
    last = p;
    whole =
        day.whole ∙ ap (λ front. front ++ rest) (blocks-append ps (p ∷ qs)) ∙ append_assoc (blocks ps) (block p ++ blocks qs) rest
        ∙ ap (λ following. blocks ps ++ following) (append_assoc (block p) (blocks qs) rest);
    each = All-weaker_rec IsFull IsPayload (λ q full. full.1) ps (All-left_rec IsFull ps (p ∷ qs) day.each);
    spelled = clean_spelled ps (none_clean empty ps none);
    follows = none_follows empty ps none;
    few = omega (arith, few, length-map ps message_of);
    closes = Spells-number p next number;
  }

closed_read : (bytes : List ℕ) (rest : List ℕ) (ms : List Message) (next : ℕ) (qs : List (List ℕ)) → AllByRecursion IsFull qs → Ends rest ⊎ Open rest
    → ClosesBefore (blocks qs ++ rest) bytes ms next → IsRead bytes
closed_read bytes rest ms next [] full (inl ends) closes = inl (ms, next, (rest, closes, ends))
closed_read bytes rest ms next [] full (inr part) closes = inr (Frame (Truncated (length rest)), inr (ms, next, rest, closes, (part, refl)))
closed_read bytes rest ms next (q ∷ qs) full last closes =
    inr (AfterEnd, (ms, next, blocks (q ∷ qs) ++ rest, closes, (q, blocks qs ++ rest, full.0, append_assoc (block q) (blocks qs) rest)))

-- the replay does not stop at an End of Snapshot
refused_read : (bytes : List ℕ) (m : Content) (p : List ℕ) (before : ℕ) (why : Stop) → cause m p ≡ Some why → StopsAt bytes (before + 1) why → IsRead bytes
refused_read bytes m p before why is at = by_fault (fault p) is where
  by_reason : (r : Option Refusal) → option_map stop.Rule r ≡ Some why → IsRead bytes
  by_reason None none = let no_one : ⊥ = cc in absurd no_one
  by_reason (Some refusal) some = let rule : why ≡ stop.Rule refusal = cc in inr (Rule (before + 1) refusal, subst (StopsAt bytes (before + 1)) rule at)

  by_fault : (f : Option CodecFault) → cause_by f m p ≡ Some why → IsRead bytes
  by_fault (Some f) some = let codec : why ≡ stop.Codec f = cc in inr (Codec (before + 1) f, subst (StopsAt bytes (before + 1)) codec at)
  by_fault None none = by_reason (reason m (message_of p)) none

-- a replay that stops at a payload, or after the maximum number
module _ (bytes : List ℕ) (k : ℕ) (why : Stop) (stops : Stops empty bytes k why) (split : IsSplit stops.payloads k) (few : k ≤ 10 ^ 19 - 1) where
  day : Day bytes (split.before ++ split.payload ∷ split.following) stops.rest
  day = subst (λ ps. Day bytes ps stops.rest) split.whole stops.day

  none_so_far : NoCause empty split.before
  none_so_far i early =
      sym (cause_before empty split.before (split.payload ∷ split.following) i early) ∙ ap (λ ps. cause_at empty ps i) (sym split.whole)
      ∙ none_before empty stops.payloads stops.rest k why stops.first i (omega (arith, early, split.place_is))

  cause_here : cause_at empty stops.payloads k ≡ Some why → cause (after empty (map message_of split.before)) split.payload ≡ Some why
  cause_here is =
      sym (cause_after empty split.before split.payload split.following) ∙ ap (λ ps. cause_at empty ps (length split.before)) (sym split.whole)
      ∙ ap (cause_at empty stops.payloads) split.place_is ∙ is

  no_end_here : closing_number split.payload ≡ None → IfSome (slice_get stops.payloads k) (λ payload. closing_number payload ≡ None)
  no_end_here none =
      subst (λ o. IfSome o (λ payload. closing_number payload ≡ None))
      (sym (ap (slice_get stops.payloads) (sym split.place_is) ∙ ap (λ ps. slice_get ps (length split.before)) split.whole ∙ slice_here split.before split.payload split.following))
      none

  stops_at : (n : ℕ) → n ≡ k + 1 → closing_number split.payload ≡ None → StopsAt bytes n why
  stops_at n here none = record { before = k; place_is = here; stops = stops; no_end = no_end_here none }

  -- there is an End of Snapshot there, or there is not
  by_number : (number : Option ℕ) → closing_number split.payload ≡ number → (closing_number split.payload ≡ None → IsRead bytes) → IsRead bytes
  by_number None none otherwise = otherwise none
  by_number (Some next) some otherwise =
      closed_read bytes stops.rest (map message_of split.before) next split.following
      (All-right_rec IsFull split.before (split.payload ∷ split.following) day.each).1 stops.day.last
      (closes_here bytes split.before split.payload split.following stops.rest day none_so_far (omega (arith, few, split.place_is)) next some)

  payload_read : cause_at empty stops.payloads k ≡ Some why → IsRead bytes
  payload_read is = by_number (closing_number split.payload) refl
      (λ none. refused_read bytes (after empty (map message_of split.before)) split.payload k why (cause_here is) (stops_at (k + 1) refl none))

  most_read : k ≡ 10 ^ 19 - 1 → why ≡ stop.TooManyMessages → IsRead bytes
  most_read many is = by_number (closing_number split.payload) refl
      (λ none. inr (TooManyMessages, subst (StopsAt bytes (10 ^ 19)) is (stops_at (10 ^ 19) (omega arith) none)))

-- a replay that stops after all payloads
end_read : (bytes : List ℕ) (k : ℕ) (rest : List ℕ) → Ends rest ⊎ Open rest → Stops empty bytes k (end_of rest) → IsRead bytes
end_read bytes k rest (inl ends) stops = inr (NoEnd, (k, subst (Stops empty bytes k) (ends_stop rest ends) stops))
end_read bytes k rest (inr part) stops = inr (Frame (Truncated (length rest)), inl (k, subst (Stops empty bytes k) (open_stops rest part) stops))

stopped_read : (bytes : List ℕ) (k : ℕ) (why : Stop) → Stops empty bytes k why → IsRead bytes
stopped_read bytes k why stops = elim (place empty stops.payloads stops.rest k why stops.first) [
  | inl here ↦ payload_read bytes k why stops (split_at stops.payloads k here.0) (omega (arith, here.1)) here.2
  | inr later ↦ elim later [
    | inl here ↦ most_read bytes k why stops (split_at stops.payloads k here.0) (omega (arith, here.1)) here.1 here.2
    | inr here ↦ end_read bytes k stops.rest stops.day.last (subst (Stops empty bytes k) here.1 stops)
  ]
]

pub file_read : (bytes : List ℕ) → ((ms : List Message) × (next : ℕ) × IsSnapshotFile bytes ms next) ⊎ ((fault : SnapFault) × IsFaultOf bytes fault)
file_read bytes = found (stops_somewhere empty bytes) where
  found : (k : ℕ) × (why : Stop) × Stops empty bytes k why → IsRead bytes
  found (k, why, stops) = stopped_read bytes k why stops
