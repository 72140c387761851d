-- The result of reading a snapshot file whose bytes are known.
use Rattle.std.proofs.Common.{◌≡◌, ℕ, ◌+◌, ◌-◌, ◌≤◌, ◌^◌, List, [], ◌∷◌, ◌++◌, map, length, slice_get, Option, None, Some, IfSome, IfOk, IfErr, MatchResult, Result, Ok, Err, refl, sym, ap, subst, ◌∙◌, inl, inr, arith}
use Rattle.std.specs.List.{AllByRecursion}
use Rattle.std.proofs.lemmas.List.{length-map}
use Rattle.std.proofs.lemmas.Bool.{eqb-true}
use Rattle.itch_codec.specs.declared.message.Message.{Message}
use Rattle.itch_codec.specs.Messages.{fault, message_of}
use Rattle.itch_codec.specs.Widths.{IsMessage}
use Rattle.itch_codec.proofs.Spelling.{Spells-message_of}
use Rattle.itch_frame.specs.Blocks.{IsPayload, IsFull, blocks, Ends}
use Rattle.itch_frame.specs.Reading.{EndsHere}
use Rattle.itch_frame.specs.declared.fault.FrameFault.TheVariants.{Read, Truncated, Write, TooLong}
use Rattle.itch_book.proofs.Lists.{All-weaker_rec, All-map_rec}
use Rattle.itch_market.specs.Content.{Content, empty, laid}
use Rattle.itch_market.specs.Runs.{after, run}
use Rattle.itch_market.specs.declared.stop.Stop.{Stop}
use Rattle.itch_market.specs.declared.stop.Stop.TheVariants as stop
use Rattle.itch_market.specs.Stops.{Stops}
use Rattle.itch_market.specs.Replays.{TakesOff, Takes}
use Rattle.itch_market.proofs.Causes.{none_clean, none_follows}
use Rattle.itch_market.proofs.ReplayedFiles.{replays_stop}
use Rattle.itch_snapshot.specs.declared.fault.SnapFault.{SnapFault}
use Rattle.itch_snapshot.specs.declared.fault.SnapFault.TheVariants.{NoEnd, Frame, Codec, Rule, AfterEnd, TooManyMessages}
use Rattle.itch_snapshot.specs.TakenMessages.{number_by, closing_number}
use Rattle.itch_snapshot.specs.Reads.{ReadsPayload, ReadsNext, ReadsEnd, ReadsSnapshot, IsDecidedFault}
use Rattle.itch_snapshot.specs.Files.{AreSpelled, ClosesBefore, IsSnapshotFile, StopsAt, IsFaultOf, IsMarketOf}
use Rattle.itch_snapshot.proofs.FileLemmas.{Spells-number, at_place, closes_once, file_no_fault}

-- payloads without a fault are valid messages
pub clean_spelled : (ps : List (List ℕ)) → AllByRecursion (λ p. fault p ≡ None) ps → AreSpelled (map message_of ps) ps
clean_spelled [] clean = tt
clean_spelled (p ∷ ps) clean = (Spells-message_of p clean.0, clean_spelled ps clean.1)

-- the part that was read up to the End of Snapshot is part of the file
pub closes_here : (b c d : List ℕ) (ps : List (List ℕ)) (n : Content) (next : ℕ) → Takes empty (Some b) (Some c) ps n → length ps ≤ 10 ^ 19 - 1
    → ReadsPayload (Some c) (Some d) (λ p. closing_number p ≡ Some next) → ClosesBefore d b (map message_of ps) next
closes_here b c d ps n next takes few (last, off, closes) = record {
  payloads = ps;
  last = last;
  whole = takes.bytes ∙ ap (λ t. blocks ps ++ t) off.1;
  each = All-weaker_rec IsFull IsPayload (λ p full. full.1) ps takes.full;
  spelled = clean_spelled ps (none_clean empty ps takes.none);
  follows = none_follows empty ps takes.none;
  few = omega (arith, few, length-map ps message_of);
  closes = Spells-number last next closes;
}

-- an end that was reached is an end of the file
pub ends_here : (d : List ℕ) (new : Option (List ℕ)) → EndsHere (Some d) new → Ends d
ends_here d new (inl none) = inl none
ends_here d None (inr empty_block) = absurd empty_block
ends_here d (Some e) (inr empty_block) = inr (e, empty_block)

market_known : (b : List ℕ) (new : Option (List ℕ)) (done : Content × ℕ) → ReadsSnapshot (Some b) new (Ok done) → IsMarketOf b done
market_known b new done (None, (ps, None, takes, few, closes), ends) = absurd takes.bytes
market_known b new done (None, (ps, Some c, takes, few, (last, off, closes)), ends) = absurd off.1
market_known b new done (Some d, (ps, None, takes, few, closes), ends) = absurd takes.bytes
market_known b new done (Some d, (ps, Some c, takes, few, closes), ends) =
    (map message_of ps, (d, closes_here b c d ps done.0 done.1 takes few closes, ends_here d new ends), All-map_rec IsMessage message_of ps takes.fits, takes.left)

-- a payload that was not taken is at its position, and is not End of Snapshot
module _ (b c : List ℕ) (ps : List (List ℕ)) (n : Content) (takes : Takes empty (Some b) (Some c) ps n) (few : length ps ≤ 10 ^ 19 - 1) where
  open_there : (new : Option (List ℕ)) (p : List ℕ) (why : Stop) → TakesOff (Some c) new p → closing_number p ≡ None → (stops : Stops empty b (length ps) why)
      → IfSome (slice_get stops.payloads (length ps)) (λ payload. closing_number payload ≡ None)
  open_there None p why off none stops = absurd off.1
  open_there (Some d) p why off none stops =
      subst (λ o. IfSome o (λ payload. closing_number payload ≡ None))
      (sym (at_place b d ps p stops.payloads stops.rest (takes.bytes ∙ ap (λ t. blocks ps ++ t) off.1) takes.full off.0 stops.day)) none

  stops_here : (new : Option (List ℕ)) (place : ℕ) (p : List ℕ) (why : Stop) → TakesOff (Some c) new p → closing_number p ≡ None → place ≡ length ps + 1
      → Stops empty b (length ps) why → StopsAt b place why
  stops_here new place p why off none here stops = record { before = length ps; place_is = here; stops = stops; no_end = open_there new p why off none stops }

  fault_here : (new : Option (List ℕ)) (fault : SnapFault) → ReadsNext (length ps) (after empty (map message_of ps)) (Some c) new (Err fault) (after empty (map message_of ps))
      → IsDecidedFault fault → IsFaultOf b fault
  fault_here new NoEnd (same, ends) decided = (length ps, replays_stop empty n (Some b) new (length ps) stop.End (ps, Some c, takes, refl, few, ends) tt)
  fault_here new (Frame (Truncated held)) (same, part) decided =
      inl (length ps, replays_stop empty n (Some b) new (length ps) (stop.Frame (Truncated held)) (ps, Some c, takes, refl, few, part) tt)
  fault_here new (Frame (Read error)) h decided = absurd decided
  fault_here new (Frame (Write sent error)) (same, never) decided = absurd never
  fault_here new (Frame TooLong) (same, never) decided = absurd never
  fault_here new (Codec place f) (payload, off, (room, here, (same, is))) decided =
      stops_here new place payload (stop.Codec f) off (ap (λ g. number_by g payload) is) here
      (replays_stop empty n (Some b) new (length ps) (stop.Codec f) (ps, Some c, takes, refl, few, (payload, off, room, is)) tt)
  fault_here new (Rule place why) (payload, off, (room, here, none, (same, refuses))) decided =
      stops_here new place payload (stop.Rule why) off none here
      (replays_stop empty n (Some b) new (length ps) (stop.Rule why) (ps, Some c, takes, refl, few, (payload, off, room, refuses)) decided)
  fault_here new TooManyMessages (payload, off, (full, none, same)) decided =
      stops_here new (10 ^ 19) payload stop.TooManyMessages off none (let many = eqb-true (length ps) (10 ^ 19 - 1) full in omega arith)
      (replays_stop empty n (Some b) new (length ps) stop.TooManyMessages (ps, Some c, takes, refl, few, (payload, off, full)) tt)
  fault_here new AfterEnd h decided = absurd h

-- the bytes after the End of Snapshot are those of the file
fault_after : (b d : List ℕ) (ms : List Message) (next : ℕ) (new : Option (List ℕ)) (fault : SnapFault) → ClosesBefore d b ms next → ReadsEnd (Some d) new (Err fault)
    → IsDecidedFault fault → IsFaultOf b fault
fault_after b d ms next None AfterEnd file (payload, off, any) decided = absurd off.1
fault_after b d ms next (Some e) AfterEnd file (payload, off, any) decided = (ms, next, d, file, (payload, e, off.0, off.1))
fault_after b d ms next new (Frame (Truncated held)) file part decided = inr (ms, next, d, file, part)
fault_after b d ms next new (Frame (Read error)) file h decided = absurd decided
fault_after b d ms next new (Frame (Write sent error)) file h decided = absurd h
fault_after b d ms next new (Frame TooLong) file h decided = absurd h
fault_after b d ms next new NoEnd file h decided = absurd h
fault_after b d ms next new (Codec place f) file h decided = absurd h
fault_after b d ms next new (Rule place why) file h decided = absurd h
fault_after b d ms next new TooManyMessages file h decided = absurd h

fault_decided : (b : List ℕ) (new : Option (List ℕ)) (fault : SnapFault) → ReadsSnapshot (Some b) new (Err fault) → IsDecidedFault fault → IsFaultOf b fault
fault_decided b new fault (inl (n, (ps, None, takes, few, next))) decided = absurd takes.bytes
fault_decided b new fault (inl (n, (ps, Some c, takes, few, next))) decided = fault_here b c ps n takes few new fault next decided
fault_decided b new fault (inr (mid, next, n, (ps, None, takes, few, closes), following)) decided = absurd takes.bytes
fault_decided b new fault (inr (None, next, n, (ps, Some c, takes, few, (last, off, closes)), following)) decided = absurd off.1
fault_decided b new fault (inr (Some d, next, n, (ps, Some c, takes, few, closes), following)) decided =
    fault_after b d (map message_of ps) next new fault (closes_here b c d ps n next takes few closes) following decided

-- the clauses of a reading, for known bytes
pub reads_market : (old new : Option (List ℕ)) (result : Result (Content × ℕ) SnapFault) → ReadsSnapshot old new result
    → IfOk result (λ done. IfSome old (λ b. IsMarketOf b done))
reads_market None new (Ok done) reads = tt
reads_market (Some b) new (Ok done) reads = market_known b new done reads
reads_market old new (Err f) reads = tt

pub reads_fault : (old new : Option (List ℕ)) (result : Result (Content × ℕ) SnapFault) → ReadsSnapshot old new result
    → IfErr result (λ fault. IfSome old (λ b. IsDecidedFault fault → IsFaultOf b fault))
reads_fault None new (Err f) reads = tt
reads_fault (Some b) new (Err f) reads = fault_decided b new f reads
reads_fault old new (Ok done) reads = tt

-- the result is determined by the file, unless a read failed or memory ran out
file_read : (b : List ℕ) (new : Option (List ℕ)) (result : Result (Content × ℕ) SnapFault) → ReadsSnapshot (Some b) new result → (ms : List Message) (next : ℕ) → IsSnapshotFile b ms next
    → MatchResult result (λ done. done ≡ (laid (run ms), next)) (λ f. IsDecidedFault f → ⊥)
file_read b new (Ok done) reads ms next (rest, file, ends) = found (market_known b new done reads) where
  found : IsMarketOf b done → done ≡ (laid (run ms), next)
  found (ns, (other_rest, other, other_ends), fit, left) =
      let same = closes_once b other_rest rest ns ms done.1 next other file in
      λ i. ((left ∙ ap (λ xs. laid (run xs)) same.messages) i, same.number i)
file_read b new (Err f) reads ms next (rest, file, ends) = λ decided. file_no_fault b rest ms next file f ends (fault_decided b new f reads decided)

pub reads_file : (old new : Option (List ℕ)) (result : Result (Content × ℕ) SnapFault) → ReadsSnapshot old new result
    → IfSome old (λ b. (ms : List Message) → (next : ℕ) → IsSnapshotFile b ms next → MatchResult result (λ done. done ≡ (laid (run ms), next)) (λ f. IsDecidedFault f → ⊥))
reads_file None new result reads = tt
reads_file (Some b) new result reads = file_read b new result reads
