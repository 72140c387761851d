-- The result of reading a feed.
use Rattle.std.proofs.Common.{◌≡◌, ℕ, ◌+◌, ◌-◌, ◌^◌, ◌<◌, ◌≤◌, ◌==◌, max, nat_le, nat_lt, Bool, true, false, cond, List, map, length, zero, suc, Option, None, Some, IsSome, IfSome, MatchResult, Result, Ok, Err, refl, sym, ap, subst, ◌∙◌, inl, inr, arith, eq-eqb}
use Rattle.std.proofs.lemmas.Bool.{ne_eqb}
use Rattle.std.proofs.lemmas.List.{length-map}
use Rattle.std.proofs.KnownBytes.{Keeps-refl}
use Rattle.std.specs.Option.{option_map}
use Rattle.itch_codec.specs.Messages.{fault, message_of}
use Rattle.itch_frame.specs.Reading.{Reading, bytes_left, passed}
use Rattle.itch_frame.specs.declared.fault.FrameFault.{FrameFault}
use Rattle.itch_frame.specs.declared.fault.FrameFault.TheVariants.{Read, Truncated, Write, TooLong}
use Rattle.itch_frame.specs.declared.tally.Failures.{Failures}
use Rattle.itch_day.specs.declared.stop.PartStop.{PartStop as Part}
use Rattle.itch_day.specs.declared.stop.PartStop.TheVariants as reading
use Rattle.itch_day.specs.Limits.{IsBefore, IsWithin}
use Rattle.itch_day.specs.Parts.{Counts as CountsPart, Leaves, StopsAt, Takes, UnlessRefused}
use Rattle.itch_market.specs.Content.{Content, laid}
use Rattle.itch_market.specs.GoodMarkets.{IsGood}
use Rattle.itch_market.specs.Replays.{Counts, CountsFirst, LeavesReaderFirst, IsDecided, Refuses}
use Rattle.itch_day.specs.Passing.{left_by}
use Rattle.itch_market.specs.Takings.{reason_of}
use Rattle.itch_market.specs.Wanted.{has}
use Rattle.itch_market.specs.declared.refused.Refused.{Refused}
use Rattle.itch_market.specs.declared.refused.Refused.TheVariants as refused
use Rattle.itch_market.specs.declared.stop.Stop.{Stop}
use Rattle.itch_market.specs.declared.stop.Stop.TheVariants as stop
use Rattle.itch_market.proofs.Causes.{halts-laid, refuses-laid}
use Rattle.itch_day.proofs.PassedBlocks.{ends_here, passed_off}
use Rattle.itch_market.proofs.LeftReaders.{late_left, stop_counts, stop_left}
use Rattle.itch_join.specs.Positions.{Position}
use Rattle.itch_join.specs.States.{Joining}
use Rattle.itch_join.specs.Takings.{IsJoined, MayTake, RefusesNumbered, TakesNumbered, position_of}
use Rattle.itch_snapshot.specs.AsRead.{as_read}
use Rattle.itch_commands.specs.FeedParts.{beyond, mismatch_of, number_after, of_day, part_of}
use Rattle.itch_commands.specs.Joiners.{FeedsJoiner, IsAfter, IsStart, ended_feed, start_of, uncounted}
use Rattle.itch_commands.specs.Joining.{EndsFeed, HaltsFeed, IsOfMessage, LateFeed, ReadsFeed, Start, StopsFeed, TakesFeed, TakesWanted, joined_market}
use Rattle.itch_commands.specs.Readings.{LeavesDay, stopped}
use Rattle.itch_market.specs.DayMessages.{IsPart}
use Rattle.itch_commands.specs.declared.fault.Source.TheVariants.{Only}
use Rattle.itch_commands.specs.declared.fault.ToolFault.{ToolFault}
use Rattle.itch_commands.specs.declared.fault.ToolFault.TheVariants as tool
use Rattle.itch_commands.specs.declared.feed_part.FeedPart.{FeedPart}
use Rattle.itch_commands.specs.declared.feed_part.FeedMismatch.{FeedMismatch}
use Rattle.itch_commands.specs.declared.feed_part.FeedMismatch.TheVariants.{Gap, Beyond, Late}
use Rattle.itch_day.specs.declared.limit.Limit.{Limit}
use Rattle.itch_market.proofs.DayMessages.{is_part}
use Rattle.itch_commands.proofs.FeedsTaken.{AreFed, are_fed, near}
use Rattle.itch_commands.proofs.FeedStops.{feed_decided}
use Rattle.itch_commands.proofs.JoinerSteps.{faulty_as, denied_as}
use Rattle.itch_commands.proofs.PartReadings.{late_given}

-- a snapshot and a feed of this kind do not differ by a late message
never_late : (part : FeedPart) (next number : ℕ) → mismatch_of part next ≡ Some (Late number) → ⊥
never_late part next number is = by_gap (nat_le next part.before) is where
  by_wanted : (wanted : Option ℕ) → beyond wanted (next - 1) ≡ Some (Late number) → ⊥
  by_wanted None is = cc
  by_wanted (Some most) is = by_test (nat_lt most (next - 1)) is where
    by_test : (b : Bool) → cond b (Some (Beyond (next - 1) most)) None ≡ Some (Late number) → ⊥
    by_test true is = cc
    by_test false is = cc

  by_gap : (b : Bool) → cond b (Some (Gap next part.before)) (beyond part.limit.after (next - 1)) ≡ Some (Late number) → ⊥
  by_gap true is = cc
  by_gap false is = by_wanted part.limit.after is

-- the two do not match each other
pub feed_mismatches : {R : Type 0} (remaining : R → Option (List ℕ)) (failures : R → Failures) (read : List ℕ → List ℕ) (part : FeedPart) (old new : Reading R) (start : Start) (mismatch : FeedMismatch)
    → mismatch_of part start.1 ≡ Some mismatch → new ≡ old → ReadsFeed read remaining failures part old new start (Err (tool.FeedMismatch mismatch))
feed_mismatches remaining failures read part old new start (Gap next before) is same = (is, same)
feed_mismatches remaining failures read part old new start (Beyond held wanted) is same = (is, same)
feed_mismatches remaining failures read part old new start (Late number) is same = absurd (never_late part start.1 number is)

-- a part, counted from the first message of the day ----------------------------

-- fewer are fewer, by either count
before_here : (before count n : ℕ) (limit : Limit) → count ≡ before + n → IsBefore (of_day before limit) count → IsBefore limit n
before_here before count n limit counted = by_after limit.after where
  by_after : (after : Option ℕ) → IfSome (option_map (λ most. before + most) after) (λ most. count < most) → IfSome after (λ most. n < most)
  by_after None few = tt
  by_after (Some most) few = omega (arith, counted, few)

-- and as many as requested
all_here : (before count n : ℕ) (limit : Limit) → count ≡ before + n → (most : ℕ) × ((of_day before limit).after ≡ Some most) × (most ≤ count)
    → (0 < n → IsWithin (of_day before limit) count) → limit.after ≡ Some n
all_here before count n limit counted = by_after limit.after where
  by_after : (after : Option ℕ) → (most : ℕ) × (option_map (λ most. before + most) after ≡ Some most) × (most ≤ count)
      → (0 < n → IfSome (option_map (λ most. before + most) after) (λ most. count ≤ most)) → after ≡ Some n
  by_after None (most, is, all) within = absurd (let no_one : ⊥ = cc in no_one)
  by_after (Some wanted) (most, is, all) within = ap Some (by_count n counted within) where
    same : before + wanted ≡ most
    same = cc

    by_count : (k : ℕ) → count ≡ before + k → (0 < k → count ≤ before + wanted) → wanted ≡ k
    by_count zero counts room = omega (arith, counts, same, all)
    by_count (suc k) counts room = let few : count ≤ before + wanted = room (omega arith) in omega (arith, counts, same, all, few)

-- the requested payloads are the part of the feed
wanted_part : (read : List ℕ → List ℕ) (part : FeedPart) (start : Start) (old new : Option (List ℕ)) (ps : List (List ℕ)) → TakesWanted read part start old new ps
    → IfSome old (λ b. IsPart (part_of part start.1) b ps)
wanted_part read part start old new ps (inl (all, takes)) = is_part (part_of part start.1) old new new ps takes.bytes (inl (all, refl))
wanted_part read part start old new ps (inr (inl ((before, mid, takes, late), low))) = is_part (part_of part start.1) old mid new ps takes.bytes (inr (inl (before, late)))
wanted_part read part start old new ps (inr (inr (whole, (before, mid, takes, low, ends)))) = is_part (part_of part start.1) old mid new ps takes.bytes (inr (inr (whole, ends)))

ends_decided : (old : Option (List ℕ)) (P : List ℕ → Type 0) → IfSome old (λ b. IsDecided stop.End → P b) → IfSome old P
ends_decided None P decided = tt
ends_decided (Some b) P decided = decided tt

-- a laid market halts it in no other way
halts_feed-laid : (read : List ℕ → List ℕ) (limit : Limit) (full : Bool) (m : Content) (old new : Option (List ℕ)) (why : Stop) → IsGood m → HaltsFeed read limit full (laid m) old new why
    → HaltsFeed read limit full m old new why
halts_feed-laid read limit full m old new stop.End good halts = halts
halts_feed-laid read limit full m old new (stop.Frame f) good halts = halts-laid full m old new (stop.Frame f) good halts
halts_feed-laid read limit full m old new (stop.Codec f) good halts = halts
halts_feed-laid read limit full m old new (stop.Rule why) good (p, off, room, refuses, in_time) = (p, off, room, refuses-laid m (read p) why good refuses, in_time)
halts_feed-laid read limit full m old new stop.TooManyMessages good halts = halts

-- the payloads that were read ---------------------------------------------------

module _ {R : Type 0} (remaining : R → Option (List ℕ)) (failures : R → Failures) (part : FeedPart) (old new : Reading R) (count : ℕ) (j last k : Joining) (ps : List (List ℕ))
    (begins : IsStart (start_of (position_of j.state))) (fits : mismatch_of part (Position.next (position_of j.state)) ≡ None)
    (took : Takes remaining TakesNumbered (of_day part.before (part_of part (Position.next (position_of j.state)))) old new part.before count j last ps) (within : count ≤ 10 ^ 19 - 1) where
  abbrev start : Start
  start = start_of (position_of j.state)

  abbrev read : List ℕ → List ℕ
  read = as_read (has j.set)

  abbrev limit : Limit
  limit = part_of part start.1

  abbrev Feeds : Reading R → Result (Unit {0}) ToolFault → Type 0
  Feeds to result = FeedsJoiner part.before (ReadsFeed read remaining failures part old to) (position_of j.state) result k.state

  abbrev StopsBy : Part Refused → Type 0
  StopsBy why = StopsAt remaining RefusesNumbered (of_day part.before limit) count new last why k

  fed_so : AreFed part.before start (map read ps) (position_of last.state) × (last.set ≡ j.set)
  fed_so = are_fed j.set start.0 start.1 part.before ps j last begins.good refl (sym begins.in_order) refl (near part start.1 fits) took.taken

  fed : AreFed part.before start (map read ps) (position_of last.state)
  fed = fed_so.0

  takes : TakesFeed read part start (bytes_left remaining old) (bytes_left remaining new) ps
  takes = record {
    bytes = took.bytes;
    full = took.full;
    taken = fed.none;
    few = omega (arith, within, took.counted);
    in_time = took.early;
  }

  number : count + 1 ≡ number_after part.before ps
  number = omega (arith, took.counted)

  sum : part.before + length ps ≡ count
  sum = sym took.counted

  fewer : IsBefore (of_day part.before limit) count → IsBefore limit (length ps)
  fewer is = before_here part.before count (length ps) limit took.counted is

  after_now : k ≡ last → IsJoined k.state → IsAfter part.before start (map read ps) k.state
  after_now same joined = record {
    joined = joined;
    good = fed.good;
    market = ap (λ (i : Joining). Position.market (position_of i.state)) same ∙ fed.market;
    next = ap (λ (i : Joining). Position.next (position_of i.state)) same ∙ fed.next;
  }

  -- the requested payloads
  done : (to : Reading R) → k ≡ last → IsJoined k.state → TakesWanted read part start (bytes_left remaining old) (bytes_left remaining to) ps → failures to.reader ≡ failures old.reader
      → LeavesDay (Ok (length ps)) limit old to → Feeds to (Ok tt)
  done to same joined wanted counts leaves = (
    map read ps,
    (fits, (ps, refl, wanted_part read part start (bytes_left remaining old) (bytes_left remaining to) ps wanted, wanted, counts, leaves)),
    after_now same joined,
  )

  -- a stop before the requested end
  ends : (why : Stop) (to : Reading R) → IsBefore (of_day part.before limit) count → (IsOfMessage why → Position.next (position_of last.state) ≡ count + 1)
      → HaltsFeed read part.limit (count + 1 == 10 ^ 19) (Position.market (position_of last.state)) (bytes_left remaining new) (bytes_left remaining to) why
      → EndsFeed read part start (bytes_left remaining old) (bytes_left remaining to) ps why
  ends why to more at_next halts =
      let so_far = joined_market part.before start (map read ps) in (
        fewer more,
        bytes_left remaining new,
        takes,
        λ of_message. bound (at_next of_message),
        subst (λ n. HaltsFeed read part.limit (n == 10 ^ 19) so_far (bytes_left remaining new) (bytes_left remaining to) why) number
            (halts_feed-laid read part.limit (count + 1 == 10 ^ 19) so_far (bytes_left remaining new) (bytes_left remaining to) why fed.good
            (subst (λ x. HaltsFeed read part.limit (count + 1 == 10 ^ 19) x (bytes_left remaining new) (bytes_left remaining to) why) fed.market halts)),
      ) where
        bound : Position.next (position_of last.state) ≡ count + 1 → start.1 ≤ number_after part.before ps
        bound here = at_least start.1 (Position.next (position_of last.state)) (length (map read ps)) fed.next here where
          at_least : (s n l : ℕ) → n ≡ max s (part.before + l + 1) → n ≡ count + 1 → s ≤ number_after part.before ps
          at_least s n l next here = omega (arith, next, here, number)

  -- its result
  stops : (why : Stop) (to : Reading R) → (why ≡ stop.End → (k ≡ last) × IsJoined k.state) → EndsFeed read part start (bytes_left remaining old) (bytes_left remaining to) ps why
      → Counts why (failures old.reader) (failures to.reader) → LeavesReaderFirst old (length ps) (Some why) to → Feeds to (uncounted (stopped why (of_day part.before limit).after Only count))
  stops why to stays halts counts leaves = by_why why refl stays halts counts leaves where
    decided : (why : Stop) → EndsFeed read part start (bytes_left remaining old) (bytes_left remaining to) ps why
        → IfSome (bytes_left remaining old) (λ b. IsDecided why → StopsFeed read part.before start b (length ps) why)
    decided why halts = feed_decided read part start (bytes_left remaining old) (bytes_left remaining to) ps why halts

    at_end : (after : Option ℕ) → limit.after ≡ after → (k ≡ last) × IsJoined k.state → EndsFeed read part start (bytes_left remaining old) (bytes_left remaining to) ps stop.End
        → failures to.reader ≡ failures old.reader → LeavesReaderFirst old (length ps) (Some stop.End) to
        → Feeds to (uncounted (stopped stop.End (option_map (λ most. part.before + most) after) Only count))
    at_end None whole (same, joined) halts counts leaves = done to same joined (inr (inr (whole, halts))) counts (inr (inr (whole, leaves)))
    at_end (Some most) whole (same, joined) halts counts leaves = (
      refl,
      subst IsSome (sym whole) refl,
      fits,
      (
        ps,
        sum,
        halts,
        ends_decided (bytes_left remaining old) (λ b. StopsFeed read part.before start b (length ps) stop.End) (decided stop.End halts),
        counts,
        leaves,
      ),
    )

    by_why : (is : Stop) → is ≡ why → (is ≡ stop.End → (k ≡ last) × IsJoined k.state) → EndsFeed read part start (bytes_left remaining old) (bytes_left remaining to) ps is
        → Counts is (failures old.reader) (failures to.reader) → LeavesReaderFirst old (length ps) (Some is) to → Feeds to (uncounted (stopped is (of_day part.before limit).after Only count))
    by_why stop.End is stays halts counts leaves = at_end limit.after refl (stays refl) halts counts leaves
    by_why (stop.Frame f) is stays halts counts leaves = (refl, λ e. absurd (cc), fits, (ps, sum, halts, decided (stop.Frame f) halts, counts, leaves))
    by_why (stop.Codec f) is stays halts counts leaves = (refl, λ e. absurd (cc), fits, (ps, sum, halts, decided (stop.Codec f) halts, counts, leaves))
    by_why (stop.Rule r) is stays halts counts leaves = (refl, λ e. absurd (cc), fits, (ps, sum, halts, decided (stop.Rule r) halts, counts, leaves))
    by_why stop.TooManyMessages is stays halts counts leaves = (refl, λ e. absurd (cc), fits, (ps, sum, halts, decided stop.TooManyMessages halts, counts, leaves))

  room : count < 10 ^ 19 - 1 → (count + 1 == 10 ^ 19) ≡ false
  room some = ne_eqb (count + 1) (10 ^ 19) (λ same. omega (arith, some, same))

  in_frame : (fault : FrameFault) → StopsBy (reading.Frame fault) → EndsFeed read part start (bytes_left remaining old) (bytes_left remaining new) ps (stop.Frame fault)
  in_frame (Truncated held) (same, more, cut, is_held, some) = ends (stop.Frame (Truncated held)) new more (λ never. absurd never) some
  in_frame (Read error) (same, more, going) = ends (stop.Frame (Read error)) new more (λ never. absurd never) (Keeps-refl (bytes_left remaining new))
  in_frame (Write sent error) never = absurd never
  in_frame TooLong never = absurd never

  -- if no message is late
  pub feed_ends : (why : Part Refused) → (why ≡ reading.Late → ⊥) → StopsBy why → Leaves old (length ps) why new → CountsPart why (failures old.reader) (failures new.reader)
      → UnlessRefused why (MayTake k (count + 1)) → Feeds (left_by why new) (ended_feed (reason_of why) (of_day part.before limit).after count)
  feed_ends why other stops_by leaves counts ready = by_why why other stops_by ready left failed where
    left : LeavesReaderFirst old (length ps) (reason_of why) (left_by why new)
    left = stop_left remaining failures RefusesNumbered (of_day part.before limit) old new count (length ps) last k why other stops_by leaves

    failed : CountsFirst (reason_of why) (failures old.reader) (failures (Reading.reader (left_by why new)))
    failed = stop_counts remaining failures RefusesNumbered (of_day part.before limit) old new count (length ps) last k why stops_by counts

    by_why : (why : Part Refused) → (why ≡ reading.Late → ⊥) → StopsBy why → UnlessRefused why (MayTake k (count + 1)) → LeavesReaderFirst old (length ps) (reason_of why) (left_by why new)
        → CountsFirst (reason_of why) (failures old.reader) (failures (Reading.reader (left_by why new))) → Feeds (left_by why new) (ended_feed (reason_of why) (of_day part.before limit).after count)
    by_why reading.Full other (same, all) ready left failed =
        let wanted : limit.after ≡ Some (length ps) = all_here part.before count (length ps) limit took.counted all took.wanted in
        done new same ready.0 (inl (wanted, takes)) failed (inl (subst IsSome (sym wanted) refl, left))
    by_why reading.Late other stops_by ready left failed = absurd (other refl)
    by_why reading.End other (same, more, end) ready left failed =
        stops stop.End (passed new) (λ _. (same, ready.0))
        (ends stop.End (passed new) more (λ never. absurd never) (ends_here new remaining end))
        failed left
    by_why (reading.Frame fault) other stops_by ready left failed = stops (stop.Frame fault) new (λ e. absurd (cc)) (in_frame fault stops_by) failed left
    by_why reading.TooMany other (same, more, (p, next, some, many)) ready left failed =
        stops stop.TooManyMessages (passed new) (λ e. absurd (cc))
        (ends stop.TooManyMessages (passed new) more (λ never. absurd never) (p, (some, passed_off new remaining p next), eq-eqb (count + 1) (10 ^ 19) (omega (arith, many)))) failed left
    by_why (reading.Refused (refused.Codec f)) other (more, (p, next, some, few, in_time, denies)) ready left failed =
        stops (stop.Codec f) (passed new) (λ e. absurd (cc))
        (ends (stop.Codec f) (passed new) more (λ _. denies.next)
        (p, (some, passed_off new remaining p next), room few, subst (λ s. fault (as_read (has s) p) ≡ Some f) fed_so.1 (faulty_as (has last.set) (Position.market (position_of last.state)) p f denies.refused)))
        failed left
    by_why (reading.Refused (refused.Rule r)) other (more, (p, next, some, few, in_time, denies)) ready left failed =
        stops (stop.Rule r) (passed new) (λ e. absurd (cc))
        (ends (stop.Rule r) (passed new) more (λ _. denies.next) (
          p,
          (some, passed_off new remaining p next),
          room few,
          subst (λ s. Refuses (Position.market (position_of last.state)) (as_read (has s) p) r) fed_so.1 (denied_as (has last.set) (Position.market (position_of last.state)) p r denies.refused),
          in_time,
        ))
        failed left

  -- if one is late: the snapshot does not have it, or it does
  pub feed_late : (next : ℕ) (result : Result (Unit {0}) ToolFault) → StopsBy reading.Late → Leaves {F = Refused} old (length ps) reading.Late new → CountsPart {F = Refused} reading.Late (failures old.reader) (failures new.reader)
      → MayTake k (count + 1) → next ≡ Position.next (position_of k.state)
      → MatchResult result (λ _. next ≤ count + 1) (λ fault. (fault ≡ tool.FeedMismatch (Late (count + 1))) × (count + 1 < next)) → Feeds (passed new) result
  feed_late next result (same, more, (p, is_next, some, few, late)) leaves counts ready there = by_result result where
    left : LeavesReaderFirst old (length ps + 1) None (passed new)
    left = late_left remaining failures RefusesNumbered (of_day part.before limit) old new count (length ps) last k (same, more, (p, is_next, some, few, late)) leaves

    failed : failures (Reading.reader (passed new)) ≡ failures old.reader
    failed = stop_counts remaining failures RefusesNumbered (of_day part.before limit) old new count (length ps) last k reading.Late (same, more, (p, is_next, some, few, late)) counts

    at_late : LateFeed read part start (bytes_left remaining old) (bytes_left remaining (passed new)) ps
    at_late = (fewer more, bytes_left remaining new, takes, (p, (some, passed_off new remaining p is_next), late))

    onto : next ≡ max start.1 (number_after part.before ps)
    onto = there ∙ ap (λ (i : Joining). Position.next (position_of i.state)) same ∙ fed.next ∙ ap (λ l. max start.1 (part.before + l + 1)) (length-map ps read)

    by_result : (result : Result (Unit {0}) ToolFault) → MatchResult result (λ _. next ≤ count + 1) (λ fault. (fault ≡ tool.FeedMismatch (Late (count + 1))) × (count + 1 < next)) → Feeds (passed new) result
    by_result (Ok tt) low = done (passed new) same ready.0 (inr (inl (at_late, is_low start.1 (number_after part.before ps) onto low number))) failed (inr (inl (late_given limit.until (message_of p) late.1, left))) where
      is_low : (s n : ℕ) → next ≡ max s n → next ≤ count + 1 → count + 1 ≡ n → s ≤ n
      is_low s n onto low is = omega (arith, onto, low, is)
    by_result (Err fault) (faulty, high) =
        subst (λ f. Feeds (passed new) (Err f)) (sym faulty) (fits, is_high start.1 (number_after part.before ps) onto high number, (ps, sym number, at_late, failed, left)) where
          is_high : (s n : ℕ) → next ≡ max s n → count + 1 < next → count + 1 ≡ n → count + 1 < s
          is_high s n onto high is = omega (arith, onto, high, is)
