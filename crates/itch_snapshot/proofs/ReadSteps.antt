-- The effect of reading a snapshot file, from the effect of each of its messages.
use mathlib.Core.List.{map-id}
use denote.Ref.{Bor}
use Rattle.std.proofs.Common.{◌≡◌, ℕ, ◌+◌, ◌-◌, ◌≤◌, ◌^◌, ◌<◌, Bool, true, false, List, [], ◌∷◌, map, length, Option, None, Some, Result, Ok, Err, MatchResult, refl, sym, ap, subst, ◌∙◌, inl, inr, arith}
use Rattle.std.specs.List.{AllByRecursion}
use Rattle.std.specs.Option.{option_copied}
use Rattle.std.proofs.KnownBytes.{Keeps-refl}
use Rattle.itch_book.proofs.Lists.{by_test}
use Rattle.itch_book.proofs.OrderLemmas.{lay_fit}
use Rattle.itch_codec.specs.Messages.{message_of, spelling}
use Rattle.itch_frame.specs.Blocks.{IsBlockOf}
use Rattle.itch_frame.specs.Reading.{Reading, bytes_left, passed}
use Rattle.itch_frame.specs.declared.reader.BlockStage.TheVariants.{Given}
use Rattle.itch_frame.specs.declared.tally.Failures.{Failures}
use Rattle.itch_frame.specs.declared.fault.FrameFault.{FrameFault}
use Rattle.itch_frame.specs.declared.fault.FrameFault.TheVariants.{Read, Truncated, Write, TooLong}
use Rattle.itch_day.specs.declared.limit.Limit.{Limit}
use Rattle.itch_day.specs.declared.stop.PartStop.{PartStop as Part}
use Rattle.itch_day.specs.declared.stop.PartStop.TheVariants as part
use Rattle.itch_day.specs.Limits.{counted as wanted, is_late}
use Rattle.itch_day.specs.Parts.{Counts, ReadsPart, StopsAt}
use Rattle.itch_day.specs.Passing.{left_by}
use Rattle.itch_day.specs.Sinks.{TakesAll}
use Rattle.itch_day.proofs.PassedBlocks.{ends_here, passed_going, passed_off, passed_reader}
use Rattle.itch_market.specs.Content.{Content, empty, laid}
use Rattle.itch_market.specs.GoodMarkets.{IsGood}
use Rattle.itch_market.specs.Runs.{run}
use Rattle.itch_market.specs.Replays.{NoCause, Takes, TakesOff, TakesOne}
use Rattle.itch_market.specs.Takings.{TakesMessage}
use Rattle.itch_market.specs.Wanted.{Wanted, has}
use Rattle.itch_market.proofs.AppliedMessages.{AreApplied, are_applied}
use Rattle.itch_market.proofs.Causes.{refuses-laid}
use Rattle.itch_market.proofs.GoodMarkets.{empty_good}
use Rattle.itch_market.proofs.LaidMarkets.{laid_twice}
use Rattle.itch_snapshot.specs.AsRead.{TakesAs, ReadsAs, ReadsMarket, ReadsNextAs, as_read, idle, read_by}
use Rattle.itch_snapshot.specs.declared.fault.SnapFault.{SnapFault}
use Rattle.itch_snapshot.specs.declared.fault.SnapFault.TheVariants.{NoEnd, Frame, Codec, Rule, AfterEnd, TooManyMessages}
use Rattle.itch_snapshot.specs.declared.sink.SnapshotEnd.{SnapshotEnd}
use Rattle.itch_snapshot.specs.declared.sink.SnapshotEnd.TheVariants.{Closed, Broken}
use Rattle.itch_snapshot.specs.Reads.{ReadsNext, ReadsEnd, ReadsAll, ReadsSnapshot, CountsFault}
use Rattle.itch_snapshot.specs.SnapshotSinks.{EndsSnapshot, TakesOfSnapshot, end_of, last_of}
use Rattle.itch_snapshot.specs.TakenMessages.{AppliesUnless, TakesFor, TakesNext, TakesNextOnly, closing_number, is_skipped}
use Rattle.itch_snapshot.proofs.AsRead.{idle_taken, read_number, read_skipped, read_stays}
use Rattle.itch_snapshot.proofs.SkippedMessages.{faulty_stays}

-- if only some locates are wanted, the effect of a message is that of the message as it is read
read_one : (wanted : ℕ → Bool) (m n : Content) (p : List ℕ) → laid m ≡ m → AppliesUnless (is_skipped wanted p) m p n → TakesOne m (as_read wanted p) (Ok tt) n
read_one wanted m n p placed applies =
    by_test (is_skipped wanted p)
    (λ skip.
    let same : n ≡ m = subst (λ b. AppliesUnless b m p n) skip applies in
    subst (λ q. TakesOne m q (Ok tt) n) (sym (read_skipped wanted p skip)) (subst (TakesOne m (spelling idle) (Ok tt)) (ap laid same ∙ placed ∙ sym same) (idle_taken m n same)))
    (λ stays. subst (λ q. TakesOne m q (Ok tt) n) (sym (read_stays wanted p stays)) (subst (λ b. AppliesUnless b m p n) stays applies))

read_only : (wanted : ℕ → Bool) (taken : ℕ) (m n : Content) (p : List ℕ) (result : Result (Option ℕ) SnapFault) → laid m ≡ m → TakesNextOnly wanted taken m p result n → TakesNext taken m (as_read wanted p) result n
read_only wanted taken m n p (Ok None) placed (room, applies) = (room, read_one wanted m n p placed applies)
read_only wanted taken m n p (Ok (Some next)) placed (same, closes) = (same, read_number wanted p ∙ closes)
read_only wanted taken m n p (Err (Codec place f)) placed (room, here, (same, is)) =
    subst (λ q. TakesNext taken m q (Err (Codec place f)) n) (sym (read_stays wanted p (faulty_stays wanted p f is))) (room, here, (same, is))
read_only wanted taken m n p (Err (Rule place why)) placed (stays, took) = subst (λ q. TakesNext taken m q (Err (Rule place why)) n) (sym (read_stays wanted p stays)) took
read_only wanted taken m n p (Err TooManyMessages) placed (full, no_end, same) = (full, read_number wanted p ∙ no_end, same)
read_only wanted taken m n p (Err NoEnd) placed never = absurd never
read_only wanted taken m n p (Err (Frame f)) placed never = absurd never
read_only wanted taken m n p (Err AfterEnd) placed never = absurd never

-- the same with a set, or without one
read_so : (set : Option (Bor Wanted)) (taken : ℕ) (m n : Content) (p : List ℕ) (result : Result (Option ℕ) SnapFault) → laid m ≡ m → TakesFor set taken m p result n
    → TakesNext taken m (read_by (option_copied set) p) result n
read_so None taken m n p result placed takes = takes
read_so (Some set) taken m n p result placed takes = read_only (has set.now) taken m n p result placed takes

closes_so : (set : Option (Bor Wanted)) (taken : ℕ) (m n : Content) (p : List ℕ) (next : ℕ) → TakesFor set taken m p (Ok (Some next)) n → (n ≡ m) × (closing_number p ≡ Some next)
closes_so None taken m n p next closes = closes
closes_so (Some set) taken m n p next closes = closes

-- a laid market has the same fault
fault-laid : (read : List ℕ → List ℕ) (taken : ℕ) (m n : Content) (old new : Option (List ℕ)) (fault : SnapFault) → IsGood m → ReadsNextAs read taken (laid m) old new (Err fault) n
    → ReadsNextAs read taken m old new (Err fault) m
fault-laid read taken m n old new NoEnd good (same, ends) = (refl, ends)
fault-laid read taken m n old new (Frame f) good (same, fails) = (refl, fails)
fault-laid read taken m n old new (Codec place f) good (p, off, (room, here, (same, is))) = (p, off, (room, here, (refl, is)))
fault-laid read taken m n old new (Rule place why) good (p, off, (room, here, no_end, (same, refuses))) =
    (p, off, (room, here, no_end, (refl, refuses-laid m (read p) why good refuses)))
fault-laid read taken m n old new TooManyMessages good (p, off, (full, no_end, same)) = (p, off, (full, no_end, refl))
fault-laid read taken m n old new AfterEnd good (p, off, never) = absurd never

-- and the fault does not change the market
fault_leaves : (read : List ℕ → List ℕ) (taken : ℕ) (m n : Content) (old new : Option (List ℕ)) (fault : SnapFault) → ReadsNextAs read taken m old new (Err fault) n → n ≡ m
fault_leaves read taken m n old new NoEnd (same, ends) = same
fault_leaves read taken m n old new (Frame f) (same, fails) = same
fault_leaves read taken m n old new (Codec place f) (p, off, (room, here, (same, is))) = same
fault_leaves read taken m n old new (Rule place why) (p, off, (room, here, no_end, (same, refuses))) = same
fault_leaves read taken m n old new TooManyMessages (p, off, (full, no_end, same)) = same
fault_leaves read taken m n old new AfterEnd (p, off, never) = absurd never

-- a message that ends the messages by a fault
refused_next : (read : List ℕ → List ℕ) (taken : ℕ) (n k : Content) (mid new : Option (List ℕ)) (payload : List ℕ) (fault : SnapFault) → TakesOff mid new payload
    → TakesNext taken n (read payload) (Err fault) k → ReadsNextAs read taken n mid new (Err fault) k
refused_next read taken n k mid new payload NoEnd off never = absurd never
refused_next read taken n k mid new payload (Frame f) off never = absurd never
refused_next read taken n k mid new payload (Codec place f) off took = (payload, off, took)
refused_next read taken n k mid new payload (Rule place why) off took = (payload, off, took)
refused_next read taken n k mid new payload AfterEnd off never = absurd never
refused_next read taken n k mid new payload TooManyMessages off took = (payload, off, took)

-- after the maximum number of messages, none is taken
pub none_more : (set : Option (Bor Wanted)) (m n : Content) (p : List ℕ) (next : Option ℕ) → next ≡ None → TakesFor set (10 ^ 19 - 1) m p (Ok next) n → ⊥
none_more None m n p None none (room, took) = let never : true ≡ false = room in cc
none_more (Some set) m n p None none (room, took) = let never : true ≡ false = room in cc
none_more set m n p (Some next) none took = cc

-- no message has a fault of frames
no_frame : (set : Option (Bor Wanted)) (taken : ℕ) (m n : Content) (p : List ℕ) (f : FrameFault) → TakesFor set taken m p (Err (Frame f)) n → ⊥
no_frame None taken m n p f never = never
no_frame (Some set) taken m n p f never = never

-- no message is late if no time is given
never_late : (until : Option ℕ) (p : List ℕ) → until ≡ None → is_late until (message_of p) ≡ true → ⊥
never_late None p whole late = let never : false ≡ true = late in cc
never_late (Some time) p whole late = cc

module _ {R T : Type 0} (remaining : R → Option (List ℕ)) (failures : R → Failures) (market : T → Content) (set : T → Option (Bor Wanted)) (limit : Limit) (old new : Reading R) (begun count : ℕ) (s : T)
    (why : Part SnapshotEnd) (t : T) where
  abbrev pub Taken : T → ℕ → List ℕ → T → Type 0
  Taken s number payload t = (set t ≡ set s) × TakesOfSnapshot (set s) (market s) number payload (market t)

  abbrev pub Ended : T → ℕ → List ℕ → SnapshotEnd → T → Type 0
  Ended s number payload why t = (set t ≡ set s) × EndsSnapshot (set s) (market s) number payload why (market t)

  abbrev read : List ℕ → List ℕ
  read = read_by (option_copied (set s))

  -- the messages taken from a snapshot are those that its market takes, as they are read
  as_read_by : (a b : T) (before : ℕ) (ps : List (List ℕ)) → set a ≡ set s → laid (market a) ≡ market a → TakesAll Taken a before ps b → TakesAll TakesMessage (market a) before (map read ps) (market b) × (set b ≡ set s)
  as_read_by a b before [] named placed same = (ap market same, ap set same ∙ named)
  as_read_by a b before (p ∷ ps) named placed (next, (kept, took), rest) =
      let here : TakesNext (before + 1 - 1) (market a) (read p) (Ok None) (market next) =
      read_so (set s) (before + 1 - 1) (market a) (market next) p (Ok None) placed (subst (λ o. TakesFor o (before + 1 - 1) (market a) p (Ok None) (market next)) named took) in
      let left = here.1.2 in
      let later = as_read_by next b (before + 1) ps (kept ∙ named) (ap laid left ∙ laid_twice _ ∙ sym left) rest in
      ((market next, here.1, later.0), later.1)

  empty_laid : empty ≡ laid empty
  empty_laid = sym (ap (λ os. let m : Content = record empty { orders = os } in m) (lay_fit [] tt))

  module _ (reads : ReadsPart remaining failures Taken Ended limit old new begun count s why t) (is_empty : market s ≡ empty) (first : begun ≡ 0) (few : count ≤ 10 ^ 19 - 1) where
    abbrev from : Option (List ℕ)
    from = bytes_left remaining old

    abbrev mid : Option (List ℕ)
    mid = bytes_left remaining new

    abbrev so_far : Content
    so_far = run (map message_of (map read reads.payloads))

    counted : length reads.payloads ≡ count
    counted = omega (arith, reads.taken.counted, first)

    placed : laid (market s) ≡ market s
    placed = subst (λ m. laid m ≡ m) (sym is_empty) (sym empty_laid)

    messages : TakesAll TakesMessage (market s) begun (map read reads.payloads) (market reads.last) × (set reads.last ≡ set s)
    messages = as_read_by s reads.last begun reads.payloads refl placed reads.taken.taken

    applied : AreApplied empty (map read reads.payloads) (market reads.last)
    applied = are_applied empty (market s) (market reads.last) begun (map read reads.payloads) empty_good (is_empty ∙ empty_laid) messages.0

    -- the messages that were taken
    takes : (n : Content) → n ≡ market reads.last → TakesAs read from mid reads.payloads n
    takes n same = record { bytes = reads.taken.bytes; full = reads.taken.full; none = applied.none; fits = applied.fits; left = same ∙ applied.left }

    abbrev still_few : length reads.payloads ≤ 10 ^ 19 - 1
    still_few = subst (λ c. c ≤ 10 ^ 19 - 1) (sym counted) few

    -- after them this message closes the snapshot
    closed : (to : Option (List ℕ)) (p : List ℕ) (taken next : ℕ) (k : Content) → TakesOff mid to p → TakesFor (set reads.last) taken (market reads.last) p (Ok (Some next)) k → ReadsAs read from to (Ok next) k
    closed to p taken next k off closes =
        let (same, number) = closes_so (set reads.last) taken (market reads.last) k p next closes in (reads.payloads, mid, takes k same, still_few, (p, off, number))

    -- or there is a fault
    fails : (to : Option (List ℕ)) (fault : SnapFault) (k : Content) → ReadsNextAs read count (market reads.last) mid to (Err fault) k → ReadsAs read from to (Err fault) k
    fails to fault k next = (
      reads.payloads,
      mid,
      takes k (fault_leaves read count (market reads.last) k mid to fault next),
      still_few,
      subst (λ c. ReadsNextAs read c so_far mid to (Err fault) so_far) (sym counted)
          (fault-laid read count so_far k mid to fault applied.good (subst (λ m. ReadsNextAs read count m mid to (Err fault) k) applied.left next)),
    )

    last_placed : laid (market reads.last) ≡ market reads.last
    last_placed = ap laid applied.left ∙ laid_twice so_far ∙ sym applied.left

    broken : (to : Option (List ℕ)) (p : List ℕ) (fault : SnapFault) (k : Content) → TakesOff mid to p → TakesFor (set reads.last) count (market reads.last) p (Err fault) k → ReadsAs read from to (Err fault) k
    broken to p fault k off refused =
        let here : TakesNext count (market reads.last) (read p) (Err fault) k =
        read_so (set s) count (market reads.last) k p (Err fault) last_placed (subst (λ o. TakesFor o count (market reads.last) p (Err fault) k) messages.1 refused) in
        fails to fault k (refused_next read count (market reads.last) k mid to p fault off here)

    in_frame : (fault : FrameFault) → StopsAt remaining Ended limit count new reads.last (part.Frame fault) t → ReadsAs read from mid (Err (Frame fault)) (market t)
    in_frame (Truncated held) (same, before, cut, is_held, some) = fails mid (Frame (Truncated held)) (market t) (ap market same, some)
    in_frame (Read error) (same, before, still) = fails mid (Frame (Read error)) (market t) (ap market same, Keeps-refl mid)
    in_frame (Write sent error) never = absurd never
    in_frame TooLong never = absurd never

    here_again : count + 1 - 1 ≡ count
    here_again = omega arith

    -- the position of the stop, except at a message after the maximum number of others
    ends_by : (stop : Part SnapshotEnd) → (stop ≡ part.TooMany → ⊥) → limit.after ≡ None → limit.until ≡ None → StopsAt remaining Ended limit count new reads.last stop t
        → ReadsAs read from (bytes_left remaining (left_by stop new)) (end_of stop) (market t)
    ends_by part.Full room whole all_day (same, (most, wanted, all)) = absurd (let never : None ≡ Some most = sym whole ∙ wanted in cc)
    ends_by part.Late room whole all_day (same, before, (p, next, some, few_before, (clean, late))) = absurd (never_late limit.until p all_day late)
    ends_by part.End room whole all_day (same, before, end) = fails (bytes_left remaining (passed new)) NoEnd (market t) (ap market same, ends_here new remaining end)
    ends_by (part.Frame fault) room whole all_day stops = in_frame fault stops
    ends_by part.TooMany room whole all_day stops = absurd (room refl)
    ends_by (part.Refused (Closed next)) room whole all_day (before, (p, is_next, some, few_before, not_late, (kept, took))) =
        closed (bytes_left remaining (passed new)) p (count + 1 - 1) next (market t) (some, passed_off new remaining p is_next) took
    ends_by (part.Refused (Broken fault)) room whole all_day (before, (p, is_next, some, few_before, not_late, (kept, took))) =
        broken (bytes_left remaining (passed new)) p fault (market t) (some, passed_off new remaining p is_next)
        (subst (λ c. TakesFor (set reads.last) c (market reads.last) p (Err fault) (market t)) here_again took)

    -- the complete file was requested
    pub ends : limit ≡ wanted None → (why ≡ part.TooMany → ⊥) → ReadsAs read from (bytes_left remaining (left_by why new)) (end_of why) (market t)
    ends whole room = ends_by why room (ap (λ (l : Limit). l.after) whole) (ap (λ (l : Limit). l.until) whole) reads.stops

    -- a message after the maximum number of others
    pub ends_full : (after : Reading R) (result : Result ℕ SnapFault) (k : Content) → why ≡ part.TooMany → after ≡ record { reader = new.reader; held = []; stage = Given }
        → ((p : List ℕ) → IsBlockOf p new.held → TakesFor (set t) (10 ^ 19 - 1) (market t) p (last_of result) k) → ReadsAs read from (bytes_left remaining after) result k
    ends_full after result k is left last = by_stop (subst (λ w. StopsAt remaining Ended limit count new reads.last w t) is reads.stops)
      where
        by_stop : StopsAt remaining Ended limit count new reads.last part.TooMany t → ReadsAs read from (bytes_left remaining after) result k
        by_stop (same, before, (p, is_next, some, many)) = subst (λ (r : Reading R). ReadsAs read from (bytes_left remaining r) result k) (passed_going new is_next.1 ∙ sym left)
            (by_result result (subst (λ c. TakesFor (set reads.last) c (market reads.last) p (last_of result) k) (sym many)
            (subst (λ (x : T). TakesFor (set x) (10 ^ 19 - 1) (market x) p (last_of result) k) same (last p is_next.0))))
          where
            by_result : (r : Result ℕ SnapFault) → TakesFor (set reads.last) count (market reads.last) p (last_of r) k → ReadsAs read from (bytes_left remaining (passed new)) r k
            by_result (Ok next) took = closed (bytes_left remaining (passed new)) p count next k (some, passed_off new remaining p is_next) took
            by_result (Err fault) took = broken (bytes_left remaining (passed new)) p fault k (some, passed_off new remaining p is_next) took

    -- and the failed reads
    counts_by : (stop : Part SnapshotEnd) → StopsAt remaining Ended limit count new reads.last stop t → Counts stop (failures old.reader) (failures new.reader)
        → MatchResult (end_of stop) (λ next. failures (Reading.reader (left_by stop new)) ≡ failures old.reader) (λ fault. CountsFault fault (failures old.reader) (failures (Reading.reader (left_by stop new))))
    counts_by part.Full stops counts = counts
    counts_by part.Late stops counts = ap failures (passed_reader new) ∙ counts
    counts_by part.End stops counts = ap failures (passed_reader new) ∙ counts
    counts_by (part.Frame (Read error)) stops counts = counts
    counts_by (part.Frame (Truncated held)) stops counts = counts
    counts_by (part.Frame (Write sent error)) stops counts = counts
    counts_by (part.Frame TooLong) stops counts = counts
    counts_by part.TooMany stops counts = ap failures (passed_reader new) ∙ counts
    counts_by (part.Refused (Closed next)) stops counts = ap failures (passed_reader new) ∙ counts
    counts_by (part.Refused (Broken NoEnd)) stops counts = ap failures (passed_reader new) ∙ counts
    counts_by (part.Refused (Broken (Frame f))) (before, (p, is_next, some, few_before, not_late, (kept, never))) counts = absurd (no_frame (set reads.last) (count + 1 - 1) (market reads.last) (market t) p f never)
    counts_by (part.Refused (Broken (Codec place f))) stops counts = ap failures (passed_reader new) ∙ counts
    counts_by (part.Refused (Broken (Rule place reason))) stops counts = ap failures (passed_reader new) ∙ counts
    counts_by (part.Refused (Broken AfterEnd)) stops counts = ap failures (passed_reader new) ∙ counts
    counts_by (part.Refused (Broken TooManyMessages)) stops counts = ap failures (passed_reader new) ∙ counts

    pub ends_counts : MatchResult (end_of why) (λ next. failures (Reading.reader (left_by why new)) ≡ failures old.reader) (λ fault. CountsFault fault (failures old.reader) (failures (Reading.reader (left_by why new))))
    ends_counts = counts_by why reads.stops reads.counts

-- without a set each payload is read unchanged
plain_next : (taken : ℕ) (m n : Content) (old new : Option (List ℕ)) (fault : SnapFault) → ReadsNextAs (read_by None) taken m old new (Err fault) n → ReadsNext taken m old new (Err fault) n
plain_next taken m n old new NoEnd next = next
plain_next taken m n old new (Frame f) next = next
plain_next taken m n old new (Codec place f) next = next
plain_next taken m n old new (Rule place why) next = next
plain_next taken m n old new TooManyMessages next = next
plain_next taken m n old new AfterEnd (p, off, never) = absurd never

plain_takes : (old new : Option (List ℕ)) (ps : List (List ℕ)) (n : Content) → TakesAs (read_by None) old new ps n → Takes empty old new ps n
plain_takes old new ps n takes = record {
  bytes = takes.bytes;
  full = takes.full;
  none = subst (NoCause empty) (map-id ps) takes.none;
  fits = subst (AllByRecursion _) (map-id ps) takes.fits;
  left = takes.left ∙ ap (λ qs. laid (run (map message_of qs))) (map-id ps);
}

pub plain_all : (old new : Option (List ℕ)) (result : Result ℕ SnapFault) (n : Content) → ReadsAs (read_by None) old new result n → ReadsAll empty old new result n
plain_all old new (Ok next) n (ps, mid, takes, few, closes) = (ps, mid, plain_takes old mid ps n takes, few, closes)
plain_all old new (Err fault) n (ps, mid, takes, few, next) = (
  ps,
  mid,
  plain_takes old mid ps n takes,
  few,
  subst (λ qs. ReadsNext (length ps) (run (map message_of qs)) mid new (Err fault) (run (map message_of qs))) (map-id ps)
      (plain_next (length ps) (run (map message_of (map (read_by None) ps))) (run (map message_of (map (read_by None) ps))) mid new fault next),
)

-- there is a fault up to the End of Snapshot, or after it
pub first_fault : (old new : Option (List ℕ)) (fault : SnapFault) → ReadsMarket (read_by None) old new (Err fault) → ReadsSnapshot old new (Err fault)
first_fault old new fault (n, reads) = inl (n, plain_all old new (Err fault) n reads)

pub later_fault : (old mid new : Option (List ℕ)) (done : Content × ℕ) (fault : SnapFault) → ReadsMarket (read_by None) old mid (Ok done) → ReadsEnd mid new (Err fault) → ReadsSnapshot old new (Err fault)
later_fault old mid new done fault reads following = inr (mid, done.1, done.0, plain_all old mid (Ok done.1) done.0 reads, following)

-- or there is no fault
pub no_fault : (old mid new : Option (List ℕ)) (done : Content × ℕ) → ReadsMarket (read_by None) old mid (Ok done) → ReadsEnd mid new (Ok tt) → ReadsSnapshot old new (Ok done)
no_fault old mid new done reads following = (mid, plain_all old mid (Ok done.1) done.0 reads, following)
