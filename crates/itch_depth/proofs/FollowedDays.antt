-- The lines that `book --changes` has written of a part of a day.
use Rattle.std.proofs.Common.{Bool, ◌≡◌, ℕ, ◌+◌, ◌-◌, ◌^◌, ◌≤◌, ◌<◌, List, [], ◌∷◌, ◌++◌, length, map, take, Option, Result, Ok, Err, None, Some, refl, sym, ap, ap₂, subst, ◌∙◌, arith, length-append, append_assoc, append-nil}
use Rattle.std.specs.Io.KnownBytes.{Appends, Consumes}
use Rattle.std.specs.declared.io.Error.{Error}
use Rattle.std.proofs.KnownBytes.{Appends-nil}
use Rattle.itch_codec.specs.Messages.{message_of}
use Rattle.itch_frame.specs.Blocks.{blocks, IsFull}
use Rattle.itch_frame.specs.Reading.{Reading, bytes_left, passed}
use Rattle.itch_frame.specs.Counting.{failed}
use Rattle.itch_frame.specs.declared.reader.BlockStage.TheVariants.{Cut, Ended}
use Rattle.itch_frame.specs.declared.fault.FrameFault.{FrameFault}
use Rattle.itch_frame.specs.declared.fault.FrameFault.TheVariants.{Read, Truncated, Write, TooLong}
use Rattle.itch_frame.specs.declared.tally.Failures.{Failures}
use Rattle.itch_frame.proofs.BlockLemmas.{consumed_more, each-push}
use Rattle.itch_frame.proofs.Writes.{Appends-more}
use Rattle.itch_day.specs.Limits.{IsBefore, IsNotLate}
use Rattle.itch_day.specs.Parts.{Counts as CountsPart, IsNext, Leaves, ReadsPart, StopsAt, Takes, UnlessRefused}
use Rattle.itch_day.specs.Passing.{left_by}
use Rattle.itch_day.specs.Sinks.{TakesAll}
use Rattle.itch_day.specs.declared.limit.Limit.{Limit}
use Rattle.itch_day.specs.declared.stop.PartStop.{PartStop as Part}
use Rattle.itch_day.specs.declared.stop.PartStop.TheVariants as part
use Rattle.itch_day.proofs.PassedBlocks.{cut_not_going, is_not_going, never_next, passed_going, passed_off, passed_reader}
use Rattle.itch_day.proofs.Progress.{takes_both}
use Rattle.itch_book.specs.declared.order.Order.{Order}
use Rattle.itch_book.specs.Orders.{lay}
use Rattle.itch_book.proofs.OrderLemmas.{lay_fit}
use Rattle.itch_market.specs.Content.{Content, empty, laid}
use Rattle.itch_market.specs.DayMessages.{AreTaken}
use Rattle.itch_market.specs.DayParts.{TakesEarly}
use Rattle.itch_market.specs.Effects.{effect}
use Rattle.itch_market.specs.GoodMarkets.{IsGood}
use Rattle.itch_market.specs.Replays.{LeavesReaderFirst}
use Rattle.itch_market.specs.Runs.{run}
use Rattle.itch_market.specs.Takings.{RefusesMessage, TakesMessage, reason_of}
use Rattle.itch_market.specs.declared.refused.Refused.{Refused}
use Rattle.itch_market.specs.declared.refused.Refused.TheVariants as refused
use Rattle.itch_market.specs.declared.stop.Stop.{Stop}
use Rattle.itch_market.specs.declared.stop.Stop.TheVariants as stop
use Rattle.itch_market.proofs.AppliedMessages.{are_applied}
use Rattle.itch_market.proofs.Causes.{after_more}
use Rattle.itch_market.proofs.DayParts.{takes_early}
use Rattle.itch_market.proofs.GoodMarkets.{empty_good}
use Rattle.itch_market.proofs.ReplayProgress.{taken_on}
use Rattle.itch_commands.specs.FirstDifferences.{IsRefusedAfter}
use Rattle.itch_commands.specs.Outputs.{Wrote}
use Rattle.itch_commands.specs.Readings.{ReadsDay, stopped}
use Rattle.itch_commands.specs.declared.fault.Source.TheVariants.{Only}
use Rattle.itch_commands.specs.declared.fault.ToolFault.{ToolFault}
use Rattle.itch_commands.specs.declared.fault.ToolFault.TheVariants as tool
use Rattle.itch_commands.proofs.FirstDifferences.{stopped_count}
use Rattle.itch_commands.proofs.ReadParts.{all_by, refused_by, taken_by, whole_by}
use Rattle.itch_depth.specs.Changes.{Sides, change, change_at, change_past, changes_of_day, followed}
use Rattle.itch_depth.specs.Following.{FollowsMessage, FollowsPart, IsFollowing, LeavesMessage, answer_of, ended, found_by, lack_of}
use Rattle.itch_depth.specs.declared.changes.book.Unfollowed.{Unfollowed}
use Rattle.itch_depth.specs.declared.changes.book.Unfollowed.TheVariants as unfollowed
use Rattle.itch_depth.specs.declared.changes.request.ChangesRequest.{ChangesRequest}
use Rattle.itch_depth.specs.declared.changes.request.OneStock.{OneStock}
use Rattle.itch_depth.specs.declared.changes.request.OneStock.TheVariants.{Locate, Named}
use Rattle.itch_depth.proofs.FollowedLines.{change-laid, change_here, line_past, lines_from, lines_of_all, one_line}

laid_empty : laid empty ≡ empty
laid_empty = let none : lay [] ≡ [] = lay_fit [] tt in ap (λ (os : List Order). let m : Content = record empty { orders = os } in m) none

module _ {W T N M : Type 0} (contents : W → Option (List ℕ)) (failures : W → Failures) (at : T → W) (name : T → N) (market_name : T → M) (request : T → ChangesRequest)
    (market : T → Content) where
  -- the sink lends the same values, for the same request
  abbrev pub SameNames : T → T → Type 0
  SameNames s t = (name t ≡ name s) × (market_name t ≡ market_name s) × (request t ≡ request s)

  -- a market that writes to the values that it lends
  abbrev pub Follows : T → ℕ → List ℕ → T → Type 0
  Follows s number payload t =
      (name t ≡ name s) × (market_name t ≡ market_name s) × (request t ≡ request s)
      × FollowsMessage contents failures (request s) number payload (market s) (at s) (market t) (at t)

  abbrev pub Left : T → ℕ → List ℕ → Unfollowed → T → Type 0
  Left s number payload why t =
      (name t ≡ name s) × (market_name t ≡ market_name s) × (request t ≡ request s)
      × LeavesMessage contents failures (request s) number payload (market s) (at s) why (market t) (at t)

  -- the lines of these payloads were written, after others
  record AreFollowed (s : T) (before ps : List (List ℕ)) (t : T) : Type 0 where
    pub named : SameNames s t
    pub requested : request t ≡ request s
    pub wrote : Wrote contents failures (lines_from (request s) before ps) (at s) (at t)
    pub left : market t ≡ laid (run (map message_of (before ++ ps)))
    pub good : IsGood (run (map message_of (before ++ ps)))

  are_followed : (s t : T) (count : ℕ) (before ps : List (List ℕ)) → length before ≡ count → IsGood (run (map message_of before)) → market s ≡ laid (run (map message_of before))
      → TakesAll Follows s count ps t → AreFollowed s before ps t
  are_followed s t count before [] number good same takes = record {
    named = (ap name takes, ap market_name takes, ap request takes);
    requested = ap request takes;
    wrote = subst (λ x. Wrote contents failures (lines_from (request s) before []) (at s) (at x)) (sym takes) (Appends-nil (contents (at s)), refl);
    left = ap market takes ∙ same ∙ ap (λ qs. laid (run (map message_of qs))) (sym (append-nil before));
    good = subst (λ qs. IsGood (run (map message_of qs))) (sym (append-nil before)) good;
  }
  are_followed s t count before (p ∷ ps) number good same (mid, (named, market_named, requested, ((clean, fits, took), (bytes, uncounted))), rest) =
      let x = message_of p in
      let m = run (map message_of before) in
      let upto = before ++ p ∷ [] in
      let (none, left, still) = taken_on m (market s) (market mid) p good same clean fits took in
      let more : run (map message_of upto) ≡ effect m x = after_more empty before p in
      let good_then : IsGood (run (map message_of upto)) = subst IsGood (sym more) still in
      let left_then : market mid ≡ laid (run (map message_of upto)) = left ∙ ap laid (sym more) in
      let longer : length upto ≡ count + 1 = (let one = length-append before (p ∷ []) in omega (arith, one, number)) in
      let later = are_followed mid t (count + 1) upto ps longer good_then left_then rest in
      let all : upto ++ ps ≡ before ++ p ∷ ps = append_assoc before (p ∷ []) ps in
      let line = change_at (request s) (map message_of (before ++ p ∷ ps)) (length before) in
      let line_is : change (request s) (count + 1) x (market s) (market mid) ≡ line =
      change-laid (request s) (count + 1) x m (run (map message_of upto)) (market s) (market mid) good good_then same left_then
      ∙ sym (change_here (request s) before ps p (count + 1) (ap (λ k. k + 1) number)) in
      record {
        named = (later.named.0 ∙ named, later.named.1 ∙ market_named, later.requested ∙ requested);
        requested = later.requested ∙ requested;
        wrote = (
          subst (Appends (contents (at s)) (contents (at t))) (ap (λ (r : ChangesRequest). line ++ lines_from r upto ps) requested ∙ sym (one_line (request s) before ps p))
              (Appends-more (contents (at s)) (contents (at mid)) (contents (at t)) line (lines_from (request mid) upto ps)
              (subst (Appends (contents (at s)) (contents (at mid))) line_is bytes) later.wrote.0),
          later.wrote.1 ∙ uncounted,
        );
        left = later.left ∙ ap (λ qs. laid (run (map message_of qs))) all;
        good = subst (λ qs. IsGood (run (map message_of qs))) all later.good;
      }

  -- the messages that it takes are those that its market takes
  market_all : (s t : T) (count : ℕ) (ps : List (List ℕ)) → TakesAll Follows s count ps t → TakesAll TakesMessage (market s) count ps (market t)
  market_all s t count [] same = ap market same
  market_all s t count (p ∷ ps) (mid, (named, market_named, requested, (took, written)), rest) = (market mid, took, market_all mid t (count + 1) ps rest)

  module _ {R : Type 0} (remaining : R → Option (List ℕ)) (failed_reads : R → Failures) (limit : Limit) (old new : Reading R) (count : ℕ) (s last t : T) (ps : List (List ℕ))
      (first : market s ≡ empty) (taken : Takes remaining Follows limit old new 0 count s last ps) (few : count ≤ 10 ^ 19 - 1) (own : Content) (locate : Option ℕ) (shown : Sides) where
    are : AreFollowed s [] ps last
    are = are_followed s last 0 [] ps refl empty_good (first ∙ sym laid_empty) taken.taken

    number : length ps ≡ count
    number = omega (arith, taken.counted)

    from_empty : TakesAll TakesMessage empty 0 ps (market last)
    from_empty = subst (λ m. TakesAll TakesMessage m 0 ps (market last)) first (market_all s last 0 ps taken.taken)

    -- the result then, and the state afterwards
    abbrev Returns : Reading R → Result Bool ToolFault → Type 0
    Returns left result = FollowsPart contents failures remaining failed_reads limit (request s) old left (at s) result (at t)

    -- whether the directory has the stock
    abbrev found : Result Bool ToolFault
    found = found_by (request t).stock locate

    -- the locate is that of the stock in the market afterwards
    abbrev Stands : Type 0
    Stands = IsFollowing (request t) (market t) own locate shown

    abbrev Stays : Type 0
    Stays = (old.stage ≡ Ended → (length ps ≡ 0) × (new ≡ old)) × (old.stage ≡ Cut → (length ps ≡ 0) × (new ≡ old))

    abbrev Stops : Part Unfollowed → Type 0
    Stops why = StopsAt remaining Left limit count new last why t

    -- for the market this was one reading
    abbrev Reads : Part Refused → Content → Type 0
    Reads why n = ReadsPart remaining failed_reads TakesMessage RefusesMessage limit old new 0 count empty why n

    abbrev reads_by : (why : Part Refused) (n : Content) → StopsAt remaining RefusesMessage limit count new (market last) why n → Leaves old (length ps) why new
        → CountsPart why (failed_reads old.reader) (failed_reads new.reader) → Reads why n
    reads_by why n stops leaves counts = record {
      payloads = ps;
      last = market last;
      taken = record { bytes = taken.bytes; full = taken.full; early = taken.early; wanted = taken.wanted; taken = from_empty; counted = taken.counted };
      stops = stops;
      leaves = leaves;
      counts = counts;
    }

    -- the lines of all messages taken are written
    wrote_to : at t ≡ at last → Wrote contents failures (changes_of_day (request s) ps) (at s) (at t)
    wrote_to kept =
        subst (Wrote contents failures (changes_of_day (request s) ps) (at s)) (sym kept)
        (subst (λ lines. Wrote contents failures lines (at s) (at last)) (lines_of_all (request s) ps) are.wrote)

    all : (left : Reading R) → t ≡ last → Stands → ReadsDay remaining failed_reads Only limit old left (Ok ps) → Returns left found
    all left same stands reads = by_locate locate place where
      asked : request t ≡ request s
      asked = ap request same ∙ are.requested

      place : followed (request s).stock (run (map message_of ps)) ≡ locate
      place = sym (stands.place ∙ ap₂ (λ (r : ChangesRequest) (m : Content). followed r.stock m) asked (ap market same ∙ are.left))

      by_stock : (stock : OneStock) → (request s).stock ≡ stock → followed (request s).stock (run (map message_of ps)) ≡ None → Returns left (Err (lack_of stock))
      by_stock (Locate k) is none = (ap lack_of is, (ps, reads, wrote_to (ap at same), none))
      by_stock (Named text) is none = (ap lack_of is, (ps, reads, wrote_to (ap at same), none))

      by_locate : (o : Option ℕ) → followed (request s).stock (run (map message_of ps)) ≡ o → Returns left (found_by (request t).stock o)
      by_locate None is = by_stock (request t).stock (sym (ap (λ (r : ChangesRequest). r.stock) asked)) is
      by_locate (Some l) is = (refl, (l, (ps, reads, wrote_to (ap at same), is)))

    taken_of : (n : Content) (why : Part Refused) → Reads why n → (qs : List (List ℕ)) (to : Option (List ℕ)) (k : ℕ) → TakesEarly limit empty (bytes_left remaining old) to k qs n → AreTaken limit qs
    taken_of n why reads qs to k (takes, counted, within, early) =
        record { full = takes.full; taken = takes.none; few = omega (arith, counted, within); early = early }

    -- the day is refused there, after these lines
    until : (why : Part Refused) (n : Content) (because : Stop) (fault : ToolFault) (reads : Reads why n) → reads.payloads ≡ ps → reason_of why ≡ Some because → stopped because limit.after Only count ≡ Err fault
        → IsRefusedAfter remaining failed_reads Only limit old (left_by why new) fault ps
    until why n because fault reads these is returns = record {
      refused = refused_by remaining failed_reads Only limit old new count n few why reads because fault is returns;
      counted = stopped_count because limit.after Only count fault returns ∙ ap Some (sym number);
      taken = subst (AreTaken limit) these (taken_of n why reads reads.payloads (bytes_left remaining new) count (taken_by remaining failed_reads Only limit old new count n few why reads));
      front = (bytes_left remaining new, taken.bytes);
    }

    at_full : Stops part.Full → Leaves {F = Unfollowed} old (length ps) part.Full new → failed_reads new.reader ≡ failed_reads old.reader → Stands → Returns new found
    at_full (same, most) leaves counts stands =
        all new same stands (all_by remaining failed_reads Only limit old new count (market t) few part.Full (reads_by part.Full (market t) (ap market same, most) leaves counts) refl)

    at_late : Stops part.Late → Stays → failed_reads new.reader ≡ failed_reads old.reader → Stands → Returns (passed new) found
    at_late (same, before, late) stays counts stands =
        all (passed new) same stands (all_by remaining failed_reads Only limit old new count (market t) few part.Late (reads_by part.Late (market t) (ap market same, before, late) stays counts) refl)

    at_end : (wanted : Option ℕ) → limit.after ≡ wanted → Stops part.End → Stays → failed_reads new.reader ≡ failed_reads old.reader → Stands → Returns (passed new) (ended wanted count found)
    at_end None whole (same, before, end) stays counts stands =
        all (passed new) same stands (whole_by remaining failed_reads Only limit old new count (market t) few (reads_by part.End (market t) (ap market same, before, end) stays counts) whole)
    at_end (Some most) part_of (same, before, end) stays counts stands = (
      ps,
      until part.End (market t) stop.End (tool.Short Only count) (reads_by part.End (market t) (ap market same, before, end) stays counts) refl refl
          (ap (λ wanted. stopped stop.End wanted Only count) part_of),
      wrote_to (ap at same),
    )

    at_frame : (why : FrameFault) → Stops (part.Frame why) → Stays → CountsPart {F = Unfollowed} (part.Frame why) (failed_reads old.reader) (failed_reads new.reader)
        → Returns new (Err (tool.Stopped Only (record { count = count; stop = stop.Frame why })))
    at_frame (Truncated held) (same, before, cut, is_held, some) stays counts = (
      ps,
      until (part.Frame (Truncated held)) (market t) (stop.Frame (Truncated held)) (tool.Stopped Only (record { count = count; stop = stop.Frame (Truncated held) }))
          (reads_by (part.Frame (Truncated held)) (market t) (ap market same, before, cut, is_held, some) stays counts) refl refl refl,
      wrote_to (ap at same),
    )
    at_frame (Read error) (same, before, going) stays counts = (
      ps,
      until (part.Frame (Read error)) (market t) (stop.Frame (Read error)) (tool.Stopped Only (record { count = count; stop = stop.Frame (Read error) }))
          (reads_by (part.Frame (Read error)) (market t) (ap market same, before, going) stays counts) refl refl refl,
      wrote_to (ap at same),
    )
    at_frame (Write sent error) never stays counts = absurd never
    at_frame TooLong never stays counts = absurd never

    at_many : Stops part.TooMany → Stays → failed_reads new.reader ≡ failed_reads old.reader → Returns (passed new) (Err (tool.Stopped Only (record { count = count; stop = stop.TooManyMessages })))
    at_many (same, before, many) stays counts = (
      ps,
      until part.TooMany (market t) stop.TooManyMessages (tool.Stopped Only (record { count = count; stop = stop.TooManyMessages }))
          (reads_by part.TooMany (market t) (ap market same, before, many) stays counts) refl refl refl,
      wrote_to (ap at same),
    )

    module _ (p : List ℕ) (next : IsNext new p) (some : IsFull p) (few_before : count < 10 ^ 19 - 1) (early : IsNotLate limit p) (before : IsBefore limit count) (stays : Stays)
        (counts : failed_reads new.reader ≡ failed_reads old.reader) where
      -- the market refuses the next message
      at_refused : (why : Refused) (because : Stop) → reason_of (part.Refused why) ≡ Some because → stopped because limit.after Only count ≡ Err (tool.Stopped Only (record { count = count; stop = because }))
          → RefusesMessage (market last) (count + 1) p why (market t) → at t ≡ at last → Returns (passed new) (Err (tool.Stopped Only (record { count = count; stop = because })))
      at_refused why because is returns refuses kept = (
        ps,
        until (part.Refused why) (market t) because (tool.Stopped Only (record { count = count; stop = because }))
            (reads_by (part.Refused why) (market t) (before, (p, next, some, few_before, early, refuses)) stays counts) refl is returns,
        wrote_to kept,
      )

      pushed : length (ps ++ p ∷ []) ≡ count + 1
      pushed = let one = length-append ps (p ∷ []) in omega (arith, one, number)

      -- the block of this message is the last one read
      off : Consumes (bytes_left remaining old) (bytes_left remaining (passed new)) (blocks (ps ++ p ∷ []))
      off = consumed_more (bytes_left remaining old) (bytes_left remaining new) (bytes_left remaining (passed new)) ps p taken.bytes (passed_off new remaining p next)

      leaves_first : LeavesReaderFirst old (length ps + 1) None (passed new)
      leaves_first = (
        λ none. absurd (omega (arith, none)),
        λ more. (
          ap (λ (r : Reading R). r.held) (passed_going new next.1),
          ap (λ (r : Reading R). r.stage) (passed_going new next.1),
          never_next old new (length ps) Ended is_not_going next.1 stays.0,
          never_next old new (length ps) Cut cut_not_going next.1 stays.1,
        ),
      )

      -- the market took it
      module _ (took : TakesMessage (market last) (count + 1) p (market t)) where
        these_taken : AreTaken limit (ps ++ p ∷ [])
        these_taken =
            let all_taken : TakesAll TakesMessage empty 0 (ps ++ p ∷ []) (market t) =
            takes_both TakesMessage empty (market last) (market t) 0 count ps (p ∷ []) from_empty taken.counted (market t, took, refl) in
            let (takes, counted, within_all, all_early) = takes_early remaining limit old (passed new) (count + 1) empty (market t) (market t) (ps ++ p ∷ [])
            (are_applied empty empty (market t) 0 (ps ++ p ∷ []) empty_good (sym laid_empty) all_taken) off (each-push IsFull ps p taken.full some)
            (each-push (IsNotLate limit) ps p taken.early early) pushed (omega (arith, few_before)) refl in
            record { full = takes.full; taken = takes.none; few = omega (arith, counted, within_all); early = all_early }

        -- the lines of its change are those of a market with its orders in any order
        line_is : change (request last) (count + 1) (message_of p) (market last) (market t) ≡ change_past (request s) ps p
        line_is =
            let m = run (map message_of ps) in
            let (none, left, still) = taken_on m (market last) (market t) p are.good are.left took.0 took.1 took.2 in
            let more : run (map message_of (ps ++ p ∷ [])) ≡ effect m (message_of p) = after_more empty ps p in
            ap (λ (r : ChangesRequest). change r (count + 1) (message_of p) (market last) (market t)) are.requested
            ∙ change-laid (request s) (count + 1) (message_of p) m (run (map message_of (ps ++ p ∷ []))) (market last) (market t) are.good (subst IsGood (sym more) still) are.left
            (left ∙ ap laid (sym more))
            ∙ sym (line_past (request s) ps p (count + 1) (ap (λ k. k + 1) number))

      -- its lines could not be written
      unwritten : (error : Error) → LeavesMessage contents failures (request last) (count + 1) p (market last) (at last) (unfollowed.Write error) (market t) (at t)
          → Returns (passed new) (Err (tool.Write error))
      unwritten error (took, (sent, within, bytes, unfailed)) = (
        ps,
        p,
        these_taken took,
        off,
        (
          sent,
          subst (λ line. sent < length line) (line_is took) within,
          subst (λ line. Appends (contents (at s)) (contents (at t)) (changes_of_day (request s) ps ++ take sent line)) (line_is took)
              (Appends-more (contents (at s)) (contents (at last)) (contents (at t)) (changes_of_day (request s) ps) _
              (subst (Appends (contents (at s)) (contents (at last))) (lines_of_all (request s) ps) are.wrote.0) bytes),
          unfailed ∙ ap (failed error) are.wrote.1,
        ),
        ap failed_reads (passed_reader new) ∙ counts,
        leaves_first,
      )

      -- or memory ran out
      unremembered : LeavesMessage contents failures (request last) (count + 1) p (market last) (at last) unfollowed.OutOfMemory (market t) (at t)
          → Returns (passed new) (Err tool.OutOfMemory)
      unremembered (took, kept) = (ps, p, these_taken took, off, wrote_to kept, ap failed_reads (passed_reader new) ∙ counts, leaves_first)

      at_left : (why : Unfollowed) → Left last (count + 1) p why t → Returns (passed new) (answer_of limit.after count found (part.Refused why))
      at_left (unfollowed.Refused (refused.Codec f)) (named, market_named, requested, (refuses, kept)) = at_refused (refused.Codec f) (stop.Codec f) refl refl refuses kept
      at_left (unfollowed.Refused (refused.Rule f)) (named, market_named, requested, (refuses, kept)) = at_refused (refused.Rule f) (stop.Rule f) refl refl refuses kept
      at_left (unfollowed.Write error) (named, market_named, requested, unable) = unwritten error unable
      at_left unfollowed.OutOfMemory (named, market_named, requested, unable) = unremembered unable

    returns_so : (why : Part Unfollowed) → Stops why → Leaves old (length ps) why new → CountsPart why (failed_reads old.reader) (failed_reads new.reader) → UnlessRefused why Stands
        → Returns (left_by why new) (answer_of limit.after count found why)
    returns_so part.Full stops leaves counts stands = at_full stops leaves counts stands
    returns_so part.Late stops stays counts stands = at_late stops stays counts stands
    returns_so part.End stops stays counts stands = at_end limit.after refl stops stays counts stands
    returns_so (part.Frame why) stops stays counts stands = at_frame why stops stays counts
    returns_so part.TooMany stops stays counts stands = at_many stops stays counts
    returns_so (part.Refused why) (before, (p, next, some, few_before, early, left)) stays counts stands = at_left p next some few_before early before stays counts why left

    still : t ≡ last → SameNames s t
    still same = (ap name same ∙ are.named.0, ap market_name same ∙ are.named.1, ap request same ∙ are.named.2)

    named_so : (why : Part Unfollowed) → Stops why → SameNames s t
    named_so part.Full (same, most) = still same
    named_so part.Late (same, before, next) = still same
    named_so part.End (same, before, next) = still same
    named_so (part.Frame (Truncated held)) (same, before, cut, is_held, some) = still same
    named_so (part.Frame (Read error)) (same, before, going) = still same
    named_so (part.Frame (Write sent error)) never = absurd never
    named_so (part.Frame TooLong) never = absurd never
    named_so part.TooMany (same, before, next) = still same
    named_so (part.Refused why) (before, (p, next, some, few_before, early, (named, market_named, requested, unable))) =
        (named ∙ are.named.0, market_named ∙ are.named.1, requested ∙ are.named.2)

  -- the outcome of following a part from the empty market: its output, its result and its state
  pub followed_part : {R : Type 0} (remaining : R → Option (List ℕ)) (failed_reads : R → Failures) (limit : Limit) (old new : Reading R) (count : ℕ) (s t : T) (why : Part Unfollowed)
      (own : Content) (locate : Option ℕ) (shown : Sides) → market s ≡ empty → ReadsPart remaining failed_reads Follows Left limit old new 0 count s why t → count ≤ 10 ^ 19 - 1
      → UnlessRefused why (IsFollowing (request t) (market t) own locate shown)
      → SameNames s t
      × FollowsPart contents failures remaining failed_reads limit (request s) old (left_by why new) (at s) (answer_of limit.after count (found_by (request t).stock locate) why) (at t)
  followed_part remaining failed_reads limit old new count s t why own locate shown first reads few stands = (
    named_so remaining failed_reads limit old new count s reads.last t reads.payloads first reads.taken few own locate shown why reads.stops,
    returns_so remaining failed_reads limit old new count s reads.last t reads.payloads first reads.taken few own locate shown why reads.stops reads.leaves reads.counts stands,
  )
