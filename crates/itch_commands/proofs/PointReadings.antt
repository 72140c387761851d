-- The result of reading on from point to point.
use Rattle.std.proofs.Common.{◌≡◌, ℕ, ◌+◌, ◌-◌, ◌^◌, ◌≤◌, ◌<◌, min, Bool, true, false, List, [], ◌∷◌, ◌++◌, length, Option, None, Some, Result, Ok, Err, inl, inr, refl, sym, ap, subst, ◌∙◌, arith}
use denote.Ref.{Bor}
use Rattle.std.specs.Option.{option_copied}
use Rattle.std.proofs.KnownBytes.{Consumes-nil}
use Rattle.itch_codec.specs.Messages.{message_of}
use Rattle.itch_codec.specs.Widths.{IsMessage}
use Rattle.itch_codec.specs.declared.message.Message.{Message}
use Rattle.itch_frame.specs.Reading.{Reading, bytes_left}
use Rattle.itch_frame.specs.declared.tally.Failures.{Failures}
use Rattle.itch_day.specs.Limits.{counted}
use Rattle.itch_day.specs.DayCursors.{IsDayCursor, RefusesTracked, TakesTracked, first_cursor}
use Rattle.itch_day.specs.Parts.{GoesOn, GoesOnTo, Leaves, ReadsPart, StopsAt}
use Rattle.itch_day.specs.Sinks.{TakesAll}
use Rattle.itch_day.specs.declared.limit.Limit.{Limit}
use Rattle.itch_day.specs.declared.cursor.DayCursor.{DayCursor}
use Rattle.itch_day.specs.declared.tracked.Tracked.{Tracked}
use Rattle.itch_day.specs.declared.stop.PartStop.{PartStop as Part}
use Rattle.itch_day.specs.declared.stop.PartStop.TheVariants as part
use Rattle.itch_day.proofs.DayCursors.{count-cursor_after, is_cursor, tracked_after, unmarked, unmarked_all, unmarked_stop}
use Rattle.itch_market.specs.Content.{Content, empty, laid}
use Rattle.itch_market.specs.DayParts.{HaltsPart, IsEnough, LeavesPartOf, PartOf, TakesEarly}
use Rattle.itch_market.specs.Effects.{effect}
use Rattle.itch_market.specs.GoodMarkets.{IsGood}
use Rattle.itch_market.specs.Reasons.{reason}
use Rattle.itch_market.specs.Replays.{CountsFirst}
use Rattle.itch_day.specs.Passing.{left_by}
use Rattle.itch_market.specs.Takings.{RefusesMessage, TakesMessage, reason_of}
use Rattle.itch_market.specs.Wanted.{Wanted}
use Rattle.itch_market.specs.declared.refused.Refused.{Refused}
use Rattle.itch_market.specs.declared.refused.Refused.TheVariants as refused
use Rattle.itch_market.specs.declared.stop.Stop.{Stop}
use Rattle.itch_market.specs.declared.stop.Stop.TheVariants.{End, Frame, Codec, Rule, TooManyMessages}
use Rattle.itch_market.proofs.AppliedMessages.{AreApplied, are_applied}
use Rattle.itch_market.proofs.Causes.{no_reason, none_clean}
use Rattle.itch_market.proofs.DayParts.{full_count, part_left, takes_early, is_part}
use Rattle.itch_market.proofs.LeftReaders.{stop_counts}
use Rattle.itch_market.proofs.GoodMarkets.{effect_good, empty_good}
use Rattle.itch_day.proofs.PassedBlocks.{ends_here, passed_off}
use Rattle.itch_market.proofs.ReplayProgress.{taken_on}
use Rattle.itch_snapshot.specs.Bytes.{canon, closing}
use Rattle.itch_snapshot.specs.Cursor.{cut_to}
use Rattle.itch_snapshot.specs.Snapshot.{snap}
use Rattle.itch_snapshot.proofs.OneSnapshot.{snap-laid}
use Rattle.itch_snapshot.proofs.Sizes.{snap_step}
use Rattle.itch_join.proofs.Premises.{laid_empty}
use Rattle.itch_commands.specs.Commands.{Snaps}
use Rattle.itch_commands.specs.Outputs.{WritesOutput, snapshot_in}
use Rattle.itch_commands.specs.Points.{IsRead, Reaches, ReadsMore, ReadsOn, ReadsTo, ReadsUntil, Stands, at_first, begun, up_to}
use Rattle.itch_commands.specs.Readings.{CountsRead, FromBlocks, LeavesDay, ReadsDay, ReadsMarket, stopped}
use Rattle.itch_commands.specs.declared.fault.Source.{Source}
use Rattle.itch_commands.specs.declared.fault.Source.TheVariants.{Only}
use Rattle.itch_commands.specs.declared.fault.ToolFault.{ToolFault}
use Rattle.itch_commands.specs.declared.fault.ToolFault.TheVariants as tool
use Rattle.itch_commands.proofs.DayReadings.{day_fails}
use Rattle.itch_market.proofs.DayMessages.{Applied}
use Rattle.itch_commands.proofs.FirstDifferences.{stopped_end}
use Rattle.itch_commands.proofs.Outputs.{read_writes}
use Rattle.itch_commands.proofs.ReadParts.{day_of, kept_at}
use Rattle.itch_commands.proofs.PartReadings.{part_leaves, stop_leaves, stopped_counts, stopped_so}
use Rattle.itch_commands.proofs.Snapshots.{cut_snapshot}

-- the result of a stop after that many messages
stopped_ok : (stop : Stop) (wanted : Option ℕ) (count k : ℕ) → stopped stop wanted Only count ≡ Ok k → k ≡ count
stopped_ok End None count k is = cc
stopped_ok End (Some most) count k is = absurd (cc)
stopped_ok (Frame f) wanted count k is = absurd (cc)
stopped_ok (Codec f) wanted count k is = absurd (cc)
stopped_ok (Rule why) wanted count k is = absurd (cc)
stopped_ok TooManyMessages wanted count k is = absurd (cc)

stopped_short : (stop : Stop) (wanted : Option ℕ) (at : Source) (count k : ℕ) → stopped stop wanted Only count ≡ Err (tool.Short at k) → (stop ≡ End) × (k ≡ count)
stopped_short End None at count k is = absurd (cc)
stopped_short End (Some most) at count k is = (refl, cc)
stopped_short (Frame f) wanted at count k is = absurd (cc)
stopped_short (Codec f) wanted at count k is = absurd (cc)
stopped_short (Rule why) wanted at count k is = absurd (cc)
stopped_short TooManyMessages wanted at count k is = absurd (cc)

-- the end of a replay is the end of the messages
at_end : (stop : Part Refused) → reason_of stop ≡ Some End → stop ≡ part.End
at_end part.Full is = absurd (cc)
at_end part.Late is = absurd (cc)
at_end part.End is = refl
at_end (part.Frame f) is = absurd (cc)
at_end part.TooMany is = absurd (cc)
at_end (part.Refused (refused.Codec f)) same = absurd (cc)
at_end (part.Refused (refused.Rule why)) same = absurd (cc)

-- if nothing stopped the reading, the part was read
reached : (limit : Limit) (stop : Part Refused) → reason_of stop ≡ None → Reaches limit stop
reached limit part.Full none = tt
reached limit part.Late none = tt
reached limit part.End is = absurd (cc)
reached limit (part.Frame f) is = absurd (cc)
reached limit part.TooMany is = absurd (cc)
reached limit (part.Refused (refused.Codec f)) same = absurd (cc)
reached limit (part.Refused (refused.Rule why)) same = absurd (cc)

-- and another one may follow
pub reached_goes : (limit : Limit) (stop : Part Refused) → Reaches limit stop → GoesOn stop
reached_goes limit part.Full reaches = tt
reached_goes limit part.Late reaches = tt
reached_goes limit part.End reaches = tt
reached_goes limit (part.Frame f) never = never
reached_goes limit part.TooMany never = never
reached_goes limit (part.Refused why) never = never

some_same : (m n : ℕ) → Some m ≡ Some n → n ≡ m
some_same m n is = cc

-- a message makes the snapshot list longer by at most one
snap_past : (m n : Content) (x : Message) → IsGood m → IsMessage x → reason m x ≡ None → n ≡ laid (effect m x) → length (snap n) ≤ length (snap m) + 1
snap_past m n x good fits none next =
    omega (arith, ap (λ k. length (snap k)) next, ap length (snap-laid (effect m x) (effect_good m x good fits none)), snap_step m x good)

-- so some messages make it longer by at most their number
snap_on : (m n k : Content) (count : ℕ) (ps : List (List ℕ)) → IsGood m → n ≡ laid m → TakesAll TakesMessage n count ps k → length (snap k) ≤ length (snap n) + length ps
snap_on m n k count [] good same takes = omega (arith, ap (λ x. length (snap x)) takes)
snap_on m n k count (p ∷ ps) good same (next, (clean, fits, took), rest) =
    let (none, left, still) = taken_on m n next p good same clean fits took in
    let one = snap_past m next (message_of p) good fits (no_reason m p none) left in
    let more = snap_on (effect m (message_of p)) next k (count + 1) ps still left rest in
    omega (arith, one, more, ap (λ x. length (snap x)) same, ap length (snap-laid m good))

-- that many messages more are more than there were
pub more_goes : (before : Limit) (stop : Part Refused) (count more most : ℕ) → GoesOn stop → 0 < more → count ≤ 10 ^ 19 - 1 → most ≡ min (count + more) (2 ^ 64 - 1)
    → GoesOnTo before stop count (counted (Some most))
more_goes before stop count more most goes some few is = record { goes_on = goes; later = tt; within = omega (arith, some, few, is); more = inr (omega (arith, some, few, is)) }

module _ {R : Type 0} (remaining : R → Option (List ℕ)) (failures : R → Failures) where
  -- the cursor counts the messages, and the snapshot list is no longer than their number
  module _ (limit : Limit) (old new : Reading R) (before count : ℕ) (s t : Tracked Content) (stop : Part Refused)
      (reads : ReadsPart remaining failures (TakesTracked TakesMessage) (RefusesTracked RefusesMessage) limit old new before count s stop t) (is : before ≡ s.cursor.count) where
    pub count_on : t.cursor.count ≡ count
    count_on =
        let tracked = ap (λ (k : DayCursor). k.count) (tracked_after remaining failures TakesMessage RefusesMessage limit old new before count s stop t reads) in
        omega (arith, is, tracked, count-cursor_after s.cursor reads.payloads, reads.taken.counted)

    pub short_on : IsGood s.sink → laid s.sink ≡ s.sink → length (snap s.sink) ≤ s.cursor.count → length (snap t.sink) ≤ t.cursor.count
    short_on good in_place short =
        let taken = (unmarked_all remaining failures TakesMessage RefusesMessage s before reads.payloads reads.last reads.taken.taken).0 in
        let stops = (unmarked_stop remaining failures TakesMessage RefusesMessage limit count new reads.last stop t reads.stops).0 in
        let kept = kept_at remaining limit count new reads.last.sink t.sink stop stops in
        let more = snap_on s.sink s.sink reads.last.sink before reads.payloads good (sym in_place) taken in
        omega (arith, is, short, more, count_on, reads.taken.counted, ap (λ x. length (snap x)) kept)

  pub stands_on : (limit : Limit) (first now : Reading R) (count : ℕ) (tracked : Tracked Content) (stop : Part Refused) → tracked.cursor.count ≡ count
      → ReadsPart remaining failures (TakesTracked TakesMessage) (RefusesTracked RefusesMessage) limit first now 0 count begun stop tracked → Stands remaining failures limit first now tracked stop
  stands_on limit first now count tracked stop is reads =
      subst (λ k. ReadsPart remaining failures (TakesTracked TakesMessage) (RefusesTracked RefusesMessage) limit first now 0 k begun stop tracked) (sym is) reads

  module _ (limit : Limit) (first now : Reading R) (tracked : Tracked Content) (few : tracked.cursor.count ≤ 10 ^ 19 - 1) where
    module _ (stop : Part Refused) (stands : Stands remaining failures limit first now tracked stop) where
      applied : AreApplied empty stands.payloads stands.last.sink
      applied =
          are_applied empty empty stands.last.sink 0 stands.payloads empty_good (sym laid_empty)
          (unmarked_all remaining failures TakesMessage RefusesMessage begun 0 stands.payloads stands.last stands.taken.taken).0

      stops : StopsAt remaining RefusesMessage limit tracked.cursor.count now stands.last.sink stop tracked.sink
      stops = (unmarked_stop remaining failures TakesMessage RefusesMessage limit tracked.cursor.count now stands.last stop tracked stands.stops).0

      number : length stands.payloads ≡ tracked.cursor.count
      number = omega (arith, stands.taken.counted)

      kept : tracked.sink ≡ stands.last.sink
      kept = kept_at remaining limit tracked.cursor.count now stands.last.sink tracked.sink stop stops

      taken : TakesEarly limit empty (bytes_left remaining first) (bytes_left remaining now) tracked.cursor.count stands.payloads tracked.sink
      taken =
          takes_early remaining limit first now tracked.cursor.count empty stands.last.sink tracked.sink stands.payloads applied stands.taken.bytes stands.taken.full stands.taken.early number few kept

      left : LeavesPartOf limit first tracked.cursor.count (reason_of stop) (left_by stop now)
      left =
          part_left remaining failures limit first now tracked.cursor.count stands.last.sink tracked.sink stop stops
          (subst (λ k. Leaves first k stop now) number stands.leaves)

      counts : CountsFirst (reason_of stop) (failures first.reader) (failures (Reading.reader (left_by stop now)))
      counts =
          stop_counts remaining failures RefusesMessage limit first now tracked.cursor.count tracked.cursor.count stands.last.sink tracked.sink stop stops stands.counts

      read : IsEnough limit tracked.cursor.count (bytes_left remaining now) (bytes_left remaining (left_by stop now))
          → failures (Reading.reader (left_by stop now)) ≡ failures first.reader → LeavesDay (Ok tracked.cursor.count) limit first (left_by stop now)
          → IsRead remaining failures limit first (left_by stop now) tracked.sink tracked.cursor
      read enough uncounted leaves = record {
        payloads = stands.payloads;
        day = day_of remaining failures Only limit first (left_by stop now) (bytes_left remaining now) tracked.cursor.count stands.payloads tracked.sink taken enough uncounted leaves;
        fits = applied.fits;
        market = kept ∙ applied.left;
        tracked =
            subst (λ (k : DayCursor). IsDayCursor k stands.payloads)
            (sym (tracked_after remaining failures TakesMessage RefusesMessage limit first now 0 tracked.cursor.count begun stop tracked stands))
            (is_cursor stands.payloads (none_clean empty stands.payloads applied.none));
      }

      -- a fault is that of one reading
      pub refused_on : (why : Stop) (fault : ToolFault) → reason_of stop ≡ Some why → stopped why limit.after Only tracked.cursor.count ≡ Err fault
          → ReadsDay remaining failures Only limit first (left_by stop now) (Err fault)
      refused_on why fault is returns =
          let from = bytes_left remaining first in
          let to = bytes_left remaining (left_by stop now) in
          let count = tracked.cursor.count in
          let whole =
          is_part remaining failures limit first now 0 count empty tracked.sink stop empty_good laid_empty refl
          (unmarked remaining failures TakesMessage RefusesMessage limit first now 0 count begun stop tracked stands) few in
          let halts : HaltsPart limit empty from to count why tracked.sink = subst (λ r. PartOf limit empty from to count r tracked.sink) is whole in
          day_fails remaining failures Only limit first (left_by stop now) fault empty tracked.sink refl
          (subst (λ r. ReadsMarket Only limit empty from to r tracked.sink) returns (stopped_so Only limit empty from to count tracked.sink why halts))
          (subst (λ (r : Result ℕ ToolFault). CountsRead r (failures first.reader) (failures (Reading.reader (left_by stop now)))) returns
          (stopped_counts Only limit empty from to count tracked.sink why (failures first.reader) (failures (Reading.reader (left_by stop now)))
          (subst (λ r. CountsFirst r (failures first.reader) (failures (Reading.reader (left_by stop now)))) is counts)))
          (subst (λ (r : Result ℕ ToolFault). LeavesDay r limit first (left_by stop now)) returns
          (stop_leaves Only limit count first (left_by stop now) why (subst (λ r. LeavesPartOf limit first count r (left_by stop now)) is left)))

    -- the whole file was read
    pub whole_on : Stands remaining failures limit first now tracked part.End → limit.after ≡ None → IsRead remaining failures limit first (left_by {F = Refused} part.End now) tracked.sink tracked.cursor
    whole_on stands whole = by_end (stops part.End stands) where
      by_end : StopsAt remaining RefusesMessage limit tracked.cursor.count now stands.last.sink part.End tracked.sink → IsRead remaining failures limit first (left_by {F = Refused} part.End now) tracked.sink tracked.cursor
      by_end (same, before, end) =
          read part.End stands (inr (inr (whole, ends_here now remaining end))) (counts part.End stands) (inr (inr (whole, left part.End stands)))

    -- if nothing stopped the reading, the part was read
    pub all_on : (stop : Part Refused) → Stands remaining failures limit first now tracked stop → reason_of stop ≡ None
        → GoesOn stop × IsRead remaining failures limit first (left_by stop now) tracked.sink tracked.cursor
    all_on part.Full stands none = by_full (stops part.Full stands) where
      by_full : StopsAt remaining RefusesMessage limit tracked.cursor.count now stands.last.sink part.Full tracked.sink → GoesOn {F = Refused} part.Full × IsRead remaining failures limit first now tracked.sink tracked.cursor
      by_full (same, (most, wanted, all)) =
          let is = full_count most tracked.cursor.count (length stands.payloads) limit.after wanted stands.taken.wanted (number part.Full stands) (most, wanted, all) in
          (tt, read part.Full stands (inl (wanted ∙ ap Some (sym is), refl)) (counts part.Full stands) (part_leaves limit first tracked.cursor.count now (left part.Full stands)))
    all_on part.Late stands none = by_late (stops part.Late stands) where
      by_late : StopsAt remaining RefusesMessage limit tracked.cursor.count now stands.last.sink part.Late tracked.sink
          → GoesOn {F = Refused} part.Late × IsRead remaining failures limit first (left_by {F = Refused} part.Late now) tracked.sink tracked.cursor
      by_late (same, before, (p, next, full, room, late)) = (
        tt,
        read part.Late stands (inr (inl (before, (p, (full, passed_off now remaining p next), late)))) (counts part.Late stands)
            (part_leaves limit first tracked.cursor.count (left_by {F = Refused} part.Late now) (left part.Late stands)),
      )
    all_on part.End stands is = absurd (cc)
    all_on (part.Frame f) stands is = absurd (cc)
    all_on part.TooMany stands is = absurd (cc)
    all_on (part.Refused (refused.Codec f)) stands same = absurd (cc)
    all_on (part.Refused (refused.Rule why)) stands same = absurd (cc)

    -- the result if nothing stopped it
    pub reached_on : (stop : Part Refused) → Stands remaining failures limit first now tracked stop → reason_of stop ≡ None → (count : ℕ) → count ≡ tracked.cursor.count
        → ReadsOn remaining failures limit first now (Ok count) tracked
    reached_on stop stands none count is = let (goes_on, read) = all_on stop stands none in (is, (stop, goes_on, stands, read))

    pub reached_to : (stop : Part Refused) → Stands remaining failures limit first now tracked stop → reason_of stop ≡ None → (count : ℕ) → count ≡ tracked.cursor.count
        → ReadsTo remaining failures limit first now stop (Ok count) tracked
    reached_to stop stands none count is = (is, reached limit stop none, (all_on stop stands none).1)

    -- and if something did
    module _ (stop : Part Refused) (stands : Stands remaining failures limit first now tracked stop) (why : Stop) (is : reason_of stop ≡ Some why) (count : ℕ) (same : count ≡ tracked.cursor.count) where
      end_is : why ≡ End → stop ≡ part.End
      end_is at = at_end stop (is ∙ ap Some at)

      short : (fault : ToolFault) → stopped why limit.after Only count ≡ Err fault → (at : Source) → (k : ℕ) → fault ≡ tool.Short at k → (k ≡ tracked.cursor.count) × (stop ≡ part.End)
      short fault returns at k short_of =
          let (at_the_end, counted) = stopped_short why limit.after at count k (returns ∙ ap Err short_of) in (counted ∙ same, end_is at_the_end)

      refused_so : (fault : ToolFault) → stopped why limit.after Only count ≡ Err fault → ReadsDay remaining failures Only limit first (left_by stop now) (Err fault)
      refused_so fault returns = refused_on stop stands why fault is (subst (λ k. stopped why limit.after Only k ≡ Err fault) same returns)

      pub stopped_on : (result : Result ℕ ToolFault) → result ≡ stopped why limit.after Only count → ReadsOn remaining failures limit first now result tracked
      stopped_on (Ok k) returns =
          let (at, whole) = stopped_end why limit.after Only count k (sym returns) in
          let ended = subst (λ s. Stands remaining failures limit first now tracked s) (end_is at) stands in
          (stopped_ok why limit.after count k (sym returns) ∙ same, (part.End, tt, ended, whole_on ended whole))
      stopped_on (Err fault) returns = (stop, stands, refused_so fault (sym returns), short fault (sym returns))

      pub stopped_to : (result : Result ℕ ToolFault) → result ≡ stopped why limit.after Only count → ReadsTo remaining failures limit first now stop result tracked
      stopped_to (Ok k) returns =
          let (at, whole) = stopped_end why limit.after Only count k (sym returns) in
          let ended = subst (λ s. Stands remaining failures limit first now tracked s) (end_is at) stands in (
            stopped_ok why limit.after count k (sym returns) ∙ same,
            subst (λ s. Reaches limit s) (sym (end_is at)) whole,
            subst (λ s. IsRead remaining failures limit first (left_by {F = Refused} s now) tracked.sink tracked.cursor) (sym (end_is at)) (whole_on ended whole),
          )
      stopped_to (Err fault) returns = (refused_so fault (sym returns), short fault (sym returns))

  -- before any message
  none_stands : (until : Option ℕ) (r : Reading R) → Stands remaining failures (record { after = Some 0; until = until }) r r begun part.Full
  none_stands until r = record {
    payloads = [];
    last = begun;
    taken = record { bytes = Consumes-nil (bytes_left remaining r); full = tt; early = tt; wanted = λ some. absurd (omega arith); taken = refl; counted = refl };
    stops = (refl, (0, refl, omega arith));
    leaves = record { unread = λ _. refl; given = λ some. absurd (omega arith) };
    counts = refl;
  }

  pub stands_first : (until : Option ℕ) (r : Reading R) (m : Content) (cursor : DayCursor) → m ≡ empty → cursor ≡ first_cursor
      → Stands remaining failures (record { after = Some 0; until = until }) r r (record { sink = m; cursor = cursor }) part.Full
  stands_first until r m cursor none beginning =
      let limit : Limit = record { after = Some 0; until = until } in
      subst (λ (x : Content). Stands remaining failures limit r r (record { sink = x; cursor = cursor }) part.Full) (sym none)
      (subst (λ (k : DayCursor). Stands remaining failures limit r r (record { sink = empty; cursor = k }) part.Full) (sym beginning) (none_stands until r))

  module _ (time : ℕ) (first now : Reading R) (tracked : Tracked Content) (few : tracked.cursor.count ≤ 10 ^ 19 - 1) where
    -- a message at the time or later follows
    pub late_there : (stop : Part Refused) → Stands remaining failures (up_to time) first now tracked stop → reason_of stop ≡ None
        → ReadsUntil remaining failures time first now (Ok true) tracked
    late_there part.Late stands none = (stands, (all_on (up_to time) first now tracked few part.Late stands none).1)
    late_there part.Full stands none = absurd (cc stands.stops.1.1)
    late_there part.End stands is = absurd (cc)
    late_there (part.Frame f) stands is = absurd (cc)
    late_there part.TooMany stands is = absurd (cc)
    late_there (part.Refused (refused.Codec f)) stands same = absurd (cc)
    late_there (part.Refused (refused.Rule why)) stands same = absurd (cc)

    module _ (stop : Part Refused) (stands : Stands remaining failures (up_to time) first now tracked stop) (why : Stop) (is : reason_of stop ≡ Some why) (count : ℕ) (same : count ≡ tracked.cursor.count) where
      -- or the file ended
      pub ended_there : (k : ℕ) → stopped why None Only count ≡ Ok k → ReadsUntil remaining failures time first now (Ok false) tracked
      ended_there k returns =
          let (at, whole) = stopped_end why None Only count k returns in
          let ended = subst (λ s. Stands remaining failures (up_to time) first now tracked s) (at_end stop (is ∙ ap Some at)) stands in
          (ended, whole_on (up_to time) first now tracked few ended refl)

      -- or a message was refused
      pub refused_there : (fault : ToolFault) → stopped why None Only count ≡ Err fault → ReadsUntil remaining failures time first now (Err fault) tracked
      refused_there fault returns =
          (stop, refused_on (up_to time) first now tracked few stop stands why fault is (subst (λ k. stopped why None Only k ≡ Err fault) same returns))

  module _ (most : ℕ) (first now : Reading R) (tracked : Tracked Content) (few : tracked.cursor.count ≤ 10 ^ 19 - 1) where
    -- as many as requested were read
    as_many : (stop : Part Refused) → Stands remaining failures (counted (Some most)) first now tracked stop → Reaches (counted (Some most)) stop → tracked.cursor.count ≡ most
    as_many part.Full stands reaches = by_full stands.stops where
      by_full : StopsAt remaining (RefusesTracked RefusesMessage) (counted (Some most)) tracked.cursor.count now stands.last part.Full tracked → tracked.cursor.count ≡ most
      by_full (same, (wanted, is, all)) =
          let number : length stands.payloads ≡ tracked.cursor.count = omega (arith, stands.taken.counted) in
          full_count wanted tracked.cursor.count (length stands.payloads) (Some most) is stands.taken.wanted number (wanted, is, all) ∙ some_same most wanted is
    as_many part.Late stands reaches = by_late stands.stops where
      by_late : StopsAt remaining (RefusesTracked RefusesMessage) (counted (Some most)) tracked.cursor.count now stands.last part.Late tracked → tracked.cursor.count ≡ most
      by_late (same, before, (p, next, full, room, late)) = absurd (cc late.1)
    as_many part.End stands never = absurd (cc never)
    as_many (part.Frame f) stands never = absurd never
    as_many part.TooMany stands never = absurd never
    as_many (part.Refused why) stands never = absurd never

    pub more_read : (stop : Part Refused) (count : ℕ) → Stands remaining failures (counted (Some most)) first now tracked stop
        → ReadsTo remaining failures (counted (Some most)) first now stop (Ok count) tracked → ReadsMore remaining failures most (counted (Some most)) first now stop (Ok true) tracked
    more_read stop count stands (is, reaches, read) = (refl, as_many stop stands reaches, reaches, read)

    -- a reading up to the end of the file has read the whole file
    to_the_end : Stands remaining failures (counted (Some most)) first now tracked part.End → Stands remaining failures (counted None) first now tracked part.End
    to_the_end s =
        let taken = s.taken in
        record {
          payloads = s.payloads;
          last = s.last;
          taken = record { bytes = taken.bytes; full = taken.full; early = taken.early; wanted = λ some. tt; taken = taken.taken; counted = taken.counted };
          stops = (s.stops.0, tt, s.stops.2);
          leaves = s.leaves;
          counts = s.counts;
        }

    pub more_fails : (stop : Part Refused) (fault : ToolFault) → ReadsTo remaining failures (counted (Some most)) first now stop (Err fault) tracked
        → ReadsMore remaining failures most (counted (Some most)) first now stop (Err fault) tracked
    more_fails stop fault (day, ends) = (refl, day)

    -- or the file has fewer
    module _ (stop : Part Refused) (stands : Stands remaining failures (counted (Some most)) first now tracked stop) (fault : ToolFault) (at : Source) (count : ℕ) (short : fault ≡ tool.Short at count)
        (fails : ReadsTo remaining failures (counted (Some most)) first now stop (Err fault) tracked) where
      at_the_end : stop ≡ part.End
      at_the_end = (fails.1 at count short).1

      ended : Stands remaining failures (counted None) first now tracked part.End
      ended = to_the_end (subst (λ s. Stands remaining failures (counted (Some most)) first now tracked s) at_the_end stands)

      pub short_stands : Stands remaining failures (counted None) first now tracked stop
      short_stands = subst (λ s. Stands remaining failures (counted None) first now tracked s) (sym at_the_end) ended

      pub more_short : ReadsMore remaining failures most (counted None) first now stop (Ok false) tracked
      more_short =
          let fewer = subst (λ f. ReadsDay remaining failures Only (counted (Some most)) first (left_by stop now) (Err f)) short fails.0 in (
            refl,
            omega (arith, (fails.1 at count short).0, fewer.1.1),
            subst (λ s. Reaches (counted None) s) (sym at_the_end) refl,
            subst (λ s. IsRead remaining failures (counted None) first (left_by {F = Refused} s now) tracked.sink tracked.cursor) (sym at_the_end)
                (whole_on (counted None) first now tracked few ended refl),
          )

  module _ (limit : Limit) (first now : Reading R) (m : Content) (cursor : DayCursor) (few : cursor.count ≤ 10 ^ 19 - 1) (read : IsRead remaining failures limit first now m cursor) where
    as_applied : Applied limit (bytes_left remaining first) (bytes_left remaining now) cursor.count m
    as_applied = record {
      payloads = read.payloads;
      taken = read.day.0;
      part = read.day.1;
      leaves = read.day.2;
      left = read.market;
      counted = sym read.tracked.count;
      few = few;
      fits = read.fits;
    }

    -- the snapshot that is written is that of the part that was read
    pub point_written : {W : Type 0} (contents : W → Option (List ℕ)) (failed : W → Failures) (set : Option (Bor Wanted)) (next : ℕ) (old new : W) (result : Result Bool ToolFault) → next ≡ cursor.count + 1
        → WritesOutput contents failed (canon (cut_to set m) ++ closing next) true old result new
        → Snaps remaining failures contents failed limit (option_copied set) (FromBlocks first now) old result new
    unfolding as_applied
    point_written contents failed set next old new result is wrote =
        read_writes contents failed (ReadsDay remaining failures Only limit first now) (snapshot_in (option_copied set)) (λ _. true) read.payloads _ old new result read.day
        (ap (λ k. canon (cut_to set m) ++ closing k) is ∙ cut_snapshot limit (bytes_left remaining first) (bytes_left remaining now) cursor.count m as_applied set) wrote
