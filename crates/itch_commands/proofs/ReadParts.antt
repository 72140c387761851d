-- A part of a day for a command that reads it into an empty market.
use Rattle.std.proofs.Common.{◌≡◌, ℕ, ◌-◌, ◌^◌, ◌≤◌, List, length, Option, None, Some, Result, Ok, Err, inl, inr, refl, sym, ap, subst, ◌∙◌, arith}
use Rattle.itch_frame.specs.Reading.{Reading, bytes_left}
use Rattle.itch_frame.specs.declared.tally.Failures.{Failures}
use Rattle.itch_frame.specs.declared.fault.FrameFault.TheVariants.{Read, Truncated, Write, TooLong}
use Rattle.itch_day.specs.Parts.{Leaves, ReadsPart, StopsAt}
use Rattle.itch_day.specs.declared.limit.Limit.{Limit}
use Rattle.itch_day.specs.declared.stop.PartStop.{PartStop as Part}
use Rattle.itch_day.specs.declared.stop.PartStop.TheVariants as part
use Rattle.itch_market.specs.Content.{Content, empty}
use Rattle.itch_market.specs.DayParts.{HaltsPart, IsEnough, LeavesPartOf, PartOf, TakesEarly}
use Rattle.itch_market.specs.Replays.{CountsFirst}
use Rattle.itch_day.specs.Passing.{left_by}
use Rattle.itch_market.specs.Takings.{RefusesMessage, TakesMessage, reason_of}
use Rattle.itch_market.specs.declared.refused.Refused.{Refused}
use Rattle.itch_market.specs.declared.refused.Refused.TheVariants as refused
use Rattle.itch_market.specs.declared.stop.Stop.{Stop}
use Rattle.itch_market.proofs.AppliedMessages.{AreApplied, are_applied}
use Rattle.itch_market.proofs.DayParts.{full_count, is_part as is_part_of, part_left, takes_early}
use Rattle.itch_market.proofs.GoodMarkets.{empty_good}
use Rattle.itch_market.proofs.LeftReaders.{stop_counts}
use Rattle.itch_day.proofs.PassedBlocks.{ends_here, passed_off}
use Rattle.itch_join.proofs.Premises.{laid_empty}
use Rattle.itch_commands.specs.Readings.{CountsRead, LeavesDay, ReadsDay, ReadsMarket, stopped}
use Rattle.itch_commands.specs.declared.fault.Source.{Source}
use Rattle.itch_commands.specs.declared.fault.ToolFault.{ToolFault}
use Rattle.itch_market.proofs.DayMessages.{is_part}
use Rattle.itch_commands.proofs.DayReadings.{day_fails}
use Rattle.itch_commands.proofs.PartReadings.{part_leaves, stop_leaves, stopped_counts, stopped_so}

-- the stop of a part leaves the market unchanged
pub kept_at : {R : Type 0} (remaining : R → Option (List ℕ)) (limit : Limit) (count : ℕ) (r : Reading R) (old new : Content) (stop : Part Refused) → StopsAt remaining RefusesMessage limit count r old stop new → new ≡ old
kept_at remaining limit count r old new part.Full (same, all) = same
kept_at remaining limit count r old new part.Late (same, before, late) = same
kept_at remaining limit count r old new part.End (same, before, end) = same
kept_at remaining limit count r old new (part.Frame (Truncated held)) (same, before, cut, is_held, open_end) = same
kept_at remaining limit count r old new (part.Frame (Read error)) (same, before, going) = same
kept_at remaining limit count r old new (part.Frame (Write sent error)) never = absurd never
kept_at remaining limit count r old new (part.Frame TooLong) never = absurd never
kept_at remaining limit count r old new part.TooMany (same, before, many) = same
kept_at remaining limit count r old new (part.Refused (refused.Codec f)) (before, (p, next, full, room, early, (same, faulty))) = same
kept_at remaining limit count r old new (part.Refused (refused.Rule why)) (before, (p, next, full, room, early, (same, refuses))) = same

-- the requested part was read, and these payloads of it were applied
pub day_of : {R : Type 0} (remaining : R → Option (List ℕ)) (failures : R → Failures) (file : Source) (limit : Limit) (old new : Reading R) (mid : Option (List ℕ)) (count : ℕ) (p : List (List ℕ)) (n : Content)
    → TakesEarly limit empty (bytes_left remaining old) mid count p n → IsEnough limit count mid (bytes_left remaining new) → failures new.reader ≡ failures old.reader
    → LeavesDay (Ok count) limit old new → ReadsDay remaining failures file limit old new (Ok p)
day_of remaining failures file limit old new mid count p n (takes, counted, few, early) enough uncounted leaves =
    let ends : IsEnough limit (length p) mid (bytes_left remaining new) = subst (λ k. IsEnough limit k mid (bytes_left remaining new)) (sym counted) enough in (
      record { full = takes.full; taken = takes.none; few = omega (arith, counted, few); early = early },
      is_part limit (bytes_left remaining old) mid (bytes_left remaining new) p takes.bytes ends,
      (mid, takes.bytes, ends),
      uncounted,
      subst (λ k. LeavesDay (Ok k) limit old new) (sym counted) leaves,
    )

module _ {R : Type 0} (remaining : R → Option (List ℕ)) (failures : R → Failures) (file : Source) (limit : Limit) (first now : Reading R) (count : ℕ) (m : Content) (few : count ≤ 10 ^ 19 - 1) where
  -- a part that goes up to this stop
  abbrev Reads : Part Refused → Type 0
  Reads stop = ReadsPart remaining failures TakesMessage RefusesMessage limit first now 0 count empty stop m

  module _ (stop : Part Refused) (reads : Reads stop) where
    pub applied_by : AreApplied empty reads.payloads reads.last
    applied_by = are_applied empty empty reads.last 0 reads.payloads empty_good (sym laid_empty) reads.taken.taken

    pub number_by : length reads.payloads ≡ count
    number_by = omega (arith, reads.taken.counted)

    pub kept_by : m ≡ reads.last
    kept_by = kept_at remaining limit count now reads.last m stop reads.stops

    pub taken_by : TakesEarly limit empty (bytes_left remaining first) (bytes_left remaining now) count reads.payloads m
    taken_by =
        takes_early remaining limit first now count empty reads.last m reads.payloads applied_by reads.taken.bytes reads.taken.full reads.taken.early number_by few kept_by

    left : LeavesPartOf limit first count (reason_of stop) (left_by stop now)
    left = part_left remaining failures limit first now count reads.last m stop reads.stops (subst (λ k. Leaves first k stop now) number_by reads.leaves)

    counts : CountsFirst (reason_of stop) (failures first.reader) (failures (Reading.reader (left_by stop now)))
    counts = stop_counts remaining failures RefusesMessage limit first now count count reads.last m stop reads.stops reads.counts

    -- the requested part was read
    read : IsEnough limit count (bytes_left remaining now) (bytes_left remaining (left_by stop now)) → failures (Reading.reader (left_by stop now)) ≡ failures first.reader
        → LeavesDay (Ok count) limit first (left_by stop now) → ReadsDay remaining failures file limit first (left_by stop now) (Ok reads.payloads)
    read enough uncounted leaves =
        day_of remaining failures file limit first (left_by stop now) (bytes_left remaining now) count reads.payloads m taken_by enough uncounted leaves

    -- a fault is that of one reading
    pub refused_by : (why : Stop) (fault : ToolFault) → reason_of stop ≡ Some why → stopped why limit.after file count ≡ Err fault
        → ReadsDay remaining failures file limit first (left_by stop now) (Err fault)
    refused_by why fault is returns =
        let from = bytes_left remaining first in
        let to = bytes_left remaining (left_by stop now) in
        let whole = is_part_of remaining failures limit first now 0 count empty m stop empty_good laid_empty refl reads few in
        let halts : HaltsPart limit empty from to count why m = subst (λ r. PartOf limit empty from to count r m) is whole in
        day_fails remaining failures file limit first (left_by stop now) fault empty m refl
        (subst (λ r. ReadsMarket file limit empty from to r m) returns (stopped_so file limit empty from to count m why halts))
        (subst (λ (r : Result ℕ ToolFault). CountsRead r (failures first.reader) (failures (Reading.reader (left_by stop now)))) returns
        (stopped_counts file limit empty from to count m why (failures first.reader) (failures (Reading.reader (left_by stop now)))
        (subst (λ r. CountsFirst r (failures first.reader) (failures (Reading.reader (left_by stop now)))) is counts)))
        (subst (λ (r : Result ℕ ToolFault). LeavesDay r limit first (left_by stop now)) returns
        (stop_leaves file limit count first (left_by stop now) why (subst (λ r. LeavesPartOf limit first count r (left_by stop now)) is left)))

  -- the whole file was read
  pub whole_by : (reads : Reads part.End) → limit.after ≡ None → ReadsDay remaining failures file limit first (left_by {F = Refused} part.End now) (Ok reads.payloads)
  whole_by reads whole = by_end reads.stops where
    by_end : StopsAt remaining RefusesMessage limit count now reads.last part.End m → ReadsDay remaining failures file limit first (left_by {F = Refused} part.End now) (Ok reads.payloads)
    by_end (same, before, end) = read part.End reads (inr (inr (whole, ends_here now remaining end))) (counts part.End reads) (inr (inr (whole, left part.End reads)))

  -- if nothing stopped the reading, the part was read
  pub all_by : (stop : Part Refused) (reads : Reads stop) → reason_of stop ≡ None → ReadsDay remaining failures file limit first (left_by stop now) (Ok reads.payloads)
  all_by part.Full reads none = by_full reads.stops where
    by_full : StopsAt remaining RefusesMessage limit count now reads.last part.Full m → ReadsDay remaining failures file limit first now (Ok reads.payloads)
    by_full (same, (most, wanted, all)) =
        let is = full_count most count (length reads.payloads) limit.after wanted reads.taken.wanted (number_by part.Full reads) (most, wanted, all) in
        read part.Full reads (inl (wanted ∙ ap Some (sym is), refl)) (counts part.Full reads) (part_leaves limit first count now (left part.Full reads))
  all_by part.Late reads none = by_late reads.stops where
    by_late : StopsAt remaining RefusesMessage limit count now reads.last part.Late m → ReadsDay remaining failures file limit first (left_by {F = Refused} part.Late now) (Ok reads.payloads)
    by_late (same, before, (p, next, full, room, late)) =
        read part.Late reads (inr (inl (before, (p, (full, passed_off now remaining p next), late)))) (counts part.Late reads)
        (part_leaves limit first count (left_by {F = Refused} part.Late now) (left part.Late reads))
  all_by part.End reads is = absurd (cc)
  all_by (part.Frame f) reads is = absurd (cc)
  all_by part.TooMany reads is = absurd (cc)
  all_by (part.Refused (refused.Codec f)) reads same = absurd (cc)
  all_by (part.Refused (refused.Rule why)) reads same = absurd (cc)
