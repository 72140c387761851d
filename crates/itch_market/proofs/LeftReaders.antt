-- The reader of blocks after a part of a day, when the block that was not taken is passed, for any sink.
use Rattle.std.proofs.Common.{◌≡◌, ℕ, ◌+◌, List, [], length, Option, None, Some, ◌⊎◌, inl, inr, refl, sym, ap, subst, ◌∙◌, arith}
use Rattle.std.specs.Io.KnownBytes.{IsAtEnd}
use Rattle.itch_frame.specs.Reading.{Reading, bytes_left, passed}
use Rattle.itch_frame.specs.declared.reader.BlockStage.TheVariants.{Cut, Ended, Given}
use Rattle.itch_frame.specs.declared.tally.Failures.{Failures}
use Rattle.itch_frame.specs.declared.fault.FrameFault.{FrameFault}
use Rattle.itch_frame.specs.declared.fault.FrameFault.TheVariants.{Read, Truncated, Write, TooLong}
use Rattle.itch_day.specs.declared.limit.Limit.{Limit}
use Rattle.itch_day.specs.declared.stop.PartStop.{PartStop as Part}
use Rattle.itch_day.specs.declared.stop.PartStop.TheVariants as part
use Rattle.itch_day.specs.Passing.{left_by}
use Rattle.itch_day.specs.Parts.{Counts as CountsPart, IsNext, Leaves, StopsAt}
use Rattle.itch_market.specs.Replays.{CountsFirst, LeavesReaderFirst}
use Rattle.itch_market.specs.Takings.{reason_of}
use Rattle.itch_market.specs.declared.refused.Refused.{Refused}
use Rattle.itch_market.specs.declared.refused.Refused.TheVariants as is
use Rattle.itch_market.specs.declared.stop.Stop.TheVariants as stop
use Rattle.itch_day.proofs.PassedBlocks.{cut_not_ended, cut_not_going, is_not_going, never_next, passed_ended, passed_going, passed_reader}

module _ {R T : Type 0} (remaining : R → Option (List ℕ)) (failures : R → Failures) (refuses : T → ℕ → List ℕ → Refused → T → Type 0) (limit : Limit) (old new : Reading R) (count n : ℕ) (last u : T) where
  abbrev Stops : Part Refused → Type 0
  Stops why = StopsAt remaining refuses limit count new last why u

  -- after the end of the input, no message came
  abbrev Stays : Type 0
  Stays = (old.stage ≡ Ended → (n ≡ 0) × (new ≡ old)) × (old.stage ≡ Cut → (n ≡ 0) × (new ≡ old))

  next_left : (p : List ℕ) → IsNext new p → Stays → (Reading.held (passed new) ≡ []) × (Reading.stage (passed new) ≡ Given) × (old.stage ≡ Ended → ⊥) × (old.stage ≡ Cut → ⊥)
  next_left p (block_of, going) stays = (
    ap (λ (r : Reading R). r.held) (passed_going new going),
    ap (λ (r : Reading R). r.stage) (passed_going new going),
    never_next old new n Ended is_not_going going stays.0,
    never_next old new n Cut cut_not_going going stays.1,
  )

  frame_left : (fault : FrameFault) → Stops (part.Frame fault) → Stays → LeavesReaderFirst old n (Some (stop.Frame fault)) new
  frame_left (Truncated held) (same, before, cut, is_held, some) stays = (
    (cut, is_held),
    (
      λ at. absurd (cut_not_ended (sym cut ∙ ap (λ (r : Reading R). r.stage) (stays.0 at).1 ∙ at)),
      λ at. ((stays.1 at).0, ap (λ k. stop.Frame (Truncated k)) (is_held ∙ ap (λ (r : Reading R). length r.held) (stays.1 at).1), (stays.1 at).1),
    ),
  )
  frame_left (Read error) (same, before, going) stays = (
    going,
    (λ at. absurd (never_next old new n Ended is_not_going going stays.0 at), λ at. absurd (never_next old new n Cut cut_not_going going stays.1 at)),
  )
  frame_left (Write sent error) never stays = absurd never
  frame_left TooLong never stays = absurd never

  end_left : ((new.stage ≡ Ended) × (new.held ≡ []) × IsAtEnd (bytes_left remaining new)) ⊎ IsNext new [] → Stays → LeavesReaderFirst old n (Some stop.End) (passed new)
  end_left (inl (ended, none, at_end)) stays = subst (λ (r : Reading R). LeavesReaderFirst old n (Some stop.End) r) (sym (passed_ended new ended)) (
    (none, inl ended),
    (λ at. ((stays.0 at).0, refl, (stays.0 at).1), λ at. absurd (cut_not_ended (sym at ∙ sym (ap (λ (r : Reading R). r.stage) (stays.1 at).1) ∙ ended))),
  )
  end_left (inr next) stays =
      let (held, given, unended, uncut) = next_left [] next stays in ((held, inr given), (λ at. absurd (unended at), λ at. absurd (uncut at)))

  -- after a late message
  pub late_left : Stops part.Late → Leaves {F = Refused} old n part.Late new → LeavesReaderFirst old (n + 1) None (passed new)
  late_left (same, before, (p, next, some, few, late)) stays = (λ none. absurd (omega arith), λ more. next_left p next stays)

  -- or at another stop
  pub stop_left : (why : Part Refused) → (why ≡ part.Late → ⊥) → Stops why → Leaves old n why new → LeavesReaderFirst old n (reason_of why) (left_by why new)
  stop_left part.Full other stops passes = (passes.unread, passes.given)
  stop_left part.Late other stops stays = absurd (other refl)
  stop_left part.End other (same, before, end) stays = end_left end stays
  stop_left (part.Frame fault) other stops stays = frame_left fault stops stays
  stop_left part.TooMany other (same, before, (p, next, some, many)) stays =
      let (held, given, unended, uncut) = next_left p next stays in ((held, given), (λ at. absurd (unended at), λ at. absurd (uncut at)))
  stop_left (part.Refused why) other (before, (p, next, some, few, not_late, denies)) stays = refused_left why (next_left p next stays) where
    refused_left : (why : Refused) → (Reading.held (passed new) ≡ []) × (Reading.stage (passed new) ≡ Given) × (old.stage ≡ Ended → ⊥) × (old.stage ≡ Cut → ⊥)
        → LeavesReaderFirst old n (reason_of (part.Refused why)) (passed new)
    refused_left (is.Codec f) (held, given, unended, uncut) = ((held, given), (λ at. absurd (unended at), λ at. absurd (uncut at)))
    refused_left (is.Rule reason) (held, given, unended, uncut) = ((held, given), (λ at. absurd (unended at), λ at. absurd (uncut at)))

  frame_counts : (fault : FrameFault) → Stops (part.Frame fault) → CountsPart {F = Refused} (part.Frame fault) (failures old.reader) (failures new.reader)
      → CountsFirst (Some (stop.Frame fault)) (failures old.reader) (failures new.reader)
  frame_counts (Truncated held) stops counts = counts
  frame_counts (Read error) stops counts = counts
  frame_counts (Write sent error) never counts = absurd never
  frame_counts TooLong never counts = absurd never

  -- and the failed reads
  pub stop_counts : (why : Part Refused) → Stops why → CountsPart why (failures old.reader) (failures new.reader) → CountsFirst (reason_of why) (failures old.reader) (failures (Reading.reader (left_by why new)))
  stop_counts part.Full stops counts = counts
  stop_counts part.Late stops counts = ap failures (passed_reader new) ∙ counts
  stop_counts part.End stops counts = ap failures (passed_reader new) ∙ counts
  stop_counts (part.Frame fault) stops counts = frame_counts fault stops counts
  stop_counts part.TooMany stops counts = ap failures (passed_reader new) ∙ counts
  stop_counts (part.Refused (is.Codec f)) stops counts = ap failures (passed_reader new) ∙ counts
  stop_counts (part.Refused (is.Rule reason)) stops counts = ap failures (passed_reader new) ∙ counts
