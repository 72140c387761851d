-- The blocks that `cut` has written of a part of a day.
use Rattle.std.proofs.Common.{◌≡◌, ℕ, ◌+◌, ◌-◌, ◌^◌, ◌≤◌, ◌<◌, ◌⊎◌, Bool, List, [], ◌∷◌, ◌++◌, length, map, Option, Result, Err, None, Some, inl, inr, refl, sym, ap, subst, ◌∙◌, arith, if◌then◌else◌}
use Rattle.std.specs.List.{AllByRecursion}
use Rattle.std.specs.Io.KnownBytes.{Appends}
use Rattle.std.proofs.KnownBytes.{Appends-nil}
use Rattle.itch_book.proofs.Lists.{by_test}
use Rattle.itch_codec.specs.Messages.{message_of}
use Rattle.itch_frame.specs.Blocks.{block, blocks, IsFull}
use Rattle.itch_frame.specs.Reading.{Reading, bytes_left}
use Rattle.itch_frame.specs.declared.fault.FrameFault.TheVariants.{Read, Truncated, Write, TooLong}
use Rattle.itch_frame.specs.declared.tally.Failures.{Failures}
use Rattle.itch_frame.proofs.Writes.{Appends-more}
use Rattle.itch_day.specs.Parts.{Counts, Leaves, ReadsPart, StopsAt, Takes}
use Rattle.itch_day.specs.Passing.{left_by}
use Rattle.itch_day.specs.Sinks.{TakesAll}
use Rattle.itch_day.specs.declared.limit.Limit.{Limit}
use Rattle.itch_day.specs.declared.stop.PartStop.{PartStop as Part}
use Rattle.itch_day.specs.declared.stop.PartStop.TheVariants as part
use Rattle.itch_commands.specs.Choices.{Chosen, chosen_after, chosen_past}
use Rattle.itch_commands.specs.Cuts.{CutsMessage, CutsOff, CutsPart, HoldsBack, is_kept, kept_block, kept_of}
use Rattle.itch_commands.specs.Outputs.{Wrote}
use Rattle.itch_commands.specs.Showing.{IsClean, ReadsOff, answer_of, ended_show}
use Rattle.itch_commands.specs.Lookup.{are_found}
use Rattle.itch_commands.specs.declared.fault.ToolFault.{ToolFault}
use Rattle.itch_commands.specs.declared.fault.ToolFault.TheVariants as tool
use Rattle.itch_commands.proofs.ShownLines.{are_early, past_none, past_on}

no_blocks : (chosen : Chosen) → blocks (kept_of chosen []) ≡ []
unfolding kept_of
no_blocks chosen = refl

-- the blocks that are kept: that of the first payload, if it is kept, and those of the others
pub first_block : (chosen : Chosen) (p : List ℕ) (ps : List (List ℕ)) → blocks (kept_of chosen (p ∷ ps)) ≡ kept_block chosen p ++ blocks (kept_of (chosen_after chosen (message_of p)) ps)
unfolding kept_of
first_block chosen p ps =
    let others : List (List ℕ) = kept_of (chosen_after chosen (message_of p)) ps in
    by_test (is_kept chosen (message_of p))
    (λ kept. ap (λ b. blocks (if b then p ∷ others else others)) kept ∙ sym (ap (λ b. (if b then block p else []) ++ blocks others) kept))
    (λ left. ap (λ b. blocks (if b then p ∷ others else others)) left ∙ sym (ap (λ b. (if b then block p else []) ++ blocks others) left))

module _ {W T N M : Type 0} (contents : W → Option (List ℕ)) (failures : W → Failures) (at : T → W) (name : T → N) (choice_name : T → M) (choice : T → Chosen) where
  -- a sink that writes to the values that it lends
  abbrev pub Cut : T → ℕ → List ℕ → T → Type 0
  Cut s number payload t = (name t ≡ name s) × (choice_name t ≡ choice_name s) × CutsMessage contents failures payload (choice s) (at s) (choice t) (at t)

  abbrev pub Held : T → ℕ → List ℕ → ToolFault → T → Type 0
  Held s number payload why t = (name t ≡ name s) × (choice_name t ≡ choice_name s) × ((65535 < length payload) ⊎ HoldsBack contents failures (choice s) (at s) number payload why (at t))

  abbrev pub SameNames : T → T → Type 0
  SameNames s t = (name t ≡ name s) × (choice_name t ≡ choice_name s)

  -- the blocks of the kept ones of these payloads were written
  pub record AreCut (s : T) (ps : List (List ℕ)) (t : T) : Type 0 where
    pub named : SameNames s t
    pub clean : AllByRecursion IsClean ps
    pub chosen : choice t ≡ chosen_past (choice s) (map message_of ps)
    pub wrote : Wrote contents failures (blocks (kept_of (choice s) ps)) (at s) (at t)

  pub are_cut : (s t : T) (count : ℕ) (ps : List (List ℕ)) → TakesAll Cut s count ps t → AreCut s ps t
  are_cut s t count [] takes = record {
    named = (ap name takes, ap choice_name takes);
    clean = tt;
    chosen = ap choice takes ∙ past_none (choice s);
    wrote = subst (λ x. Wrote contents failures (blocks (kept_of (choice s) [])) (at s) (at x)) (sym takes)
        (subst (λ bytes. Wrote contents failures bytes (at s) (at s)) (sym (no_blocks (choice s))) (Appends-nil (contents (at s)), refl));
  }
  are_cut s t count (p ∷ ps) (mid, (named, choice_named, (clean, (bytes, uncounted), next)), rest) =
      let later = are_cut mid t (count + 1) ps rest in
      let first : List ℕ = kept_block (choice s) p in
      let others : blocks (kept_of (choice mid) ps) ≡ blocks (kept_of (chosen_after (choice s) (message_of p)) ps) = ap (λ c. blocks (kept_of c ps)) next in
      record {
        named = (later.named.0 ∙ named, later.named.1 ∙ choice_named);
        clean = (clean, later.clean);
        chosen = later.chosen ∙ ap (λ c. chosen_past c (map message_of ps)) next ∙ past_on (choice s) (message_of p) (map message_of ps);
        wrote = (
          subst (Appends (contents (at s)) (contents (at t))) (ap (λ ys. first ++ ys) others ∙ sym (first_block (choice s) p ps))
              (Appends-more (contents (at s)) (contents (at mid)) (contents (at t)) first (blocks (kept_of (choice mid) ps)) bytes later.wrote.0),
          later.wrote.1 ∙ uncounted,
        );
      }

  module _ {R : Type 0} (remaining : R → Option (List ℕ)) (failed_reads : R → Failures) (limit : Limit) (old new : Reading R) (count : ℕ) (s last t : T) (ps : List (List ℕ))
      (taken : Takes remaining Cut limit old new 0 count s last ps) (few : count ≤ 10 ^ 19 - 1) where
    done : AreCut s ps last
    done = are_cut s last 0 ps taken.taken

    off : ReadsOff limit (bytes_left remaining old) (bytes_left remaining new) ps
    off = record {
      bytes = taken.bytes;
      full = taken.full;
      clean = done.clean;
      few = omega (arith, taken.counted, few);
      early = are_early limit ps done.clean taken.early;
    }

    -- the choice of the next message
    abbrev now : Chosen
    now = chosen_past (choice s) (map message_of ps)

    abbrev Stops : Part ToolFault → Type 0
    Stops why = StopsAt remaining Held limit count new last why t

    held_so : (p : List ℕ) (why : ToolFault) → IsFull p → (65535 < length p) ⊎ HoldsBack contents failures (choice last) (at last) (count + 1) p why (at t)
        → HoldsBack contents failures now (at last) (count + 1) p why (at t)
    held_so p why full (inl long) = absurd (omega (arith, long, full.1))
    held_so p why full (inr held) = subst (λ c. HoldsBack contents failures c (at last) (count + 1) p why (at t)) done.chosen held

    stops_so : (why : Part ToolFault) → Stops why → StopsAt remaining (HoldsBack contents failures now) limit count new (at last) why (at t)
    stops_so part.Full (same, most) = (ap at same, most)
    stops_so part.Late (same, before, next) = (ap at same, before, next)
    stops_so part.End (same, before, next) = (ap at same, before, next)
    stops_so (part.Frame (Truncated held)) (same, before, cut, is_held, some) = (ap at same, before, cut, is_held, some)
    stops_so (part.Frame (Read error)) (same, before, going) = (ap at same, before, going)
    stops_so (part.Frame (Write sent error)) never = absurd never
    stops_so (part.Frame TooLong) never = absurd never
    stops_so part.TooMany (same, before, next) = (ap at same, before, next)
    stops_so (part.Refused why) (before, (p, next, full, few_before, early, (named, choice_named, held))) = (before, (p, next, full, few_before, early, held_so p why full held))

    still : t ≡ last → SameNames s t
    still same = (ap name same ∙ done.named.0, ap choice_name same ∙ done.named.1)

    named_so : (why : Part ToolFault) → Stops why → SameNames s t
    named_so part.Full (same, most) = still same
    named_so part.Late (same, before, next) = still same
    named_so part.End (same, before, next) = still same
    named_so (part.Frame (Truncated held)) (same, before, cut, is_held, some) = still same
    named_so (part.Frame (Read error)) (same, before, going) = still same
    named_so (part.Frame (Write sent error)) never = absurd never
    named_so (part.Frame TooLong) never = absurd never
    named_so part.TooMany (same, before, next) = still same
    named_so (part.Refused why) (before, (p, next, full, few_before, early, (named, choice_named, held))) = (named ∙ done.named.0, choice_named ∙ done.named.1)

    -- the result depends on the choice at the end of the part
    abbrev answer : Chosen → Part ToolFault → Result Bool ToolFault
    answer c why = answer_of limit.after count (are_found (Chosen.stocks c)) why

    answers_so : (why : Part ToolFault) → Stops why → answer (choice t) why ≡ answer now why
    answers_so part.Full (same, most) = ap (λ c. answer c part.Full) (ap choice same ∙ done.chosen)
    answers_so part.Late (same, before, next) = ap (λ c. answer c part.Late) (ap choice same ∙ done.chosen)
    answers_so part.End (same, before, next) = ap (λ c. answer c part.End) (ap choice same ∙ done.chosen)
    answers_so (part.Frame why) stops = refl
    answers_so part.TooMany stops = refl
    answers_so (part.Refused why) stops = refl

    cuts_off : (why : Part ToolFault) → Stops why → Leaves old (length ps) why new → Counts why (failed_reads old.reader) (failed_reads new.reader)
        → CutsOff contents failures remaining failed_reads limit (choice s) old new count (at s) why (at t) ps
    cuts_off why stops leaves counts = record {
      last = at last;
      off = off;
      counted = omega (arith, taken.counted);
      wanted = taken.wanted;
      wrote = done.wrote;
      stops = stops_so why stops;
      leaves = leaves;
      counts = counts;
    }

  -- the outcome of reading a part into such a sink: its output, its result and its state
  pub cut_part : {R : Type 0} (remaining : R → Option (List ℕ)) (failed_reads : R → Failures) (limit : Limit) (old new : Reading R) (count : ℕ) (s t : T) (why : Part ToolFault)
      → ReadsPart remaining failed_reads Cut Held limit old new 0 count s why t → count ≤ 10 ^ 19 - 1
      → SameNames s t
      × CutsPart contents failures remaining failed_reads limit (choice s) old (left_by why new) (at s) (answer_of limit.after count (are_found (Chosen.stocks (choice t))) why) (at t)
  cut_part remaining failed_reads limit old new count s t why reads few = (
    named_so remaining failed_reads limit old new count s reads.last t reads.payloads reads.taken few why reads.stops,
    record {
      payloads = reads.payloads;
      count = count;
      mid = new;
      stop = why;
      cuts = cuts_off remaining failed_reads limit old new count s reads.last t reads.payloads reads.taken few why reads.stops reads.leaves reads.counts;
      left = refl;
      answer = answers_so remaining failed_reads limit old new count s reads.last t reads.payloads reads.taken few why reads.stops;
    },
  )

-- no part fails with an unknown stock
module _ {R W : Type 0} (contents : W → Option (List ℕ)) (failures : W → Failures) (remaining : R → Option (List ℕ)) (failed_reads : R → Failures) (limit : Limit) (chosen : Chosen) where
  ended_never : (wanted : Option ℕ) (count : ℕ) (found : Bool) → Err tool.UnknownStock ≡ ended_show wanted count found → ⊥
  ended_never None count found is = cc
  ended_never (Some most) count found is = cc

  stopped_never : (now : Chosen) (count : ℕ) (found : Bool) (mid : Reading R) (last out : W) (why : Part ToolFault)
      → StopsAt remaining (HoldsBack contents failures now) limit count mid last why out → Err tool.UnknownStock ≡ answer_of limit.after count found why → ⊥
  stopped_never now count found mid last out part.Full stops is = cc
  stopped_never now count found mid last out part.Late stops is = cc
  stopped_never now count found mid last out part.End stops is = ended_never limit.after count found is
  stopped_never now count found mid last out (part.Frame why) stops is = cc
  stopped_never now count found mid last out part.TooMany stops is = cc
  stopped_never now count found mid last out (part.Refused why) (before, (p, next, full, few, early, held)) is =
      let same : why ≡ tool.UnknownStock = cc in
      let never = subst (λ w. HoldsBack contents failures now last (count + 1) p w out) same held in
      never.1

  pub cut_never : (old new : Reading R) (out out' : W) → CutsPart contents failures remaining failed_reads limit chosen old new out (Err tool.UnknownStock) out' → ⊥
  cut_never old new out out' part =
      let now : Chosen = chosen_past chosen (map message_of part.payloads) in
      stopped_never now part.count (are_found (Chosen.stocks now)) part.mid part.cuts.last out' part.stop part.cuts.stops part.answer
