-- The output of `show` and `cut` for the messages of a part after the first ones, which are not read.
use Rattle.std.proofs.Common.{◌≡◌, ℕ, ◌+◌, ◌-◌, ◌^◌, ◌≤◌, ◌<◌, ◌⊎◌, Bool, List, [], ◌∷◌, length, map, Option, None, Some, Result, Err, inl, inr, refl, sym, ap, subst, ◌∙◌, arith}
use Rattle.std.specs.List.{AllByRecursion}
use Rattle.itch_codec.specs.Messages.{message_of}
use Rattle.itch_frame.specs.Blocks.{blocks, IsFull}
use Rattle.itch_frame.specs.Reading.{Reading, bytes_left}
use Rattle.itch_frame.specs.declared.fault.FrameFault.TheVariants.{Read, Truncated, Write, TooLong}
use Rattle.itch_frame.specs.declared.tally.Failures.{Failures}
use Rattle.itch_day.specs.Parts.{ReadsPart, StopsAt}
use Rattle.itch_day.specs.Passing.{left_by}
use Rattle.itch_day.specs.declared.limit.Limit.{Limit}
use Rattle.itch_day.specs.declared.stop.PartStop.{PartStop as Part}
use Rattle.itch_day.specs.declared.stop.PartStop.TheVariants as part
use Rattle.itch_commands.specs.Choices.{Chosen, chosen_lines, chosen_past}
use Rattle.itch_commands.specs.Cuts.{HoldsBack, kept_of}
use Rattle.itch_commands.specs.Further.{CutsOn, GoesOff, ReadsOnOff, ShowsOn}
use Rattle.itch_commands.specs.Outputs.{Wrote}
use Rattle.itch_commands.specs.Showing.{IsClean, WithholdsMessage, answer_of, ended_show}
use Rattle.itch_commands.specs.Lookup.{are_found}
use Rattle.itch_commands.specs.declared.fault.ToolFault.{ToolFault}
use Rattle.itch_commands.specs.declared.fault.ToolFault.TheVariants as tool
use Rattle.itch_commands.specs.declared.form.ShowForm.{ShowForm}
use Rattle.itch_commands.proofs.CutBlocks.{AreCut, Cut, Held, are_cut}
use Rattle.itch_commands.proofs.ShownLines.{AreShown, Shown, Unshown, are_early, are_shown}

-- a sink whose writer and choice are known after each message
module _ {R W T N M : Type 0} (remaining : R → Option (List ℕ)) (failed_reads : R → Failures) (limit : Limit) (before : ℕ) (at : T → W) (name : T → N) (choice_name : T → M)
    (choice : T → Chosen) (takes : T → ℕ → List ℕ → T → Type 0) (refuses : T → ℕ → List ℕ → ToolFault → T → Type 0) (holds : Chosen → W → ℕ → List ℕ → ToolFault → W → Type 0)
    (writes : List (List ℕ) → W → W → Type 0) (old new : Reading R) (count : ℕ) (s t : T) (why : Part ToolFault) where
  abbrev SameNames : T → Type 0
  SameNames u = (name u ≡ name s) × (choice_name u ≡ choice_name s)

  -- the output of these payloads was written, and this is known if the next one is refused
  record AreDone (ps : List (List ℕ)) (last : T) : Type 0 where
    pub named : SameNames last
    pub clean : AllByRecursion IsClean ps
    pub chosen : choice last ≡ chosen_past (choice s) (map message_of ps)
    pub wrote : writes ps (at s) (at last)
    pub held : (p : List ℕ) (fault : ToolFault) → IsFull p → refuses last (count + 1) p fault t → SameNames t × holds (choice last) (at last) (count + 1) p fault (at t)

  module _ (reads : ReadsPart remaining failed_reads takes refuses limit old new before count s why t) (few : count ≤ 10 ^ 19 - 1) (done : AreDone reads.payloads reads.last) where
    off : ReadsOnOff limit before (bytes_left remaining old) (bytes_left remaining new) reads.payloads
    off = record {
      bytes = reads.taken.bytes;
      full = reads.taken.full;
      clean = done.clean;
      few = omega (arith, reads.taken.counted, few);
      early = are_early limit reads.payloads done.clean reads.taken.early;
    }

    -- the choice of the next message
    abbrev now : Chosen
    now = chosen_past (choice s) (map message_of reads.payloads)

    abbrev Stops : Part ToolFault → Type 0
    Stops stop = StopsAt remaining refuses limit count new reads.last stop t

    held_so : (p : List ℕ) (fault : ToolFault) → IsFull p → refuses reads.last (count + 1) p fault t → holds now (at reads.last) (count + 1) p fault (at t)
    held_so p fault full held = subst (λ c. holds c (at reads.last) (count + 1) p fault (at t)) done.chosen (done.held p fault full held).1

    stops_so : (stop : Part ToolFault) → Stops stop → StopsAt remaining (holds now) limit count new (at reads.last) stop (at t)
    stops_so part.Full (same, most) = (ap at same, most)
    stops_so part.Late (same, before, next) = (ap at same, before, next)
    stops_so part.End (same, before, next) = (ap at same, before, next)
    stops_so (part.Frame (Truncated held)) (same, before, cut, is_held, some) = (ap at same, before, cut, is_held, some)
    stops_so (part.Frame (Read error)) (same, before, going) = (ap at same, before, going)
    stops_so (part.Frame (Write sent error)) never = absurd never
    stops_so (part.Frame TooLong) never = absurd never
    stops_so part.TooMany (same, before, next) = (ap at same, before, next)
    stops_so (part.Refused fault) (before, (p, next, full, few_before, early, held)) = (before, (p, next, full, few_before, early, held_so p fault full held))

    still : t ≡ reads.last → SameNames t
    still same = (ap name same ∙ done.named.0, ap choice_name same ∙ done.named.1)

    named_so : (stop : Part ToolFault) → Stops stop → SameNames t
    named_so part.Full (same, most) = still same
    named_so part.Late (same, before, next) = still same
    named_so part.End (same, before, next) = still same
    named_so (part.Frame (Truncated held)) (same, before, cut, is_held, some) = still same
    named_so (part.Frame (Read error)) (same, before, going) = still same
    named_so (part.Frame (Write sent error)) never = absurd never
    named_so (part.Frame TooLong) never = absurd never
    named_so part.TooMany (same, before, next) = still same
    named_so (part.Refused fault) (before, (p, next, full, few_before, early, held)) = (done.held p fault full held).0

    -- the result depends on the choice at the end of the part
    abbrev answer : Chosen → Part ToolFault → Result Bool ToolFault
    answer c stop = answer_of limit.after count (are_found (Chosen.stocks c)) stop

    answers_so : (stop : Part ToolFault) → Stops stop → answer (choice t) stop ≡ answer now stop
    answers_so part.Full (same, most) = ap (λ c. answer c part.Full) (ap choice same ∙ done.chosen)
    answers_so part.Late (same, before, next) = ap (λ c. answer c part.Late) (ap choice same ∙ done.chosen)
    answers_so part.End (same, before, next) = ap (λ c. answer c part.End) (ap choice same ∙ done.chosen)
    answers_so (part.Frame fault) stops = refl
    answers_so part.TooMany stops = refl
    answers_so (part.Refused fault) stops = refl

    went_on : SameNames t
        × GoesOff remaining failed_reads limit (choice s) before holds writes old (left_by why new) (at s) (answer_of limit.after count (are_found (Chosen.stocks (choice t))) why) (at t)
    went_on = (
      named_so why reads.stops,
      record {
        payloads = reads.payloads;
        count = count;
        mid = new;
        last = at reads.last;
        stop = why;
        off = off;
        counted = reads.taken.counted;
        wanted = reads.taken.wanted;
        wrote = done.wrote;
        stops = stops_so why reads.stops;
        leaves = reads.leaves;
        counts = reads.counts;
        left = refl;
        answer = answers_so why reads.stops;
      },
    )

module _ {R W T N M : Type 0} (contents : W → Option (List ℕ)) (failures : W → Failures) (remaining : R → Option (List ℕ)) (failed_reads : R → Failures) (limit : Limit) (before : ℕ)
    (at : T → W) (name : T → N) (choice_name : T → M) (choice : T → Chosen) (old new : Reading R) (count : ℕ) (s t : T) (why : Part ToolFault) where
  abbrev Named : T → Type 0
  Named u = (name u ≡ name s) × (choice_name u ≡ choice_name s)

  abbrev outcome : Result Bool ToolFault
  outcome = answer_of limit.after count (are_found (Chosen.stocks (choice t))) why

  held_back : (ps : List (List ℕ)) (last : T) → AreCut contents failures at name choice_name choice s ps last → (p : List ℕ) (fault : ToolFault) → IsFull p
      → Held contents failures at name choice_name choice last (count + 1) p fault t → Named t × HoldsBack contents failures (choice last) (at last) (count + 1) p fault (at t)
  held_back ps last cut p fault full (named, choice_named, inl long) = absurd (omega (arith, long, full.1))
  held_back ps last cut p fault full (named, choice_named, inr held) = ((named ∙ cut.named.0, choice_named ∙ cut.named.1), held)

  -- the blocks of the kept ones of these messages were written
  pub cut_on : ReadsPart remaining failed_reads (Cut contents failures at name choice_name choice) (Held contents failures at name choice_name choice) limit old new before count s why t
      → count ≤ 10 ^ 19 - 1 → Named t × CutsOn remaining failed_reads limit (choice s) before contents failures old (left_by why new) (at s) outcome (at t)
  cut_on reads few =
      let cut = are_cut contents failures at name choice_name choice s reads.last before reads.payloads reads.taken.taken in
      let went = went_on remaining failed_reads limit before at name choice_name choice (Cut contents failures at name choice_name choice) (Held contents failures at name choice_name choice)
      (λ chosen old number payload why new. HoldsBack contents failures chosen old number payload why new)
      (λ payloads old new. Wrote contents failures (blocks (kept_of (choice s) payloads)) old new) old new count s t why reads few (record {
        named = cut.named;
        clean = cut.clean;
        chosen = cut.chosen;
        wrote = cut.wrote;
        held = held_back reads.payloads reads.last cut;
      }) in
      (went.0, record { goes = went.1 })

  module _ (form : T → ShowForm) where
    withheld : (ps : List (List ℕ)) (last : T) → AreShown contents failures at name choice_name form choice s (before + 1) ps last → (p : List ℕ) (fault : ToolFault) → IsFull p
        → Unshown contents failures at name choice_name form choice last (count + 1) p fault t
        → Named t × WithholdsMessage contents failures (form s) (count + 1) p (choice last) (at last) fault (at t)
    withheld ps last shown p fault full (named, choice_named, held) = (
      (named ∙ shown.named, choice_named ∙ shown.choice_named),
      subst (λ f. WithholdsMessage contents failures f (count + 1) p (choice last) (at last) fault (at t)) shown.formed held,
    )

    -- the lines of the chosen ones of these messages were written
    pub shown_on : ReadsPart remaining failed_reads (Shown contents failures at name choice_name form choice) (Unshown contents failures at name choice_name form choice) limit old new before count s why t
        → count ≤ 10 ^ 19 - 1 → Named t × ShowsOn remaining failed_reads limit (choice s) before contents failures (form s) old (left_by why new) (at s) outcome (at t)
    shown_on reads few =
        let shown = are_shown contents failures at name choice_name form choice s reads.last before reads.payloads reads.taken.taken in
        let went = went_on remaining failed_reads limit before at name choice_name choice (Shown contents failures at name choice_name form choice) (Unshown contents failures at name choice_name form choice)
        (λ chosen old number payload why new. WithholdsMessage contents failures (form s) number payload chosen old why new)
        (λ payloads old new. Wrote contents failures (chosen_lines (form s) (choice s) (before + 1) (map message_of payloads)) old new) old new count s t why reads few (record {
          named = (shown.named, shown.choice_named);
          clean = shown.clean;
          chosen = shown.chosen;
          wrote = shown.wrote;
          held = withheld reads.payloads reads.last shown;
        }) in
        (went.0, record { goes = went.1 })

-- no part fails with an unknown stock
module _ {R W : Type 0} (contents : W → Option (List ℕ)) (failures : W → Failures) (remaining : R → Option (List ℕ)) (failed_reads : R → Failures) (limit : Limit) (chosen : Chosen) (before : ℕ)
    (old new : Reading R) (out out' : W) where
  module _ (holds : Chosen → W → ℕ → List ℕ → ToolFault → W → Type 0) (writes : List (List ℕ) → W → W → Type 0)
      (known : (c : Chosen) (last : W) (number : ℕ) (p : List ℕ) → holds c last number p tool.UnknownStock out' → ⊥) where
    stopped_never : (now : Chosen) (count : ℕ) (found : Bool) (mid : Reading R) (last : W) (stop : Part ToolFault)
        → StopsAt remaining (holds now) limit count mid last stop out' → Err tool.UnknownStock ≡ answer_of limit.after count found stop → ⊥
    stopped_never now count found mid last part.Full stops is = cc
    stopped_never now count found mid last part.Late stops is = cc
    stopped_never now count found mid last part.End stops is = ended_never limit.after count found is where
      ended_never : (wanted : Option ℕ) (count : ℕ) (found : Bool) → Err tool.UnknownStock ≡ ended_show wanted count found → ⊥
      ended_never None count found is = cc
      ended_never (Some most) count found is = cc
    stopped_never now count found mid last (part.Frame why) stops is = cc
    stopped_never now count found mid last part.TooMany stops is = cc
    stopped_never now count found mid last (part.Refused why) (before, (p, next, full, few, early, held)) is =
        let same : why ≡ tool.UnknownStock = cc in
        known now last (count + 1) p (subst (λ w. holds now last (count + 1) p w out') same held)

    going_never : GoesOff remaining failed_reads limit chosen before holds writes old new out (Err tool.UnknownStock) out' → ⊥
    going_never goes =
        let now : Chosen = chosen_past chosen (map message_of goes.payloads) in
        stopped_never now goes.count (are_found (Chosen.stocks now)) goes.mid goes.last goes.stop goes.stops goes.answer

  pub cuts_never : CutsOn remaining failed_reads limit chosen before contents failures old new out (Err tool.UnknownStock) out' → ⊥
  cuts_never cuts = going_never (λ chosen old number payload why new. HoldsBack contents failures chosen old number payload why new)
      (λ payloads old new. Wrote contents failures (blocks (kept_of chosen payloads)) old new) (λ c last number p held. held.1) cuts.goes

  pub shows_never : (form : ShowForm) → ShowsOn remaining failed_reads limit chosen before contents failures form old new out (Err tool.UnknownStock) out' → ⊥
  shows_never form shows = going_never (λ chosen old number payload why new. WithholdsMessage contents failures form number payload chosen old why new)
      (λ payloads old new. Wrote contents failures (chosen_lines form chosen (before + 1) (map message_of payloads)) old new) (λ c last number p held. held.1) shows.goes
