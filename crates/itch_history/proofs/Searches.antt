-- The messages that a search has passed, and where it stopped.
use Rattle.std.proofs.Common.{◌≡◌, ℕ, ◌+◌, ◌-◌, ◌^◌, ◌≤◌, ◌<◌, List, [], ◌∷◌, ◌++◌, length, map, Option, Result, Ok, Some, refl, sym, ap, subst, ◌∙◌, arith, append-nil, append_assoc}
use Rattle.std.specs.List.{AllByRecursion}
use Rattle.itch_codec.specs.Messages.{message_of}
use Rattle.itch_frame.specs.Reading.{Reading}
use Rattle.itch_frame.specs.declared.fault.FrameFault.TheVariants.{Read, Truncated, Write, TooLong}
use Rattle.itch_frame.specs.declared.tally.Failures.{Failures}
use Rattle.itch_day.specs.Limits.{IsWithin}
use Rattle.itch_day.specs.Parts.{ReadsPart, StopsAt, Takes}
use Rattle.itch_day.specs.Sinks.{TakesAll}
use Rattle.itch_day.specs.declared.limit.Limit.{Limit}
use Rattle.itch_day.specs.declared.stop.PartStop.{PartStop}
use Rattle.itch_day.specs.declared.stop.PartStop.TheVariants as stop
use Rattle.itch_history.specs.Histories.{first_by, first_number, listed, replacement_of, replacements_of}
use Rattle.itch_history.specs.Searches.{Finds, IsClean, IsOfOthers, LeavesMessage, Passes, PassesMessage, Searches, answer_of}
use Rattle.itch_history.specs.declared.chain.Replacement.{Replacement}
use Rattle.itch_history.specs.declared.fault.SearchFault.{SearchFault}
use Rattle.itch_history.specs.declared.finder.NotPassed.{NotPassed}
use Rattle.itch_history.specs.declared.finder.NotPassed.TheVariants as not_passed
use Rattle.itch_history.proofs.Replacements.{first_same, none_replaced, one_replacement}

module _ {T : Type 0} (number : T → ℕ) (list : T → List Replacement) where
  -- a sink that collects replacements
  abbrev pub Passed : T → ℕ → List ℕ → T → Type 0
  Passed s count payload t = (number t ≡ number s) × PassesMessage (number s) payload (list s) (list t)

  abbrev pub Left : T → ℕ → List ℕ → NotPassed → T → Type 0
  Left s count payload why t = Finds (number s) payload (list s) why (list t)

  -- these payloads were passed
  record ArePassed (s : T) (ps : List (List ℕ)) (t : T) : Type 0 where
    pub numbered : number t ≡ number s
    pub clean : AllByRecursion IsClean ps
    pub others : AllByRecursion (IsOfOthers (number s)) ps
    pub collected : list t ≡ list s ++ replacements_of (map message_of ps)

  are_passed : (s t : T) (count : ℕ) (ps : List (List ℕ)) → TakesAll Passed s count ps t → ArePassed s ps t
  are_passed s t count [] takes = record {
    numbered = ap number takes;
    clean = tt;
    others = tt;
    collected = ap list takes ∙ sym (append-nil (list s)) ∙ ap (λ rs. list s ++ rs) (sym none_replaced);
  }
  are_passed s t count (p ∷ ps) (mid, (numbered, (clean, other, collected)), rest) =
      let later = are_passed mid t (count + 1) ps rest in
      let one : List Replacement = listed (replacement_of (message_of p)) in
      let more : List Replacement = replacements_of (map message_of ps) in
      record {
        numbered = later.numbered ∙ numbered;
        clean = (clean, later.clean);
        others = (other, subst (λ n. AllByRecursion (IsOfOthers n) ps) numbered later.others);
        collected = later.collected ∙ ap (λ rs. rs ++ more) collected ∙ append_assoc (list s) one more ∙ ap (λ rs. list s ++ rs) (sym (one_replacement (message_of p) (map message_of ps)));
      }

  module _ {R : Type 0} (remaining : R → Option (List ℕ)) (failures : R → Failures) (limit : Limit) (old new : Reading R) (count : ℕ) (s last t : T) (ps : List (List ℕ))
      (begun : list s ≡ []) (taken : Takes remaining Passed limit old new 0 count s last ps) (few : count ≤ 10 ^ 19 - 1) where
    done : ArePassed s ps last
    done = are_passed s last 0 ps taken.taken

    counted : count ≡ length ps
    counted = omega (arith, taken.counted)

    passes : Passes remaining (number s) limit old new ps
    passes = record {
      bytes = taken.bytes;
      full = taken.full;
      clean = done.clean;
      others = done.others;
      early = taken.early;
      wanted = subst (λ k. 0 < length ps → IsWithin limit k) counted taken.wanted;
      few = omega (arith, counted, few);
    }

    abbrev Stops : PartStop NotPassed → Type 0
    Stops why = StopsAt remaining Left limit count new last why t

    abbrev StopsSo : ℕ → ℕ → PartStop NotPassed → Type 0
    StopsSo n k why = StopsAt remaining (λ (before : ℕ) k payload why (after : ℕ). LeavesMessage n payload why) limit k new n why n

    leaves_so : (p : List ℕ) (why : NotPassed) → Finds (number last) p (list last) why (list t) → LeavesMessage (number last) p why
    leaves_so p (not_passed.Found before) (leaves, same) = leaves
    leaves_so p (not_passed.Codec f) leaves = leaves
    leaves_so p not_passed.OutOfMemory leaves = leaves

    stops_last : (why : PartStop NotPassed) → Stops why → StopsSo (number last) count why
    stops_last stop.Full (same, most) = (refl, most)
    stops_last stop.Late (same, before, next) = (refl, before, next)
    stops_last stop.End (same, before, next) = (refl, before, next)
    stops_last (stop.Frame (Truncated held)) (same, before, cut, is_held, some) = (refl, before, cut, is_held, some)
    stops_last (stop.Frame (Read error)) (same, before, going) = (refl, before, going)
    stops_last (stop.Frame (Write sent error)) never = absurd never
    stops_last (stop.Frame TooLong) never = absurd never
    stops_last stop.TooMany (same, before, next) = (refl, before, next)
    stops_last (stop.Refused why) (before, (p, next, full, few_before, early, leaves)) = (before, (p, next, full, few_before, early, leaves_so p why leaves))

    stops_so : (why : PartStop NotPassed) → Stops why → StopsSo (number s) (length ps) why
    stops_so why stops = subst (λ k. StopsSo (number s) k why) counted (subst (λ n. StopsSo n count why) done.numbered (stops_last why stops))

    -- the answer by the list is that by the messages
    abbrev answer : (ℕ → ℕ) → ℕ → PartStop NotPassed → Result (Option ℕ) SearchFault
    answer first k why = answer_of first limit.after k why

    found_so : (p : List ℕ) (before : ℕ) → Finds (number last) p (list last) (not_passed.Found before) (list t) → first_by (list t) before ≡ first_number (map message_of ps) before
    found_so p before (leaves, same) =
        ap (λ rs. first_by rs before) (same ∙ done.collected ∙ ap (λ rs. rs ++ replacements_of (map message_of ps)) begun) ∙ first_same (map message_of ps) before

    answers_last : (why : PartStop NotPassed) → Stops why → answer (first_by (list t)) count why ≡ answer (first_number (map message_of ps)) count why
    answers_last stop.Full stops = refl
    answers_last stop.Late stops = refl
    answers_last stop.End stops = refl
    answers_last (stop.Frame why) stops = refl
    answers_last stop.TooMany stops = refl
    answers_last (stop.Refused (not_passed.Found number)) (before, (p, next, full, few_before, early, finds)) = ap (λ n. Ok (Some n)) (found_so p number finds)
    answers_last (stop.Refused (not_passed.Codec f)) stops = refl
    answers_last (stop.Refused not_passed.OutOfMemory) stops = refl

    answers_so : (why : PartStop NotPassed) → Stops why → answer (first_by (list t)) count why ≡ answer (first_number (map message_of ps)) (length ps) why
    answers_so why stops = answers_last why stops ∙ ap (λ k. answer (first_number (map message_of ps)) k why) counted

  -- the outcome of a search, by its list and its stop
  pub searches : {R : Type 0} (remaining : R → Option (List ℕ)) (failures : R → Failures) (limit : Limit) (old new : Reading R) (count : ℕ) (s t : T) (why : PartStop NotPassed)
      → list s ≡ [] → ReadsPart remaining failures Passed Left limit old new 0 count s why t → count ≤ 10 ^ 19 - 1
      → Searches remaining failures (number s) limit old new (answer_of (first_by (list t)) limit.after count why)
  searches remaining failures limit old new count s t why begun reads few = (
    reads.payloads,
    why,
    passes remaining failures limit old new count s reads.last t reads.payloads begun reads.taken few,
    stops_so remaining failures limit old new count s reads.last t reads.payloads begun reads.taken few why reads.stops,
    reads.counts,
    reads.leaves,
    answers_so remaining failures limit old new count s reads.last t reads.payloads begun reads.taken few why reads.stops,
  )
