-- The lines that `show` has written of a part of a day.
use Rattle.std.proofs.Common.{Bool, ◌≡◌, ℕ, ◌+◌, ◌-◌, ◌^◌, ◌≤◌, ◌<◌, ◌==◌, true, false, List, [], ◌∷◌, ◌++◌, length, map, take, Option, Result, Ok, Err, None, Some, inl, inr, refl, sym, ap, subst, ◌∙◌, arith, length-append, append-nil, eq-eqb}
use Rattle.std.proofs.lemmas.Bool.{ne_eqb}
use Rattle.std.proofs.lemmas.List.{append_assoc}
use Rattle.std.specs.List.{AllByRecursion}
use Rattle.std.specs.Io.KnownBytes.{Appends}
use Rattle.std.specs.declared.io.Error.{Error}
use Rattle.std.proofs.KnownBytes.{Appends-nil, Keeps-refl}
use Rattle.itch_codec.specs.Messages.{fault, message_of}
use Rattle.itch_codec.specs.declared.message.Message.{Message}
use Rattle.itch_frame.specs.Blocks.{IsFull}
use Rattle.itch_frame.specs.Reading.{Reading, bytes_left, passed}
use Rattle.itch_frame.specs.Counting.{failed}
use Rattle.itch_frame.specs.declared.reader.BlockStage.TheVariants.{Cut, Ended}
use Rattle.itch_frame.specs.declared.fault.FrameFault.{FrameFault}
use Rattle.itch_frame.specs.declared.fault.FrameFault.TheVariants.{Read, Truncated, Write, TooLong}
use Rattle.itch_frame.specs.declared.tally.Failures.{Failures}
use Rattle.itch_frame.proofs.BlockLemmas.{consumed_more, each-push}
use Rattle.itch_frame.proofs.Writes.{Appends-more}
use Rattle.itch_day.specs.Limits.{IsBefore, IsEarly, IsNotLate, is_late}
use Rattle.itch_day.specs.Parts.{Counts as CountsPart, IsNext, Leaves, ReadsPart, StopsAt, Takes}
use Rattle.itch_day.specs.Passing.{left_by}
use Rattle.itch_day.specs.Sinks.{TakesAll}
use Rattle.itch_day.specs.declared.limit.Limit.{Limit}
use Rattle.itch_day.specs.declared.stop.PartStop.{PartStop as Part}
use Rattle.itch_day.specs.declared.stop.PartStop.TheVariants as part
use Rattle.itch_market.specs.Content.{empty}
use Rattle.itch_market.specs.DayParts.{IsEnough}
use Rattle.itch_market.specs.Replays.{Counts, Halts, LeavesReaderFirst}
use Rattle.itch_market.specs.declared.refused.Refused.{Refused}
use Rattle.itch_market.specs.declared.refused.Refused.TheVariants as refused
use Rattle.itch_market.specs.declared.stop.ReplayEnd.{ReplayEnd}
use Rattle.itch_market.specs.declared.stop.Stop.{Stop}
use Rattle.itch_market.specs.declared.stop.Stop.TheVariants as stop
use Rattle.itch_market.proofs.DayParts.{full_count}
use Rattle.itch_market.proofs.LeftReaders.{late_left, stop_left}
use Rattle.itch_day.proofs.PassedBlocks.{cut_not_going, ends_here, is_not_going, never_next, passed_going, passed_off, passed_reader}
use Rattle.itch_commands.specs.Choices.{Chosen, chosen_after, chosen_past, chosen_line, chosen_lines}
use Rattle.itch_commands.specs.Outputs.{Wrote}
use Rattle.itch_commands.specs.Readings.{LeavesDay}
use Rattle.itch_commands.specs.Showing.{IsClean, IsFaultOf, IsNoRule, ReadsOff, ShowsMessage, ShowsPart, ShowsUntil, WithholdsMessage, answer_of, ended_show, line_after, lines_from}
use Rattle.itch_commands.specs.Lookup.{are_found}
use Rattle.itch_commands.specs.declared.fault.Source.{Source}
use Rattle.itch_commands.specs.declared.fault.Source.TheVariants.{Only}
use Rattle.itch_commands.specs.declared.fault.ToolFault.{ToolFault}
use Rattle.itch_commands.specs.declared.fault.ToolFault.TheVariants as tool
use Rattle.itch_commands.specs.declared.form.ShowForm.{ShowForm}
use Rattle.itch_commands.proofs.PartReadings.{is_given, late_given}

-- lines one after another
pub lines-append : (form : ShowForm) (chosen : Chosen) (number : ℕ) (xs ys : List Message)
    → chosen_lines form chosen number (xs ++ ys) ≡ chosen_lines form chosen number xs ++ chosen_lines form (chosen_past chosen xs) (number + length xs) ys
unfolding chosen_lines chosen_past
lines-append form chosen number [] ys =
    let same : number ≡ number + length {A = Message} [] = omega arith in ap (λ n. chosen_lines form chosen n ys) same
lines-append form chosen number (x ∷ xs) ys =
    let same : number + 1 + length xs ≡ number + length (x ∷ xs) = omega arith in
    let then : Chosen = chosen_after chosen x in
    let first : List ℕ = chosen_line form chosen number x in
    let others : List ℕ = chosen_lines form then (number + 1) xs in
    ap (λ t. first ++ t) (lines-append form then (number + 1) xs ys)
    ∙ sym (append_assoc first others (chosen_lines form (chosen_past then xs) (number + 1 + length xs) ys))
    ∙ ap (λ n. first ++ others ++ chosen_lines form (chosen_past then xs) n ys) same

pub one_line : (form : ShowForm) (chosen : Chosen) (number : ℕ) (x : Message) (xs : List Message)
    → chosen_lines form chosen number (x ∷ xs) ≡ chosen_line form chosen number x ++ chosen_lines form (chosen_after chosen x) (number + 1) xs
unfolding chosen_lines
one_line form chosen number x xs = refl

pub no_lines : (form : ShowForm) (chosen : Chosen) (number : ℕ) → chosen_lines form chosen number [] ≡ []
unfolding chosen_lines
no_lines form chosen number = refl

pub last_line : (form : ShowForm) (chosen : Chosen) (number : ℕ) (xs : List Message) (x : Message)
    → chosen_lines form chosen number (xs ++ x ∷ []) ≡ chosen_lines form chosen number xs ++ chosen_line form (chosen_past chosen xs) (number + length xs) x
last_line form chosen number xs x =
    let now : Chosen = chosen_past chosen xs in
    let line : List ℕ = chosen_line form now (number + length xs) x in
    lines-append form chosen number xs (x ∷ [])
    ∙ ap (λ t. chosen_lines form chosen number xs ++ t)
    (one_line form now (number + length xs) x [] ∙ ap (λ t. line ++ t) (no_lines form (chosen_after now x) (number + length xs + 1)) ∙ append-nil line)

-- nothing was passed yet
pub past_none : (chosen : Chosen) → chosen ≡ chosen_past chosen []
unfolding chosen_past
past_none chosen = refl

-- one more message was passed
pub past_push : (chosen : Chosen) (xs : List Message) (x : Message) → chosen_after (chosen_past chosen xs) x ≡ chosen_past chosen (xs ++ x ∷ [])
unfolding chosen_past
past_push chosen [] x = refl
past_push chosen (y ∷ ys) x = past_push (chosen_after chosen y) ys x

-- and then others were
pub past_on : (chosen : Chosen) (x : Message) (xs : List Message) → chosen_past (chosen_after chosen x) xs ≡ chosen_past chosen (x ∷ xs)
unfolding chosen_past
past_on chosen x xs = refl

-- a message that is not late is early
is_early : (limit : Limit) (p : List ℕ) → fault p ≡ None → IsNotLate limit p → IsEarly limit p
is_early limit p clean not_late = by_test (is_late limit.until (message_of p)) refl where
  by_test : (late : Bool) → is_late limit.until (message_of p) ≡ late → IsEarly limit p
  by_test true late = absurd (not_late (clean, late))
  by_test false early = early

pub are_early : (limit : Limit) (ps : List (List ℕ)) → AllByRecursion IsClean ps → AllByRecursion (IsNotLate limit) ps → AllByRecursion (IsEarly limit) ps
are_early limit [] clean early = tt
are_early limit (p ∷ ps) clean early = (is_early limit p clean.0 early.0, are_early limit ps clean.1 early.1)

module _ {W T N M : Type 0} (contents : W → Option (List ℕ)) (failures : W → Failures) (at : T → W) (name : T → N) (choice_name : T → M) (form : T → ShowForm) (choice : T → Chosen) where
  -- a sink that writes to the values that it lends
  abbrev pub Shown : T → ℕ → List ℕ → T → Type 0
  Shown s number payload t = (name t ≡ name s) × (choice_name t ≡ choice_name s) × (form t ≡ form s) × ShowsMessage contents failures (form s) number payload (choice s) (at s) (choice t) (at t)

  abbrev pub Unshown : T → ℕ → List ℕ → ToolFault → T → Type 0
  Unshown s number payload why t = (name t ≡ name s) × (choice_name t ≡ choice_name s) × WithholdsMessage contents failures (form s) number payload (choice s) (at s) why (at t)

  -- the lines of these payloads were written; the first has this number
  pub record AreShown (s : T) (number : ℕ) (ps : List (List ℕ)) (t : T) : Type 0 where
    pub named : name t ≡ name s
    pub choice_named : choice_name t ≡ choice_name s
    pub formed : form t ≡ form s
    pub clean : AllByRecursion IsClean ps
    pub chosen : choice t ≡ chosen_past (choice s) (map message_of ps)
    pub wrote : Wrote contents failures (chosen_lines (form s) (choice s) number (map message_of ps)) (at s) (at t)

  pub are_shown : (s t : T) (count : ℕ) (ps : List (List ℕ)) → TakesAll Shown s count ps t → AreShown s (count + 1) ps t
  are_shown s t count [] takes = record {
    named = ap name takes;
    choice_named = ap choice_name takes;
    formed = ap form takes;
    clean = tt;
    chosen = ap choice takes ∙ past_none (choice s);
    wrote = subst (λ x. Wrote contents failures (chosen_lines (form s) (choice s) (count + 1) []) (at s) (at x)) (sym takes)
        (subst (λ bytes. Wrote contents failures bytes (at s) (at s)) (sym (no_lines (form s) (choice s) (count + 1))) (Appends-nil (contents (at s)), refl));
  }
  are_shown s t count (p ∷ ps) (mid, (named, choice_named, formed, (clean, (bytes, uncounted), next)), rest) =
      let later = are_shown mid t (count + 1) ps rest in
      let x = message_of p in
      let xs = map message_of ps in
      let line = chosen_line (form s) (choice s) (count + 1) x in
      let others : chosen_lines (form mid) (choice mid) (count + 1 + 1) xs ≡ chosen_lines (form s) (chosen_after (choice s) x) (count + 1 + 1) xs =
      ap (λ f. chosen_lines f (choice mid) (count + 1 + 1) xs) formed ∙ ap (λ c. chosen_lines (form s) c (count + 1 + 1) xs) next in
      record {
        named = later.named ∙ named;
        choice_named = later.choice_named ∙ choice_named;
        formed = later.formed ∙ formed;
        clean = (clean, later.clean);
        chosen = later.chosen ∙ ap (λ c. chosen_past c xs) next ∙ past_on (choice s) x xs;
        wrote = (
          subst (Appends (contents (at s)) (contents (at t))) (ap (λ ys. line ++ ys) others ∙ sym (one_line (form s) (choice s) (count + 1) x xs))
              (Appends-more (contents (at s)) (contents (at mid)) (contents (at t)) line (chosen_lines (form mid) (choice mid) (count + 1 + 1) xs) bytes later.wrote.0),
          later.wrote.1 ∙ uncounted,
        );
      }

  module _ {R : Type 0} (remaining : R → Option (List ℕ)) (failed_reads : R → Failures) (limit : Limit) (old new : Reading R) (count : ℕ) (s last t : T) (ps : List (List ℕ))
      (taken : Takes remaining Shown limit old new 0 count s last ps) (few : count ≤ 10 ^ 19 - 1) where
    shown : AreShown s 1 ps last
    shown = are_shown s last 0 ps taken.taken

    number : length ps ≡ count
    number = omega (arith, taken.counted)

    off : ReadsOff limit (bytes_left remaining old) (bytes_left remaining new) ps
    off = record {
      bytes = taken.bytes;
      full = taken.full;
      clean = shown.clean;
      few = omega (arith, number, few);
      early = are_early limit ps shown.clean taken.early;
    }

    -- the result then, and the state afterwards
    abbrev Returns : Reading R → Result Bool ToolFault → Type 0
    Returns left result = ShowsPart contents failures remaining failed_reads limit (form s) (choice s) old left (at s) result (at t)

    -- whether all stocks were found
    abbrev found : Bool
    found = are_found (Chosen.stocks (choice t))

    -- For the reader of blocks these stops are those of a market, for any reason of refusal.
    abbrev Any : T → ℕ → List ℕ → Refused → T → Type 0
    Any u k p why v = Unit {0}

    abbrev Stays : Type 0
    Stays = (old.stage ≡ Ended → (length ps ≡ 0) × (new ≡ old)) × (old.stage ≡ Cut → (length ps ≡ 0) × (new ≡ old))

    abbrev Stops : Part ToolFault → Type 0
    Stops why = StopsAt remaining Unshown limit count new last why t

    still : t ≡ last → (name t ≡ name s) × (choice_name t ≡ choice_name s)
    still same = (ap name same ∙ shown.named, ap choice_name same ∙ shown.choice_named)

    all : (left : Reading R) → t ≡ last → IsEnough limit (length ps) (bytes_left remaining new) (bytes_left remaining left) → failed_reads left.reader ≡ failed_reads old.reader
        → LeavesDay (Ok (length ps)) limit old left → Returns left (Ok found)
    all left same enough uncounted leaves = (
      ps,
      bytes_left remaining new,
      off,
      enough,
      subst (λ x. Wrote contents failures (lines_from (form s) (choice s) ps) (at s) (at x)) (sym same) shown.wrote,
      uncounted,
      leaves,
      ap (λ x. are_found (Chosen.stocks (choice x))) same ∙ ap (λ c. are_found (Chosen.stocks c)) shown.chosen,
    )

    -- the next message is not shown
    until : (why : Stop) (left : Reading R) → at t ≡ at last → IsBefore limit count → IsNoRule why → Halts (count == 10 ^ 19 - 1) empty (bytes_left remaining new) (bytes_left remaining left) why
        → Counts why (failed_reads old.reader) (failed_reads left.reader) → LeavesReaderFirst old (length ps) (Some why) left
        → ShowsUntil contents failures remaining failed_reads limit (form s) (choice s) count why old left (at s) (at t)
    until why left kept before rule halts counts leaves = (
      before,
      ps,
      bytes_left remaining new,
      off,
      number,
      (rule, halts),
      subst (Wrote contents failures (lines_from (form s) (choice s) ps) (at s)) (sym kept) shown.wrote,
      counts,
      subst (λ k. LeavesReaderFirst old k (Some why) left) number leaves,
    )

    to_passed : failed_reads new.reader ≡ failed_reads old.reader → failed_reads (Reading.reader (passed new)) ≡ failed_reads old.reader
    to_passed counts = ap failed_reads (passed_reader new) ∙ counts

    room : count < 10 ^ 19 - 1 → (count == 10 ^ 19 - 1) ≡ false
    room some = ne_eqb count (10 ^ 19 - 1) (λ same. omega (arith, some, same))

    -- as many lines as requested were written
    at_full : Stops part.Full → Leaves {F = ToolFault} old (length ps) part.Full new → failed_reads new.reader ≡ failed_reads old.reader → Returns new (Ok found)
    at_full (same, (most, wanted, enough)) passes counts =
        let exact : count ≡ most = full_count most count (length ps) limit.after wanted taken.wanted number (most, wanted, enough) in
        all new same (inl (wanted ∙ ap Some (sym (number ∙ exact)), refl)) counts (inl (is_given limit.after most wanted, (passes.unread, passes.given)))

    -- or the next message is late
    at_late : Stops part.Late → Stays → failed_reads new.reader ≡ failed_reads old.reader → Returns (passed new) (Ok found)
    at_late (same, before, (p, next, some, few_before, late)) stays counts =
        all (passed new) same (inr (inl (subst (IsBefore limit) (sym number) before, (p, (some, passed_off new remaining p next), late)))) (to_passed counts)
        (inr (inl (late_given limit.until (message_of p) late.1, late_left remaining failed_reads Any limit old new count (length ps) last t (same, before, (p, next, some, few_before, late)) stays)))

    -- or the file ended, which is a fault if more were requested
    at_end : (wanted : Option ℕ) → limit.after ≡ wanted → Stops part.End → Stays → failed_reads new.reader ≡ failed_reads old.reader → Returns (passed new) (ended_show wanted count found)
    at_end None whole (same, before, end) stays counts =
        all (passed new) same (inr (inr (whole, ends_here new remaining end))) (to_passed counts)
        (inr (inr (whole, stop_left remaining failed_reads Any limit old new count (length ps) last t part.End (λ late. absurd (cc)) (same, before, end) stays)))
    at_end (Some most) is (same, before, end) stays counts = (
      refl,
      (is_given limit.after most is, before),
      until stop.End (passed new) (ap at same) before tt (ends_here new remaining end) (to_passed counts)
          (stop_left remaining failed_reads Any limit old new count (length ps) last t part.End (λ late. absurd (cc)) (same, before, end) stays),
    )

    -- or a read failed, or the file ended inside a block
    at_frame : (why : FrameFault) → Stops (part.Frame why) → Stays → CountsPart {F = ToolFault} (part.Frame why) (failed_reads old.reader) (failed_reads new.reader)
        → Returns new (Err (tool.Stopped Only (record { count = count; stop = stop.Frame why })))
    at_frame (Truncated held) (same, before, cut, is_held, some) stays counts = (
      refl,
      λ e. absurd (cc),
      until (stop.Frame (Truncated held)) new (ap at same) before tt some counts
          (stop_left remaining failed_reads Any limit old new count (length ps) last t (part.Frame (Truncated held)) (λ late. absurd (cc)) (same, before, cut, is_held, some) stays),
    )
    at_frame (Read error) (same, before, going) stays counts = (
      refl,
      λ e. absurd (cc),
      until (stop.Frame (Read error)) new (ap at same) before tt (Keeps-refl (bytes_left remaining new)) counts
          (stop_left remaining failed_reads Any limit old new count (length ps) last t (part.Frame (Read error)) (λ late. absurd (cc)) (same, before, going) stays),
    )
    at_frame (Write sent error) never stays counts = absurd never
    at_frame TooLong never stays counts = absurd never

    -- or no message has that number
    at_many : Stops part.TooMany → Stays → failed_reads new.reader ≡ failed_reads old.reader → Returns (passed new) (Err (tool.Stopped Only (record { count = count; stop = stop.TooManyMessages })))
    at_many (same, before, (p, next, some, many)) stays counts = (
      refl,
      λ e. absurd (cc),
      until stop.TooManyMessages (passed new) (ap at same) before tt (p, (some, passed_off new remaining p next), eq-eqb count (10 ^ 19 - 1) many) (to_passed counts)
          (stop_left remaining failed_reads Any limit old new count (length ps) last t part.TooMany (λ late. absurd (cc)) (same, before, (p, next, some, many)) stays),
    )

    module _ (p : List ℕ) (next : IsNext new p) (some : IsFull p) (few_before : count < 10 ^ 19 - 1) (early : IsNotLate limit p) (before : IsBefore limit count) (stays : Stays)
        (counts : failed_reads new.reader ≡ failed_reads old.reader) where
      -- or the next block is not a valid message
      unclean : (file : Source) (end : ReplayEnd) (why : Stop) → end.stop ≡ why → file ≡ Only → end.count ≡ count → IsFaultOf p why → at t ≡ at last → Returns (passed new) (Err (tool.Stopped file end))
      unclean file end (stop.Codec f) is only counted faulty kept = (
        only,
        λ e. absurd (let never : stop.Codec f ≡ stop.End = sym is ∙ e in cc),
        subst (λ k. ShowsUntil contents failures remaining failed_reads limit (form s) (choice s) k end.stop old (passed new) (at s) (at t)) (sym counted)
            (subst (λ why. ShowsUntil contents failures remaining failed_reads limit (form s) (choice s) count why old (passed new) (at s) (at t)) (sym is)
            (until (stop.Codec f) (passed new) kept before tt (p, (some, passed_off new remaining p next), room few_before, faulty) (to_passed counts)
            (stop_left remaining failed_reads Any limit old new count (length ps) last t (part.Refused (refused.Codec f)) (λ late. absurd (cc)) (before, (p, next, some, few_before, early, tt)) stays))),
      )
      unclean file end stop.End is only counted never kept = absurd never
      unclean file end (stop.Frame f) is only counted never kept = absurd never
      unclean file end (stop.Rule f) is only counted never kept = absurd never
      unclean file end stop.TooManyMessages is only counted never kept = absurd never

      -- the line of the next message, by the sink
      line_is : chosen_line (form last) (choice last) (count + 1) (message_of p) ≡ line_after (form s) (choice s) ps p
      line_is =
          ap (λ f. chosen_line f (choice last) (count + 1) (message_of p)) shown.formed ∙ ap (λ c. chosen_line (form s) c (count + 1) (message_of p)) shown.chosen
          ∙ ap (λ k. chosen_line (form s) (chosen_past (choice s) (map message_of ps)) (k + 1) (message_of p)) (sym number)

      -- or its line could not be written
      unwritten : (error : Error) → WithholdsMessage contents failures (form last) (count + 1) p (choice last) (at last) (tool.Write error) (at t) → Returns (passed new) (Err (tool.Write error))
      unwritten error (clean, (sent, within, bytes, unfailed)) = (
        ps,
        p,
        record {
          bytes = consumed_more (bytes_left remaining old) (bytes_left remaining new) (bytes_left remaining (passed new)) ps p taken.bytes (passed_off new remaining p next);
          full = each-push IsFull ps p taken.full some;
          clean = each-push IsClean ps p shown.clean clean;
          few = let one = length-append ps (p ∷ []) in omega (arith, one, number, few_before);
          early = each-push (IsEarly limit) ps p off.early (is_early limit p clean early);
        },
        subst (IsBefore limit) (sym number) before,
        (
          sent,
          subst (λ line. sent < length line) line_is within,
          subst (λ line. Appends (contents (at s)) (contents (at t)) (lines_from (form s) (choice s) ps ++ take sent line)) line_is
              (Appends-more (contents (at s)) (contents (at last)) (contents (at t)) (lines_from (form s) (choice s) ps) _ shown.wrote.0 bytes),
          unfailed ∙ ap (failed error) shown.wrote.1,
        ),
        to_passed counts,
        (
          λ none. absurd (omega (arith, none)),
          λ more. (
            ap (λ (r : Reading R). r.held) (passed_going new next.1),
            ap (λ (r : Reading R). r.stage) (passed_going new next.1),
            never_next old new (length ps) Ended is_not_going next.1 stays.0,
            never_next old new (length ps) Cut cut_not_going next.1 stays.1,
          ),
        ),
      )

      at_refused : (why : ToolFault) → Unshown last (count + 1) p why t → Returns (passed new) (Err why)
      at_refused (tool.Stopped file end) (named, choice_named, (only, counted, faulty, kept)) = unclean file end end.stop refl only (omega (arith, counted)) faulty kept
      at_refused (tool.Write error) (named, choice_named, withheld) = unwritten error withheld
      at_refused (tool.Short file k) (named, choice_named, (clean, never)) = absurd never
      at_refused tool.OutOfMemory (named, choice_named, (clean, never)) = absurd never
      at_refused (tool.Open file error) (named, choice_named, (clean, never)) = absurd never
      at_refused (tool.UnmetExpectation unmet) (named, choice_named, (clean, never)) = absurd never
      at_refused (tool.FeedMismatch mismatch) (named, choice_named, (clean, never)) = absurd never
      at_refused tool.BadLocates (named, choice_named, (clean, never)) = absurd never
      at_refused tool.TooMany (named, choice_named, (clean, never)) = absurd never
      at_refused (tool.Snap file f) (named, choice_named, (clean, never)) = absurd never
      at_refused tool.UnknownLocate (named, choice_named, (clean, never)) = absurd never
      at_refused tool.UnknownStock (named, choice_named, (clean, never)) = absurd never

    returns_so : (why : Part ToolFault) → Stops why → Leaves old (length ps) why new → CountsPart why (failed_reads old.reader) (failed_reads new.reader)
        → Returns (left_by why new) (answer_of limit.after count found why)
    returns_so part.Full stops leaves counts = at_full stops leaves counts
    returns_so part.Late stops stays counts = at_late stops stays counts
    returns_so part.End stops stays counts = at_end limit.after refl stops stays counts
    returns_so (part.Frame why) stops stays counts = at_frame why stops stays counts
    returns_so part.TooMany stops stays counts = at_many stops stays counts
    returns_so (part.Refused why) (before, (p, next, some, few_before, early, unshown)) stays counts = at_refused p next some few_before early before stays counts why unshown

    named_so : (why : Part ToolFault) → Stops why → (name t ≡ name s) × (choice_name t ≡ choice_name s)
    named_so part.Full (same, most) = still same
    named_so part.Late (same, before, next) = still same
    named_so part.End (same, before, next) = still same
    named_so (part.Frame (Truncated held)) (same, before, cut, is_held, some) = still same
    named_so (part.Frame (Read error)) (same, before, going) = still same
    named_so (part.Frame (Write sent error)) never = absurd never
    named_so (part.Frame TooLong) never = absurd never
    named_so part.TooMany (same, before, next) = still same
    named_so (part.Refused why) (before, (p, next, some, few_before, early, (named, choice_named, withheld))) = (named ∙ shown.named, choice_named ∙ shown.choice_named)

  -- the outcome of reading a part into such a sink: its output, its result and its state
  pub shown_part : {R : Type 0} (remaining : R → Option (List ℕ)) (failed_reads : R → Failures) (limit : Limit) (old new : Reading R) (count : ℕ) (s t : T) (why : Part ToolFault)
      → ReadsPart remaining failed_reads Shown Unshown limit old new 0 count s why t → count ≤ 10 ^ 19 - 1
      → ((name t ≡ name s) × (choice_name t ≡ choice_name s))
      × ShowsPart contents failures remaining failed_reads limit (form s) (choice s) old (left_by why new) (at s) (answer_of limit.after count (are_found (Chosen.stocks (choice t))) why) (at t)
  shown_part remaining failed_reads limit old new count s t why reads few = (
    named_so remaining failed_reads limit old new count s reads.last t reads.payloads reads.taken few why reads.stops,
    returns_so remaining failed_reads limit old new count s reads.last t reads.payloads reads.taken few why reads.stops reads.leaves reads.counts,
  )
