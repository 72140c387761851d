-- A part of a day that ends before a time, where the sink examines the time.
use Rattle.std.proofs.Common.{◌≡◌, ℕ, ◌+◌, List, [], ◌∷◌, length, Option, None, Some, true, false, Result, Ok, Err, MatchResult, OnOk, inl, inr, refl, sym, ap, subst, ◌∙◌, arith}
use Rattle.std.specs.List.{AllByRecursion}
use Rattle.itch_frame.specs.Reading.{Reading}
use Rattle.itch_frame.specs.declared.fault.FrameFault.TheVariants.{Read, Truncated, Write, TooLong}
use Rattle.itch_frame.specs.declared.tally.Failures.{Failures}
use Rattle.itch_codec.specs.Messages.{message_of}
use Rattle.itch_codec.specs.declared.message.Message.{Message}
use Rattle.itch_day.specs.Limits.{IsNotLate, counted, is_late}
use Rattle.itch_day.specs.DayCursors.{RefusesTracked, TakesTracked, first_cursor, cursor_after, cursor_past}
use Rattle.itch_day.specs.Parts.{Counts as CountsPart, GoesOnTo, Leaves, ReadsPart, StopsAt, UnlessRefused}
use Rattle.itch_day.specs.Sinks.{Decodes, TakesAll}
use Rattle.itch_day.specs.declared.limit.Limit.{Limit}
use Rattle.itch_day.specs.declared.cursor.DayCursor.{DayCursor}
use Rattle.itch_day.specs.declared.tracked.Tracked.{Tracked}
use Rattle.itch_day.specs.declared.stop.PartStop.{PartStop}
use Rattle.itch_day.specs.declared.stop.PartStop.TheVariants as part
use Rattle.itch_day.proofs.Joined.{joined_to}
use Rattle.itch_day.proofs.DayCursors.{count-cursor_after}
use Rattle.itch_market.specs.Content.{Content, empty}
use Rattle.itch_market.specs.Takings.{RefusesMessage, TakesMessage, reason_of}
use Rattle.itch_market.specs.declared.refused.Refused.{Refused}
use Rattle.itch_market.specs.declared.refused.Refused.TheVariants as refused
use Rattle.itch_market.specs.declared.stop.Stop.{Stop}
use Rattle.itch_market.specs.declared.stop.Stop.TheVariants as stop
use Rattle.itch_commands.specs.Points.{Stands, begun}
use Rattle.itch_commands.specs.Readings.{stopped}
use Rattle.itch_commands.specs.declared.fault.Source.TheVariants.{Only}
use Rattle.itch_commands.specs.declared.fault.ToolFault.{ToolFault}
use Rattle.itch_commands.specs.declared.fault.ToolFault.TheVariants as tool
use Rattle.itch_commands.proofs.PointReadings.{stands_first, stands_on}
use Rattle.itch_depth.specs.Own.{Apart, IsApart, Keeps, PassesTimed, Untakes, before_time, stop_by}
use Rattle.itch_depth.specs.Series.{IsAt, StopsSo, UnlessStopped, continues}
use Rattle.itch_depth.specs.declared.pass.markets.Untaken.{Untaken}
use Rattle.itch_depth.specs.declared.pass.markets.Untaken.TheVariants as untaken
use Rattle.itch_depth.proofs.TimedMessages.{timed_taken, timed_untaken}

pub keeps_both : (one two three : Apart) → Keeps one two → Keeps two three → Keeps one three
keeps_both one two three (inl same) (inl again) = inl (again ∙ same)
keeps_both one two three (inr none) (inl again) = inr (again ∙ none)
keeps_both one two three first (inr none) = inr none

-- a part that is refused lacks no locate
pub refused_ends : (why : Stop) (count : ℕ) (fault : ToolFault) → stopped why None Only count ≡ Err fault → continues (Err fault) ≡ false
refused_ends why count fault is = by_stop why is where
  by_fault : (because : Stop) (result : Result ℕ ToolFault) → result ≡ Err (tool.Stopped Only (record { count = count; stop = because })) → result ≡ Err fault → continues (Err fault) ≡ false
  by_fault because result one other = let same : tool.Stopped Only (record { count = count; stop = because }) ≡ fault = cc in sym (ap (λ (g : ToolFault). continues (Err g)) same)

  by_stop : (because : Stop) → stopped because None Only count ≡ Err fault → continues (Err fault) ≡ false
  by_stop stop.End is = absurd (cc is)
  by_stop (stop.Frame f) is = by_fault (stop.Frame f) _ refl is
  by_stop (stop.Codec f) is = by_fault (stop.Codec f) _ refl is
  by_stop (stop.Rule f) is = by_fault (stop.Rule f) _ refl is
  by_stop stop.TooManyMessages is = by_fault stop.TooManyMessages _ refl is

-- what holds unless the reading stops holds if it ends
pub apart_ended : (P : Type 0) (why : Stop) (count : ℕ) (result : Result ℕ ToolFault) → result ≡ stopped why None Only count → UnlessStopped (Some why) P → OnOk result P
apart_ended P why count (Err fault) is h = tt
apart_ended P stop.End count (Ok k) is h = h
apart_ended P (stop.Frame f) count (Ok k) is h = absurd (cc is)
apart_ended P (stop.Codec f) count (Ok k) is h = absurd (cc is)
apart_ended P (stop.Rule f) count (Ok k) is h = absurd (cc is)
apart_ended P stop.TooManyMessages count (Ok k) is h = absurd (cc is)

-- a sink that takes a message before its time, and keeps the books of some locates apart
abbrev pub TakesTimed : {T : Type 0} → (T → Apart) → (T → Content) → (T → Option ℕ) → T → ℕ → List ℕ → T → Type 0
TakesTimed locates market until s number payload t =
    (until t ≡ until s) × Keeps (locates s) (locates t) × TakesMessage (market s) number payload (market t) × IsNotLate (before_time (until s)) payload

abbrev pub LeavesTimed : {T : Type 0} → (T → Apart) → (T → Content) → (T → Content) → (T → Option ℕ) → T → ℕ → List ℕ → Untaken → T → Type 0
LeavesTimed locates market own until s number payload why t = (t ≡ s) × Untakes (until s) (market s) number payload why × IsApart (locates s) (market s) (own s)

module _ {R T : Type 0} (remaining : R → Option (List ℕ)) (failed_reads : R → Failures) (locates : T → Apart) (market own : T → Content) (until : T → Option ℕ) where
  abbrev Takes : T → ℕ → List ℕ → T → Type 0
  Takes = TakesTimed locates market until

  abbrev Left : T → ℕ → List ℕ → Untaken → T → Type 0
  Left = LeavesTimed locates market own until

  -- its market with a cursor
  abbrev tracked_by : DayCursor → T → Tracked Content
  tracked_by cursor s = record { sink = market s; cursor = cursor }

  record AreTimed (s : T) (cursor : DayCursor) (count : ℕ) (ps : List (List ℕ)) (t : T) : Type 0 where
    pub same : until t ≡ until s
    pub kept : Keeps (locates s) (locates t)
    pub taken : TakesAll (TakesTracked TakesMessage) (tracked_by cursor s) count ps (tracked_by (cursor_after cursor ps) t)
    pub early : AllByRecursion (IsNotLate (before_time (until s))) ps

  are_timed : (s t : T) (cursor : DayCursor) (count : ℕ) (ps : List (List ℕ)) → TakesAll Takes s count ps t → AreTimed s cursor count ps t
  are_timed s t cursor count [] takes = record { same = ap until takes; kept = inl (ap locates takes); taken = ap (tracked_by cursor) takes; early = tt }
  are_timed s t cursor count (p ∷ ps) (mid, (untils, keeps, took, early), rest) =
      let later = are_timed mid t (cursor_past cursor p) (count + 1) ps rest in
      record {
        same = later.same ∙ untils;
        kept = keeps_both (locates s) (locates mid) (locates t) keeps later.kept;
        taken = (tracked_by (cursor_past cursor p) mid, (took, refl), later.taken);
        early = (early, subst (λ u. AllByRecursion (IsNotLate (before_time u)) ps) untils later.early);
      }

  module _ (old new : Reading R) (before count : ℕ) (s t : T) (why : PartStop Untaken) (reads : ReadsPart remaining failed_reads Takes Left (counted None) old new before count s why t) (cursor : DayCursor) where
    are : AreTimed s cursor before reads.payloads reads.last
    are = are_timed s reads.last cursor before reads.payloads reads.taken.taken

    abbrev after : DayCursor
    after = cursor_after cursor reads.payloads

    abbrev limit : Limit
    limit = before_time (until s)

    abbrev Stops : PartStop Untaken → Type 0
    Stops stop = StopsAt remaining Left (counted None) count new reads.last stop t

    tracked_stops : (stop : PartStop Untaken) → Stops stop → StopsAt remaining (RefusesTracked RefusesMessage) limit count new (tracked_by after reads.last) (stop_by stop) (tracked_by after t)
    tracked_stops part.Full (same, (most, is, all)) = absurd (cc is)
    tracked_stops part.Late (same, before, (p, next, full, few, late)) = absurd (cc late.1)
    tracked_stops part.End (same, before, end) = (ap (tracked_by after) same, tt, end)
    tracked_stops (part.Frame (Truncated held)) (same, before, cut, is_held, some) = (ap (tracked_by after) same, tt, cut, is_held, some)
    tracked_stops (part.Frame (Read error)) (same, before, going) = (ap (tracked_by after) same, tt, going)
    tracked_stops (part.Frame (Write sent error)) never = absurd never
    tracked_stops (part.Frame TooLong) never = absurd never
    tracked_stops part.TooMany (same, before, many) = (ap (tracked_by after) same, tt, many)
    tracked_stops (part.Refused untaken.Late) (before, (p, next, full, few, early, (same, late, apart))) =
        (ap (tracked_by after) same, tt, (p, next, full, few, (late.0, subst (λ (u : Option ℕ). is_late u (message_of p) ≡ true) are.same late.1)))
    tracked_stops (part.Refused (untaken.Refused f)) (before, (p, next, full, few, early, (same, (refuses, not_late), apart))) = (
      tt,
      (p, next, full, few, subst (λ u. IsNotLate (before_time u) p) are.same not_late, (subst (RefusesMessage (market reads.last) (count + 1) p f) (ap market (sym same)) refuses, refl)),
    )

    tracked_leaves : (stop : PartStop Untaken) → Leaves old (length reads.payloads) stop new → Leaves old (length reads.payloads) (stop_by stop) new
    tracked_leaves part.Full stays = stays
    tracked_leaves part.Late stays = stays
    tracked_leaves part.End stays = stays
    tracked_leaves (part.Frame f) stays = stays
    tracked_leaves part.TooMany stays = stays
    tracked_leaves (part.Refused untaken.Late) stays = stays
    tracked_leaves (part.Refused (untaken.Refused f)) stays = stays

    tracked_counts : (stop : PartStop Untaken) → CountsPart stop (failed_reads old.reader) (failed_reads new.reader) → CountsPart (stop_by stop) (failed_reads old.reader) (failed_reads new.reader)
    tracked_counts part.Full same = same
    tracked_counts part.Late same = same
    tracked_counts part.End same = same
    tracked_counts (part.Frame f) same = same
    tracked_counts part.TooMany same = same
    tracked_counts (part.Refused untaken.Late) same = same
    tracked_counts (part.Refused (untaken.Refused f)) same = same

    -- for a market with a cursor this was a part that ends before the time
    timed_part : ReadsPart remaining failed_reads (TakesTracked TakesMessage) (RefusesTracked RefusesMessage) limit old new before count (tracked_by cursor s) (stop_by why) (tracked_by after t)
    timed_part = record {
      payloads = reads.payloads;
      last = tracked_by after reads.last;
      taken = record { bytes = reads.taken.bytes; full = reads.taken.full; early = are.early; wanted = λ some. tt; taken = are.taken; counted = reads.taken.counted };
      stops = tracked_stops why reads.stops;
      leaves = tracked_leaves why reads.leaves;
      counts = tracked_counts why reads.counts;
    }

  module _ (old new : Reading R) (before count : ℕ) (s t : T) (why : PartStop Untaken) (reads : ReadsPart remaining failed_reads Takes Left (counted None) old new before count s why t) where
    -- the reading stands at the time then, if it stood at an earlier one before
    pub timed_stops : (first : Reading R) (limit : Limit) (stop : PartStop Refused) (tracked : Tracked Content) → Stands remaining failed_reads limit first old tracked stop → IsAt tracked (market s) before
        → GoesOnTo limit stop tracked.cursor.count (before_time (until s)) → StopsSo remaining failed_reads (before_time (until s)) first new (reason_of (stop_by why)) (market t) count
    timed_stops first limit stop tracked stands at to =
        let cursor = tracked.cursor in
        let later : Tracked Content = record { sink = market t; cursor = cursor_after cursor reads.payloads } in
        let on = subst (λ k. ReadsPart remaining failed_reads (TakesTracked TakesMessage) (RefusesTracked RefusesMessage) (before_time (until s)) old new k count (record { sink = market s; cursor = cursor }) (stop_by why) later)
        (sym at.counted) (timed_part old new before count s t why reads cursor) in
        let from = subst (λ m. ReadsPart remaining failed_reads (TakesTracked TakesMessage) (RefusesTracked RefusesMessage) (before_time (until s)) old new cursor.count count (record { sink = m; cursor = cursor }) (stop_by why) later)
        (sym at.market) on in
        let number : later.cursor.count ≡ count = (let more = count-cursor_after cursor reads.payloads in let all = reads.taken.counted in let had = at.counted in omega (arith, more, all, had)) in (
          stop_by why,
          refl,
          (
            later,
            stands_on remaining failed_reads (before_time (until s)) first new count later (stop_by why) number
                (joined_to remaining failed_reads (TakesTracked TakesMessage) (RefusesTracked RefusesMessage) limit (before_time (until s)) first old new 0 cursor.count count begun tracked later stop (stop_by why) to stands from),
            record { market = refl; counted = number },
          ),
        )

    -- the locates that are kept apart then
    pub timed_kept : Keeps (locates s) (locates t)
    timed_kept = by_stop why reads.stops where
      last : Keeps (locates s) (locates reads.last)
      last = AreTimed.kept (are_timed s reads.last (record { count = 0; offset = 0; latest = None }) before reads.payloads reads.taken.taken)

      kept : t ≡ reads.last → Keeps (locates s) (locates t)
      kept same = subst (λ u. Keeps (locates s) (locates u)) (sym same) last

      by_stop : (stop : PartStop Untaken) → StopsAt remaining Left (counted None) count new reads.last stop t → Keeps (locates s) (locates t)
      by_stop part.Full (same, (most, is, all)) = kept same
      by_stop part.Late (same, before, late) = kept same
      by_stop part.End (same, before, end) = kept same
      by_stop (part.Frame (Truncated held)) (same, before, cut, is_held, some) = kept same
      by_stop (part.Frame (Read error)) (same, before, going) = kept same
      by_stop (part.Frame (Write sent error)) never = absurd never
      by_stop (part.Frame TooLong) never = absurd never
      by_stop part.TooMany (same, before, many) = kept same
      by_stop (part.Refused f) (before, (p, next, full, few, early, (same, untakes, apart))) = kept same

    -- their market, if the reading may go on
    pub timed_apart : UnlessRefused why (IsApart (locates t) (market t) (own t)) → UnlessStopped (reason_of (stop_by why)) (IsApart (locates t) (market t) (own t))
    timed_apart ready = by_stop why reads.stops ready where
      by_stop : (stop : PartStop Untaken) → StopsAt remaining Left (counted None) count new reads.last stop t → UnlessRefused stop (IsApart (locates t) (market t) (own t))
          → UnlessStopped (reason_of (stop_by stop)) (IsApart (locates t) (market t) (own t))
      by_stop part.Full stops ready = ready
      by_stop part.Late stops ready = ready
      by_stop part.End stops ready = ready
      by_stop (part.Frame f) stops ready = tt
      by_stop part.TooMany stops ready = tt
      by_stop (part.Refused untaken.Late) (before, (p, next, full, few, early, (same, untakes, apart))) ready = subst (λ u. IsApart (locates u) (market u) (own u)) (sym same) apart
      by_stop (part.Refused (untaken.Refused (refused.Codec f))) stops ready = tt
      by_stop (part.Refused (untaken.Refused (refused.Rule f))) stops ready = tt

-- a decoded message is taken, or left
pub timed_so : {T : Type 0} (locates : T → Apart) (market own : T → Content) (until : T → Option ℕ) (s t : T) (x : Message) (number : ℕ) (payload : List ℕ) → Decodes payload (Ok x)
    → IsApart (locates s) (market s) (own s) → (result : Result (Unit {0}) Untaken) → PassesTimed (until s) x (market s) result (market t)
    → MatchResult result (λ _. (until t ≡ until s) × Keeps (locates s) (locates t)) (λ _. t ≡ s)
    → MatchResult result (λ _. TakesTimed locates market until s number payload t) (λ why. LeavesTimed locates market own until s number payload why t)
timed_so locates market own until s t x number payload decodes apart (Ok done) passes kept =
    let both = timed_taken (until s) x (market s) number payload decodes (market t) passes in
    (kept.0, kept.1, both.0, both.1)
timed_so locates market own until s t x number payload decodes apart (Err why) passes kept = (kept, timed_untaken (until s) x (market s) number payload decodes why (market t) passes, apart)

-- a new pass stands at the beginning of its reader
pub new_stands : {R : Type 0} (remaining : R → Option (List ℕ)) (failed_reads : R → Failures) (given reader : Reading R) → reader ≡ given
    → Stands remaining failed_reads (record { after = Some 0; until = Some 0 }) given reader begun part.Full
new_stands remaining failed_reads given reader same =
    subst (λ (r : Reading _). Stands remaining failed_reads (record { after = Some 0; until = Some 0 }) given r begun part.Full) (sym same)
    (stands_first remaining failed_reads (Some 0) given empty first_cursor refl refl)

pub new_at : (m : Content) (count : ℕ) → m ≡ empty → count ≡ 0 → IsAt begun m count
new_at m count none first = record { market = sym none; counted = sym first }
