-- A market whose messages are counted: the tally of the messages that were read.
use Rattle.std.proofs.Common.{◌≡◌, ◌≢◌, ℕ, ◌+◌, ◌-◌, ◌^◌, ◌<◌, ◌≤◌, ◌⊎◌, Bool, true, false, max, List, [], ◌∷◌, ◌++◌, map, length, Option, None, Some, Result, Ok, Err, inl, inr, refl, sym, ap, subst, ◌∙◌, arith, append-nil, append_assoc, ◌==◌, if◌then◌else◌}
use Rattle.std.specs.Prelude.{slice_index}
use Rattle.std.specs.FinMap as finite
use Rattle.std.specs.List.{AllByRecursion}
use Rattle.std.proofs.lemmas.List.Sums.{sum_by-cons}
use Rattle.itch_book.specs.Orders.{AllFit, IsLive, stands_before}
use Rattle.itch_book.specs.declared.order.Order.{Order}
use Rattle.itch_book.proofs.OrderLemmas.{lay_fit}
use Rattle.itch_book.proofs.StableLemmas.{length-in_order}
use Rattle.itch_codec.specs.Headers.{kind_of}
use Rattle.itch_codec.specs.Messages.{fault, message_of}
use Rattle.itch_codec.specs.declared.message.Message.{Message}
use Rattle.itch_frame.specs.Reading.{Reading, bytes_left}
use Rattle.itch_frame.specs.declared.fault.FrameFault.TheVariants.{Read, Truncated, Write, TooLong}
use Rattle.itch_frame.specs.declared.tally.Failures.{Failures}
use Rattle.itch_day.specs.DayCursors.{IsDayCursor, RefusesTracked, TakesTracked, first_cursor, cursor_after}
use Rattle.itch_day.specs.Parts.{ReadsPart, StopsAt}
use Rattle.itch_day.specs.Passing.{left_by}
use Rattle.itch_day.specs.Sinks.{TakesAll}
use Rattle.itch_day.specs.declared.limit.Limit.{Limit}
use Rattle.itch_day.specs.declared.cursor.DayCursor.{DayCursor}
use Rattle.itch_day.specs.declared.tracked.Tracked.{Tracked}
use Rattle.itch_day.specs.declared.stop.PartStop.{PartStop as Part}
use Rattle.itch_day.specs.declared.stop.PartStop.TheVariants as part
use Rattle.itch_day.proofs.DayCursors.{is_cursor, tracked_after}
use Rattle.itch_market.specs.Content.{Content, empty, laid}
use Rattle.itch_market.specs.Effects.{effect}
use Rattle.itch_market.specs.GoodMarkets.{IsGood}
use Rattle.itch_market.specs.Stops.{cause}
use Rattle.itch_market.specs.Takings.{RefusesMessage, TakesMessage, reason_of}
use Rattle.itch_market.specs.declared.refused.Refused.{Refused}
use Rattle.itch_market.specs.Runs.{run}
use Rattle.itch_market.proofs.Causes.{none_clean}
use Rattle.itch_market.proofs.GoodMarkets.{empty_good}
use Rattle.itch_market.proofs.ReplayProgress.{taken_on}
use Rattle.itch_join.proofs.Premises.{laid_empty}
use Rattle.itch_commands.specs.FirstDifferences.{IsRefusedAfter, over}
use Rattle.itch_commands.specs.Expectations.{is_last}
use Rattle.itch_commands.specs.Infos.{ReadsBefore, events_text, fault_of, head_text, info_of, info_text, middle_text, tail_text}
use Rattle.itch_commands.specs.Readings.{ReadsDay, stopped}
use Rattle.itch_commands.specs.Tallies.{IsCounted, IsListed, IsNew, IsTally, count_of, earliest, event_of, events_from, live, peak_from, summary_by, summary_of}
use Rattle.itch_commands.specs.declared.fault.Source.TheVariants.{Only}
use Rattle.itch_commands.specs.declared.fault.ToolFault.{ToolFault}
use Rattle.itch_commands.specs.declared.info.events.Event.{Event}
use Rattle.itch_commands.specs.declared.form.ReportForm.{ReportForm}
use Rattle.itch_commands.specs.declared.info.summary.Summary.{Summary}
use Rattle.itch_commands.specs.declared.info.tally.Tally.{Tally}
use Rattle.itch_commands.proofs.InfoTexts.{types_same}
use Rattle.itch_commands.proofs.FirstDifferences.{applied, over_ends, over_fails, read_over, stopped_count}
use Rattle.itch_commands.proofs.ReadParts.{applied_by, kept_by, number_by, refused_by, taken_by}

all_fit : (orders : List Order) → AllByRecursion IsLive orders → AllFit orders
all_fit [] all = tt
all_fit (x ∷ orders) (one, all) = (one.1, all_fit orders all)

-- laying orders keeps their number
live_laid : (m : Content) → IsGood m → live (laid m) ≡ live m
live_laid m good =
    ap (length {A = Order}) (lay_fit m.orders (all_fit m.orders good.live)) ∙ length-in_order stands_before m.orders

some_first : {X : Type 0} (xs ys : List X) → xs ≢ [] → xs ++ ys ≢ []
some_first [] ys some none = some refl
some_first (x ∷ xs) ys some none = absurd (cc)

some_last : {X : Type 0} (xs ys : List X) → ys ≢ [] → xs ++ ys ≢ []
some_last [] ys some none = some none
some_last (x ∷ xs) ys some none = absurd (cc)

-- one more message has a type, or it does not
one_more : (kind : ℕ) (message : Message) (rest : List Message) (before mid after : ℕ) → mid ≡ before + (if kind_of message == kind then 1 else 0) → after ≡ mid + count_of kind rest
    → after ≡ before + count_of kind (message ∷ rest)
one_more kind message rest before mid after one more =
    let step : count_of kind (message ∷ rest) ≡ (if kind_of message == kind then 1 else 0) + count_of kind rest = sum_by-cons (λ (x : Message). if kind_of x == kind then 1 else 0) message rest in
    omega (arith, one, more, step)

-- an event is lost
lost_by : (before now : Bool) (one rest : List Event) → (now ≡ false → (before ≡ false) ⊎ (one ≢ [])) → (now ≡ false) ⊎ (rest ≢ []) → (before ≡ false) ⊎ (one ++ rest ≢ [])
lost_by before now one rest lost (inl gone) = by_one (lost gone) where
  by_one : (before ≡ false) ⊎ (one ≢ []) → (before ≡ false) ⊎ (one ++ rest ≢ [])
  by_one (inl first) = inl first
  by_one (inr some) = inr (some_first one rest some)
lost_by before now one rest lost (inr some) = inr (some_last one rest some)

module _ {T : Type 0} (market : T → Content) (tally : T → Tally) (complete : T → Bool) (events : T → List Event) where
  -- a sink that counts the messages that its market takes
  abbrev pub TakesTallied : T → ℕ → List ℕ → T → Type 0
  TakesTallied s number payload t =
      TakesMessage (market s) number payload (market t) × IsCounted (tally s) (message_of payload) (market t) (tally t)
      × IsListed (complete s) (events s) number (message_of payload) (complete t) (events t)

  abbrev pub RefusesTallied : T → ℕ → List ℕ → Refused → T → Type 0
  RefusesTallied s number payload why t =
      RefusesMessage (market s) number payload why (market t) × (tally t ≡ tally s) × (complete t ≡ complete s) × (events t ≡ events s)

  -- nothing is counted between these
  abbrev pub Keeps : T → T → Type 0
  Keeps s t = (tally t ≡ tally s) × (complete t ≡ complete s) × (events t ≡ events s)

  keeps_same : (s t : T) → t ≡ s → Keeps s t
  keeps_same s t same = (ap tally same, ap complete same, ap events same)

  abbrev TakesAllTracked : Tracked T → ℕ → List (List ℕ) → Tracked T → Type 0
  TakesAllTracked s count ps t = TakesAll (TakesTracked TakesTallied) s count ps t

  market_all : (s t : Tracked T) (count : ℕ) (ps : List (List ℕ)) → TakesAllTracked s count ps t → TakesAll TakesMessage (market s.sink) count ps (market t.sink)
  market_all s t count [] same = ap (λ (x : Tracked T). market x.sink) same
  market_all s t count (p ∷ ps) (mid, ((took, counted, listed), tracked), rest) = (market mid.sink, took, market_all mid t (count + 1) ps rest)

  -- the tally of these messages, taken by a market that is this one laid
  pub record Counted (m : Content) (s : T) (count : ℕ) (ms : List Message) (t : T) : Type 0 where
    pub counts : (kind : ℕ) → kind < 256 → slice_index (Tally.counts (tally t)).counts kind ≡ slice_index (Tally.counts (tally s)).counts kind + count_of kind ms
    pub first : Tally.first (tally t) ≡ earliest (Tally.first (tally s)) ms
    pub peak : Tally.peak (tally t) ≡ max (Tally.peak (tally s)) (peak_from m ms)
    pub listed : complete t ≡ true → (complete s ≡ true) × (events t ≡ events s ++ events_from (count + 1) ms)
    pub lost : complete t ≡ false → (complete s ≡ false) ⊎ (events_from (count + 1) ms ≢ [])

  counted_all : (m : Content) (s t : Tracked T) (count : ℕ) (ps : List (List ℕ)) → IsGood m → market s.sink ≡ laid m → TakesAllTracked s count ps t
      → Counted m s.sink count (map message_of ps) t.sink
  counted_all m s t count [] good same takes = record {
    counts = λ kind within. let is = ap (λ (x : Tracked T). slice_index (Tally.counts (tally x.sink)).counts kind) takes in omega (arith, is);
    first = ap (λ (x : Tracked T). Tally.first (tally x.sink)) takes;
    peak = let is = ap (λ (x : Tracked T). Tally.peak (tally x.sink)) takes in omega (arith, is);
    listed = λ whole. (sym (ap (λ (x : Tracked T). complete x.sink) takes) ∙ whole, ap (λ (x : Tracked T). events x.sink) takes ∙ sym (append-nil (events s.sink)));
    lost = λ gone. inl (sym (ap (λ (x : Tracked T). complete x.sink) takes) ∙ gone);
  }
  counted_all m s t count (p ∷ ps) good same (mid, (((clean, fits, took), counted, listed), tracked), rest) =
      let message : Message = message_of p in
      let (none, left, still) = taken_on m (market s.sink) (market mid.sink) p good same clean fits took in
      let later = counted_all (effect m message) mid t (count + 1) ps still left rest in
      let as_many : live (market mid.sink) ≡ live (effect m message) = ap live left ∙ live_laid (effect m message) still in
      record {
        counts = λ kind within. one_more kind message (map message_of ps) _ _ _ (counted.counts kind within) (later.counts kind within);
        first = later.first ∙ ap (λ time. earliest time (map message_of ps)) counted.first;
        peak = omega (arith, later.peak, counted.peak, as_many);
        listed = λ whole. let (before, more) = later.listed whole in let (first, one) = listed.complete before in (
          first,
          more ∙ ap (λ xs. xs ++ events_from (count + 1 + 1) (map message_of ps)) one ∙ append_assoc (events s.sink) (event_of (count + 1) message) (events_from (count + 1 + 1) (map message_of ps)),
        );
        lost = λ gone. lost_by (complete s.sink) (complete mid.sink) (event_of (count + 1) message) (events_from (count + 1 + 1) (map message_of ps)) listed.lost (later.lost gone);
      }

  module _ {R : Type 0} (remaining : R → Option (List ℕ)) (failures : R → Failures) (limit : Limit) where
    abbrev RefusesAll : Tracked T → ℕ → List ℕ → Refused → Tracked T → Type 0
    RefusesAll = RefusesTracked RefusesTallied

    market_same : (s t : Tracked T) → t ≡ s → (market t.sink ≡ market s.sink) × Keeps s.sink t.sink
    market_same s t same = (ap (λ (x : Tracked T). market x.sink) same, keeps_same s.sink t.sink (ap (λ (x : Tracked T). x.sink) same))

    market_stop : (count : ℕ) (r : Reading R) (s t : Tracked T) (stop : Part Refused) → StopsAt remaining RefusesAll limit count r s stop t
        → StopsAt remaining RefusesMessage limit count r (market s.sink) stop (market t.sink) × Keeps s.sink t.sink
    market_stop count r s t part.Full (same, all) = let is = market_same s t same in ((is.0, all), is.1)
    market_stop count r s t part.Late (same, before, late) = let is = market_same s t same in ((is.0, before, late), is.1)
    market_stop count r s t part.End (same, before, end) = let is = market_same s t same in ((is.0, before, end), is.1)
    market_stop count r s t (part.Frame (Truncated held)) (same, before, cut, is_held, open_end) = let is = market_same s t same in ((is.0, before, cut, is_held, open_end), is.1)
    market_stop count r s t (part.Frame (Read error)) (same, before, going) = let is = market_same s t same in ((is.0, before, going), is.1)
    market_stop count r s t (part.Frame (Write sent error)) never = absurd never
    market_stop count r s t (part.Frame TooLong) never = absurd never
    market_stop count r s t part.TooMany (same, before, many) = let is = market_same s t same in ((is.0, before, many), is.1)
    market_stop count r s t (part.Refused why) (before, (p, next, full, room, early, ((refuses, same, as_complete, same_events), tracked))) =
        ((before, (p, next, full, room, early, refuses)), (same, as_complete, same_events))

    -- reading a part has the same effect on it as on the market
    market_part : (old new : Reading R) (before count : ℕ) (s t : Tracked T) (stop : Part Refused) → ReadsPart remaining failures (TakesTracked TakesTallied) RefusesAll limit old new before count s stop t
        → ReadsPart remaining failures TakesMessage RefusesMessage limit old new before count (market s.sink) stop (market t.sink)
    market_part old new before count s t stop reads =
        let taken = reads.taken in
        record {
          payloads = reads.payloads;
          last = market reads.last.sink;
          taken = record {
            bytes = taken.bytes;
            full = taken.full;
            early = taken.early;
            wanted = taken.wanted;
            taken = market_all s reads.last before reads.payloads taken.taken;
            counted = taken.counted;
          };
          stops = (market_stop count new reads.last t stop reads.stops).0;
          leaves = reads.leaves;
          counts = reads.counts;
        }

  module _ {R : Type 0} (remaining : R → Option (List ℕ)) (failures : R → Failures) (limit : Limit) (old mid : Reading R) (count : ℕ) (few : count ≤ 10 ^ 19 - 1) (s t : Tracked T) (stop : Part Refused)
      (reads : ReadsPart remaining failures (TakesTracked TakesTallied) (RefusesTracked RefusesTallied) limit old mid 0 count s stop t) (begun : s.cursor ≡ first_cursor)
      (first : market s.sink ≡ empty) where
    -- the same part, read into a market that begins as this one
    record ReadInto (m : Content) : Type 0 where
      pub part : ReadsPart remaining failures TakesMessage RefusesMessage limit old mid 0 count m stop (market t.sink)
      pub these : part.payloads ≡ reads.payloads

    into_empty : ReadInto empty
    unfolding market_part
    into_empty = subst ReadInto first record { part = market_part remaining failures limit old mid 0 count s t stop reads; these = refl }

    -- the messages before this stop were read
    pub read_before : (result : Result (Unit {0}) ToolFault) → result ≡ over (reason_of stop) limit Only count
        → ReadsBefore remaining failures limit old (left_by stop mid) reads.payloads (fault_of result)
    read_before (Ok done) is =
        subst (λ ps. ReadsDay remaining failures Only limit old (left_by stop mid) (Ok ps)) into_empty.these
        (read_over remaining failures Only limit old mid count (market t.sink) few stop into_empty.part (over_ends (reason_of stop) limit Only count (sym is)))
    read_before (Err why) is =
        let read = into_empty.part in
        let (cause, because, fails) = over_fails (reason_of stop) limit Only count why (sym is) in
        let takes = taken_by remaining failures Only limit old mid count (market t.sink) few stop read in
        let number = number_by remaining failures Only limit old mid count (market t.sink) few stop read in
        subst (λ ps. IsRefusedAfter remaining failures Only limit old (left_by stop mid) why ps) into_empty.these record {
          refused = refused_by remaining failures Only limit old mid count (market t.sink) few stop read cause why because fails;
          counted = stopped_count cause limit.after Only count why fails ∙ ap Some (sym number);
          taken = (applied limit (bytes_left remaining old) (bytes_left remaining mid) count read.payloads (market t.sink) takes).taken;
          front = (bytes_left remaining mid, read.taken.bytes);
        }

    -- and this is their tally
    pub is_tally : IsNew (tally s.sink) → complete s.sink ≡ true → events s.sink ≡ [] → IsTally reads.payloads t.cursor (market t.sink) (tally t.sink) (complete t.sink) (events t.sink)
    is_tally new whole none =
        let ms : List Message = map message_of reads.payloads in
        let c = counted_all empty s reads.last 0 reads.payloads empty_good (first ∙ sym laid_empty) reads.taken.taken in
        let (same, as_complete, same_events) = (market_stop remaining failures limit count mid reads.last t stop reads.stops).1 in
        let applied = applied_by remaining failures Only limit old mid count (market t.sink) few stop into_empty.part in
        let kept = kept_by remaining failures Only limit old mid count (market t.sink) few stop into_empty.part in
        record {
          tracked =
              subst (λ (k : DayCursor). IsDayCursor k reads.payloads)
              (sym (tracked_after remaining failures TakesTallied RefusesTallied limit old mid 0 count s stop t reads ∙ ap (λ k. cursor_after k reads.payloads) begun))
              (is_cursor reads.payloads (subst (AllByRecursion (λ p. fault p ≡ None)) into_empty.these (none_clean empty into_empty.part.payloads applied.none)));
          market = kept ∙ applied.left ∙ ap (λ ps. laid (run (map message_of ps))) into_empty.these;
          good = subst (λ ps. IsGood (run (map message_of ps))) into_empty.these applied.good;
          counts = λ kind within. let now = ap (λ (x : Tally). slice_index x.counts.counts kind) same in omega (arith, now, c.counts kind within, new.counts kind within);
          first = ap (λ (x : Tally). x.first) same ∙ c.first ∙ ap (λ time. earliest time ms) new.first;
          peak = let now = ap (λ (x : Tally). x.peak) same in omega (arith, now, c.peak, new.peak);
          listed = λ all. let (before, more) = c.listed (sym as_complete ∙ all) in same_events ∙ more ∙ ap (λ xs. xs ++ events_from 1 ms) none;
          lost = λ gone. lost_here ms (c.lost (sym as_complete ∙ gone));
        } where
          lost_here : (ms : List Message) → (complete s.sink ≡ false) ⊎ (events_from 1 ms ≢ []) → events_from 1 ms ≢ []
          lost_here ms (inl first) = absurd (cc)
          lost_here ms (inr some) = some

same_summary : (a b c d e f g h i j : ℕ) (p q r s : Option ℕ) (t u : Bool) → a ≡ b → c ≡ d → p ≡ q → r ≡ s → e ≡ f → g ≡ h → i ≡ j → t ≡ u
    → ◌≡◌ {A = Summary} record { count = a; bytes = c; first = p; last = r; stocks = e; live = g; peak = i; is_ended = t } record { count = b; bytes = d; first = q; last = s; stocks = f; live = h; peak = j; is_ended = u }
same_summary a b c d e f g h i j p q r s t u one two three four five six seven eight = rw (one, two, three, four, five, six, seven, eight) refl

-- the text about the tally is the text about the messages
pub told_text : (form : ReportForm) (payloads : List (List ℕ)) (cursor : DayCursor) (m : Content) (tally : Tally) (events : List Event) → IsTally payloads cursor m tally true events
    → info_text form (summary_by cursor m tally) (slice_index tally.counts.counts) events ≡ info_of form payloads
told_text form payloads cursor m tally events is =
    let ms : List Message = map message_of payloads in
    let counts : ℕ → ℕ = slice_index tally.counts.counts in
    let summaries : summary_by cursor m tally ≡ summary_of payloads = same_summary _ _ _ _ _ _ _ _ _ _ _ _ _ _ _ _ is.tracked.count is.tracked.offset is.first is.tracked.latest
    (ap (λ (x : Content). length (finite.keys x.securities)) is.market) (ap live is.market ∙ live_laid (run ms) is.good) is.peak (ap (λ (x : Content). is_last x.event) is.market) in
    ap (λ s. info_text form s counts events) summaries
    ∙ ap (λ text. head_text form (summary_of payloads) ++ (text ++ (middle_text form ++ (events_text form true events ++ tail_text form)))) (types_same form counts (λ kind. count_of kind ms) true 0 256 refl is.counts)
    ∙ ap (λ es. info_text form (summary_of payloads) (λ kind. count_of kind ms) es) (is.listed refl)
