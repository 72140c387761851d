-- The positions of two files after some messages of each, and after one more.
use Rattle.std.proofs.Common.{◌≡◌, ℕ, zero, suc, Result, ◌+◌, ◌-◌, ◌^◌, ◌≤◌, ◌<◌, ◌⊎◌, Bool, true, false, List, [], ◌∷◌, ◌++◌, map, take, length, Option, None, Some, IfSome, Ok, Err, inl, inr, refl, sym, ap, subst, ◌∙◌, ◌↔◌, arith, length-append}
use Rattle.std.specs.List.{AllByRecursion}
use Rattle.std.specs.Io.KnownBytes.{Consumes}
use Rattle.std.proofs.KnownBytes.{Consumes-nil, Consumes-trans}
use Rattle.std.proofs.lemmas.Bool.{cases_lt}
use Rattle.std.proofs.lemmas.List.{take_all, take-append-le}
use Rattle.itch_codec.specs.Messages.{message_of}
use Rattle.itch_codec.specs.declared.message.Message.{Message}
use Rattle.itch_frame.specs.Blocks.{blocks, IsFull}
use Rattle.itch_frame.specs.Reading.{Reading, bytes_left}
use Rattle.itch_frame.specs.declared.fault.FrameFault.TheVariants.{Read, Truncated, Write, TooLong}
use Rattle.itch_frame.specs.declared.tally.Failures.{Failures}
use Rattle.itch_frame.proofs.BlockLemmas.{blocks-append, each-append}
use Rattle.itch_day.specs.Limits.{IsBefore, IsNotLate, IsWithin, most_of}
use Rattle.itch_day.specs.Parts.{Counts, Leaves, ReadsPart, StopsAt}
use Rattle.itch_day.specs.Sinks.{TakesAll}
use Rattle.itch_day.specs.declared.limit.Limit.{Limit}
use Rattle.itch_day.specs.declared.stop.PartStop.{PartStop as Part}
use Rattle.itch_day.specs.declared.stop.PartStop.TheVariants as part
use Rattle.itch_day.proofs.Joined.{leaves_both}
use Rattle.itch_day.proofs.Progress.{takes_both}
use Rattle.itch_market.specs.Content.{Content, empty, laid}
use Rattle.itch_market.specs.DayParts.{TakesEarly}
use Rattle.itch_market.specs.GoodMarkets.{IsGood}
use Rattle.itch_market.specs.Plain.{nothing}
use Rattle.itch_market.specs.Reasons.{reason}
use Rattle.itch_market.specs.Replays.{Fits}
use Rattle.itch_market.specs.Runs.{run}
use Rattle.itch_market.specs.SameMarkets.{Same}
use Rattle.itch_day.specs.Passing.{left_by}
use Rattle.itch_market.specs.Takings.{RefusesMessage, TakesMessage, reason_of}
use Rattle.itch_market.specs.declared.refused.Refused.{Refused}
use Rattle.itch_market.specs.declared.refused.Refused.TheVariants as refused
use Rattle.itch_market.specs.declared.stop.Stop.{Stop}
use Rattle.itch_market.specs.declared.stop.Stop.TheVariants.{End, Frame, Codec, Rule, TooManyMessages}
use Rattle.itch_market.proofs.GoodMarkets.{laid_good}
use Rattle.itch_snapshot.specs.Snapshot.{snap}
use Rattle.itch_market.specs.DayMessages.{AreTaken}
use Rattle.itch_commands.specs.FirstDifferences.{IsSameAt, limited_to, count_of, over, ReadsUpTo, IsRefusedAfter, FindsFirst}
use Rattle.itch_commands.specs.Readings.{ReadsDay, stopped}
use Rattle.itch_commands.specs.declared.fault.Source.{Source}
use Rattle.itch_commands.specs.declared.fault.Source.TheVariants.{First, Second}
use Rattle.itch_commands.specs.declared.fault.ToolFault.{ToolFault}
use Rattle.itch_commands.specs.declared.fault.ToolFault.TheVariants as tool
use Rattle.itch_snapshot.proofs.DaySnapshots.{taken_few}
use Rattle.itch_market.proofs.DayMessages.{taken_good}
use Rattle.itch_commands.proofs.PartReadings.{all_wanted}
use Rattle.itch_commands.proofs.ReadParts.{all_by, applied_by, kept_at, kept_by, refused_by, taken_by, whole_by}
use Rattle.itch_commands.proofs.TrackedMarkets.{Changed, Denies, Tracks, alike_same, laid_alike, market_part, one_changed, same_self}

count_by : (f fault : ToolFault) (count : ℕ) → count_of f ≡ Some count → ◌≡◌ {A = Result ℕ ToolFault} (Err f) (Err fault) → count_of fault ≡ Some count
count_by f fault count counted is = let same : f ≡ fault = cc in subst (λ g. count_of g ≡ Some count) same counted

-- the number of messages before the fault of a stop
pub stopped_count : (stop : Stop) (wanted : Option ℕ) (file : Source) (count : ℕ) (fault : ToolFault) → stopped stop wanted file count ≡ Err fault → count_of fault ≡ Some count
stopped_count End None file count fault is = absurd (cc)
stopped_count End (Some most) file count fault is = count_by (tool.Short file count) fault count refl is
stopped_count (Frame f) wanted file count fault is = count_by (tool.Stopped file (record { count = count; stop = Frame f })) fault count refl is
stopped_count (Codec f) wanted file count fault is = count_by (tool.Stopped file (record { count = count; stop = Codec f })) fault count refl is
stopped_count (Rule why) wanted file count fault is = count_by (tool.Stopped file (record { count = count; stop = Rule why })) fault count refl is
stopped_count TooManyMessages wanted file count fault is = count_by (tool.Stopped file (record { count = count; stop = TooManyMessages })) fault count refl is

-- a stop with a number as its result is the end of the file, if no number of messages was requested
pub stopped_end : (stop : Stop) (wanted : Option ℕ) (file : Source) (count some : ℕ) → stopped stop wanted file count ≡ Ok some → (stop ≡ End) × (wanted ≡ None)
stopped_end End None file count some is = (refl, refl)
stopped_end End (Some most) file count some is = absurd (cc)
stopped_end (Frame f) wanted file count some is = absurd (cc)
stopped_end (Codec f) wanted file count some is = absurd (cc)
stopped_end (Rule why) wanted file count some is = absurd (cc)
stopped_end TooManyMessages wanted file count some is = absurd (cc)

-- a count below a number is within it, and so is one more
pub within_more : (wanted : Option ℕ) (count : ℕ) → IfSome wanted (λ most. count < most) → IfSome wanted (λ most. count + 1 ≤ most)
within_more None count before = tt
within_more (Some most) count before = omega arith

pub within_so_far : (wanted : Option ℕ) (count : ℕ) → IfSome wanted (λ most. count < most) → IfSome wanted (λ most. count ≤ most)
within_so_far None count before = tt
within_so_far (Some most) count before = omega arith

-- these payloads were applied, and left this market
pub record AreApplied (limit : Limit) (p : List (List ℕ)) (n : Content) : Type 0 where
  pub taken : AreTaken limit p
  pub fits : AllByRecursion Fits p
  pub left : n ≡ laid (run (map message_of p))

-- the end of the comparison if a file stops
pub over_ends : (why : Option Stop) (limit : Limit) (file : Source) (count : ℕ) → over why limit file count ≡ Ok tt → (why ≡ None) ⊎ ((why ≡ Some End) × (limit.after ≡ None))
over_ends None limit file count is = inl refl
over_ends (Some stop) limit file count is = by_stop (stopped stop limit.after file count) refl where
  by_stop : (result : Result ℕ ToolFault) → stopped stop limit.after file count ≡ result → (Some stop ≡ None) ⊎ ((Some stop ≡ Some End) × (limit.after ≡ None))
  by_stop (Ok some) returns = let (at, whole) = stopped_end stop limit.after file count some returns in inr (ap Some at, whole)
  by_stop (Err fault) returns = absurd (cc)

pub over_fails : (why : Option Stop) (limit : Limit) (file : Source) (count : ℕ) (fault : ToolFault) → over why limit file count ≡ Err fault
    → (stop : Stop) × (why ≡ Some stop) × (stopped stop limit.after file count ≡ Err fault)
over_fails None limit file count fault is = absurd (cc)
over_fails (Some stop) limit file count fault is = by_stop (stopped stop limit.after file count) refl where
  by_stop : (result : Result ℕ ToolFault) → stopped stop limit.after file count ≡ result → (why : Stop) × (Some stop ≡ Some why) × (stopped why limit.after file count ≡ Err fault)
  by_stop (Ok some) returns = absurd (cc)
  by_stop (Err other) returns = let same : other ≡ fault = cc in (stop, refl, returns ∙ ap Err same)

module _ {R : Type 0} (remaining : R → Option (List ℕ)) (failures : R → Failures) where
  -- a part of a file that was read up to this stop: these are its payloads
  pub record IsRead (limit : Limit) (old new : Reading R) (count : ℕ) (p : List (List ℕ)) (stop : Part Refused) (n : Content) : Type 0 where
    pub reads : ReadsPart remaining failures TakesMessage RefusesMessage limit old new 0 count empty stop n
    pub these : reads.payloads ≡ p
    pub few : count ≤ 10 ^ 19 - 1

module _ {R : Type 0} (remaining : R → Option (List ℕ)) (failures : R → Failures) (limit : Limit) where
  -- that many messages were applied, and nothing after them was read
  abbrev pub Goes : Reading R → Reading R → ℕ → List (List ℕ) → Content → Type 0
  Goes old new count p n = IsRead remaining failures (limited_to count limit) old new count p part.Full n

  goes_first : (r : Reading R) (n : Content) → n ≡ empty → Goes r r 0 [] n
  goes_first r n first = subst (λ x. Goes r r 0 [] x) (sym first) record {
    reads = record {
      payloads = [];
      last = empty;
      taken = record { bytes = Consumes-nil (bytes_left remaining r); full = tt; early = tt; wanted = λ some. absurd (omega arith); taken = refl; counted = refl };
      stops = (refl, (0, refl, omega arith));
      leaves = record { unread = λ _. refl; given = λ some. absurd (omega arith) };
      counts = refl;
    };
    these = refl;
    few = omega arith;
  }

  -- one more step: at most one message
  module _ (old mid new : Reading R) (count total : ℕ) (p : List (List ℕ)) (m n : Content) (stop : Part Refused) (goes : Goes old mid count p m)
      (step : ReadsPart remaining failures TakesMessage RefusesMessage (limited_to (count + 1) limit) mid new count total m stop n) (few : total ≤ 10 ^ 19 - 1) where
    abbrev both : List (List ℕ)
    both = p ++ step.payloads

    number : length p ≡ count
    number = let one : length goes.reads.payloads ≡ count = omega (arith, goes.reads.taken.counted) in subst (λ q. length q ≡ count) goes.these one

    within : (qs : List (List ℕ)) → (0 < length qs → total ≤ count + 1) → total ≡ count + length qs → total ≤ count + 1
    within [] wanted is = omega (arith, is)
    within (q ∷ qs) wanted is = wanted (omega arith)

    further : IsRead remaining failures (limited_to (count + 1) limit) old new total both stop n
    further =
        let g = goes.reads in
        let ps = g.payloads in
        let qs = step.payloads in
        record {
          reads = record {
            payloads = ps ++ qs;
            last = step.last;
            taken = record {
              bytes = subst (Consumes (bytes_left remaining old) (bytes_left remaining new)) (sym (blocks-append ps qs))
                  (Consumes-trans (bytes_left remaining old) (bytes_left remaining mid) (bytes_left remaining new) (blocks ps) (blocks qs) g.taken.bytes step.taken.bytes);
              full = each-append IsFull ps qs g.taken.full step.taken.full;
              early = each-append (IsNotLate (limited_to (count + 1) limit)) ps qs g.taken.early step.taken.early;
              wanted = λ some. within qs step.taken.wanted step.taken.counted;
              taken = takes_both TakesMessage empty g.last step.last 0 count ps qs g.taken.taken g.taken.counted
                  (subst (λ x. TakesAll TakesMessage x count qs step.last) g.stops.0 step.taken.taken);
              counted = omega (arith, g.taken.counted, step.taken.counted, length-append ps qs);
            };
            stops = step.stops;
            leaves = subst (λ c. Leaves old c stop new) (sym (length-append ps qs)) (leaves_both old mid new part.Full (length ps) (length qs) tt g.leaves stop (λ full. inr refl) step.leaves);
            counts = subst (λ f. Counts stop f (failures new.reader)) g.counts step.counts;
          };
          these = ap (λ x. x ++ qs) goes.these;
          few = few;
        }

    front_kept : (k : ℕ) → k ≤ count → take k both ≡ take k p
    front_kept k some = take-append-le k p step.payloads (omega (arith, some, number))

    -- if nothing stopped it, there was one
    one_more : stop ≡ part.Full → total ≡ count + 1
    one_more full = by_stop (subst (λ s. StopsAt remaining RefusesMessage (limited_to (count + 1) limit) total new step.last s n) full step.stops) where
      by_stop : StopsAt remaining RefusesMessage (limited_to (count + 1) limit) total new step.last part.Full n → total ≡ count + 1
      by_stop (same, (most, is, all)) =
          let more : most ≡ count + 1 = cc in
          let few : total ≤ count + 1 = within step.payloads step.taken.wanted step.taken.counted in omega (arith, all, more, few)

    -- otherwise there was none
    before_more : (stop : Part Refused) → (stop ≡ part.Full → ⊥) → StopsAt remaining RefusesMessage (limited_to (count + 1) limit) total new step.last stop n → total < count + 1
    before_more part.Full not_full stops = absurd (not_full refl)
    before_more part.Late not_full (same, before, late) = before
    before_more part.End not_full (same, before, end) = before
    before_more (part.Frame (Truncated held)) not_full (same, before, cut, is_held, open_end) = before
    before_more (part.Frame (Read error)) not_full (same, before, going) = before
    before_more (part.Frame (Write sent error)) not_full never = absurd never
    before_more (part.Frame TooLong) not_full never = absurd never
    before_more part.TooMany not_full (same, before, many) = before
    before_more (part.Refused why) not_full (before, refuses) = before

    none_more : (stop ≡ part.Full → ⊥) → total ≡ count
    none_more not_full = let less = before_more stop not_full step.stops in omega (arith, less, step.taken.counted)

    -- and then the outcome is that of reading the requested part
    widened_stop : (last : Content) (stop : Part Refused) → (stop ≡ part.Full → ⊥) → IsBefore limit total → StopsAt remaining RefusesMessage (limited_to (count + 1) limit) total new last stop n
        → StopsAt remaining RefusesMessage limit total new last stop n
    widened_stop last part.Full not_full before stops = absurd (not_full refl)
    widened_stop last part.Late not_full before (same, less, late) = (same, before, late)
    widened_stop last part.End not_full before (same, less, end) = (same, before, end)
    widened_stop last (part.Frame (Truncated held)) not_full before (same, less, cut, is_held, open_end) = (same, before, cut, is_held, open_end)
    widened_stop last (part.Frame (Read error)) not_full before (same, less, going) = (same, before, going)
    widened_stop last (part.Frame (Write sent error)) not_full before never = absurd never
    widened_stop last (part.Frame TooLong) not_full before never = absurd never
    widened_stop last part.TooMany not_full before (same, less, many) = (same, before, many)
    widened_stop last (part.Refused why) not_full before (less, refuses) = (before, refuses)

    module _ (not_full : stop ≡ part.Full → ⊥) (before : IsBefore limit count) where
      widened : IsRead remaining failures limit old new total both stop n
      widened =
          let is : count ≡ total = sym (none_more not_full) in
          let early : IsBefore limit total = subst (λ k. IsBefore limit k) is before in
          let f = further.reads in
          record {
            reads = record {
              payloads = f.payloads;
              last = f.last;
              taken = record { bytes = f.taken.bytes; full = f.taken.full; early = f.taken.early; wanted = λ some. within_so_far limit.after total early; taken = f.taken.taken; counted = f.taken.counted };
              stops = widened_stop f.last stop not_full early f.stops;
              leaves = f.leaves;
              counts = f.counts;
            };
            these = further.these;
            few = few;
          }

pub applied : (limit : Limit) (old new : Option (List ℕ)) (count : ℕ) (p : List (List ℕ)) (n : Content) → TakesEarly limit empty old new count p n → AreApplied limit p n
applied limit old new count p n (takes, counted, few, early) = record {
  taken = record { full = takes.full; taken = takes.none; few = omega (arith, counted, few); early = early };
  fits = takes.fits;
  left = takes.left;
}

module _ {R : Type 0} (remaining : R → Option (List ℕ)) (failures : R → Failures) (file : Source) (limit : Limit) where
  goes_taken : (old new : Reading R) (count : ℕ) (p : List (List ℕ)) (n : Content) → Goes remaining failures limit old new count p n
      → TakesEarly limit empty (bytes_left remaining old) (bytes_left remaining new) count p n
  goes_taken old new count p n goes =
      subst (λ q. TakesEarly limit empty (bytes_left remaining old) (bytes_left remaining new) count q n) goes.these
      (taken_by remaining failures file (limited_to count limit) old new count n goes.few part.Full goes.reads)

  -- all requested messages were applied, which are fewer
  pub record IsOver (old new : Reading R) (count : ℕ) (p : List (List ℕ)) (n : Content) : Type 0 where
    pub fewer : length p < count
    pub read : ReadsDay remaining failures file limit old new (Ok p)
    pub fits : AllByRecursion Fits p
    pub left : n ≡ laid (run (map message_of p))

  -- the position of a file after that many messages of each
  abbrev pub Stands : Bool → Reading R → Reading R → ℕ → List (List ℕ) → Content → Type 0
  Stands true old new count p n = Goes remaining failures limit old new count p n
  Stands false old new count p n = IsOver old new count p n

  pub stands_applied : (goes : Bool) (old new : Reading R) (count : ℕ) (p : List (List ℕ)) (n : Content) → Stands goes old new count p n → AreApplied limit p n
  stands_applied true old new count p n stands = applied limit (bytes_left remaining old) (bytes_left remaining new) count p n (goes_taken old new count p n stands)
  stands_applied false old new count p n stands = record { taken = stands.read.0; fits = stands.fits; left = stands.left }

  pub stands_within : (goes : Bool) (old new : Reading R) (count : ℕ) (p : List (List ℕ)) (n : Content) → Stands goes old new count p n → length p ≤ count
  stands_within true old new count p n stands = let takes = goes_taken old new count p n stands in omega (arith, takes.1)
  stands_within false old new count p n stands = omega (arith, stands.fewer)

  pub stands_few : (goes : Bool) (old new : Reading R) (count : ℕ) (p : List (List ℕ)) (n : Content) → Stands goes old new count p n → goes ≡ true → count ≤ 10 ^ 19 - 1
  stands_few true old new count p n stands is = stands.few
  stands_few false old new count p n stands is = absurd (cc)

  -- that many messages of a part were read, as intended
  front_read : (old new : Reading R) (count : ℕ) (p : List (List ℕ)) (n : Content) → Goes remaining failures limit old new count p n
      → ReadsDay remaining failures file (limited_to count limit) old new (Ok p)
  front_read old new count p n goes =
      subst (λ q. ReadsDay remaining failures file (limited_to count limit) old new (Ok q)) goes.these
      (all_by remaining failures file (limited_to count limit) old new count n goes.few part.Full goes.reads refl)

  -- the payloads read so far
  pub up_to : (goes : Bool) (old new : Reading R) (count : ℕ) (p : List (List ℕ)) (n : Content) → IsWithin limit count → Stands goes old new count p n
      → ReadsUpTo remaining failures file limit count old new p
  up_to true old new count p n within stands = let takes = goes_taken old new count p n stands in inl (takes.1, within, front_read old new count p n stands)
  up_to false old new count p n within stands = inr (stands.fewer, stands.read)

  same_limit : (count : ℕ) → limit.after ≡ Some count → limited_to count limit ≡ limit
  same_limit count all = let part : Option ℕ → Limit = λ after. record { after = after; until = limit.until } in ap part (sym all)

  -- after the most messages the requested part was read
  pub whole_part : (goes : Bool) (old new : Reading R) (count : ℕ) (p : List (List ℕ)) (n : Content) → count ≡ most_of limit.after → Stands goes old new count p n
      → ReadsDay remaining failures file limit old new (Ok p)
  whole_part true old new count p n most stands =
      subst (λ l. ReadsDay remaining failures file l old new (Ok p)) (same_limit count (all_wanted limit.after count most stands.few)) (front_read old new count p n stands)
  whole_part false old new count p n most stands = stands.read

  -- the position of a file after one more step
  pub record StandsOn (goes : Bool) (old new : Reading R) (count : ℕ) (p : List (List ℕ)) (n : Content) : Type 0 where
    pub payloads : List (List ℕ)
    pub stands : Stands goes old new (count + 1) payloads n
    pub front : (k : ℕ) → k ≤ count → take k payloads ≡ take k p

  -- no more of it was requested
  pub stays_over : (goes : Bool) (old new : Reading R) (count : ℕ) (p : List (List ℕ)) (n : Content) → goes ≡ false → Stands goes old new count p n → StandsOn goes old new count p n
  stays_over true old new count p n is stands = absurd (cc)
  stays_over false old new count p n is stands = record {
    payloads = p;
    stands = record { fewer = omega (arith, stands.fewer); read = stands.read; fits = stands.fits; left = stands.left };
    front = λ k within. refl;
  }

  -- the requested part is over if this stops it
  pub read_over : (old new : Reading R) (count : ℕ) (n : Content) (few : count ≤ 10 ^ 19 - 1) (stop : Part Refused)
      (reads : ReadsPart remaining failures TakesMessage RefusesMessage limit old new 0 count empty stop n) → (reason_of stop ≡ None) ⊎ ((reason_of stop ≡ Some End) × (limit.after ≡ None))
      → ReadsDay remaining failures file limit old (left_by stop new) (Ok reads.payloads)
  read_over old new count n few stop reads (inl none) = all_by remaining failures file limit old new count n few stop reads none
  read_over old new count n few part.End reads (inr (at, whole)) = whole_by remaining failures file limit old new count n few reads whole
  read_over old new count n few part.Full reads (inr (at, whole)) = absurd (cc)
  read_over old new count n few part.Late reads (inr (at, whole)) = absurd (cc)
  read_over old new count n few (part.Frame f) reads (inr (at, whole)) = absurd (cc)
  read_over old new count n few part.TooMany reads (inr (at, whole)) = absurd (cc)
  read_over old new count n few (part.Refused (refused.Codec f)) reads (inr (at, whole)) = absurd (cc)
  read_over old new count n few (part.Refused (refused.Rule reason)) reads (inr (at, whole)) = absurd (cc)

  module _ (goes : Bool) (old mid new : Reading R) (count total : ℕ) (p : List (List ℕ)) (m n : Content) (stop : Part Refused) (on : goes ≡ true) (stands : Stands goes old mid count p m)
      (step : ReadsPart remaining failures TakesMessage RefusesMessage (limited_to (count + 1) limit) mid new count total m stop n) (few : total ≤ 10 ^ 19 - 1) where
    going : Goes remaining failures limit old mid count p m
    going = subst (λ b. Stands b old mid count p m) on stands

    all_number : length (p ++ step.payloads) ≡ total
    all_number =
        let r = further remaining failures limit old mid new count total p m n stop going step few in
        let one : length r.reads.payloads ≡ total = omega (arith, r.reads.taken.counted) in subst (λ q. length q ≡ total) r.these one

    -- the next message is applied
    pub goes_on : stop ≡ part.Full → StandsOn true old new count p n
    goes_on full = record {
      payloads = p ++ step.payloads;
      stands =
          subst (λ s. IsRead remaining failures (limited_to (count + 1) limit) old new (count + 1) (p ++ step.payloads) s n) full
          (subst (λ k. IsRead remaining failures (limited_to (count + 1) limit) old new k (p ++ step.payloads) stop n) (one_more remaining failures limit old mid new count total p m n stop going step few full)
          (further remaining failures limit old mid new count total p m n stop going step few));
      front = front_kept remaining failures limit old mid new count total p m n stop going step few;
    }

    module _ (not_full : stop ≡ part.Full → ⊥) (before : IsBefore limit count) where
      none : total ≡ count
      none = none_more remaining failures limit old mid new count total p m n stop going step few not_full

      wide : IsRead remaining failures limit old new total (p ++ step.payloads) stop n
      wide = widened remaining failures limit old mid new count total p m n stop going step few not_full before

      -- no message was applied
      pub still_there : n ≡ m
      still_there = kept_at remaining (limited_to (count + 1) limit) total new step.last n stop step.stops ∙ last_is step.payloads step.taken.taken (omega (arith, none, step.taken.counted)) where
        last_is : (qs : List (List ℕ)) → TakesAll TakesMessage m count qs step.last → length qs ≡ 0 → step.last ≡ m
        last_is [] same is = same
        last_is (q ∷ qs) takes is = absurd (omega arith)

      -- or there is none
      pub ends_there : over (reason_of stop) limit file count ≡ Ok tt → StandsOn false old (left_by stop new) count p n
      ends_there returns =
          let w = wide in
          let applied = applied_by remaining failures file limit old new total n few stop w.reads in
          record {
            payloads = p ++ step.payloads;
            stands = record {
              fewer = omega (arith, all_number, none);
              read = subst (λ q. ReadsDay remaining failures file limit old (left_by stop new) (Ok q)) w.these (read_over old new total n few stop w.reads (over_ends (reason_of stop) limit file count returns));
              fits = subst (λ q. AllByRecursion Fits q) w.these applied.fits;
              left = subst (λ q. n ≡ laid (run (map message_of q))) w.these (kept_by remaining failures file limit old new total n few stop w.reads ∙ applied.left);
            };
            front = front_kept remaining failures limit old mid new count total p m n stop going step few;
          }

      -- or it is refused
      pub refused_there : (fault : ToolFault) → over (reason_of stop) limit file count ≡ Err fault
          → (length p ≡ count) × IsRefusedAfter remaining failures file limit old (left_by stop new) fault p
      refused_there fault returns =
          let (why, is, fails) = over_fails (reason_of stop) limit file count fault returns in
          let takes = goes_taken old mid count p m going in
          let counted : length p ≡ count = takes.1 in
          let at : stopped why limit.after file total ≡ Err fault = subst (λ k. stopped why limit.after file k ≡ Err fault) (sym none) fails in (
            counted,
            record {
              refused = refused_by remaining failures file limit old new total n few stop wide.reads why fault is at;
              counted = stopped_count why limit.after file count fault fails ∙ ap Some (sym counted);
              taken = (stands_applied true old mid count p m going).taken;
              front = (bytes_left remaining mid, takes.0.bytes);
            },
          )

-- a file whose market is tracked, after one more step
module _ {R T : Type 0} (remaining : R → Option (List ℕ)) (failures : R → Failures) (file : Source) (limit : Limit) (market : T → Content) (change : T → Message)
    (goes : Bool) (old mid new : Reading R) (count total : ℕ) (p : List (List ℕ)) (s t : T) (stop : Part Refused) (on : goes ≡ true)
    (stands : Stands remaining failures file limit goes old mid count p (market s))
    (reads : ReadsPart remaining failures (Tracks market change) (Denies market change) (limited_to (count + 1) limit) mid new count total s stop t) (few : total ≤ 10 ^ 19 - 1) where
  step : ReadsPart remaining failures TakesMessage RefusesMessage (limited_to (count + 1) limit) mid new count total (market s) stop (market t)
  step = market_part market change remaining failures (limited_to (count + 1) limit) mid new count total s t stop reads

  pub took_one : stop ≡ part.Full → StandsOn remaining failures file limit true old new count p (market t) × Changed (market s) (change t) (market t)
  took_one full = (
    goes_on remaining failures file limit goes old mid new count total p (market s) (market t) stop on stands step few full,
    one_changed market change remaining failures limit mid new count total s t
        (subst (λ x. ReadsPart remaining failures (Tracks market change) (Denies market change) (limited_to (count + 1) limit) mid new count total s x t) full reads),
  )

  pub took_none : (stop ≡ part.Full → ⊥) → IsBefore limit count → over (reason_of stop) limit file count ≡ Ok tt → (then : Message) → then ≡ nothing
      → StandsOn remaining failures file limit false old (left_by stop new) count p (market t) × Changed (market s) then (market t)
  took_none not_full before returns then is = (
    ends_there remaining failures file limit goes old mid new count total p (market s) (market t) stop on stands step few not_full before returns,
    inl (is, still_there remaining failures file limit goes old mid new count total p (market s) (market t) stop on stands step few not_full before),
  )

  pub was_refused : (stop ≡ part.Full → ⊥) → IsBefore limit count → (fault : ToolFault) → over (reason_of stop) limit file count ≡ Err fault
      → (length p ≡ count) × IsRefusedAfter remaining failures file limit old (left_by stop new) fault p
  was_refused not_full before fault returns =
      refused_there remaining failures file limit goes old mid new count total p (market s) (market t) stop on stands step few not_full before fault returns

-- or no more of it was requested
pub was_over : {R T : Type 0} (remaining : R → Option (List ℕ)) (failures : R → Failures) (file : Source) (limit : Limit) (market : T → Content) (change : T → Message) (goes : Bool) (old new : Reading R) (count : ℕ)
    (p : List (List ℕ)) (s : T) → goes ≡ false → Stands remaining failures file limit goes old new count p (market s) → change s ≡ nothing
    → StandsOn remaining failures file limit goes old new count p (market s) × Changed (market s) (change s) (market s)
was_over remaining failures file limit market change goes old new count p s over stands none =
    (stays_over remaining failures file limit goes old new count p (market s) over stands, inl (none, refl))

-- the same for equal values
pub along : {R T : Type 0} (remaining : R → Option (List ℕ)) (failures : R → Failures) (file : Source) (limit : Limit) (market : T → Content) (change : T → Message) (old new to : Reading R) (count : ℕ) (p : List (List ℕ))
    (m : Content) (goes went : Bool) (t u : T) → went ≡ goes → to ≡ new → u ≡ t → StandsOn remaining failures file limit goes old new count p (market t) × Changed m (change t) (market t)
    → StandsOn remaining failures file limit went old to count p (market u) × Changed m (change u) (market u)
along remaining failures file limit market change old new to count p m goes went t u goes_is to_is is (on, changed) = (
  subst (λ b. StandsOn remaining failures file limit b old to count p (market u)) (sym goes_is)
      (subst (λ r. StandsOn remaining failures file limit goes old r count p (market u)) (sym to_is) (subst (λ x. StandsOn remaining failures file limit goes old new count p (market x)) (sym is) on)),
  subst (λ x. Changed m (change x) (market x)) (sym is) changed,
)

-- the markets after all payloads that were applied are those after any number that is not smaller
pub same_there : (limit : Limit) (p q : List (List ℕ)) (m n : Content) (k : ℕ) → AreApplied limit p m → AreApplied limit q n → length p ≤ k → length q ≤ k → Same m n ↔ IsSameAt p q k
same_there limit p q m n k one other short brief =
    subst (λ x. Same m n ↔ Same (run (map message_of x)) (run (map message_of (take k q)))) (sym (take_all k p short))
    (subst (λ y. Same m n ↔ Same (run (map message_of p)) (run (map message_of y))) (sym (take_all k q brief))
    (laid_alike (run (map message_of p)) (run (map message_of q)) m n (taken_good limit p one.fits one.taken) (taken_good limit q other.fits other.taken) one.left other.left))

applied_good : (limit : Limit) (p : List (List ℕ)) (n : Content) → AreApplied limit p n → IsGood n
applied_good limit p n are = subst IsGood (sym are.left) (laid_good (run (map message_of p)) (taken_good limit p are.fits are.taken))

-- and they stay the same after any greater number
same_later : (p q : List (List ℕ)) (count k : ℕ) → length p ≤ count → length q ≤ count → count ≤ k → IsSameAt p q count → IsSameAt p q k
same_later p q count k short brief later same =
    let one : take count p ≡ take k p = take_all count p short ∙ sym (take_all k p (omega arith)) in
    let other : take count q ≡ take k q = take_all count q brief ∙ sym (take_all k q (omega arith)) in
    subst (λ x. Same (run (map message_of x)) (run (map message_of (take k q)))) one
    (subst (λ y. Same (run (map message_of (take count p))) (run (map message_of y))) other same)

module _ {R S : Type 0} (remaining : R → Option (List ℕ)) (failures : R → Failures) (remaining_then : S → Option (List ℕ)) (failed_then : S → Failures) (limit : Limit)
    (a : Reading R) (c : Reading S) where
  -- both files after that many messages of each; the last one may have made a difference
  pub record Paired (b : Reading R) (d : Reading S) (count last : ℕ) (goes too : Bool) (m n : Content) : Type 0 where
    pub p : List (List ℕ)
    pub q : List (List ℕ)
    pub one : Stands remaining failures First limit goes a b count p m
    pub other : Stands remaining_then failed_then Second limit too c d count q n
    pub same : (k : ℕ) → k ≤ last → IsSameAt p q k

  -- at first both are empty
  pub paired_first : (m n : Content) → m ≡ empty → n ≡ empty → Paired a c 0 0 true true m n
  paired_first m n first second = record {
    p = [];
    q = [];
    one = goes_first remaining failures limit a m first;
    other = goes_first remaining_then failed_then limit c n second;
    same = λ k within. at_first k;
  } where
    at_first : (k : ℕ) → IsSameAt [] [] k
    at_first zero = same_self empty
    at_first (suc k) = same_self empty

  module _ (b : Reading R) (d : Reading S) (count : ℕ) (goes too : Bool) (m n : Content) (before : IsBefore limit count) (paired : Paired b d count count goes too m n) where
    -- the first file is refused
    pub first_refused : (to : Reading R) (fault : ToolFault) → (length paired.p ≡ count) × IsRefusedAfter remaining failures First limit a to fault paired.p
        → FindsFirst remaining failures remaining_then failed_then limit a to c d (Err fault)
    first_refused to fault (counted, refused) = inl (
      paired.p,
      paired.q,
      refused,
      subst (λ k. ReadsUpTo remaining_then failed_then Second limit k c d paired.q) (sym counted)
          (up_to remaining_then failed_then Second limit too c d count paired.q n (within_so_far limit.after count before) paired.other),
      λ k within. paired.same k (omega (arith, counted, within)),
    )

    module _ (to : Reading R) (went : Bool) (x : Content) (first_on : StandsOn remaining failures First limit went a to count paired.p x) where
      -- the second file is refused
      pub second_refused : (up : Reading S) (fault : ToolFault) → (length paired.q ≡ count) × IsRefusedAfter remaining_then failed_then Second limit c up fault paired.q
          → FindsFirst remaining failures remaining_then failed_then limit a to c up (Err fault)
      second_refused up fault (counted, refused) = inr (
        first_on.payloads,
        paired.q,
        subst (λ k. ReadsUpTo remaining failures First limit (k + 1) a to first_on.payloads) (sym counted)
            (up_to remaining failures First limit went a to (count + 1) first_on.payloads x (within_more limit.after count before) first_on.stands),
        refused,
        λ k within. along k (omega (arith, counted, within)),
      ) where
        along : (k : ℕ) → k ≤ count → IsSameAt first_on.payloads paired.q k
        along k within = subst (λ z. Same (run (map message_of z)) (run (map message_of (take k paired.q)))) (sym (first_on.front k within)) (paired.same k within)

      module _ (up : Reading S) (follows : Bool) (y : Content) (second_on : StandsOn remaining_then failed_then Second limit follows c up count paired.q y) where
        -- neither is
        pub both_on : Paired to up (count + 1) count went follows x y
        both_on = record {
          p = first_on.payloads;
          q = second_on.payloads;
          one = first_on.stands;
          other = second_on.stands;
          same = λ k within. subst (λ w. Same (run (map message_of w)) (run (map message_of (take k second_on.payloads)))) (sym (first_on.front k within))
              (subst (λ z. Same (run (map message_of (take k paired.p))) (run (map message_of z))) (sym (second_on.front k within)) (paired.same k within));
        }

    -- and changes with the same effect leave the markets the same
    pub alike_on : (x y : Content) (change also : Message) → Changed m change x → Changed n also y → change ≡ also → Same x y
    alike_on x y change also changed changed_too alike =
        let one = stands_applied remaining failures First limit goes a b count paired.p m paired.one in
        let other = stands_applied remaining_then failed_then Second limit too c d count paired.q n paired.other in
        let same : Same m n = (same_there limit paired.p paired.q m n count one other
        (stands_within remaining failures First limit goes a b count paired.p m paired.one)
        (stands_within remaining_then failed_then Second limit too c d count paired.q n paired.other)).1 (paired.same count (omega arith)) in
        alike_same m n x y change also (applied_good limit paired.p m one) (applied_good limit paired.q n other) same changed changed_too alike

  module _ (b : Reading R) (d : Reading S) (count last : ℕ) (goes too : Bool) (m n : Content) (paired : Paired b d count last goes too m n) where
    one_applied : AreApplied limit paired.p m
    one_applied = stands_applied remaining failures First limit goes a b count paired.p m paired.one

    other_applied : AreApplied limit paired.q n
    other_applied = stands_applied remaining_then failed_then Second limit too c d count paired.q n paired.other

    one_within : length paired.p ≤ count
    one_within = stands_within remaining failures First limit goes a b count paired.p m paired.one

    other_within : length paired.q ≤ count
    other_within = stands_within remaining_then failed_then Second limit too c d count paired.q n paired.other

    -- the first market can be written
    pub paired_few : length (snap m) < 10 ^ 19
    paired_few = taken_few limit paired.p m one_applied.fits one_applied.taken one_applied.left

    alike_there : Same m n ↔ IsSameAt paired.p paired.q count
    alike_there = same_there limit paired.p paired.q m n count one_applied other_applied one_within other_within

    -- the markets are still the same
    pub still_same : count ≡ last + 1 → Same m n → Paired b d count count goes too m n
    still_same next same = record {
      p = paired.p;
      q = paired.q;
      one = paired.one;
      other = paired.other;
      same = λ k within. elim (cases_lt k count) [
        | inl early ↦ paired.same k (omega arith)
        | inr there ↦ let now : count ≡ k = omega arith in subst (λ j. IsSameAt paired.p paired.q j) now (alike_there.0 same)
      ];
    }

    -- or they differ now
    pub differ_now : count ≡ last + 1 → IsWithin limit count → (Same m n → ⊥) → FindsFirst remaining failures remaining_then failed_then limit a b c d (Ok (Some count))
    differ_now next within differ = (
      paired.p,
      paired.q,
      up_to remaining failures First limit goes a b count paired.p m within paired.one,
      up_to remaining_then failed_then Second limit too c d count paired.q n within paired.other,
      record { before = λ k early. paired.same k (omega arith); there = λ same. differ (alike_there.1 same) },
    )

    same_throughout : last ≡ count → (k : ℕ) → IsSameAt paired.p paired.q k
    same_throughout all k = elim (cases_lt k count) [
      | inl early ↦ paired.same k (omega arith)
      | inr later ↦ same_later paired.p paired.q count k one_within other_within later (paired.same count (omega arith))
    ]

    -- or no more of either was requested
    pub same_to_the_end : last ≡ count → count ≡ most_of limit.after → FindsFirst remaining failures remaining_then failed_then limit a b c d (Ok None)
    same_to_the_end all most = (
      paired.p,
      paired.q,
      whole_part remaining failures First limit goes a b count paired.p m most paired.one,
      whole_part remaining_then failed_then Second limit too c d count paired.q n most paired.other,
      same_throughout all,
    )

  -- or both are over
  pub both_over : (b : Reading R) (d : Reading S) (count : ℕ) (goes too : Bool) (m n : Content) → goes ≡ false → too ≡ false → Paired b d count count goes too m n
      → FindsFirst remaining failures remaining_then failed_then limit a b c d (Ok None)
  both_over b d count true too m n over over_too paired = absurd (cc)
  both_over b d count false true m n over over_too paired = absurd (cc)
  both_over b d count false false m n over over_too paired =
      (paired.p, paired.q, paired.one.read, paired.other.read, same_throughout b d count count false false m n paired refl)
