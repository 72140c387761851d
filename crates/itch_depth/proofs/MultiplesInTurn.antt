-- Books at the multiples of a duration, one after another.
use Rattle.std.proofs.Common.{◌≡◌, ℕ, ◌+◌, ◌-◌, ◌*◌, ◌/◌, ◌≤◌, zero, suc, Bool, true, false, List, Option, None, Some, Result, Ok, Err, inl, inr, refl, sym, subst, arith}
use Rattle.std.specs.Bool.{MatchBool}
use Rattle.itch_frame.specs.Reading.{Reading}
use Rattle.itch_frame.specs.declared.tally.Failures.{Failures}
use Rattle.itch_day.specs.Limits.{counted}
use Rattle.itch_day.specs.Parts.{GoesOnTo}
use Rattle.itch_day.specs.Passing.{left_by}
use Rattle.itch_day.specs.declared.limit.Limit.{Limit}
use Rattle.itch_day.specs.declared.tracked.Tracked.{Tracked}
use Rattle.itch_day.specs.declared.stop.PartStop.{PartStop}
use Rattle.itch_day.specs.declared.stop.PartStop.TheVariants.{Full, Late}
use Rattle.itch_market.specs.Content.{Content}
use Rattle.itch_market.specs.Wanted.{Wanted}
use Rattle.itch_market.specs.declared.refused.Refused.{Refused}
use Rattle.itch_commands.specs.Points.{ReadsOn, ReadsUntil, Stands, up_to}
use Rattle.itch_commands.specs.Files.{ReadsFile}
use Rattle.itch_commands.specs.declared.fault.Source.TheVariants.{Only}
use Rattle.itch_commands.specs.declared.fault.ToolFault.{ToolFault}
use Rattle.itch_commands.specs.declared.kind.FileKind.TheVariants.{Day}
use Rattle.itch_depth.specs.Series.{AtEnd, AtMultiples, AtNext, AtTimeAfter, Checks, IsAt, ListsAfter, ListsMarket, continues, latest}
use Rattle.itch_depth.specs.Timed.{timed_books}
use Rattle.itch_depth.specs.declared.request.BookRequest.{BookRequest}
use Rattle.itch_depth.proofs.PartsOfDays.{part_checked, part_lacks, part_listed, refused_part, timed_of_market}

module _ {R : Type 0} (remaining : R → Option (List ℕ)) (failed_reads : R → Failures) (request : BookRequest) (set : Option Wanted) (first now : Reading R) (tracked : Tracked Content) where
  -- the rest of the file is refused
  pub end_refused : (fault : ToolFault) → ReadsOn remaining failed_reads (counted None) first now (Err fault) tracked → AtEnd remaining failed_reads request set first (Err fault)
  end_refused fault (stop, stands, day, short) =
      (left_by stop now, inl (fault, refl, refused_part set (ReadsFile remaining failed_reads Only (Day (counted None)) first (left_by stop now)) request.selection fault day))

  module _ (count : ℕ) (on : ReadsOn remaining failed_reads (counted None) first now (Ok count) tracked) where
    -- its directory lacks a locate or a stock
    pub end_lacks : (fault : ToolFault) → Checks request.selection set tracked.sink (Err fault) → AtEnd remaining failed_reads request set first (Err fault)
    end_lacks fault lacks =
        let then : Reading R = left_by on.1.0 now in
        (then, inl (fault, refl, part_lacks remaining failed_reads set (counted None) first then tracked.sink tracked.cursor on.1.3 request.selection fault lacks))

    -- or has each
    pub end_listed : Checks request.selection set tracked.sink (Ok tt) → AtEnd remaining failed_reads request set first (Ok true)
    end_listed all =
        let then : Reading R = left_by on.1.0 now in
        let done = part_checked remaining failed_reads set (counted None) first then tracked.sink tracked.cursor on.1.3 request.selection all in
        (then, inr (done.0, refl, done.1))

-- after some messages the books are written
pub some_after : {W : Type 0} (contents : W → Option (List ℕ)) (failed_writes : W → Failures) (request : BookRequest) (set : Option Wanted) (m : Content) (time : ℕ) (old new : W) (result : Result Bool ToolFault)
    (count : ℕ) → (count ≡ 0 → ⊥) → ListsMarket contents failed_writes request set m time old result new → ListsAfter contents failed_writes count request set m time old result new
some_after contents failed_writes request set m time old new result zero some wrote = absurd (some refl)
some_after contents failed_writes request set m time old new result (suc count) some wrote = wrote

-- the market and the number of a pass are those of its point
pub after_at : {W : Type 0} (contents : W → Option (List ℕ)) (failed_writes : W → Failures) (request : BookRequest) (set : Option Wanted) (time : ℕ) (old new : W) (result : Result Bool ToolFault)
    (tracked : Tracked Content) (m : Content) (count : ℕ) → IsAt tracked m count → ListsAfter contents failed_writes count request set m time old result new
    → ListsAfter contents failed_writes tracked.cursor.count request set tracked.sink time old result new
after_at contents failed_writes request set time old new result tracked m count at lists =
    subst (λ k. ListsAfter contents failed_writes k request set tracked.sink time old result new) (sym at.counted)
    (subst (λ n. ListsAfter contents failed_writes count request set n time old result new) (sym at.market) lists)

module _ {R W : Type 0} (remaining : R → Option (List ℕ)) (failed_reads : R → Failures) (contents : W → Option (List ℕ)) (failed_writes : W → Failures)
    (request : BookRequest) (set : Option Wanted) (first : Reading R) (step : ℕ) where
  -- the state of a series before this multiple, after which this many are left
  pub record InMultiples (multiple left : ℕ) (old new : W) (now : Reading R) (tracked : Tracked Content) : Type 0 where
    pub rest : (end : W) (result : Result Bool ToolFault) → AtNext remaining failed_reads contents failed_writes request set first step multiple left new result end
        → AtMultiples remaining failed_reads contents failed_writes request set first step old result end
    pub stands : (before : Limit) × (stop : PartStop Refused) × Stands remaining failed_reads before first now tracked stop
        × ((time : ℕ) → multiple * step ≤ time → GoesOnTo before stop tracked.cursor.count (up_to time)) × GoesOnTo before stop tracked.cursor.count (counted None)

  pub multiples_begun : (old : W) (start : Reading R) (tracked : Tracked Content) → Stands remaining failed_reads (record { after = Some 0; until = Some 0 }) first start tracked Full
      → InMultiples 1 (latest / step) old old start tracked
  multiples_begun old start tracked stands = record {
    rest = λ end result next. next;
    stands = (
      record { after = Some 0; until = Some 0 },
      Full,
      stands,
      λ time within. record { goes_on = tt; later = omega arith; within = tt; more = inl refl },
      record { goes_on = tt; later = tt; within = tt; more = inl refl },
    );
  }

  -- one of the multiples up to the last, and those after it
  pub multiple_left : (multiple last : ℕ) (old new : W) (now : Reading R) (tracked : Tracked Content) → multiple ≤ last → InMultiples multiple (last + 1 - multiple) old new now tracked
      → InMultiples multiple (suc (last + 1 - (multiple + 1))) old new now tracked
  multiple_left multiple last old new now tracked within turn = subst (λ n. InMultiples multiple n old new now tracked) one_more turn where
    one_more : last + 1 - multiple ≡ suc (last + 1 - (multiple + 1))
    one_more = omega (arith, within)

  module _ (multiple left : ℕ) (old mid : W) (before now : Reading R) (began tracked : Tracked Content) (turn : InMultiples multiple (suc left) old mid before began) where
    -- a message follows at that time or later
    module _ (read : ReadsUntil remaining failed_reads (multiple * step) first now (Ok true) tracked) (new : W) (answer : Result Bool ToolFault)
        (listed : ListsAfter contents failed_writes tracked.cursor.count request set tracked.sink (multiple * step) mid answer new) where
      at_time : (count : ℕ) → ListsAfter contents failed_writes count request set tracked.sink (multiple * step) mid answer new
          → AtTimeAfter remaining failed_reads contents failed_writes count request set first (multiple * step) mid answer new
      at_time zero nothing = nothing
      at_time (suc count) wrote = (
        left_by {F = Refused} Late now,
        part_listed remaining failed_reads contents failed_writes (timed_books request.form (multiple * step) request.depth) (timed_of_market request.form (multiple * step) request.depth) set
            (up_to (multiple * step)) first (left_by {F = Refused} Late now) tracked.sink tracked.cursor read.1 request.selection mid new answer wrote,
      )

      pub multiples_on : true ≡ continues answer → (next : ℕ) → next ≡ suc multiple → InMultiples next left old new now tracked
      multiples_on on next is = subst (λ n. InMultiples n left old new now tracked) (sym is) (record {
        rest = λ end result more. turn.rest end result (inr (inr (
          now,
          tracked,
          read.0,
          (
            new,
            answer,
            at_time tracked.cursor.count listed,
            subst (λ b. MatchBool b (AtNext remaining failed_reads contents failed_writes request set first step (suc multiple) left new result end) ((result ≡ answer) × (end ≡ new))) on more,
          ),
        )));
        stands = (
          up_to (multiple * step),
          Late,
          read.0,
          λ time within. record { goes_on = tt; later = earlier time within; within = tt; more = inr tt },
          record { goes_on = tt; later = tt; within = tt; more = inr tt },
        );
      }) where
        earlier : (time : ℕ) → suc multiple * step ≤ time → multiple * step ≤ time
        earlier time within = omega (arith, within)

      pub multiples_off : false ≡ continues answer → AtMultiples remaining failed_reads contents failed_writes request set first step old answer new
      multiples_off off = turn.rest new answer (inr (inr (
        now,
        tracked,
        read.0,
        (
          new,
          answer,
          at_time tracked.cursor.count listed,
          subst (λ b. MatchBool b (AtNext remaining failed_reads contents failed_writes request set first step (suc multiple) left new answer new) ((answer ≡ answer) × (new ≡ new))) off (refl, refl),
        ),
      )))

    -- the file ended before
    pub multiples_end : ReadsUntil remaining failed_reads (multiple * step) first now (Ok false) tracked → (result : Result Bool ToolFault)
        → AtEnd remaining failed_reads request set first result → AtMultiples remaining failed_reads contents failed_writes request set first step old result mid
    multiples_end read result ends = turn.rest mid result (inr (inl (now, tracked, read.0, ends, refl)))

    -- or was refused before
    pub multiples_refused : (fault : ToolFault) → ReadsUntil remaining failed_reads (multiple * step) first now (Err fault) tracked
        → AtMultiples remaining failed_reads contents failed_writes request set first step old (Err fault) mid
    multiples_refused fault (stop, day) = turn.rest mid (Err fault) (inl (fault, left_by stop now, refl, day, refl))

  -- no multiple is left
  pub multiples_all : (multiple left : ℕ) (old new : W) (now : Reading R) (tracked : Tracked Content) → left ≡ 0 → InMultiples multiple left old new now tracked → (result : Result Bool ToolFault)
      → AtEnd remaining failed_reads request set first result → AtMultiples remaining failed_reads contents failed_writes request set first step old result new
  multiples_all multiple left old new now tracked none turn result ends =
      turn.rest new result (subst (λ n. AtNext remaining failed_reads contents failed_writes request set first step multiple n new result new) (sym none) (ends, refl))

-- the same for any beginning of the reading, with the market and the number of messages of a pass
pub record EveryInTurn {R W : Type 0} (remaining : R → Option (List ℕ)) (failed_reads : R → Failures) (contents : W → Option (List ℕ)) (failed_writes : W → Failures)
    (request : BookRequest) (set : Option Wanted) (step multiple : ℕ) (old new : W) (start : Reading R) (first_market : Content) (first_count : ℕ) (now : Reading R) (m : Content) (count : ℕ) : Type 0 where
  pub turn : (first : Reading R) → (began : Tracked Content) → Stands remaining failed_reads (record { after = Some 0; until = Some 0 }) first start began Full → IsAt began first_market first_count
      → (tracked : Tracked Content)
      × InMultiples remaining failed_reads contents failed_writes request set first step multiple (latest / step + 1 - multiple) old new now tracked × IsAt tracked m count
