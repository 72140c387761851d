-- Books at several times, one after another.
use Rattle.std.proofs.Common.{◌≡◌, ℕ, ◌≤◌, zero, suc, Bool, true, false, List, [], ◌∷◌, drop, length, Option, Some, Result, Ok, Err, inl, inr, refl, sym, subst, arith}
use Rattle.std.specs.Prelude.{⊤, ◌⊎◌}
use Rattle.std.specs.Bool.{MatchBool}
use Rattle.itch_frame.specs.Reading.{Reading}
use Rattle.itch_frame.specs.declared.tally.Failures.{Failures}
use Rattle.itch_day.specs.Parts.{GoesOnTo}
use Rattle.itch_day.specs.Passing.{left_by}
use Rattle.itch_day.specs.declared.limit.Limit.{Limit}
use Rattle.itch_day.specs.declared.tracked.Tracked.{Tracked}
use Rattle.itch_day.specs.declared.stop.PartStop.{PartStop}
use Rattle.itch_day.specs.declared.stop.PartStop.TheVariants.{End, Full, Late}
use Rattle.itch_market.specs.Content.{Content}
use Rattle.itch_market.specs.Wanted.{Wanted}
use Rattle.itch_market.specs.declared.refused.Refused.{Refused}
use Rattle.itch_commands.specs.Files.{ReadsFile}
use Rattle.itch_commands.specs.Points.{IsRead, ReadsUntil, Stands, up_to}
use Rattle.itch_commands.specs.Readings.{ReadsDay}
use Rattle.itch_commands.specs.declared.fault.Source.TheVariants.{Only}
use Rattle.itch_commands.specs.declared.fault.ToolFault.{ToolFault}
use Rattle.itch_commands.specs.declared.fault.ToolFault.TheVariants as tool
use Rattle.itch_commands.specs.declared.kind.FileKind.TheVariants.{Day}
use Rattle.itch_depth.specs.Series.{Ascend, AtEach, AtTime, IsAt, ListsMarket, ListsOn, continues}
use Rattle.itch_depth.specs.Timed.{timed_books}
use Rattle.itch_depth.specs.declared.request.BookRequest.{BookRequest}
use Rattle.itch_depth.proofs.PartsOfDays.{part_listed, refused_part, timed_of_market}

module _ {W : Type 0} (point : ℕ → W → Result Bool ToolFault → W → Type 0) where
  -- the outputs at these times, where this was the answer at the last one before them
  abbrev pub AtRest : Result Bool ToolFault → List ℕ → W → Result Bool ToolFault → W → Type 0
  AtRest answer [] old result new = (result ≡ answer) × (new ≡ old)
  AtRest answer (time ∷ times) old result new = AtEach point (time ∷ times) old result new

  pub rest_first : (times : List ℕ) (old new : W) (result : Result Bool ToolFault) → AtRest (Ok true) times old result new → AtEach point times old result new
  rest_first [] old new result rest = rest
  rest_first (time ∷ times) old new result rest = rest

  -- the answer at a time, and then the others
  pub rest_on : (time : ℕ) (times : List ℕ) (old mid new : W) (answer result : Result Bool ToolFault) → point time old answer mid → true ≡ continues answer
      → AtRest answer times mid result new → AtEach point (time ∷ times) old result new
  rest_on time [] old mid new answer result here on (is, same) =
      subst (λ r. point time old r new) (sym is) (subst (λ w. point time old answer w) (sym same) here)
  rest_on time (next ∷ times) old mid new answer result here on later =
      (mid, answer, here, subst (λ b. MatchBool b (AtEach point (next ∷ times) mid result new) ((result ≡ answer) × (new ≡ mid))) on later)

  -- or none of the others
  pub rest_off : (time : ℕ) (times : List ℕ) (old new : W) (answer : Result Bool ToolFault) → point time old answer new → false ≡ continues answer
      → AtEach point (time ∷ times) old answer new
  rest_off time [] old new answer here off = here
  rest_off time (next ∷ times) old new answer here off =
      (new, answer, here, subst (λ b. MatchBool b (AtEach point (next ∷ times) new answer new) ((answer ≡ answer) × (new ≡ new))) off (refl, refl))

-- a time is the first of these
abbrev pub IsFirst : ℕ → List ℕ → Type 0
IsFirst next [] = ⊥
IsFirst next (time ∷ times) = next ≡ time

-- none of a list is left past its length
pub all_dropped : (times : List ℕ) (i : ℕ) → length times ≤ i → drop i times ≡ []
all_dropped [] zero long = refl
all_dropped [] (suc i) long = refl
all_dropped (time ∷ times) zero long = absurd (omega (arith, long))
all_dropped (time ∷ times) (suc i) long = all_dropped times i (omega (arith, long))

-- the reading goes on from one time to a later one
pub goes_later : (time next count : ℕ) (stop : PartStop Refused) → time ≤ next → (stop ≡ Late) ⊎ (stop ≡ End) → GoesOnTo (up_to time) stop count (up_to next)
goes_later time next count stop later (inl is) = subst (λ s. GoesOnTo (up_to time) s count (up_to next)) (sym is) (record { goes_on = tt; later = later; within = tt; more = inr tt })
goes_later time next count stop later (inr is) = subst (λ s. GoesOnTo (up_to time) s count (up_to next)) (sym is) (record { goes_on = tt; later = later; within = tt; more = inr tt })

module _ {R W : Type 0} (remaining : R → Option (List ℕ)) (failed_reads : R → Failures) (contents : W → Option (List ℕ)) (failed_writes : W → Failures)
    (request : BookRequest) (set : Option Wanted) (first : Reading R) (time : ℕ) (now : Reading R) (tracked : Tracked Content) where
  -- a part that is refused lacks no locate
  refused_stops : (limit : Limit) (then : Reading R) (fault : ToolFault) → ReadsDay remaining failed_reads Only limit first then (Err fault) → false ≡ continues (Err fault)
  refused_stops limit then (tool.Stopped at end) day = refl
  refused_stops limit then (tool.Short at count) day = refl
  refused_stops limit then (tool.Snap at f) day = refl
  refused_stops limit then (tool.UnmetExpectation unmet) day = refl
  refused_stops limit then (tool.FeedMismatch mismatch) day = refl
  refused_stops limit then tool.UnknownLocate day = absurd day
  refused_stops limit then tool.UnknownStock day = absurd day
  refused_stops limit then tool.OutOfMemory day = refl
  refused_stops limit then (tool.Open file error) day = refl
  refused_stops limit then (tool.Write error) day = refl
  refused_stops limit then tool.BadLocates day = refl
  refused_stops limit then tool.TooMany day = refl

  -- if the part before the time is refused, nothing is written
  pub refused_on : (old : W) (fault : ToolFault) → ReadsUntil remaining failed_reads time first now (Err fault) tracked
      → ListsOn remaining failed_reads contents failed_writes request set first time now tracked old (Err fault) old
  refused_on old fault (stop, day) = (
    (left_by stop now, inl (fault, refl, refused_part set (ReadsFile remaining failed_reads Only (Day (up_to time)) first (left_by stop now)) request.selection fault day, refl)),
    subst (λ b. MatchBool b ((stop : PartStop Refused) × ((stop ≡ Late) ⊎ (stop ≡ End)) × Stands remaining failed_reads (up_to time) first now tracked stop) ⊤)
        (refused_stops (up_to time) (left_by stop now) fault day) tt,
  )

  -- or else the books of the market are those of the part
  module _ (old new : W) (result : Result Bool ToolFault) where
    at_stop : (stop : PartStop Refused) → (stop ≡ Late) ⊎ (stop ≡ End) → Stands remaining failed_reads (up_to time) first now tracked stop
        → IsRead remaining failed_reads (up_to time) first (left_by stop now) tracked.sink tracked.cursor → ListsMarket contents failed_writes request set tracked.sink time old result new
        → ListsOn remaining failed_reads contents failed_writes request set first time now tracked old result new
    at_stop stop which stands read wrote = (
      (
        left_by stop now,
        part_listed remaining failed_reads contents failed_writes (timed_books request.form time request.depth) (timed_of_market request.form time request.depth) set (up_to time) first (left_by stop now)
            tracked.sink tracked.cursor read request.selection old new result wrote,
      ),
      later_if (continues result) (stop, which, stands),
    ) where
      later_if : (b : Bool) → ((stop : PartStop Refused) × ((stop ≡ Late) ⊎ (stop ≡ End)) × Stands remaining failed_reads (up_to time) first now tracked stop)
          → MatchBool b ((stop : PartStop Refused) × ((stop ≡ Late) ⊎ (stop ≡ End)) × Stands remaining failed_reads (up_to time) first now tracked stop) ⊤
      later_if true h = h
      later_if false h = tt

    pub listed_on : (more : Bool) → ReadsUntil remaining failed_reads time first now (Ok more) tracked → ListsMarket contents failed_writes request set tracked.sink time old result new
        → ListsOn remaining failed_reads contents failed_writes request set first time now tracked old result new
    listed_on true (stands, read) wrote = at_stop Late (inl refl) stands read wrote
    listed_on false (stands, read) wrote = at_stop End (inr refl) stands read wrote

-- the state of a series before the times that are left
pub record InTurn {R W : Type 0} (remaining : R → Option (List ℕ)) (failed_reads : R → Failures) (point : ℕ → W → Result Bool ToolFault → W → Type 0) (first : Reading R) (times left : List ℕ)
    (answer : Result Bool ToolFault) (old new : W) (now : Reading R) (tracked : Tracked Content) : Type 0 where
  pub rest : (end : W) (result : Result Bool ToolFault) → AtRest point answer left new result end → AtEach point times old result end
  pub stands : (before : Limit) × (stop : PartStop Refused) × Stands remaining failed_reads before first now tracked stop × ((next : ℕ) → IsFirst next left → GoesOnTo before stop tracked.cursor.count (up_to next))
  pub ascend : Ascend left

-- the next time is not earlier
first_later : (time next : ℕ) (left : List ℕ) → Ascend (time ∷ left) → IsFirst next left → time ≤ next
first_later time next [] ascend is = absurd is
first_later time next (other ∷ left) ascend is = omega (arith, is, ascend.0)

later_ascend : (time : ℕ) (left : List ℕ) → Ascend (time ∷ left) → Ascend left
later_ascend time [] ascend = tt
later_ascend time (other ∷ left) ascend = ascend.1

module _ {R W : Type 0} (remaining : R → Option (List ℕ)) (failed_reads : R → Failures) (contents : W → Option (List ℕ)) (failed_writes : W → Failures)
    (request : BookRequest) (set : Option Wanted) (first : Reading R) (times : List ℕ) where
  abbrev point : ℕ → W → Result Bool ToolFault → W → Type 0
  point = AtTime remaining failed_reads contents failed_writes request set first

  pub turn_begun : (old : W) (start : Reading R) (tracked : Tracked Content) → Stands remaining failed_reads (record { after = Some 0; until = Some 0 }) first start tracked Full → Ascend times
      → InTurn remaining failed_reads point first times times (Ok true) old old start tracked
  turn_begun old start tracked stands ascend = record {
    rest = λ end result rest. rest_first point times old end result rest;
    stands = (record { after = Some 0; until = Some 0 }, Full, stands, λ next is. record { goes_on = tt; later = omega arith; within = tt; more = inl refl });
    ascend = ascend;
  }

  module _ (time : ℕ) (left : List ℕ) (answer last : Result Bool ToolFault) (old mid new : W) (before now : Reading R) (began tracked : Tracked Content)
      (turn : InTurn remaining failed_reads point first times (time ∷ left) last old mid before began)
      (listed : ListsOn remaining failed_reads contents failed_writes request set first time now tracked mid answer new) where
    pub turn_on : true ≡ continues answer → InTurn remaining failed_reads point first times left answer old new now tracked
    turn_on on =
        let there : (stop : PartStop Refused) × ((stop ≡ Late) ⊎ (stop ≡ End)) × Stands remaining failed_reads (up_to time) first now tracked stop =
        subst (λ b. MatchBool b ((stop : PartStop Refused) × ((stop ≡ Late) ⊎ (stop ≡ End)) × Stands remaining failed_reads (up_to time) first now tracked stop) ⊤) (sym on) listed.1 in
        record {
          rest = λ end result rest. turn.rest end result (rest_on point time left mid new end answer result listed.0 on rest);
          stands = (up_to time, there.0, there.2, λ next is. goes_later time next tracked.cursor.count there.0 (first_later time next left turn.ascend is) there.1);
          ascend = later_ascend time left turn.ascend;
        }

    pub turn_off : false ≡ continues answer → AtEach point times old answer new
    turn_off off = turn.rest new answer (rest_off point time left mid new answer listed.0 off)

  pub turn_ends : (left : List ℕ) (answer : Result Bool ToolFault) (old new : W) (now : Reading R) (tracked : Tracked Content) → left ≡ []
      → InTurn remaining failed_reads point first times left answer old new now tracked → AtEach point times old answer new
  turn_ends left answer old new now tracked none turn =
      turn.rest new answer (subst (λ ts. AtRest point answer ts new answer new) (sym none) (refl, refl))

  -- how the next time is read
  pub turn_next : (time : ℕ) (left : List ℕ) (answer : Result Bool ToolFault) (old new : W) (now : Reading R) (tracked : Tracked Content)
      → InTurn remaining failed_reads point first times (time ∷ left) answer old new now tracked
      → (before : Limit) × (stop : PartStop Refused) × Stands remaining failed_reads before first now tracked stop × GoesOnTo before stop tracked.cursor.count (up_to time)
  turn_next time left answer old new now tracked turn = (turn.stands.0, turn.stands.1, turn.stands.2, turn.stands.3 time refl)

-- the same for any beginning of the reading, with the market and the number of messages of a pass
pub record EachInTurn {R W : Type 0} (remaining : R → Option (List ℕ)) (failed_reads : R → Failures) (contents : W → Option (List ℕ)) (failed_writes : W → Failures)
    (request : BookRequest) (set : Option Wanted) (times left : List ℕ) (answer : Result Bool ToolFault) (old new : W) (start : Reading R) (first_market : Content) (first_count : ℕ)
    (now : Reading R) (m : Content) (count : ℕ) : Type 0 where
  pub turn : (first : Reading R) → (began : Tracked Content) → Stands remaining failed_reads (record { after = Some 0; until = Some 0 }) first start began Full → IsAt began first_market first_count → Ascend times
      → (tracked : Tracked Content)
      × InTurn remaining failed_reads (AtTime remaining failed_reads contents failed_writes request set first) first times left answer old new now tracked × IsAt tracked m count
