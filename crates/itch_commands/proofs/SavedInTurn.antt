-- Reading on from point to point, and saving the snapshots, one after another.
use Rattle.std.proofs.Common.{◌≡◌, ℕ, zero, suc, ◌+◌, ◌-◌, ◌^◌, ◌<◌, ◌≤◌, max, min, Bool, true, false, ◌&&◌, not, List, [], ◌∷◌, drop, length, Option, None, Some, IfSome, Result, Ok, Err, MatchResult, inl, inr, refl, sym, ap, subst, ◌∙◌, arith}
use Rattle.std.specs.Prelude.{⊤, ◌⊎◌}
use Rattle.std.proofs.lemmas.Bool.{le-leb, leb-true}
use Rattle.itch_frame.specs.Reading.{Reading}
use Rattle.itch_frame.specs.declared.tally.Failures.{Failures}
use Rattle.itch_day.specs.Limits.{IsBefore, IsNoEarlier, IsWithin, counted}
use Rattle.itch_day.specs.Parts.{GoesOn, GoesOnTo}
use Rattle.itch_day.specs.Passing.{left_by}
use Rattle.itch_day.specs.declared.limit.Limit.{Limit}
use Rattle.itch_day.specs.declared.cursor.DayCursor.{DayCursor}
use Rattle.itch_day.specs.declared.tracked.Tracked.{Tracked}
use Rattle.itch_day.specs.declared.stop.PartStop.{PartStop as Part}
use Rattle.itch_day.specs.declared.stop.PartStop.TheVariants as part
use Rattle.itch_market.specs.Content.{Content}
use Rattle.itch_market.specs.declared.refused.Refused.{Refused}
use Rattle.itch_commands.specs.Ascending.{ascend, ascend_after, ends_by, is_longer, is_within}
use Rattle.itch_commands.specs.Points.{IsRead, Reaches, ReadsMore, Stands, at_first}
use Rattle.itch_commands.specs.Readings.{ReadsDay}
use Rattle.itch_commands.specs.SavedPoints.{SavesAt, SavesEach, SavesEvery, SavesNext}
use Rattle.itch_commands.specs.declared.fault.Source.TheVariants.{Only}
use Rattle.itch_commands.specs.declared.fault.ToolFault.{ToolFault}
use Rattle.itch_commands.proofs.PointReadings.{reached_goes}

-- ---- ascending parts

both : (a b : Bool) → (a && b) ≡ true → (a ≡ true) × (b ≡ true)
both true b is = (refl, is)
both false b is = absurd (cc is)

-- each part begins with the one before
abbrev pub Continue : Limit → List Limit → Type 0
Continue before [] = ⊤
Continue before (limit ∷ limits) = (is_within before limit ≡ true) × Continue limit limits

continue_after : (before : Limit) (limits : List Limit) → ascend_after (Some before) limits ≡ true → Continue before limits
continue_after before [] up = tt
continue_after before (limit ∷ limits) up =
    let (longer, rest) = both (is_longer before limit) (ascend_after (Some limit) limits) up in
    ((both (is_within before limit) (not (is_within limit before)) longer).0, continue_after limit limits rest)

ends_first : (end : Option ℕ) → ends_by (Some 0) end ≡ true
ends_first None = refl
ends_first (Some end) = le-leb 0 end (omega arith)

pub continue_first : (limits : List Limit) → ascend limits ≡ true → Continue at_first limits
continue_first [] up = tt
continue_first (limit ∷ limits) up = (ap (λ b. b && ends_by (Some 0) limit.until) (ends_first limit.after) ∙ ends_first limit.until, continue_after limit limits up)

no_earlier : (before end : Option ℕ) → ends_by before end ≡ true → IsNoEarlier before end
no_earlier before None is = tt
no_earlier None (Some end) is = absurd (cc is)
no_earlier (Some before) (Some end) is = leb-true before end is

within_on : (before end : Option ℕ) (count : ℕ) → ends_by before end ≡ true → IfSome before (λ most. count ≤ most) → IfSome end (λ most. count ≤ most)
within_on before None count is few = tt
within_on None (Some end) count is few = absurd (cc is)
within_on (Some before) (Some end) count is few = omega (arith, few, leb-true before end is)

before_on : (before end : Option ℕ) (count : ℕ) → ends_by before end ≡ true → IfSome before (λ most. count < most) → IfSome end (λ most. count < most)
before_on before None count is few = tt
before_on None (Some end) count is few = absurd (cc is)
before_on (Some before) (Some end) count is few = omega (arith, few, leb-true before end is)

within_all : (end : Option ℕ) (taken count : ℕ) → count ≡ 0 + taken → (0 < taken → IfSome end (λ most. count ≤ most)) → IfSome end (λ most. count ≤ most)
within_all None taken count is wanted = tt
within_all (Some most) zero count is wanted = omega (arith, is)
within_all (Some most) (suc taken) count is wanted = wanted (omega arith)

module _ {R : Type 0} (remaining : R → Option (List ℕ)) (failures : R → Failures) (before : Limit) (first now : Reading R) (tracked : Tracked Content) where
  -- at first no message was read
  pub none_read : (stop : Part Refused) → Stands remaining failures before first now tracked stop → before ≡ at_first → tracked.cursor.count ≡ 0
  none_read stop stands is =
      let few : IfSome before.after (λ most. tracked.cursor.count ≤ most) = within_all before.after (length stands.payloads) tracked.cursor.count stands.taken.counted stands.taken.wanted in
      let none : tracked.cursor.count ≤ 0 = subst (λ (l : Limit). IfSome l.after (λ most. tracked.cursor.count ≤ most)) is few in
      omega (arith, none)

  module _ (limit : Limit) (within : is_within before limit ≡ true) where
    ends : (ends_by before.after limit.after ≡ true) × (ends_by before.until limit.until ≡ true)
    ends = both (ends_by before.after limit.after) (ends_by before.until limit.until) within

    more : (stop : Part Refused) → Stands remaining failures before first now tracked stop → Reaches before stop → (stop ≡ part.Full) ⊎ IsBefore limit tracked.cursor.count
    more part.Full stands reaches = inl refl
    more part.Late stands reaches = inr (before_on before.after limit.after tracked.cursor.count ends.0 stands.stops.1)
    more part.End stands whole =
        inr (before_on before.after limit.after tracked.cursor.count ends.0 (subst (λ end. IfSome end (λ most. tracked.cursor.count < most)) (sym whole) tt))
    more (part.Frame f) stands never = absurd never
    more part.TooMany stands never = absurd never
    more (part.Refused why) stands never = absurd never

    -- after a part that was read, one that begins with it may follow
    pub goes_to : (stop : Part Refused) → Stands remaining failures before first now tracked stop → Reaches before stop → GoesOnTo before stop tracked.cursor.count limit
    goes_to stop stands reaches = record {
      goes_on = reached_goes before stop reaches;
      later = no_earlier before.until limit.until ends.1;
      within =
          within_on before.after limit.after tracked.cursor.count ends.0
          (within_all before.after (length stands.payloads) tracked.cursor.count stands.taken.counted stands.taken.wanted);
      more = more stop stands reaches;
    }

-- none of a list is left past its length
pub none_left : {X : Type 0} (xs : List X) (i : ℕ) → length xs ≤ i → drop i xs ≡ []
none_left [] zero long = refl
none_left [] (suc i) long = refl
none_left (x ∷ xs) zero long = absurd (omega (arith, long))
none_left (x ∷ xs) (suc i) long = none_left xs i (omega (arith, long))

-- ---- one after another

-- after some more messages, or all remaining ones, the part was read
pub next_read : {R : Type 0} (remaining : R → Option (List ℕ)) (failures : R → Failures) (most : ℕ) (limit : Limit) (first now : Reading R) (stop : Part Refused) (tracked : Tracked Content) (more : Bool)
    → ReadsMore remaining failures most limit first now stop (Ok more) tracked → IsRead remaining failures limit first (left_by stop now) tracked.sink tracked.cursor
next_read remaining failures most limit first now stop tracked true (is, count, reaches, read) = read
next_read remaining failures most limit first now stop tracked false (is, fewer, reaches, read) = read

module _ {R S E : Type 0} (remaining : R → Option (List ℕ)) (failures : R → Failures) (gives : ToolFault → E → Type 0)
    (saves : S → Limit → Reading R → Reading R → DayCursor → Result (Unit {0}) E → S → Type 0) where
  -- at one point
  module _ (first : Reading R) (old new : S) where
    pub saved_at : (limit : Limit) (now : Reading R) (m : Content) (cursor : DayCursor) (result : Result (Unit {0}) E) → IsRead remaining failures limit first now m cursor
        → saves old limit first now cursor result new → SavesAt remaining failures gives saves limit first old result new
    saved_at limit now m cursor (Ok done) read saved = (now, m, cursor, read, saved)
    saved_at limit now m cursor (Err error) read saved = inr (now, m, cursor, read, saved)

    pub refused_at : (limit : Limit) (now : Reading R) (fault : ToolFault) (error : E) → ReadsDay remaining failures Only limit first now (Err fault) → gives fault error → new ≡ old
        → SavesAt remaining failures gives saves limit first old (Err error) new
    refused_at limit now fault error day given same = inl (now, fault, day, given, same)

    module _ (most : ℕ) (limit : Limit) (now : Reading R) (stop : Part Refused) (tracked : Tracked Content) where
      pub next_saved : (more : Bool) → ReadsMore remaining failures most limit first now stop (Ok more) tracked → saves old limit first (left_by stop now) tracked.cursor (Ok tt) new
          → SavesNext remaining failures gives saves most first old (Ok more) new
      next_saved true (is, count, reaches, read) saved = (
        left_by stop now,
        tracked.sink,
        tracked.cursor,
        subst (λ l. IsRead remaining failures l first (left_by stop now) tracked.sink tracked.cursor) is read,
        subst (λ l. saves old l first (left_by stop now) tracked.cursor (Ok tt) new) is saved,
      )
      next_saved false (is, fewer, reaches, read) saved = (
        left_by stop now,
        tracked.sink,
        tracked.cursor,
        subst (λ l. IsRead remaining failures l first (left_by stop now) tracked.sink tracked.cursor) is read,
        fewer,
        subst (λ l. saves old l first (left_by stop now) tracked.cursor (Ok tt) new) is saved,
      )

      pub next_unsaved : (more : Bool) (error : E) → ReadsMore remaining failures most limit first now stop (Ok more) tracked
          → saves old limit first (left_by stop now) tracked.cursor (Err error) new → SavesNext remaining failures gives saves most first old (Err error) new
      next_unsaved true error (is, count, reaches, read) saved =
          inl (inr (
            left_by stop now,
            tracked.sink,
            tracked.cursor,
            subst (λ l. IsRead remaining failures l first (left_by stop now) tracked.sink tracked.cursor) is read,
            subst (λ l. saves old l first (left_by stop now) tracked.cursor (Err error) new) is saved,
          ))
      next_unsaved false error (is, fewer, reaches, read) saved =
          inr (
            left_by stop now,
            tracked.sink,
            tracked.cursor,
            subst (λ l. IsRead remaining failures l first (left_by stop now) tracked.sink tracked.cursor) is read,
            fewer,
            subst (λ l. saves old l first (left_by stop now) tracked.cursor (Err error) new) is saved,
          )

  -- the same with the reader at the beginning of the pass, which stays
  module _ (began first : Reading R) (same : began ≡ first) (old new : S) where
    pub saved_from : (limit : Limit) (now : Reading R) (m : Content) (cursor : DayCursor) (result : Result (Unit {0}) E) → IsRead remaining failures limit began now m cursor
        → saves old limit began now cursor result new → SavesAt remaining failures gives saves limit first old result new
    saved_from limit now m cursor result read saved =
        subst (λ r. SavesAt remaining failures gives saves limit r old result new) same (saved_at began old new limit now m cursor result read saved)

    pub refused_from : (limit : Limit) (now : Reading R) (fault : ToolFault) (error : E) → ReadsDay remaining failures Only limit began now (Err fault) → gives fault error → new ≡ old
        → SavesAt remaining failures gives saves limit first old (Err error) new
    refused_from limit now fault error day given unchanged =
        subst (λ r. SavesAt remaining failures gives saves limit r old (Err error) new) same (refused_at began old new limit now fault error day given unchanged)

    module _ (most : ℕ) (limit : Limit) (now : Reading R) (stop : Part Refused) (tracked : Tracked Content) where
      pub next_from : (more : Bool) → ReadsMore remaining failures most limit began now stop (Ok more) tracked → saves old limit began (left_by stop now) tracked.cursor (Ok tt) new
          → SavesNext remaining failures gives saves most first old (Ok more) new
      next_from more reads saved =
          subst (λ r. SavesNext remaining failures gives saves most r old (Ok more) new) same (next_saved began old new most limit now stop tracked more reads saved)

      pub next_unsaved_from : (more : Bool) (error : E) → ReadsMore remaining failures most limit began now stop (Ok more) tracked
          → saves old limit began (left_by stop now) tracked.cursor (Err error) new → SavesNext remaining failures gives saves most first old (Err error) new
      next_unsaved_from more error reads saved =
          subst (λ r. SavesNext remaining failures gives saves most r old (Err error) new) same (next_unsaved began old new most limit now stop tracked more error reads saved)

      pub next_refused_from : (fault : ToolFault) (error : E) → ReadsMore remaining failures most limit began now stop (Err fault) tracked → gives fault error → new ≡ old
          → SavesNext remaining failures gives saves most first old (Err error) new
      next_refused_from fault error (is, day) given unchanged = inl (refused_from (counted (Some most)) (left_by stop now) fault error day given unchanged)

  -- Some of the parts were read and their snapshots saved, and these are left.
  pub record EachSaved (first : Reading R) (limits left : List Limit) (old now : S) (began reader : Reading R) (limit : Limit) (tracked : Tracked Content) (stop : Part Refused) : Type 0 where
    pub same : began ≡ first
    pub stands : Stands remaining failures limit began reader tracked stop
    pub reaches : Reaches limit stop
    pub rises : Continue limit left
    pub turn : (result : Result Bool E) (new : S) → SavesEach remaining failures gives saves first left now result new → SavesEach remaining failures gives saves first limits old result new

  pub each_begun : (first : Reading R) (limits : List Limit) (old : S) (reader : Reading R) (limit : Limit) (tracked : Tracked Content) (stop : Part Refused)
      → Stands remaining failures limit first reader tracked stop → limit ≡ at_first → stop ≡ part.Full → ascend limits ≡ true → EachSaved first limits limits old old first reader limit tracked stop
  each_begun first limits old reader limit tracked stop stands begins unread up = record {
    same = refl;
    stands = stands;
    reaches = subst (λ s. Reaches limit s) (sym unread) tt;
    rises = subst (λ l. Continue l limits) (sym begins) (continue_first limits up);
    turn = λ result new saved. saved;
  }

  module _ (first : Reading R) (limits : List Limit) (old now : S) (began reader : Reading R) (limit : Limit) (tracked : Tracked Content) (stop : Part Refused) where
    module _ (next : Limit) (left : List Limit) (so_far : EachSaved first limits (next ∷ left) old now began reader limit tracked stop) where
      pub each_goes : GoesOnTo limit stop tracked.cursor.count next
      each_goes = goes_to remaining failures limit began reader tracked next so_far.rises.0 stop so_far.stands so_far.reaches

      pub each_on : (mid : S) (began_then then : Reading R) (later : Tracked Content) (at : Part Refused) → SavesAt remaining failures gives saves next began now (Ok tt) mid → began_then ≡ began
          → Stands remaining failures next began_then then later at → Reaches next at → EachSaved first limits left old mid began_then then next later at
      each_on mid began_then then later at saved same stands reaches = record {
        same = same ∙ so_far.same;
        stands = stands;
        reaches = reaches;
        rises = so_far.rises.1;
        turn = λ result new rest.
            so_far.turn result new (Ok tt, mid, subst (λ r. SavesAt remaining failures gives saves next r now (Ok tt) mid) so_far.same saved, rest);
      }

      pub each_off : (new : S) (error : E) → SavesAt remaining failures gives saves next began now (Err error) new → SavesEach remaining failures gives saves first limits old (Err error) new
      each_off new error saved =
          so_far.turn (Err error) new (Err error, new, subst (λ r. SavesAt remaining failures gives saves next r now (Err error) new) so_far.same saved, (refl, refl))

    pub each_ends : (left : List Limit) → left ≡ [] → EachSaved first limits left old now began reader limit tracked stop → SavesEach remaining failures gives saves first limits old (Ok true) now
    each_ends left none so_far =
        so_far.turn (Ok true) now (subst (λ ls. SavesEach remaining failures gives saves first ls now (Ok true) now) (sym none) (refl, refl))

  -- Some of the snapshots were saved.
  pub record EverySaved (step : ℕ) (first : Reading R) (turns : ℕ) (old now : S) (began reader : Reading R) (tracked : Tracked Content) (limit : Limit) (stop : Part Refused) : Type 0 where
    pub same : began ≡ first
    pub stands : Stands remaining failures limit began reader tracked stop
    pub goes_on : GoesOn stop
    pub some : turns ≤ tracked.cursor.count
    pub turn : (result : Result Bool E) (new : S) (points : ℕ) → SavesEvery remaining failures gives saves step points first tracked.cursor.count now result new
        → (all : ℕ) × SavesEvery remaining failures gives saves step all first 0 old result new

  pub every_begun : (step : ℕ) (first : Reading R) (old : S) (reader : Reading R) (tracked : Tracked Content) (limit : Limit) (stop : Part Refused)
      → Stands remaining failures limit first reader tracked stop → limit ≡ at_first → stop ≡ part.Full → EverySaved step first 0 old old first reader tracked limit stop
  every_begun step first old reader tracked limit stop stands begins unread = record {
    same = refl;
    stands = stands;
    goes_on = subst (λ (s : Part Refused). GoesOn s) (sym unread) tt;
    some = omega arith;
    turn = λ result new points saved.
        (points, subst (λ k. SavesEvery remaining failures gives saves step points first k old result new) (none_read remaining failures limit first reader tracked stop stands begins) saved);
  }

  module _ (step : ℕ) (some : 0 < step) (first : Reading R) (turns : ℕ) (old now : S) (began reader : Reading R) (tracked : Tracked Content) (limit : Limit) (stop : Part Refused)
      (few : tracked.cursor.count ≤ 10 ^ 19 - 1) (so_far : EverySaved step first turns old now began reader tracked limit stop) where
    abbrev most : ℕ
    most = min (tracked.cursor.count + step) (2 ^ 64 - 1)

    here : (answer : Result Bool E) (mid : S) → SavesNext remaining failures gives saves most began now answer mid → SavesNext remaining failures gives saves most first now answer mid
    here answer mid saved = subst (λ r. SavesNext remaining failures gives saves most r now answer mid) so_far.same saved

    pub every_on : (mid : S) (began_then then : Reading R) (later : Tracked Content) (limit_then : Limit) (at : Part Refused)
        → SavesNext remaining failures gives saves (min (tracked.cursor.count + step) (2 ^ 64 - 1)) began now (Ok true) mid → began_then ≡ began → Stands remaining failures limit_then began_then then later at → GoesOn at
        → later.cursor.count ≡ min (tracked.cursor.count + step) (2 ^ 64 - 1) → EverySaved step first (turns + 1) old mid began_then then later limit_then at
    every_on mid began_then then later limit_then at saved same stands goes count = record {
      same = same ∙ so_far.same;
      stands = stands;
      goes_on = goes;
      some = omega (arith, so_far.some, some, few, count);
      turn = λ result new points rest.
          so_far.turn result new (suc points) (
            Ok true,
            mid,
            here (Ok true) mid saved,
            subst (λ k. SavesEvery remaining failures gives saves step points first k mid result new) count rest,
          );
    }

    pub every_done : (mid : S) → SavesNext remaining failures gives saves (min (tracked.cursor.count + step) (2 ^ 64 - 1)) began now (Ok false) mid
        → (all : ℕ) × SavesEvery remaining failures gives saves step all first 0 old (Ok true) mid
    every_done mid saved = so_far.turn (Ok true) mid 1 (Ok false, mid, here (Ok false) mid saved, (refl, refl))

    pub every_off : (mid : S) (error : E) → SavesNext remaining failures gives saves (min (tracked.cursor.count + step) (2 ^ 64 - 1)) began now (Err error) mid
        → (all : ℕ) × SavesEvery remaining failures gives saves step all first 0 old (Err error) mid
    every_off mid error saved = so_far.turn (Err error) mid 1 (Err error, mid, here (Err error) mid saved, (refl, refl))

    -- no file has that many messages
    pub too_many : 2 ^ 64 - 1 ≤ turns → ⊥
    too_many all = omega (arith, all, so_far.some, few)
