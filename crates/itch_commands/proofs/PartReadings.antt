-- The result of reading the requested part of a day file, and its progress.
use Rattle.std.proofs.Common.{◌≡◌, ℕ, ◌-◌, ◌^◌, ◌≤◌, ◌<◌, true, List, Option, None, Some, IsSome, IfSome, Ok, inl, inr, refl, sym, ap, subst, arith}
use Rattle.itch_codec.specs.declared.message.Message.{Message}
use Rattle.itch_frame.specs.Reading.{Reading}
use Rattle.itch_frame.specs.declared.tally.Failures.{Failures}
use Rattle.itch_market.specs.Content.{Content}
use Rattle.itch_market.specs.Replays.{Counts, LeavesReaderFirst}
use Rattle.itch_market.specs.declared.stop.Stop.{Stop}
use Rattle.itch_market.specs.declared.stop.Stop.TheVariants.{End, Frame, Codec, Rule, TooManyMessages}
use Rattle.itch_day.specs.Limits.{is_late, most_of}
use Rattle.itch_market.specs.DayParts.{HaltsPart, LeavesPartOf}
use Rattle.itch_commands.specs.Readings.{ReadsMarket, CountsRead, LeavesDay, stopped}
use Rattle.itch_commands.specs.declared.fault.Source.{Source}
use Rattle.itch_day.specs.declared.limit.Limit.{Limit}

-- a message is late only if a time is given
pub late_given : (until : Option ℕ) (message : Message) → is_late until message ≡ true → IsSome until
late_given None message late = cc
late_given (Some time) message late = refl

-- fewer messages than the most are fewer than requested
pub before_most : (wanted : Option ℕ) (count : ℕ) → count < most_of wanted → IfSome wanted (λ most. count < most)
before_most None count within = tt
before_most (Some most) count within = within

-- the most messages are as many as requested, since no file has more
pub all_wanted : (wanted : Option ℕ) (count : ℕ) → count ≡ most_of wanted → count ≤ 10 ^ 19 - 1 → wanted ≡ Some count
all_wanted None count all few = absurd (omega (arith, all, few))
all_wanted (Some most) count all few = ap Some (sym all)

pub is_given : (wanted : Option ℕ) (most : ℕ) → wanted ≡ Some most → IsSome wanted
is_given wanted most is = subst IsSome (sym is) refl

module _ (file : Source) (limit : Limit) (m : Content) (old new : Option (List ℕ)) (count : ℕ) (n : Content) where
  ended_so : (wanted : Option ℕ) → limit.after ≡ wanted → HaltsPart limit m old new count End n → ReadsMarket file limit m old new (stopped End wanted file count) n
  ended_so None is (before, ps, mid, takes, ends) = (ps, mid, takes, inr (inr (is, ends)))
  ended_so (Some most) is halts = (refl, is_given limit.after most is, halts)

  -- the result of a stop
  pub stopped_so : (stop : Stop) → HaltsPart limit m old new count stop n → ReadsMarket file limit m old new (stopped stop limit.after file count) n
  stopped_so End halts = ended_so limit.after refl halts
  stopped_so (Frame f) halts = (refl, λ e. absurd (cc), halts)
  stopped_so (Codec f) halts = (refl, λ e. absurd (cc), halts)
  stopped_so (Rule why) halts = (refl, λ e. absurd (cc), halts)
  stopped_so TooManyMessages halts = (refl, λ e. absurd (cc), halts)

  counts_end : (wanted : Option ℕ) (before now : Failures) → now ≡ before → CountsRead (stopped End wanted file count) before now
  counts_end None before now same = same
  counts_end (Some most) before now same = same

  -- and its count
  pub stopped_counts : (stop : Stop) (before now : Failures) → Counts stop before now → CountsRead (stopped stop limit.after file count) before now
  stopped_counts End before now counts = counts_end limit.after before now counts
  stopped_counts (Frame f) before now counts = counts
  stopped_counts (Codec f) before now counts = counts
  stopped_counts (Rule why) before now counts = counts
  stopped_counts TooManyMessages before now counts = counts

-- the reader after a part that nothing stopped
pub part_leaves : {R : Type 0} (limit : Limit) (old : Reading R) (count : ℕ) (new : Reading R) → LeavesPartOf limit old count None new → LeavesDay (Ok count) limit old new
part_leaves limit old count new (inl leaves) = inl leaves
part_leaves limit old count new (inr leaves) = inr (inl leaves)

module _ {R : Type 0} (file : Source) (limit : Limit) (count : ℕ) (old new : Reading R) where
  ended_leaves : (wanted : Option ℕ) → limit.after ≡ wanted → LeavesReaderFirst old count (Some End) new → LeavesDay (stopped End wanted file count) limit old new
  ended_leaves None is leaves = inr (inr (is, leaves))
  ended_leaves (Some most) is leaves = leaves

  -- and the reader afterwards
  pub stop_leaves : (stop : Stop) → LeavesReaderFirst old count (Some stop) new → LeavesDay (stopped stop limit.after file count) limit old new
  stop_leaves End leaves = ended_leaves limit.after refl leaves
  stop_leaves (Frame f) leaves = leaves
  stop_leaves (Codec f) leaves = leaves
  stop_leaves (Rule why) leaves = leaves
  stop_leaves TooManyMessages leaves = leaves
