-- The part of a day that was read into the empty market.
use Rattle.std.proofs.Common.{◌≡◌, ℕ, ◌-◌, ◌^◌, ◌≤◌, ◌==◌, Bool, List, map, length, Option, None, Some, IfSome, sym, subst, inl, inr, arith}
use Rattle.std.specs.List.{AllByRecursion}
use Rattle.std.specs.Io.KnownBytes.{Consumes}
use Rattle.itch_codec.specs.Messages.{message_of}
use Rattle.itch_codec.specs.Widths.{IsMessage}
use Rattle.itch_frame.specs.Blocks.{blocks, Ends}
use Rattle.itch_frame.specs.Reading.{EndsHere}
use Rattle.itch_day.specs.declared.limit.Limit.{Limit}
use Rattle.itch_book.proofs.Lists.{All-map_rec}
use Rattle.itch_market.specs.Content.{Content, empty, laid}
use Rattle.itch_market.specs.DayMessages.{AreTaken, IsCut, IsPart, LeavesPart}
use Rattle.itch_market.specs.DayParts.{HaltsEarly, HaltsPart, IsEnough, TakesPart}
use Rattle.itch_market.specs.GoodMarkets.{IsGood}
use Rattle.itch_market.specs.Replays.{Fits, Halts, IsDecided, Replays}
use Rattle.itch_market.specs.Runs.{after, run}
use Rattle.itch_market.specs.Stops.{Stops}
use Rattle.itch_market.specs.declared.stop.Stop.{Stop}
use Rattle.itch_market.specs.declared.stop.Stop.TheVariants.{End, Frame, Codec, Rule, TooManyMessages}
use Rattle.itch_market.proofs.Causes.{none_follows}
use Rattle.itch_market.proofs.GoodMarkets.{run_good}
use Rattle.itch_market.proofs.ReplayedFiles.{replays_stop}

-- a late message is not refused; any other stop is a stop of a replay
pub halts_replays : (limit : Limit) (m : Content) (old new : Option (List ℕ)) (count : ℕ) (stop : Stop) (n : Content) → HaltsPart limit m old new count stop n
    → Replays m old new count stop n
halts_replays limit m old new count stop n (before, ps, mid, (takes, counted, few, early), halts) =
    (ps, mid, takes, counted, few, by_stop (count == 10 ^ 19 - 1) (after m (map message_of ps)) mid stop halts) where
      by_stop : (full : Bool) (x : Content) (mid : Option (List ℕ)) (stop : Stop) → HaltsEarly limit full x mid new stop → Halts full x mid new stop
      by_stop full x mid (Rule why) (p, off, room, refuses, early) = (p, off, room, refuses)
      by_stop full x mid End halts = halts
      by_stop full x mid (Frame f) halts = halts
      by_stop full x mid (Codec f) halts = halts
      by_stop full x mid TooManyMessages halts = halts

-- if no number of messages is requested, the end of the file is the end of the part
pub ended_part : (limit : Limit) (m : Content) (old new : Option (List ℕ)) (count : ℕ) (n : Content) → limit.after ≡ None → HaltsPart limit m old new count End n
    → TakesPart limit m old new count n
ended_part limit m old new count n all (before, ps, mid, takes, ends) = (ps, mid, takes, inr (inr (all, ends)))

-- the messages that were applied
pub record Applied (limit : Limit) (bytes new : Option (List ℕ)) (count : ℕ) (n : Content) : Type 0 where
  pub payloads : List (List ℕ)
  pub taken : AreTaken limit payloads
  pub part : IfSome bytes (λ b. IsPart limit b payloads)
  pub leaves : LeavesPart limit bytes new payloads
  pub left : n ≡ laid (run (map message_of payloads))
  pub counted : length payloads ≡ count
  pub few : count ≤ 10 ^ 19 - 1
  pub fits : AllByRecursion Fits payloads

rest_ends : (rest : List ℕ) (new : Option (List ℕ)) → EndsHere (Some rest) new → Ends rest
rest_ends rest new (inl at_end) = inl at_end
rest_ends rest None (inr block_read) = absurd block_read
rest_ends rest (Some more) (inr block_read) = inr (more, block_read)

-- the reason why no more is requested, if the bytes are known
is_cut : (limit : Limit) (count : ℕ) (rest : List ℕ) (new : Option (List ℕ)) → IsEnough limit count (Some rest) new → IsCut limit count rest
is_cut limit count rest new (inl (all, same)) = inl all
is_cut limit count rest None (inr (inl (before, (p, off, late)))) = absurd off.1
is_cut limit count rest (Some more) (inr (inl (before, (p, off, late)))) = inr (inl (before, (p, more, off.1, off.0, late)))
is_cut limit count rest new (inr (inr (whole, ends))) = inr (inr (whole, rest_ends rest new ends))

pub is_part : (limit : Limit) (bytes mid new : Option (List ℕ)) (ps : List (List ℕ)) → Consumes bytes mid (blocks ps) → IsEnough limit (length ps) mid new
    → IfSome bytes (λ b. IsPart limit b ps)
is_part limit None mid new ps off enough = tt
is_part limit (Some b) None new ps off enough = absurd off
is_part limit (Some b) (Some rest) new ps off enough = (rest, off, is_cut limit (length ps) rest new enough)

-- the requested part was read
pub part_read : (limit : Limit) (bytes new : Option (List ℕ)) (start : Content) (count : ℕ) (n : Content) → start ≡ empty
    → TakesPart limit start bytes new count n → Applied limit bytes new count n
part_read limit bytes new start count n first reads = from_empty (subst (λ m. TakesPart limit m bytes new count n) first reads) where
  from_empty : TakesPart limit empty bytes new count n → Applied limit bytes new count n
  from_empty (ps, mid, (takes, counted, few, early), enough) =
      let ends : IsEnough limit (length ps) mid new = subst (λ k. IsEnough limit k mid new) (sym counted) enough in
      record {
        payloads = ps;
        taken = record { full = takes.full; taken = takes.none; few = omega (arith, counted, few); early = early };
        part = is_part limit bytes mid new ps takes.bytes ends;
        leaves = (mid, takes.bytes, ends);
        left = takes.left;
        counted = counted;
        few = few;
        fits = takes.fits;
      }

-- or the reading stopped earlier
pub halts_decided : (limit : Limit) (bytes new : Option (List ℕ)) (count : ℕ) (stop : Stop) (n : Content) → HaltsPart limit empty bytes new count stop n
    → IfSome bytes (λ b. IsDecided stop → Stops empty b count stop)
halts_decided limit bytes new count stop n halts = replays_stop empty n bytes new count stop (halts_replays limit empty bytes new count stop n halts)

pub ends_decided : (bytes : Option (List ℕ)) (count : ℕ) → IfSome bytes (λ b. IsDecided End → Stops empty b count End) → IfSome bytes (λ b. Stops empty b count End)
ends_decided None count decided = tt
ends_decided (Some b) count decided = decided tt

-- the market after the payloads that were taken is good
pub taken_good : (limit : Limit) (ps : List (List ℕ)) → AllByRecursion Fits ps → AreTaken limit ps → IsGood (run (map message_of ps))
taken_good limit ps fits taken = run_good (map message_of ps) (All-map_rec IsMessage message_of ps fits) (none_follows empty ps taken.taken)
