-- The output for a snapshot and the feed that was joined to it.
use Rattle.std.proofs.Common.{◌≡◌, ℕ, ◌^◌, ◌<◌, ◌≤◌, Bool, true, List, ◌++◌, length, Option, Result, Ok, Err, refl, ap, ◌∙◌, subst, inl, inr}
use Rattle.itch_frame.specs.Reading.{Reading}
use Rattle.itch_frame.specs.declared.tally.Failures.{Failures}
use Rattle.itch_market.specs.Wanted.{Wanted, has}
use Rattle.itch_snapshot.specs.Bytes.{canon, closing}
use Rattle.itch_snapshot.specs.Snapshot.{snap}
use Rattle.itch_snapshot.proofs.OneSnapshot.{snap-laid}
use Rattle.itch_snapshot.proofs.CanonicalBytes.{canon-laid}
use Rattle.itch_join.specs.Positions.{Position}
use Rattle.itch_join.specs.States.{State}
use Rattle.itch_commands.specs.declared.fault.ToolFault.{ToolFault}
use Rattle.itch_commands.specs.declared.fault.ToolFault.TheVariants as tool
use Rattle.itch_commands.specs.declared.feed_part.FeedPart.{FeedPart}
use Rattle.itch_snapshot.specs.AsRead.{as_read}
use Rattle.itch_join.specs.Takings.{position_of}
use Rattle.itch_commands.specs.Joiners.{IsAfter, WritesRoom}
use Rattle.itch_commands.specs.Joining.{Start, ReadsFeed, joined_market, joined, HasRoom}
use Rattle.itch_commands.specs.Readings.{Then}
use Rattle.itch_commands.specs.Outputs.{WritesOutput, Outputs, closed_bytes}

-- the same holds for the same set
pub feeds_along : {R : Type 0} (remaining : R → Option (List ℕ)) (failures : R → Failures) (s t : Wanted) (part : FeedPart) (old new : Reading R) (start : Start) (result : Result (List (List ℕ)) ToolFault) → s ≡ t
    → ReadsFeed (as_read (has s)) remaining failures part old new start result → ReadsFeed (as_read (has t)) remaining failures part old new start result
feeds_along remaining failures s t part old new start result same h = subst (λ u. ReadsFeed (as_read (has u)) remaining failures part old new start result) same h

module _ {W : Type 0} (contents : W → Option (List ℕ)) (failures : W → Failures) (before : ℕ) (starts : Result Start ToolFault → Type 0) (untouched : Type 0)
    (follows : Start → Result (List (List ℕ)) ToolFault → Type 0) (old new : W) (result : Result Bool ToolFault) where
  abbrev Joins : Type 0
  Joins = Outputs contents failures (HasRoom before (Then starts untouched follows)) (λ both. closed_bytes (joined before both)) (λ _. true) old result new

  -- the feed is refused
  pub feed_fails : (fault : ToolFault) (start : Start) → result ≡ Err fault → starts (Ok start) → follows start (Err fault) → new ≡ old → Joins
  feed_fails fault start is read refused same = inl (fault, is, inl (inr (start, read, refused)), same)

  -- or both are read
  pub joins : (start : Start) (payloads : List (List ℕ)) (s : State) → starts (Ok start) → follows start (Ok payloads) → IsAfter before start payloads s
      → WritesRoom contents failures (position_of s) old result new → Joins
  joins start payloads s read fed after writes = by_room writes where
    same_snap : snap (Position.market (position_of s)) ≡ snap (joined_market before start payloads)
    same_snap = ap snap after.market ∙ snap-laid (joined_market before start payloads) after.good

    same_bytes : closed_bytes (Position.market (position_of s), Position.next (position_of s)) ≡ closed_bytes (joined before (start, payloads))
    same_bytes =
        ap (λ bytes. bytes ++ closing (Position.next (position_of s))) (ap canon after.market ∙ canon-laid (joined_market before start payloads) after.good)
        ∙ ap (λ n. canon (joined_market before start payloads) ++ closing n) after.next

    by_room : WritesRoom contents failures (position_of s) old result new → Joins
    by_room (inl (is, many, same)) = inl (tool.TooMany, is, inr (refl, ((start, payloads), (read, fed), subst (λ xs. 10 ^ 19 ≤ length xs) same_snap many)), same)
    by_room (inr (few, wrote)) =
        inr ((start, payloads), ((read, fed), subst (λ xs. length xs < 10 ^ 19) same_snap few), subst (λ bytes. WritesOutput contents failures bytes true old result new) same_bytes wrote)
