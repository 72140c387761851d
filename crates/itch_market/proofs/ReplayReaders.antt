-- The reader of blocks after a replay.
use Rattle.std.proofs.Common.{◌≡◌, ◌≢◌, ℕ, ◌+◌, ◌<◌, [], length, None, Some, zero, suc, refl, ap, ◌∙◌, arith}
use Rattle.itch_frame.specs.Reading.{Reading}
use Rattle.itch_frame.specs.declared.reader.BlockStage.{BlockStage}
use Rattle.itch_frame.specs.declared.reader.BlockStage.TheVariants.{Given, Ended, Cut}
use Rattle.itch_frame.specs.declared.fault.FrameFault.TheVariants.{Truncated}
use Rattle.itch_market.specs.declared.stop.Stop.{Stop}
use Rattle.itch_market.specs.declared.stop.Stop.TheVariants.{End, Frame}
use Rattle.itch_market.specs.Replays.{LeavesReaderFirst}

-- the reader after n messages
pub record Standing {R : Type 0} (old : Reading R) (count : ℕ) (new : Reading R) : Type 0 where
  pub unread : count ≡ 0 → new ≡ old
  pub given : 0 < count → (new.held ≡ []) × (new.stage ≡ Given) × (old.stage ≢ Ended) × (old.stage ≢ Cut)

pub standing_first : {R : Type 0} (r : Reading R) → Standing r 0 r
standing_first r = record { unread = λ _. refl; given = λ some. absurd (omega arith) }

module _ {R : Type 0} (old mid new : Reading R) where
  -- a stage in which no message is returned was not the first one
  not_first : (stage : BlockStage) (count : ℕ) → (count ≡ 0 → mid ≡ old) → (0 < count → old.stage ≢ stage) → mid.stage ≢ stage → old.stage ≢ stage
  not_first stage zero unread given is first = is (ap (λ (r : Reading R). r.stage) (unread refl) ∙ first)
  not_first stage (suc count) unread given is first = given (omega arith) first

  -- one more message
  pub standing_on : (count : ℕ) → Standing old count mid → LeavesReaderFirst mid 1 None new → Standing old (count + 1) new
  standing_on count standing (unread, given) =
      let leaves = given (omega arith) in
      record {
        unread = λ none. absurd (omega arith);
        given = λ some. (
          leaves.0,
          leaves.1,
          not_first Ended count standing.unread (λ more. (standing.given more).2) leaves.2,
          not_first Cut count standing.unread (λ more. (standing.given more).3) leaves.3,
        );
      }

  -- in a stage in which no message is returned, there was none before
  still_first : (stage : BlockStage) (count : ℕ) → (count ≡ 0 → mid ≡ old) → (0 < count → old.stage ≢ stage) → old.stage ≡ stage → (count ≡ 0) × (mid ≡ old)
  still_first stage zero unread given is = (refl, unread refl)
  still_first stage (suc count) unread given is = absurd (given (omega arith) is)

  -- and there the replay stops
  pub standing_stops : (count : ℕ) (stop : Stop) → Standing old count mid → LeavesReaderFirst mid 0 (Some stop) new → LeavesReaderFirst old count (Some stop) new
  standing_stops count stop standing (leaves, (ended, cut)) = (leaves, (by_end, by_cut)) where
    by_end : old.stage ≡ Ended → (count ≡ 0) × (stop ≡ End) × (new ≡ old)
    by_end is =
        let first = still_first Ended count standing.unread (λ more. (standing.given more).2) is in
        let again = ended (ap (λ (r : Reading R). r.stage) first.1 ∙ is) in (first.0, again.1, again.2 ∙ first.1)

    by_cut : old.stage ≡ Cut → (count ≡ 0) × (stop ≡ Frame (Truncated (length old.held))) × (new ≡ old)
    by_cut is =
        let first = still_first Cut count standing.unread (λ more. (standing.given more).3) is in
        let again = cut (ap (λ (r : Reading R). r.stage) first.1 ∙ is) in
        (first.0, again.1 ∙ ap (λ (r : Reading R). Frame (Truncated (length r.held))) first.1, again.2 ∙ first.1)

-- or it was to take no more
pub standing_short : {R : Type 0} (old : Reading R) (count : ℕ) (new : Reading R) → Standing old count new → LeavesReaderFirst old count None new
standing_short old count new standing = (standing.unread, standing.given)
