-- The reader of blocks after a block is passed. The block that was not taken may be passed.
use Rattle.std.proofs.Common.{◌≡◌, ℕ, List, [], ◌++◌, Option, None, Some, ◌⊎◌, inl, inr, refl, sym, ap, subst, ◌∙◌}
use Rattle.std.specs.Io.KnownBytes.{Consumes, IsAtEnd, prepend_known}
use Rattle.itch_frame.specs.Blocks.{block}
use Rattle.itch_frame.specs.Reading.{EndsHere, Reading, bytes_left, passed, passed_in}
use Rattle.itch_frame.specs.declared.reader.BlockStage.{BlockStage}
use Rattle.itch_frame.specs.declared.reader.BlockStage.TheVariants.{Going, Given, Ended, Cut}
use Rattle.itch_day.specs.declared.limit.Limit.{Limit}
use Rattle.itch_day.specs.declared.stop.PartStop.{PartStop}
use Rattle.itch_day.specs.declared.stop.PartStop.TheVariants as part
use Rattle.itch_day.specs.Parts.{IsNext, StopsAt}
use Rattle.itch_day.specs.Passing.{IsLeft}

module _ {R : Type 0} (r : Reading R) where
  pub passed_going : r.stage ≡ Going → passed r ≡ record { reader = r.reader; held = []; stage = Given }
  passed_going going = ap (λ s. passed_in s r) going

  pub passed_ended : r.stage ≡ Ended → passed r ≡ r
  passed_ended ended = ap (λ s. passed_in s r) ended

  pub passed_reader : Reading.reader (passed r) ≡ r.reader
  passed_reader = by_stage r.stage where
    by_stage : (s : BlockStage) → Reading.reader (passed_in s r) ≡ r.reader
    by_stage Going = refl
    by_stage Given = refl
    by_stage Ended = refl
    by_stage Cut = refl

  -- the loaded block comes off the front
  pub passed_off : (remaining : R → Option (List ℕ)) (p : List ℕ) → IsNext r p → Consumes (bytes_left remaining r) (bytes_left remaining (passed r)) (block p)
  passed_off remaining p ((fits, same), going) =
      subst (λ (x : Reading R). Consumes (bytes_left remaining r) (bytes_left remaining x) (block p)) (sym (passed_going going)) (came_off (remaining r.reader)) where
        came_off : (rest : Option (List ℕ)) → Consumes (prepend_known r.held rest) (prepend_known [] rest) (block p)
        came_off None = tt
        came_off (Some rest) = ap (λ h. h ++ rest) same

  -- the messages end there
  pub ends_here : (remaining : R → Option (List ℕ)) → ((r.stage ≡ Ended) × (r.held ≡ []) × IsAtEnd (bytes_left remaining r)) ⊎ IsNext r []
      → EndsHere (bytes_left remaining r) (bytes_left remaining (passed r))
  ends_here remaining (inl (ended, none, at_end)) = inl at_end
  ends_here remaining (inr next) = inr (passed_off remaining [] next)

-- after the end of the messages there is no next one
pub never_next : {R : Type 0} (old new : Reading R) (count : ℕ) (stage : BlockStage) → (stage ≡ Going → ⊥) → new.stage ≡ Going → (old.stage ≡ stage → (count ≡ 0) × (new ≡ old)) → old.stage ≡ stage → ⊥
never_next old new count stage other going stays at = other (sym at ∙ sym (ap (λ (r : Reading _). r.stage) (stays at).1) ∙ going)

pub is_not_going : Ended ≡ Going → ⊥
is_not_going same = cc

pub cut_not_going : Cut ≡ Going → ⊥
cut_not_going same = cc

pub cut_not_ended : Cut ≡ Ended → ⊥
cut_not_ended same = cc

-- the block that is loaded when a part stops is the one that was not taken
pub stop_held : {R T F : Type 0} (remaining : R → Option (List ℕ)) (refuses : T → ℕ → List ℕ → F → T → Type 0) (limit : Limit) (new : Reading R) (count : ℕ) (last u : T) (why : PartStop F)
    → StopsAt remaining refuses limit count new last why u → IsLeft why new
stop_held remaining refuses limit new count last u part.Full stops = tt
stop_held remaining refuses limit new count last u part.Late (same, before, (p, next, some, few, late)) = λ going. (p, next.0)
stop_held remaining refuses limit new count last u part.End (same, before, inl (ended, none, at_end)) = λ going. absurd (is_not_going (sym ended ∙ going))
stop_held remaining refuses limit new count last u part.End (same, before, inr next) = λ going. ([], next.0)
stop_held remaining refuses limit new count last u (part.Frame fault) stops = tt
stop_held remaining refuses limit new count last u part.TooMany (same, before, (p, next, some, many)) = λ going. (p, next.0)
stop_held remaining refuses limit new count last u (part.Refused why) (before, (p, next, some, few, not_late, denies)) = λ going. (p, next.0)
