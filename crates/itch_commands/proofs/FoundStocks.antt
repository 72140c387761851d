-- The result once it is known whether all stocks were found.
use Rattle.std.proofs.Common.{◌≡◌, ℕ, Bool, true, false, List, Option, Result, Ok, Err, inl, inr, refl, subst, if◌then◌else◌}
use Rattle.itch_frame.specs.Reading.{Reading}
use Rattle.itch_frame.specs.declared.tally.Failures.{Failures}
use Rattle.itch_market.specs.Content.{Content}
use Rattle.itch_commands.specs.Outputs.{Outputs}
use Rattle.itch_commands.specs.Readings.{ReadsSnap}
use Rattle.itch_commands.specs.Showing.{IfFound}
use Rattle.itch_commands.specs.declared.fault.Source.TheVariants.{Only}
use Rattle.itch_commands.specs.declared.fault.ToolFault.{ToolFault}
use Rattle.itch_commands.specs.declared.fault.ToolFault.TheVariants as tool

-- a fault is passed on
pub found_fails : (shows : Result Bool ToolFault → Type 0) (fault : ToolFault) → (shows (Err tool.UnknownStock) → ⊥) → shows (Err fault) → IfFound shows (Err fault)
found_fails shows tool.UnknownStock never is = absurd (never is)
found_fails shows (tool.Stopped file end) never is = is
found_fails shows (tool.Short file count) never is = is
found_fails shows (tool.Write error) never is = is
found_fails shows tool.OutOfMemory never is = is
found_fails shows (tool.Open file error) never is = is
found_fails shows (tool.UnmetExpectation unmet) never is = is
found_fails shows (tool.FeedMismatch mismatch) never is = is
found_fails shows tool.BadLocates never is = is
found_fails shows tool.TooMany never is = is
found_fails shows (tool.Snap file f) never is = is
found_fails shows tool.UnknownLocate never is = is

-- a stock that was not found is a fault
pub found_ends : (shows : Result Bool ToolFault → Type 0) (found : Bool) → shows (Ok found) → IfFound shows (if found then Ok true else Err tool.UnknownStock)
found_ends shows true is = (refl, is)
found_ends shows false is = is

-- no reading of a snapshot, and no writing of its lines, fails with an unknown stock
pub recorded_never : {R W : Type 0} (contents : W → Option (List ℕ)) (writes : W → Failures) (remaining : R → Option (List ℕ)) (reads : R → Failures) (old new : Reading R)
    (lines : Content × ℕ → List ℕ) (verdict : Content × ℕ → Bool) (out out' : W)
    → Outputs contents writes (ReadsSnap remaining reads Only old new) lines verdict out (Err tool.UnknownStock) out' → ⊥
recorded_never contents writes remaining reads old new lines verdict out out' (inl (fault, is, refused, same)) = never fault (cc) refused where
  never : (f : ToolFault) → f ≡ tool.UnknownStock → ReadsSnap remaining reads Only old new (Err f) → ⊥
  never f is refused = subst (λ g. ReadsSnap remaining reads Only old new (Err g)) is refused
recorded_never contents writes remaining reads old new lines verdict out out' (inr (done, taken, never)) = never
