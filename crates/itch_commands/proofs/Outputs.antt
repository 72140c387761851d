-- The output of a command for the data that it read.
use Rattle.std.proofs.Common.{◌≡◌, ℕ, Bool, List, Option, Result, Ok, Err, subst, inl, inr}
use Rattle.itch_frame.specs.declared.tally.Failures.{Failures}
use Rattle.itch_commands.specs.declared.fault.ToolFault.{ToolFault}
use Rattle.itch_commands.specs.Outputs.{WritesOutput, Outputs}

module _ {W : Type 0} (contents : W → Option (List ℕ)) (failures : W → Failures) where
  -- the output is made of the data that was read
  pub read_writes : {X : Type 0} (reads : Result X ToolFault → Type 0) (output : X → List ℕ) (verdict : X → Bool) (x : X) (written : List ℕ) (old new : W) (result : Result Bool ToolFault)
      → reads (Ok x) → written ≡ output x → WritesOutput contents failures written (verdict x) old result new → Outputs contents failures reads output verdict old result new
  read_writes reads output verdict x written old new result read is wrote = inr (x, read, subst (λ b. WritesOutput contents failures b (verdict x) old result new) is wrote)

  -- another reading with weaker facts
  pub Outputs-weaker : {X : Type 0} (P Q : Result X ToolFault → Type 0) (output : X → List ℕ) (verdict : X → Bool) (old new : W) (result : Result Bool ToolFault)
      → ((r : Result X ToolFault) → P r → Q r) → Outputs contents failures P output verdict old result new → Outputs contents failures Q output verdict old result new
  Outputs-weaker P Q output verdict old new result weaker (inl (fault, is, refused, same)) = inl (fault, is, weaker (Err fault) refused, same)
  Outputs-weaker P Q output verdict old new result weaker (inr (x, read, wrote)) = inr (x, weaker (Ok x) read, wrote)
