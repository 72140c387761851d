-- Texts written one after another.
use Rattle.std.proofs.Common.{ℕ, ◌+◌, ◌<◌, ◌≤◌, List, ◌++◌, length, take, Option, Result, Ok, Err, sym, subst, ◌∙◌, ap, arith, length-append}
use Rattle.std.proofs.KnownBytes.{Appends-trans}
use Rattle.std.proofs.lemmas.List.{take-append-le}
use Rattle.std.proofs.Math.Seq.{take-append-add}
use Rattle.std.specs.Io.KnownBytes.{Appends}
use Rattle.itch_frame.specs.Counting.{failed}
use Rattle.itch_frame.specs.declared.tally.Failures.{Failures}
use Rattle.itch_commands.specs.declared.fault.ToolFault.{ToolFault}
use Rattle.itch_commands.specs.declared.fault.ToolFault.TheVariants as tool
use Rattle.itch_commands.specs.Outputs.{WritesText}

module _ {W : Type 0} (contents : W → Option (List ℕ)) (failures : W → Failures) where
  -- if a text is written only in part, the next one is not begun
  pub text_fails : (xs ys : List ℕ) (old new : W) (fault : ToolFault) → WritesText contents failures xs old (Err fault) new → WritesText contents failures (xs ++ ys) old (Err fault) new
  text_fails xs ys old new (tool.Write error) (sent, within, part, count) =
      let short : sent ≤ length xs = omega arith in
      let longer : sent < length (xs ++ ys) = omega (arith, length-append xs ys) in
      (sent, longer, subst (Appends (contents old) (contents new)) (sym (take-append-le sent xs ys short)) part, count)
  text_fails xs ys old new (tool.Stopped at end) h = absurd h
  text_fails xs ys old new (tool.Snap at f) h = absurd h
  text_fails xs ys old new (tool.Short at count) h = absurd h
  text_fails xs ys old new tool.UnknownLocate h = absurd h
  text_fails xs ys old new tool.UnknownStock h = absurd h
  text_fails xs ys old new tool.OutOfMemory h = absurd h
  text_fails xs ys old new (tool.Open file error) h = absurd h
  text_fails xs ys old new (tool.UnmetExpectation unmet) h = absurd h
  text_fails xs ys old new (tool.FeedMismatch mismatch) h = absurd h
  text_fails xs ys old new tool.BadLocates h = absurd h
  text_fails xs ys old new tool.TooMany h = absurd h

  -- one text, and then another
  pub text_then : (xs ys : List ℕ) (old mid new : W) (result : Result (Unit {0}) ToolFault) → WritesText contents failures xs old (Ok tt) mid → WritesText contents failures ys mid result new
      → WritesText contents failures (xs ++ ys) old result new
  text_then xs ys old mid new (Ok done) first second =
      (Appends-trans (contents old) (contents mid) (contents new) xs ys first.0 second.0, second.1 ∙ first.1)
  text_then xs ys old mid new (Err (tool.Write error)) first (sent, within, part, count) =
      let longer : length xs + sent < length (xs ++ ys) = omega (arith, length-append xs ys) in (
        length xs + sent,
        longer,
        subst (Appends (contents old) (contents new)) (sym (take-append-add xs ys sent)) (Appends-trans (contents old) (contents mid) (contents new) xs (take sent ys) first.0 part),
        count ∙ ap (failed error) first.1,
      )
  text_then xs ys old mid new (Err (tool.Stopped at end)) first h = absurd h
  text_then xs ys old mid new (Err (tool.Snap at f)) first h = absurd h
  text_then xs ys old mid new (Err (tool.Short at n)) first h = absurd h
  text_then xs ys old mid new (Err tool.UnknownLocate) first h = absurd h
  text_then xs ys old mid new (Err tool.UnknownStock) first h = absurd h
  text_then xs ys old mid new (Err tool.OutOfMemory) first h = absurd h
  text_then xs ys old mid new (Err (tool.Open file error)) first h = absurd h
  text_then xs ys old mid new (Err (tool.UnmetExpectation unmet)) first h = absurd h
  text_then xs ys old mid new (Err (tool.FeedMismatch mismatch)) first h = absurd h
  text_then xs ys old mid new (Err tool.BadLocates) first h = absurd h
  text_then xs ys old mid new (Err tool.TooMany) first h = absurd h
