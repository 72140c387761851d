-- No listing fails with an unknown stock before it is known whether all were found.
use Rattle.std.proofs.Common.{◌≡◌, ℕ, Bool, List, Option, Result, Err, inl, inr, subst}
use Rattle.itch_day.specs.declared.limit.Limit.{Limit}
use Rattle.itch_frame.specs.Reading.{Reading}
use Rattle.itch_frame.specs.declared.tally.Failures.{Failures}
use Rattle.itch_commands.specs.Choices.{Chosen}
use Rattle.itch_commands.specs.ListedOrders.{ListsBelow}
use Rattle.itch_commands.specs.OrderForms.{order_head}
use Rattle.itch_commands.specs.Outputs.{WritesText}
use Rattle.itch_commands.specs.declared.fault.ToolFault.{ToolFault}
use Rattle.itch_commands.specs.declared.fault.ToolFault.TheVariants as tool
use Rattle.itch_commands.specs.declared.form.OrderForm.{OrderForm}

pub below_never : {R W : Type 0} (contents : W → Option (List ℕ)) (failures : W → Failures) (remaining : R → Option (List ℕ)) (reads : R → Failures) (limit : Limit) (form : OrderForm) (chosen : Chosen)
    (old new : Reading R) (out out' : W) → ListsBelow contents failures remaining reads limit form chosen old new out (Err tool.UnknownStock) out' → ⊥
below_never contents failures remaining reads limit form chosen old new out out' (inl (fault, is, writes, same)) =
    let unknown : fault ≡ tool.UnknownStock = cc in subst (λ f. WritesText contents failures (order_head form) out (Err f) out') unknown writes
below_never contents failures remaining reads limit form chosen old new out out' (inr (mid, head, (ps, refused, wrote))) = refused.refused
