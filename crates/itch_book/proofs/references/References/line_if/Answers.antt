use Rattle.std.proofs.Common.{Some, sym, ap, ◌∙◌}
use Rattle.std.specs.Map.{values_of}
use Rattle.itch_book.specs.Referred.{Referred}
use Rattle.itch_book.specs.Settled.{line_if}
use Rattle.itch_book.proofs.ReferredLemmas.{orders_are}
use Rattle.itch_book.proofs.references.References.line_if.Goals as goal

pub returns-then-is_settled : goal.returns-then-is_settled
returns-then-is_settled g c =
    ap (λ xs. Some xs) (c.as_slice.ensures.value ∙ sym (orders_are c.self.inside.orders.items) ∙ ap (λ (t : Referred). values_of t.entries) c.self.view_is)
    ∙ ap (λ b. line_if b (values_of c.args.self.now.entries)) (sym c.if-is_settled.true)
