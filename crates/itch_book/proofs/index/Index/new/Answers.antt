use Rattle.std.proofs.Common.{ℕ, List, [], sym, ap, ◌∙◌, subst}
use Rattle.itch_book.specs.Table.{at}
use Rattle.itch_book.specs.Queued.{seen}
use Rattle.itch_book.specs.Indexed.{Place, indexed, IsIndexed, IsBusy}
use Rattle.itch_book.proofs.OrderLemmas.{lay_fit}
use Rattle.itch_book.proofs.IndexSteps.{empty_index, empty_busy, no_slots}
use Rattle.itch_book.proofs.index.Index.new.Goals as goal

pub invariant_of-result : goal.invariant_of-result
invariant_of-result g c = record {
  index = subst (λ (bids : List (Place × ℕ)). IsIndexed (at c.new.result) bids c.new-2.result.asks (seen c.new-3.result)) (sym c.new-2.ensures.bids)
      (subst (λ (asks : List (Place × ℕ)). IsIndexed (at c.new.result) [] asks (seen c.new-3.result)) (sym c.new-2.ensures.asks)
      (empty_index (at c.new.result) (seen c.new-3.result) c.new.ensures (no_slots c.new-3.result.orders c.new-3.ensures.orders) (no_slots c.new-3.result.queues c.new-3.ensures.queues)));
  busy = subst (λ (bids : List (Place × ℕ)). IsBusy (seen c.new-3.result) bids c.new-2.result.asks) (sym c.new-2.ensures.bids)
      (subst (λ (asks : List (Place × ℕ)). IsBusy (seen c.new-3.result) [] asks) (sym c.new-2.ensures.asks) (empty_busy (seen c.new-3.result)));
}

pub returns : goal.returns
returns g c =
    ap (λ (bids : List (Place × ℕ)). indexed (seen c.new-3.result) bids c.new-2.result.asks) c.new-2.ensures.bids
    ∙ ap (λ (asks : List (Place × ℕ)). indexed (seen c.new-3.result) [] asks) c.new-2.ensures.asks ∙ lay_fit [] tt
