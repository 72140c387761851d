use Rattle.std.proofs.Common.{rules, ◌<◌, ◌≤◌, List, Option, None, length, map, set, sym, ap, ◌∙◌, set-set}
use Rattle.std.specs.FinMap as fin
use Rattle.itch_market.specs.Content.{Listing}
use Rattle.itch_market.specs.Slots.{directory, stock_in}
use Rattle.itch_market.proofs.Slots.{get_of_slots, slot_read, slot_past, directory_set, stocks_set, none_kept}
use Rattle.itch_market.proofs.named_slots.NamedSlots.take.Goals as goal

pub invariant_of-self : goal.invariant_of-self
invariant_of-self g c =
    stocks_set _ _ c.args.at None c.self.invariant ∙ ap (λ s. map stock_in (set c.self.inside.slots.items c.args.at s)) (sym c.take.ensures.after)

pub returns-then-at-len-clause-security : goal.returns-then-at-len-clause-security
returns-then-at-len-clause-security g c =
    let slots = c.self.inside.slots.items in
    let here = c.index_mut-then-at-len.result.now in
    let low : c.args.at < length slots = search rules in
    c.take.ensures.value ∙ slot_read slots c.args.at here here low c.index_mut-then-at-len.ensures.value ∙ sym (get_of_slots slots c.args.at)
    ∙ ap (λ (xs : List (Option Listing)). fin.get (directory xs) c.args.at) c.self.view_is

pub returns-then-at-len-clause-none : goal.returns-then-at-len-clause-none
returns-then-at-len-clause-none g c none =
    let slots = c.self.inside.slots.items in
    let low : c.args.at < length slots = search rules in
    none_kept slots c.args.at c.index_mut-then-at-len.result.now c.take.new.self c.take.result low c.take.ensures.value c.index_mut-then-at-len.ensures.value c.take.ensures.after none
    ∙ ap directory c.self.view_is

pub returns-then-at-len-clause-again : goal.returns-then-at-len-clause-again
returns-then-at-len-clause-again g c _ s =
    let slots = c.self.inside.slots.items in
    let low : c.args.at < length slots = search rules in
    ap directory (set-set slots c.args.at c.take.new.self _) ∙ directory_set slots c.args.at s low
    ∙ ap (λ (xs : List (Option Listing)). fin.insert (directory xs) c.args.at s) c.self.view_is

pub returns-else-at-len-clause-security : goal.returns-else-at-len-clause-security
returns-else-at-len-clause-security g c =
    let slots = c.self.inside.slots.items in
    let past : length slots ≤ c.args.at = search rules in
    sym (get_of_slots slots c.args.at ∙ slot_past slots c.args.at past)
    ∙ ap (λ (xs : List (Option Listing)). fin.get (directory xs) c.args.at) c.self.view_is
