use Rattle.std.proofs.Common.{List, Option, ap, sym, ◌∙◌}
use Rattle.std.proofs.lemmas.List.{length-map}
use Rattle.std.specs.Str.{bytes_eq}
use Rattle.itch_market.specs.Content.{Listing}
use Rattle.itch_market.specs.Slots.{slot, has_stock}
use Rattle.itch_market.proofs.Slots.{slot_past, stock_read, stock_compared}
use Rattle.itch_market.proofs.named_slots.NamedSlots.has_stock.Goals as goal

pub returns-in-Some : goal.returns-in-Some
returns-in-Some g c =
    let slots = c.self.inside.slots.items in
    let known = c.in-Some.known.now in
    let at = c.in-Some.ensures.lookup.3 in
    let read = rw c.deref.ensures.value at at in
    let same = rw c.bytes.ensures.bytes at c.are_same.ensures in
    same ∙ ap (λ k. bytes_eq k c.args.stock) (stock_read _ slots c.args.at known c.self.invariant read.0 (read.1 known))
    ∙ stock_compared (slot slots c.args.at) c.args.stock c.bytes.ensures.printable c.bytes.ensures.width
    ∙ ap (λ (xs : List (Option Listing)). has_stock (slot xs c.args.at) c.args.stock) c.self.view_is

pub returns-in-None : goal.returns-in-None
returns-in-None g c =
    let slots = c.self.inside.slots.items in
    let past = rw (c.deref.ensures.value, c.self.invariant, length-map) at c.in-None.ensures.lookup.3 in
    sym (ap (λ s. has_stock s c.args.stock) (slot_past slots c.args.at past))
    ∙ ap (λ (xs : List (Option Listing)). has_stock (slot xs c.args.at) c.args.stock) c.self.view_is
