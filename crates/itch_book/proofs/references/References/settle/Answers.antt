use Rattle.std.proofs.Common.{List, sym, ap, ◌∙◌, subst}
use Rattle.std.specs.Map.{values_of}
use Rattle.std.specs.List.Sorted.{IsPermutation}
use Rattle.std.proofs.lemmas.List.Sorted.{IsPermutation-map}
use Rattle.itch_book.specs.Table.{at}
use Rattle.itch_book.specs.declared.arrived.Arrived.{Arrived}
use Rattle.itch_book.specs.StableLists.{in_order}
use Rattle.itch_book.specs.Settled.{comes_before, IsApart}
use Rattle.itch_book.specs.Referred.{Referred, reference_of, references_of, under_references, IsPlaced}
use Rattle.itch_book.proofs.ReferredLemmas.{orders_are}
use Rattle.itch_book.proofs.PlacedLemmas.{sorted_known, sorted_few}
use Rattle.itch_book.proofs.references.References.settle.Goals as goal

pub sort-requires : goal.sort-requires
sort-requires g c =
    let xs = c.self.inside.orders.items in
    subst IsApart (ap (λ (t : Referred). values_of t.entries) (sym c.self.view_is) ∙ orders_are xs) c.requires

pub write_places-requires-clause-few : goal.write_places-requires-clause-few
write_places-requires-clause-few g c =
    sorted_few c.self.inside.places c.self.inside.orders.items c.deref.result.now c.self.invariant
    (subst (IsPermutation c.self.inside.orders.items) (sym c.deref.ensures.value) c.sort.ensures.moved)

pub write_places-requires-clause-known : goal.write_places-requires-clause-known
write_places-requires-clause-known g c =
    sorted_known c.self.inside.places c.self.inside.orders.items c.deref.result.now c.self.invariant
    (subst (IsPermutation c.self.inside.orders.items) (sym c.deref.ensures.value) c.sort.ensures.moved)

pub write-requires : goal.write-requires
write-requires g c =
    sorted_few c.self.inside.places c.self.inside.orders.items c.deref-2.result.now c.self.invariant
    (subst (IsPermutation c.self.inside.orders.items) (sym c.deref-2.ensures.value) c.sort.ensures.moved)

pub invariant_of-self : goal.invariant_of-self
invariant_of-self g c = record {
  placed = subst (λ (ys : List Arrived). IsPlaced (at c.write_places.new.places) (references_of ys)) c.deref.ensures.value c.write_places.ensures;
  few = sorted_few c.self.inside.places c.self.inside.orders.items c.sort.new.orders.items c.self.invariant c.sort.ensures.moved;
}

pub returns-clause-line : goal.returns-clause-line
returns-clause-line g c =
    let xs = c.self.inside.orders.items in
    orders_are c.sort.new.orders.items ∙ c.sort.ensures.line ∙ ap (in_order comes_before) (sym (orders_are xs) ∙ ap (λ (t : Referred). values_of t.entries) c.self.view_is)

pub returns-clause-entries : goal.returns-clause-entries
returns-clause-entries g c =
    let xs = c.self.inside.orders.items in let ys = c.sort.new.orders.items in
    subst (λ (t : Referred). IsPermutation t.entries (under_references ys)) c.self.view_is (IsPermutation-map (λ (x : Arrived). (reference_of x, x)) xs ys c.sort.ensures.moved)
