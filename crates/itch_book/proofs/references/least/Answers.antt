use Rattle.std.proofs.Common.{◌≡◌, ◌+◌, List, [], ◌∷◌, ◌++◌, take, refl, sym, ap, ◌∙◌}
use Rattle.std.specs.Map.{values_of}
use Rattle.std.specs.Option.{option_copied}
use Rattle.std.proofs.lemmas.List.{take_more, take_all}
use Rattle.itch_book.specs.declared.arrived.Arrived.{Arrived}
use Rattle.itch_book.specs.Referred.{Referred}
use Rattle.itch_book.proofs.LeastLemmas.{least_of, least_more, least_same}
use Rattle.itch_book.proofs.ReferredLemmas.{orders_are}
use Rattle.itch_book.proofs.references.least.Goals as goal
use Rattle.itch_book.proofs.references.least.Goals.{then-wants, else-wants}

pub loop-arrived-init : goal.loop-arrived-init
loop-arrived-init g c = refl

pub loop-arrived-preserved : goal.loop-arrived-preserved
loop-arrived-preserved g c =
    let xs = c.deref-arrived-items.result.now in let i = c.loop-arrived.arrived-index in let x = c.arrived-item.result in
    let more : take (i + 1) xs ≡ take i xs ++ x ∷ [] = take_more xs i x c.loop-arrived-test.true ∙ ap (λ (y : Arrived). take i xs ++ y ∷ []) (sym c.arrived-item.is) in
    elim c.if-wants.branch [
      | then-wants w ↦ ap option_copied w.least-is ∙ w.sooner-least.ensures
          ∙ least_more c.args.wanted (take i xs) x (option_copied c.loop-arrived.least) c.loop-arrived.invariant (sym c.wants.ensures ∙ w.if-wants.true) ∙ ap (λ (ys : List Arrived). least_of c.args.wanted ys) (sym more)
      | else-wants w ↦ ap option_copied w.least-is
          ∙ least_same c.args.wanted (take i xs) x (option_copied c.loop-arrived.least) c.loop-arrived.invariant (sym c.wants.ensures ∙ w.if-wants.false) ∙ ap (λ (ys : List Arrived). least_of c.args.wanted ys) (sym more)
    ]

pub returns : goal.returns
returns g c =
    let xs = c.deref-arrived-items.result.now in
    let all : take c.loop-arrived.arrived-index xs ≡ values_of c.args.references.now.entries =
    take_all c.loop-arrived.arrived-index xs c.loop-arrived-test.false ∙ c.deref-arrived-items.ensures.value
    ∙ sym (orders_are c.references.inside.orders.items) ∙ ap (λ (t : Referred). values_of t.entries) c.references.view_is in
    c.loop-arrived.invariant ∙ ap (λ (ys : List Arrived). least_of c.args.wanted ys) all
