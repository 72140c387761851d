use Rattle.std.proofs.Common.{rules, ◌≡◌, ◌<◌, Some, length, set, ap, refl, ◌∙◌}
use Rattle.std.specs.FinMap as map
use Rattle.itch_market.specs.Effects.{entered}
use Rattle.itch_market.specs.Slots.{directory}
use Rattle.itch_market.proofs.Slots.{directory_set}
use Rattle.itch_market.proofs.securities.Securities.enter.Goals as goal

pub returns-clause-ok : goal.returns-clause-ok
returns-clause-ok g c =
    let grown = c.grow_to.new.self in
    let low : c.from-at.result < length grown = search rules in
    let base : directory grown ≡ c.args.self.now = c.in_ok-grow_to.ensures.directory ∙ c.in_default.ensures.none refl ∙ c.self.view_is in
    let nothing = rw (c.from-at.ensures, c.self.view_is) at c.in_default.ensures.security in
    ap directory {y = set grown c.from-at.result (Some c.new.result)} c.put-2.ensures.filled ∙ directory_set grown c.from-at.result c.new.result low
    ∙ (λ i. map.insert (base i) (c.from-at.ensures i) ((c.new.ensures ∙ ap (λ o. entered o c.args.entry) nothing) i))
