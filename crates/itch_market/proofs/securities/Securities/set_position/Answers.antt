use Rattle.std.proofs.Common.{ap, refl, ◌∙◌}
use Rattle.std.proofs.lemmas.Result.{on_err_weaker}
use Rattle.itch_market.specs.Slots.{directory}
use Rattle.itch_market.proofs.Slots.{kept_here}
use Rattle.itch_market.proofs.securities.Securities.set_position.Goals as goal

-- if memory runs out, the security is put back unchanged
pub returns-clause-err : goal.returns-clause-err
returns-clause-err g c =
    on_err_weaker c.set_position-kept.result
    (λ same. ap directory c.put.ensures.filled ∙ c.in-Some.ensures.again refl _
    ∙ kept_here _ c.from-at.result c.in-Some.security c.set_position-kept.new.self c.in-Some.ensures.security same ∙ c.self.view_is)
    c.set_position-kept.ensures.err
