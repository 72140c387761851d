use Rattle.std.proofs.Common.{refl, sym, subst}
use Rattle.itchsnap_c.specs.declared.object.Object.TheVariants.{Market}
use Rattle.itchsnap_c.specs.Codes.{wrong}
use Rattle.itchsnap_c.specs.Markets.{Applies}
use Rattle.itchsnap_c.specs.Objects.{AtMarket}
use Rattle.itchsnap_c.proofs.market.apply.Goals as goal

pub returns-in-Market : goal.returns-in-Market
returns-in-Market c =
    subst (λ old. AtMarket wrong (Applies c.args.payload.now) old c.outcome_answer.result (Market c.take_payload.new.market)) (sym c.in-Market.is)
    (c.take_payload.new.market, (c.take_payload.result, c.outcome_answer.ensures, c.take_payload.ensures), refl)
