use Rattle.std.proofs.Common.{refl, sym, subst}
use Rattle.itchsnap_c.specs.declared.object.Object.TheVariants.{Market}
use Rattle.itchsnap_c.specs.Blocks.{AppliesBlocks, unapplied}
use Rattle.itchsnap_c.specs.Objects.{AtMarket}
use Rattle.itchsnap_c.proofs.blocks.apply.Goals as goal

pub returns-in-Market : goal.returns-in-Market
returns-in-Market c =
    subst (λ old. AtMarket (unapplied 50) (AppliesBlocks c.args.blocks.now) old c.apply_all.result (Market c.apply_all.new.market)) (sym c.in-Market.is)
    (c.apply_all.new.market, c.apply_all.ensures, refl)
