use Rattle.std.proofs.Common.{rules}
use Rattle.itch_market.proofs.GoodMarkets.{laid_or_kept, replaced_good}
use Rattle.itch_market.proofs.market.Market.replace.Goals as goal

pub invariant_of-self : goal.invariant_of-self
invariant_of-self g c =
    laid_or_kept c.replace.result _ _ _ c.self.invariant
    (replaced_good _ c.args.x c.self.invariant (record { reference = search rules; shares = search rules; price = search rules }) (rw (← c.self.view_is) at c.requires))
    c.replace.ensures.ok
    c.replace.ensures.err
