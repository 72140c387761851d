use Rattle.std.proofs.Common.{rules}
use Rattle.itchsnap_c.specs.Joiners.{Delivers, wrong_joined}
use Rattle.itchsnap_c.proofs.Joining.{at_joiner_weaker}
use Rattle.itchsnap_c.proofs.joiner.itchsnap_joiner_live.Goals as goal

pub returns : goal.returns
returns c = at_joiner_weaker wrong_joined _ (Delivers c.args.number c.args.payload.now) _ _ _ (λ j a k called. search rules) c.with_joiner.ensures
