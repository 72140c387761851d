use Rattle.std.proofs.Common.{rules}
use Rattle.itchsnap_c.specs.Codes.{wrong}
use Rattle.itchsnap_c.specs.Joiners.{Restarts}
use Rattle.itchsnap_c.proofs.Joining.{at_joiner_weaker}
use Rattle.itchsnap_c.proofs.joiner.itchsnap_joiner_restart.Goals as goal

pub returns : goal.returns
returns c = at_joiner_weaker wrong _ Restarts _ _ _ (λ j a k called. search rules) c.with_joiner.ensures
