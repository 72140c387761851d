use Rattle.std.proofs.Common.{rules}
use Rattle.itchsnap_c.specs.Joiners.{Resumes, wrong_joined}
use Rattle.itchsnap_c.proofs.Joining.{at_joiner_weaker}
use Rattle.itchsnap_c.proofs.joiner.itchsnap_joiner_resume.Goals as goal

pub returns : goal.returns
returns c = at_joiner_weaker wrong_joined _ Resumes _ _ _ (λ j a k called. search rules) c.with_joiner.ensures
