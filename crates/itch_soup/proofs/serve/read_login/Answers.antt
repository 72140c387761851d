use Rattle.std.proofs.Common.{◌∙◌}
use Rattle.itch_soup.proofs.LoginWaits.{waiting_on}
use Rattle.itch_soup.proofs.serve.read_login.Goals as goal

pub loop-count-preserved : goal.loop-count-preserved
loop-count-preserved g c = record {
  waiting = waiting_on _ _ _ _ c.loop-count.invariant.waiting (rw c.in_default.is at c.in_ok-opening.ensures.step);
  uncounted = c.in_ok-opening.ensures.failures ∙ c.loop-count.invariant.uncounted;
}
