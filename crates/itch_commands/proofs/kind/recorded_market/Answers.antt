use Rattle.std.proofs.Common.{sym}
use Rattle.itch_commands.proofs.kind.recorded_market.Goals as goal

pub returns : goal.returns
returns g c = (
  c.in_ok-market.market,
  c.in_ok-market.ensures.reads,
  record { good = c.recall_invariant.ensures.good; in_order = sym c.recall_invariant.ensures.in_order; few = c.in_ok-market.ensures.few },
)
