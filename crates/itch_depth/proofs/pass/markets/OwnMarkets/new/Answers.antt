use Rattle.itch_depth.proofs.TimedMessages.{empty_apart}
use Rattle.itch_depth.proofs.pass.markets.OwnMarkets.new.Goals as goal

pub returns-clause-apart : goal.returns-clause-apart
returns-clause-apart g c = empty_apart c.args.locates _ _ c.new.ensures c.new-2.ensures
