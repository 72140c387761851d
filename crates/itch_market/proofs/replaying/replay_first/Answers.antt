use Rattle.itch_market.proofs.DayParts.{leaves_first, replays_first}
use Rattle.itch_market.proofs.replaying.replay_first.Goals as goal

pub returns : goal.returns
returns g c = record {
  steps = replays_first c.args.most _ _ _ _ _ _ (rw c.counted.ensures at c.replay_part.ensures.part);
  failures = c.replay_part.ensures.failures;
  reader = leaves_first c.args.most _ _ _ _ (rw c.counted.ensures at c.replay_part.ensures.reader);
}
