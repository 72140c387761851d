use Rattle.itch_market.proofs.ReplayedFiles.{replays_stop, replays_content}
use Rattle.itch_market.proofs.replaying.replay.Goals as goal

pub returns-clause-stops : goal.returns-clause-stops
returns-clause-stops g c = replays_stop _ _ _ _ _ _ (rw c.unwrap.ensures at c.replay_first-count.ensures.steps).1

pub returns-clause-content : goal.returns-clause-content
returns-clause-content g c = replays_content _ _ _ _ _ _ (rw c.unwrap.ensures at c.replay_first-count.ensures.steps).1
