use Rattle.itch_live.proofs.Memories.{within_longest, longest_within}
use Rattle.itch_live.proofs.laws.memory_of_a_server.Goals as goal

pub returns-clause-held : goal.returns-clause-held
returns-clause-held g c = λ begun past d markets history. within_longest g.W.CountedWrite.contents g.W.CountedWrite.failures begun past d markets history

pub returns-clause-snapshots : goal.returns-clause-snapshots
returns-clause-snapshots g c = λ begun past d markets history.
    longest_within g.W.CountedWrite.contents g.W.CountedWrite.failures begun past d markets history
