use Rattle.itch_snapshot.proofs.WrittenFiles.{read_again}
use Rattle.itch_snapshot.proofs.laws.rewritten_snapshot.Goals as goal

pub returns : goal.returns
returns c = read_again
