use Rattle.std.proofs.Common.{rules, append_assoc}
use Rattle.itch_records.proofs.snapshot_folder.snapshot_path.Goals as goal

pub returns : goal.returns
returns c = search (rules, append_assoc)
