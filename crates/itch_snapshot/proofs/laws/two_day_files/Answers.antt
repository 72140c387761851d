use Rattle.itch_snapshot.proofs.TwoFiles.{files_canon, files_same}
use Rattle.itch_snapshot.proofs.laws.two_day_files.Goals as goal

pub returns : goal.returns
returns g b c ps qs r s j k wide wide_too day other ends ends_too = (
  files_canon b c ps qs r s j k wide wide_too day other ends ends_too,
  files_same b c ps qs r s j k wide wide_too day other ends ends_too,
)
