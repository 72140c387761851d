-- The reason why an index is not used for a day file.
use Rattle.std.specs.Prelude.{Option, None, Some, if◌then◌else◌}
use Rattle.itch_checkpoints.specs.Fingerprints.{is_same}
use Rattle.itch_checkpoints.specs.declared.fingerprint.Fingerprint.{Fingerprint}
use Rattle.itch_offsets.specs.declared.fit.IndexUnfit.{IndexUnfit}
use Rattle.itch_offsets.specs.declared.fit.IndexUnfit.TheVariants.{Beyond, OtherDay}

-- a row of the index has another fingerprint than the file has there, or the file ends before the row
abbrev pub unfit_of : Fingerprint → Option Fingerprint → Option IndexUnfit
unfit_of recorded None = Some Beyond
unfit_of recorded (Some found) = if is_same recorded found then None else Some OtherDay
