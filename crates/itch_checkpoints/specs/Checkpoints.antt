-- The cursor that a line of an index describes.
use Rattle.std.specs.Prelude.{ℕ, if◌then◌else◌, Option, None, Some, is_some}
use Rattle.itch_day.specs.declared.limit.Limit.{Limit}
use Rattle.itch_day.specs.declared.cursor.DayCursor.{DayCursor}
use Rattle.itch_checkpoints.specs.declared.latest.Latest.{Latest}
use Rattle.itch_checkpoints.specs.declared.latest.Latest.TheVariants.{Known, Unknown}

-- The cursor that a line of an index describes, for a point of the day. If the latest timestamp of its messages is unknown, they may be at any
-- time: then there is no cursor for a point that is a time.
abbrev pub cursor_for : Limit → ℕ → ℕ → Latest → Option DayCursor
cursor_for point count offset (Known latest) = Some (record { count = count; offset = offset; latest = latest })
cursor_for point count offset Unknown = if is_some point.until then None else Some (record { count = count; offset = offset; latest = None })
