use Rattle.std.proofs.Common.{◌≡◌, drop}
use Rattle.itch_live.specs.Kept.{kept_bytes}
use Rattle.itch_live.proofs.kept.kept_encoded.Given as goal

abbrev pub invariant-loop-place : goal.invariant-loop-place
invariant-loop-place g l = kept_bytes l.slots l.number ≡ kept_bytes (drop l.place l.slots) l.number
