use Rattle.std.proofs.Common.{◌≡◌, ◌≤◌, ◌+◌, ◌-◌, ◌^◌, drop, min}
use Rattle.std.specs.List.{sum_by}
use Rattle.itch_live.specs.Kept.{kept, kept_bytes, length_or, snapshot_bytes}
use Rattle.itch_live.proofs.kept.snapshot_bytes.Given as goal

abbrev pub invariant-loop-place : goal.invariant-loop-place
invariant-loop-place g l =
    (min (l.total + sum_by (λ number. length_or (kept_bytes l.slots number)) (kept (drop l.place l.slots))) (2 ^ 64 - 1) ≡ min (snapshot_bytes l.slots) (2 ^ 64 - 1))
    × (l.total ≤ 2 ^ 64 - 1)
