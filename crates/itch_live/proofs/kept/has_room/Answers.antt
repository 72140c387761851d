use Rattle.std.proofs.Common.{◌≡◌, ℕ, ◌-◌, ◌<◌, ◌≤◌, ◌^◌, min, ap, ◌∙◌, arith}
use Rattle.itch_live.specs.Kept.{fits, snapshot_bytes, most_bytes_of}
use Rattle.itch_live.proofs.kept.has_room.Goals as goal

-- capping at the greatest `u64` does not change the result
capped : (limit used more : ℕ) → limit ≤ 2 ^ 64 - 1 → 0 < more → fits limit (min used (2 ^ 64 - 1)) (min more (2 ^ 64 - 1)) ≡ fits limit used more
capped limit used more within some = grind arith

pub returns : goal.returns
returns g c =
    c.fits.ensures ∙ ap (λ n. fits c.args.limit n c.longest_snapshot.result) c.snapshot_bytes.ensures
    ∙ ap (λ n. fits c.args.limit (min (snapshot_bytes c.args.slots.now) (2 ^ 64 - 1)) n) c.longest_snapshot.ensures
    ∙ capped c.args.limit (snapshot_bytes c.args.slots.now) (most_bytes_of c.args.market.now) (omega arith) (omega arith)
