use Rattle.std.proofs.Common.{length, not, refl, ap, arith}
use Rattle.std.proofs.lemmas.List.Filters.{length-filter_both}
use Rattle.itch_market.specs.Partial.{skips}
use Rattle.itch_market.specs.Wanted.{has}
use Rattle.itch_snapshot.specs.Snapshot.{snap}
use Rattle.itch_snapshot.proofs.PartialSnapshots.{snap_only}
use Rattle.snapshot_tests.proofs.snapshot.partial.write.Goals as goal

pub write_partial-requires : goal.write_partial-requires
write_partial-requires g c =
    let wanted = has c.args.set.now in
    let messages = snap c.args.market.now in
    omega (arith, c.requires, ap length (snap_only wanted c.args.market.now), length-filter_both (λ x. not (skips wanted x)) (λ x. not (not (skips wanted x))) (λ x. refl) messages)
