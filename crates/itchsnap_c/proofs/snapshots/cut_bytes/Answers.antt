use Rattle.std.proofs.Common.{arith}
use Rattle.itch_market.specs.Wanted.{has}
use Rattle.itchsnap_c.proofs.Days.{cut_shorter}
use Rattle.itchsnap_c.proofs.snapshots.cut_bytes.Goals as goal

pub write_partial-requires : goal.write_partial-requires
write_partial-requires g c = omega (arith, c.requires, cut_shorter (has c.args.set.now) c.args.market.now)
