use Rattle.std.proofs.Common.{true, subst, inr}
use Rattle.std.specs.Option.{option_copied}
use Rattle.itch_commands.specs.declared.fault.Source.TheVariants.{Only}
use Rattle.itch_day.specs.Limits.{counted}
use Rattle.itch_commands.specs.Outputs.{snapshot_in}
use Rattle.itch_commands.specs.Commands.{Snaps}
use Rattle.itch_commands.specs.Readings.{ReadsDay, FromBlocks, FromReader}
use Rattle.itch_commands.proofs.Outputs.{Outputs-weaker}
use Rattle.itch_commands.proofs.snap.snap.Goals as goal

pub returns : goal.returns
returns g c =
    let reads = ReadsDay g.R.CountedRead.remaining g.R.CountedRead.failures Only (counted c.args.after) in
    Outputs-weaker g.W.CountedWrite.contents g.W.CountedWrite.failures (reads c.in_ok-reader.reader c.snap_blocks.new.reader) (FromReader c.args.reader reads) (snapshot_in (option_copied c.args.only)) (λ _. true)
    c.args.out.now c.snap_blocks.new.out c.snap_blocks.result
    (λ r read. inr (c.in_ok-reader.reader, c.snap_blocks.new.reader, c.in_ok-reader.ensures.0, c.in_ok-reader.ensures.1, c.in_ok-reader.ensures.2, read))
    (subst (λ limit. Snaps g.R.CountedRead.remaining g.R.CountedRead.failures g.W.CountedWrite.contents g.W.CountedWrite.failures limit (option_copied c.args.only) (FromBlocks c.in_ok-reader.reader c.snap_blocks.new.reader) c.args.out.now c.snap_blocks.result c.snap_blocks.new.out) c.counted.ensures c.snap_blocks.ensures)
