use Rattle.std.proofs.Common.{true, inr}
use Rattle.itch_commands.specs.declared.fault.Source.TheVariants.{Only}
use Rattle.itch_commands.specs.Canons.{ChecksSnap, canonical_line}
use Rattle.itch_commands.specs.Outputs.{closed_bytes}
use Rattle.itch_commands.specs.Readings.{ReadsSnap, FromReader}
use Rattle.itch_commands.proofs.Outputs.{Outputs-weaker}
use Rattle.itch_commands.proofs.canon.canon.Goals as goal

pub returns-clause-writes : goal.returns-clause-writes
returns-clause-writes g c = λ writes.
    let reads = ReadsSnap g.R.CountedRead.remaining g.R.CountedRead.failures Only in
    Outputs-weaker g.W.CountedWrite.contents g.W.CountedWrite.failures (reads c.in_ok-reader.reader c.canon_blocks.new.reader) (FromReader c.args.reader reads) closed_bytes (λ _. true)
    c.args.out.now c.canon_blocks.new.out c.canon_blocks.result
    (λ r read. inr (c.in_ok-reader.reader, c.canon_blocks.new.reader, c.in_ok-reader.ensures.0, c.in_ok-reader.ensures.1, c.in_ok-reader.ensures.2, read))
    (c.canon_blocks.ensures.writes writes)

pub returns-clause-checks : goal.returns-clause-checks
returns-clause-checks g c = λ checks.
    let reads = ChecksSnap g.R.CountedRead.remaining g.R.CountedRead.failures in
    Outputs-weaker g.W.CountedWrite.contents g.W.CountedWrite.failures (reads c.in_ok-reader.reader c.canon_blocks.new.reader) (FromReader c.args.reader reads) canonical_line (λ canonical. canonical)
    c.args.out.now c.canon_blocks.new.out c.canon_blocks.result
    (λ r read. inr (c.in_ok-reader.reader, c.canon_blocks.new.reader, c.in_ok-reader.ensures.0, c.in_ok-reader.ensures.1, c.in_ok-reader.ensures.2, read))
    (c.canon_blocks.ensures.checks checks)
