use Rattle.std.proofs.Common.{◌++◌, true, refl, inl, ap, ◌∙◌, arith}
use Rattle.std.proofs.lemmas.Result.{err_from_is_err_and}
use Rattle.std.specs.Option.{option_copied}
use Rattle.itch_frame.specs.Reading.{bytes_left}
use Rattle.itch_snapshot.specs.Bytes.{canon, closing}
use Rattle.itch_snapshot.specs.Cursor.{cut_to}
use Rattle.itch_commands.specs.declared.fault.Source.TheVariants.{Only}
use Rattle.itch_commands.specs.Outputs.{snapshot_in}
use Rattle.itch_commands.specs.Readings.{ReadsDay}
use Rattle.itch_commands.proofs.DayReadings.{read_done, day_done, day_fails}
use Rattle.itch_commands.proofs.Outputs.{read_writes}
use Rattle.itch_commands.proofs.Snapshots.{cut_short, cut_snapshot}
use Rattle.itch_commands.proofs.snap.snap_blocks.Goals as goal

pub returns-in_err-count : goal.returns-in_err-count
returns-in_err-count g c =
    let p = err_from_is_err_and c.from_residual.result c.from_residual.ensures.1 in
    rw (p.1, p.2) (inl (
      _,
      refl,
      day_fails g.R.CountedRead.remaining g.R.CountedRead.failures Only c.args.limit c.args.reader.now c.read_settled.new.reader _ c.new-market.result c.read_settled.new.market
          c.new-market.ensures c.in_err-count.ensures.reads c.in_err-count.ensures.failures c.in_err-count.ensures.reader,
      refl,
    ))

pub write_closed_of-requires : goal.write_closed_of-requires
write_closed_of-requires g c =
    let old = bytes_left g.R.CountedRead.remaining c.args.reader.now in
    let new = bytes_left g.R.CountedRead.remaining c.read_settled.new.reader in
    let applied = read_done Only c.args.limit old new c.new-market.result c.in_ok-count.count c.read_settled.new.market c.new-market.ensures c.in_ok-count.ensures.reads in
    omega (arith, applied.few, cut_short c.args.limit old new c.in_ok-count.count c.read_settled.new.market applied c.args.only)

pub returns : goal.returns
returns g c =
    let old = c.args.reader.now in
    let new = c.read_settled.new.reader in
    let from = bytes_left g.R.CountedRead.remaining old in
    let to = bytes_left g.R.CountedRead.remaining new in
    let reads = ReadsDay g.R.CountedRead.remaining g.R.CountedRead.failures Only c.args.limit old new in
    let applied = read_done Only c.args.limit from to c.new-market.result c.in_ok-count.count c.read_settled.new.market c.new-market.ensures c.in_ok-count.ensures.reads in
    read_writes g.W.CountedWrite.contents g.W.CountedWrite.failures reads (snapshot_in (option_copied c.args.only)) (λ _. true)
    applied.payloads _ c.args.out.now c.write_closed_of.new.out c.write_closed_of.result
    (day_done g.R.CountedRead.remaining g.R.CountedRead.failures Only c.args.limit old new c.in_ok-count.count c.read_settled.new.market applied c.in_ok-count.ensures.failures c.in_ok-count.ensures.reader)
    (ap (λ k. canon (cut_to c.args.only c.read_settled.new.market) ++ closing k) (rw c.unwrap-next.ensures at c.new.ensures.number)
    ∙ cut_snapshot c.args.limit from to c.in_ok-count.count c.read_settled.new.market applied c.args.only)
    c.write_closed_of.ensures
