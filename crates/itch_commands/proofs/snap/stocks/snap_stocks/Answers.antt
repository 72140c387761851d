use Rattle.std.proofs.Common.{◌++◌, true, refl, inl, inr, ap, ◌∙◌, arith}
use Rattle.std.proofs.lemmas.Result.{err_from_is_err_and}
use Rattle.itch_frame.specs.Reading.{bytes_left}
use Rattle.itch_market.specs.Partial.{only}
use Rattle.itch_market.specs.Wanted.{has}
use Rattle.itch_snapshot.specs.Bytes.{canon, closing}
use Rattle.itch_commands.specs.declared.fault.Source.TheVariants.{Only}
use Rattle.itch_commands.specs.Outputs.{directory_after, stocks_snapshot}
use Rattle.itch_commands.specs.Readings.{ReadsDay}
use Rattle.itch_commands.specs.Stocks.{ReadsStocks, names_of}
use Rattle.itch_commands.proofs.DayReadings.{read_done, day_done, day_fails}
use Rattle.itch_commands.proofs.Outputs.{read_writes}
use Rattle.itch_commands.proofs.Snapshots.{only_short, applied_short, stocks_after, unknown_after, stocks_written}
use Rattle.itch_commands.proofs.snap.stocks.snap_stocks.Goals as goal

pub returns-in_err-count : goal.returns-in_err-count
returns-in_err-count g c =
    let p = err_from_is_err_and c.from_residual.result c.from_residual.ensures.1 in
    rw (p.1, p.2) (inl (
      _,
      refl,
      inl (day_fails g.R.CountedRead.remaining g.R.CountedRead.failures Only c.args.limit c.args.reader.now c.read_settled.new.reader _ c.new-market.result c.read_settled.new.market
          c.new-market.ensures c.in_err-count.ensures.reads c.in_err-count.ensures.failures c.in_err-count.ensures.reader),
      refl,
    ))

pub returns-in_err-set : goal.returns-in_err-set
returns-in_err-set g c =
    let p = err_from_is_err_and c.from_residual-in_err-set.result c.from_residual-in_err-set.ensures.1 in
    let old = c.args.reader.now in
    let new = c.read_settled.new.reader in
    let from = bytes_left g.R.CountedRead.remaining old in
    let to = bytes_left g.R.CountedRead.remaining new in
    let applied = read_done Only c.args.limit from to c.new-market.result c.in_ok-count.count c.read_settled.new.market c.new-market.ensures c.in_ok-count.ensures.reads in
    rw (p.1, p.2) (inl (
      _,
      refl,
      inr (
        applied.payloads,
        day_done g.R.CountedRead.remaining g.R.CountedRead.failures Only c.args.limit old new c.in_ok-count.count c.read_settled.new.market applied c.in_ok-count.ensures.failures c.in_ok-count.ensures.reader,
        unknown_after c.args.limit from to c.in_ok-count.count c.read_settled.new.market applied (names_of c.args.names.now) _ c.in_err-set.ensures,
      ),
      refl,
    ))

pub write_closed_of-requires : goal.write_closed_of-requires
write_closed_of-requires g c =
    let old = bytes_left g.R.CountedRead.remaining c.args.reader.now in
    let new = bytes_left g.R.CountedRead.remaining c.read_settled.new.reader in
    let applied = read_done Only c.args.limit old new c.new-market.result c.in_ok-count.count c.read_settled.new.market c.new-market.ensures c.in_ok-count.ensures.reads in
    omega (arith, applied.few, applied_short c.args.limit old new c.in_ok-count.count c.read_settled.new.market applied, only_short (has c.in_ok-set.set) c.read_settled.new.market)

pub returns : goal.returns
returns g c =
    let old = c.args.reader.now in
    let new = c.read_settled.new.reader in
    let names = names_of c.args.names.now in
    let from = bytes_left g.R.CountedRead.remaining old in
    let to = bytes_left g.R.CountedRead.remaining new in
    let reads = ReadsDay g.R.CountedRead.remaining g.R.CountedRead.failures Only c.args.limit old new in
    let applied = read_done Only c.args.limit from to c.new-market.result c.in_ok-count.count c.read_settled.new.market c.new-market.ensures c.in_ok-count.ensures.reads in
    read_writes g.W.CountedWrite.contents g.W.CountedWrite.failures (ReadsStocks directory_after names reads) (stocks_snapshot names) (λ _. true)
    applied.payloads _ c.args.out.now c.write_closed_of.new.out c.write_closed_of.result (
      day_done g.R.CountedRead.remaining g.R.CountedRead.failures Only c.args.limit old new c.in_ok-count.count c.read_settled.new.market applied c.in_ok-count.ensures.failures c.in_ok-count.ensures.reader,
      stocks_after c.args.limit from to c.in_ok-count.count c.read_settled.new.market applied names c.in_ok-set.ensures.0,
    )
    (ap (λ k. canon (only (has c.in_ok-set.set) c.read_settled.new.market) ++ closing k) (rw c.unwrap-next.ensures at c.new.ensures.number)
    ∙ stocks_written c.args.limit from to c.in_ok-count.count c.read_settled.new.market applied c.in_ok-set.set names c.in_ok-set.ensures.1)
    c.write_closed_of.ensures
