use Rattle.std.proofs.Common.{map, refl, sym, ap, ◌∙◌, ◌+◌}
use Rattle.std.proofs.lemmas.Result.{err_from_is_err_and}
use Rattle.itch_codec.specs.Messages.{message_of}
use Rattle.itch_frame.specs.Reading.{bytes_left}
use Rattle.itch_market.specs.Runs.{run}
use Rattle.itch_snapshot.proofs.DaySnapshots.{taken_few}
use Rattle.itch_market.proofs.DayMessages.{taken_good}
use Rattle.itch_commands.proofs.DayReadings.{read_done, day_done, day_fails}
use Rattle.itch_commands.proofs.kind.day_market.Goals as goal

pub returns-in_err-count : goal.returns-in_err-count
returns-in_err-count g c =
    let p = err_from_is_err_and c.from_residual.result c.from_residual.ensures.1 in
    rw (p.1, p.2) (day_fails g.R.CountedRead.remaining g.R.CountedRead.failures c.args.file c.args.limit c.args.reader.now c.read_settled.new.reader _ c.new-market.result c.read_settled.new.market
    c.new-market.ensures c.in_err-count.ensures.reads c.in_err-count.ensures.failures c.in_err-count.ensures.reader)

pub returns : goal.returns
returns g c =
    let old = c.args.reader.now in
    let new = c.read_settled.new.reader in
    let limit = c.args.limit in
    let applied = read_done c.args.file limit (bytes_left g.R.CountedRead.remaining old) (bytes_left g.R.CountedRead.remaining new) c.new-market.result c.in_ok-count.count c.read_settled.new.market
    c.new-market.ensures c.in_ok-count.ensures.reads in (
      run (map message_of applied.payloads),
      (
        applied.payloads,
        day_done g.R.CountedRead.remaining g.R.CountedRead.failures c.args.file limit old new c.in_ok-count.count c.read_settled.new.market applied c.in_ok-count.ensures.failures c.in_ok-count.ensures.reader,
        refl,
        rw c.unwrap-next.ensures at c.new.ensures.number ∙ ap (λ k. k + 1) (sym applied.counted),
      ),
      record {
        good = taken_good limit applied.payloads applied.fits applied.taken;
        in_order = applied.left;
        few = taken_few limit applied.payloads c.read_settled.new.market applied.fits applied.taken applied.left;
      },
    )
