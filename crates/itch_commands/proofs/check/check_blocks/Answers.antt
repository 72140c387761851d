use Rattle.std.proofs.Common.{true, ap, sym, refl, ◌∙◌, inl, inr}
use Rattle.std.proofs.lemmas.Result.{err_from_is_err_and}
use Rattle.itch_frame.specs.Reading.{bytes_left}
use Rattle.itch_commands.specs.declared.fault.Source.TheVariants.{Only}
use Rattle.itch_commands.specs.Expectations.{Meets}
use Rattle.itch_commands.specs.Forms.{count_line, count_line_of}
use Rattle.itch_commands.specs.Readings.{ReadsDay}
use Rattle.itch_commands.proofs.DayReadings.{read_done, day_done, day_fails}
use Rattle.itch_commands.proofs.MetExpectations.{same_unmet}
use Rattle.itch_commands.proofs.Outputs.{read_writes}
use Rattle.itch_commands.proofs.check.check_blocks.Goals as goal

pub returns-in_err-count : goal.returns-in_err-count
returns-in_err-count g c =
    let p = err_from_is_err_and c.from_residual.result c.from_residual.ensures.1 in
    rw (p.1, p.2) (inl (
      _,
      refl,
      inl (day_fails g.R.CountedRead.remaining g.R.CountedRead.failures Only c.args.limit c.args.reader.now c.read_market.new.reader _ c.new-market.result c.read_market.new.market
          c.new-market.ensures c.in_err-count.ensures.reads c.in_err-count.ensures.failures c.in_err-count.ensures.reader),
      refl,
    ))

pub returns-in_err-check : goal.returns-in_err-check
returns-in_err-check g c =
    let old = c.args.reader.now in
    let new = c.read_market.new.reader in
    let remaining = g.R.CountedRead.remaining in
    let applied = read_done Only c.args.limit (bytes_left remaining old) (bytes_left remaining new) c.new-market.result c.in_ok-count.count c.read_market.new.market
    c.new-market.ensures c.in_ok-count.ensures.reads in
    let p = err_from_is_err_and c.from_residual-in_err-check.result c.from_residual-in_err-check.ensures.1 in
    rw (p.1, p.2) (inl (
      _,
      refl,
      inr (
        applied.payloads,
        day_done remaining g.R.CountedRead.failures Only c.args.limit old new c.in_ok-count.count c.read_market.new.market applied c.in_ok-count.ensures.failures c.in_ok-count.ensures.reader,
        same_unmet c.args.expected c.args.limit (bytes_left remaining old) (bytes_left remaining new) c.in_ok-count.count c.read_market.new.market applied _ c.phase.ensures ∙ c.in_err-check.ensures,
      ),
      refl,
    ))

pub returns : goal.returns
returns g c =
    let old = c.args.reader.now in
    let new = c.read_market.new.reader in
    let remaining = g.R.CountedRead.remaining in
    let applied = read_done Only c.args.limit (bytes_left remaining old) (bytes_left remaining new) c.new-market.result c.in_ok-count.count c.read_market.new.market
    c.new-market.ensures c.in_ok-count.ensures.reads in
    read_writes g.W.CountedWrite.contents g.W.CountedWrite.failures (Meets c.args.expected (ReadsDay remaining g.R.CountedRead.failures Only c.args.limit old new)) (count_line_of c.args.form) (λ _. true)
    applied.payloads (count_line c.args.form c.in_ok-count.count) c.args.out.now c.write_count.new.out c.write_count.result (
      day_done remaining g.R.CountedRead.failures Only c.args.limit old new c.in_ok-count.count c.read_market.new.market applied c.in_ok-count.ensures.failures c.in_ok-count.ensures.reader,
      same_unmet c.args.expected c.args.limit (bytes_left remaining old) (bytes_left remaining new) c.in_ok-count.count c.read_market.new.market applied _ c.phase.ensures ∙ c.in_ok-check.ensures,
    )
    (ap (count_line c.args.form) (sym applied.counted)) c.write_count.ensures
