use Rattle.std.proofs.Common.{Some, None, Result, Ok, Err, inr, refl, subst}
use Rattle.std.proofs.lemmas.Result.{err_from_is_err_and}
use Rattle.itch_commands.specs.Infos.{ReadsBefore, fault_of}
use Rattle.itch_commands.specs.Outputs.{WritesText}
use Rattle.itch_commands.specs.Tallies.{IsTally}
use Rattle.itch_commands.specs.declared.fault.ToolFault.{ToolFault}
use Rattle.itch_commands.proofs.TalliedDays.{told_text}
use Rattle.itch_commands.proofs.info.info_blocks.Goals as goal

pub returns-in_err-write_info : goal.returns-in_err-write_info
returns-in_err-write_info g c =
    let p = err_from_is_err_and c.from_residual.result c.from_residual.ensures.1 in
    let (payloads, read, tally) = c.read_tally-read.ensures in
    let now = c.read_tally-read.new.tally in
    let whole = subst (λ b. IsTally payloads now.cursor now.sink.market now.sink.tally b now.sink.events.events.items) c.if-not-tally.false tally in
    let text = told_text c.args.form payloads now.cursor now.sink.market now.sink.tally now.sink.events.events.items whole in
    rw (p.1, p.2) (inr (
      payloads,
      fault_of c.read_tally-read.result,
      Err c.in_err-write_info.field-0.0,
      read,
      subst (λ b. WritesText g.W.CountedWrite.contents g.W.CountedWrite.failures b c.args.out.now (Err c.in_err-write_info.field-0.0) c.write_info.new.out) text c.in_err-write_info.ensures,
      refl,
    ))

pub returns-in-Ok : goal.returns-in-Ok
returns-in-Ok g c =
    let (payloads, read, tally) = c.read_tally-read.ensures in
    let now = c.read_tally-read.new.tally in
    let whole = subst (λ b. IsTally payloads now.cursor now.sink.market now.sink.tally b now.sink.events.events.items) c.if-not-tally.false tally in
    let text = told_text c.args.form payloads now.cursor now.sink.market now.sink.tally now.sink.events.events.items whole in
    inr (
      payloads,
      None,
      Ok tt,
      subst (λ (r : Result (Unit {0}) ToolFault). ReadsBefore g.R.CountedRead.remaining g.R.CountedRead.failures c.args.limit c.args.reader.now c.read_tally-read.new.reader payloads (fault_of r)) c.in-Ok.is read,
      subst (λ b. WritesText g.W.CountedWrite.contents g.W.CountedWrite.failures b c.args.out.now (Ok tt) c.write_info.new.out) text c.in_ok-write_info.ensures,
      refl,
    )

pub returns : goal.returns
returns g c =
    let (payloads, read, tally) = c.read_tally-read.ensures in
    let now = c.read_tally-read.new.tally in
    let whole = subst (λ b. IsTally payloads now.cursor now.sink.market now.sink.tally b now.sink.events.events.items) c.if-not-tally.false tally in
    let text = told_text c.args.form payloads now.cursor now.sink.market now.sink.tally now.sink.events.events.items whole in
    inr (
      payloads,
      Some c.in-Err.fault,
      Ok tt,
      subst (λ (r : Result (Unit {0}) ToolFault). ReadsBefore g.R.CountedRead.remaining g.R.CountedRead.failures c.args.limit c.args.reader.now c.read_tally-read.new.reader payloads (fault_of r)) c.in-Err.is read,
      subst (λ b. WritesText g.W.CountedWrite.contents g.W.CountedWrite.failures b c.args.out.now (Ok tt) c.write_info.new.out) text c.in_ok-write_info.ensures,
      refl,
    )
