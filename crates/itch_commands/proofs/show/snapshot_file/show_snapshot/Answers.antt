use Rattle.std.proofs.Common.{Bool, Result, sym, subst}
use Rattle.std.proofs.lemmas.Result.{err_from_is_err_and}
use Rattle.itch_commands.specs.Outputs.{Outputs}
use Rattle.itch_commands.specs.Readings.{ReadsSnap}
use Rattle.itch_commands.specs.Showing.{IfFound, closed_lines, closed_found}
use Rattle.itch_commands.specs.declared.fault.Source.TheVariants.{Only}
use Rattle.itch_commands.specs.declared.fault.ToolFault.{ToolFault}
use Rattle.itch_commands.proofs.FoundStocks.{found_fails, found_ends, recorded_never}
use Rattle.itch_commands.proofs.show.snapshot_file.show_snapshot.Goals as goal

pub returns-in_err-found : goal.returns-in_err-found
returns-in_err-found g c =
    let p = err_from_is_err_and c.from_residual.result c.from_residual.ensures.1 in
    let lines = closed_lines c.args.form c.args.choice in
    let verdict = closed_found c.args.choice in
    let reads = ReadsSnap g.R.CountedRead.remaining g.R.CountedRead.failures Only c.args.reader.now c.show_found.new.reader in
    let shows : Result Bool ToolFault → Type 0 = λ found. Outputs g.W.CountedWrite.contents g.W.CountedWrite.failures reads lines verdict c.args.out.now found c.show_found.new.out in
    rw (p.1, p.2) (found_fails shows _
    (recorded_never g.W.CountedWrite.contents g.W.CountedWrite.failures g.R.CountedRead.remaining g.R.CountedRead.failures c.args.reader.now c.show_found.new.reader lines verdict c.args.out.now c.show_found.new.out)
    c.in_err-found.ensures)

pub returns : goal.returns
returns g c =
    let reads = ReadsSnap g.R.CountedRead.remaining g.R.CountedRead.failures Only c.args.reader.now c.show_found.new.reader in
    let shows : Result Bool ToolFault → Type 0 = λ found. Outputs g.W.CountedWrite.contents g.W.CountedWrite.failures reads (closed_lines c.args.form c.args.choice) (closed_found c.args.choice) c.args.out.now found c.show_found.new.out in
    subst (IfFound shows) (sym c.if_found.ensures) (found_ends shows c.in_ok-found.found c.in_ok-found.ensures)
