use Rattle.std.proofs.Common.{Bool, Result, sym, subst}
use Rattle.std.proofs.lemmas.Result.{err_from_is_err_and}
use Rattle.itch_commands.specs.Further.{CutsOn}
use Rattle.itch_commands.specs.Showing.{IfFound}
use Rattle.itch_commands.specs.declared.fault.ToolFault.{ToolFault}
use Rattle.itch_commands.proofs.FoundStocks.{found_fails, found_ends}
use Rattle.itch_commands.proofs.FurtherParts.{cuts_never}
use Rattle.itch_commands.proofs.cut.after.cut_found.Goals as goal

pub returns-in_err-found : goal.returns-in_err-found
returns-in_err-found g c =
    let p = err_from_is_err_and c.from_residual.result c.from_residual.ensures.1 in
    let cuts : Result Bool ToolFault → Type 0 = λ found. CutsOn g.R.CountedRead.remaining g.R.CountedRead.failures c.args.limit c.args.choice c.args.before g.W.CountedWrite.contents g.W.CountedWrite.failures c.args.reader.now c.cut_on.new.reader c.args.out.now found c.cut_on.new.out in
    rw (p.1, p.2) (found_fails cuts _ (cuts_never g.W.CountedWrite.contents g.W.CountedWrite.failures g.R.CountedRead.remaining g.R.CountedRead.failures c.args.limit c.args.choice c.args.before c.args.reader.now c.cut_on.new.reader c.args.out.now c.cut_on.new.out) c.in_err-found.ensures)

pub returns : goal.returns
returns g c =
    let cuts : Result Bool ToolFault → Type 0 = λ found. CutsOn g.R.CountedRead.remaining g.R.CountedRead.failures c.args.limit c.args.choice c.args.before g.W.CountedWrite.contents g.W.CountedWrite.failures c.args.reader.now c.cut_on.new.reader c.args.out.now found c.cut_on.new.out in
    subst (IfFound cuts) (sym c.if_found.ensures) (found_ends cuts c.in_ok-found.found c.in_ok-found.ensures)
