use Rattle.std.proofs.Common.{Bool, Result, sym, subst}
use Rattle.std.proofs.lemmas.Result.{err_from_is_err_and}
use Rattle.itch_commands.specs.Showing.{IfFound, ShowsPart}
use Rattle.itch_commands.specs.declared.fault.ToolFault.{ToolFault}
use Rattle.itch_commands.proofs.FoundStocks.{found_fails, found_ends}
use Rattle.itch_commands.proofs.show.show_blocks.Goals as goal

pub returns-in_err-found : goal.returns-in_err-found
returns-in_err-found g c =
    let p = err_from_is_err_and c.from_residual.result c.from_residual.ensures.1 in
    let shows : Result Bool ToolFault → Type 0 = λ found. ShowsPart g.W.CountedWrite.contents g.W.CountedWrite.failures g.R.CountedRead.remaining g.R.CountedRead.failures c.args.limit c.args.form c.args.choice c.args.reader.now c.show_part.new.reader c.args.out.now found c.show_part.new.out in
    rw (p.1, p.2) (found_fails shows _ (λ never. never) c.in_err-found.ensures)

pub returns : goal.returns
returns g c =
    let shows : Result Bool ToolFault → Type 0 = λ found. ShowsPart g.W.CountedWrite.contents g.W.CountedWrite.failures g.R.CountedRead.remaining g.R.CountedRead.failures c.args.limit c.args.form c.args.choice c.args.reader.now c.show_part.new.reader c.args.out.now found c.show_part.new.out in
    subst (IfFound shows) (sym c.if_found.ensures) (found_ends shows c.in_ok-found.found c.in_ok-found.ensures)
