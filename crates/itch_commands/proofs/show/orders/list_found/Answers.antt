use Rattle.std.proofs.Common.{Bool, Result, sym, subst}
use Rattle.std.proofs.lemmas.Result.{err_from_is_err_and}
use Rattle.itch_commands.specs.ListedOrders.{ListsBelow}
use Rattle.itch_commands.specs.Showing.{IfFound}
use Rattle.itch_commands.specs.declared.fault.ToolFault.{ToolFault}
use Rattle.itch_commands.proofs.FoundStocks.{found_fails, found_ends}
use Rattle.itch_commands.proofs.ListedHeads.{below_never}
use Rattle.itch_commands.proofs.show.orders.list_found.Goals as goal

pub returns-in_err-found : goal.returns-in_err-found
returns-in_err-found g c =
    let p = err_from_is_err_and c.from_residual.result c.from_residual.ensures.1 in
    let contents = g.W.CountedWrite.contents in
    let failures = g.W.CountedWrite.failures in
    let remaining = g.R.CountedRead.remaining in
    let reads = g.R.CountedRead.failures in
    let lists : Result Bool ToolFault → Type 0 = λ found. ListsBelow contents failures remaining reads c.args.limit c.args.form c.args.choice c.args.reader.now c.list_below.new.reader c.args.out.now found c.list_below.new.out in
    rw (p.1, p.2) (found_fails lists _ (below_never contents failures remaining reads c.args.limit c.args.form c.args.choice c.args.reader.now c.list_below.new.reader c.args.out.now c.list_below.new.out) c.in_err-found.ensures)

pub returns : goal.returns
returns g c =
    let lists : Result Bool ToolFault → Type 0 = λ found. ListsBelow g.W.CountedWrite.contents g.W.CountedWrite.failures g.R.CountedRead.remaining g.R.CountedRead.failures c.args.limit c.args.form c.args.choice c.args.reader.now c.list_below.new.reader c.args.out.now found c.list_below.new.out in
    subst (IfFound lists) (sym c.if_found.ensures) (found_ends lists c.in_ok-found.found c.in_ok-found.ensures)
