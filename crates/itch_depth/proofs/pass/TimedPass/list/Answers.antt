use Rattle.std.proofs.Common.{sym, ◌∙◌}
use Rattle.std.specs.Option.{option_copied}
use Rattle.itch_depth.proofs.OwnBooks.{own_lists}
use Rattle.itch_depth.proofs.pass.TimedPass.list.Goals as goal

pub returns-else-are_none : goal.returns-else-are_none
returns-else-are_none g c =
    let it = c.args.self.now.markets in
    own_lists g.W.CountedWrite.contents g.W.CountedWrite.failures c.args.request.depth c.args.request.form it.market it.own c.args.time c.args.out.now c.list_market-else-are_none.result c.list_market-else-are_none.new.out
    it.locates c.args.request.selection (option_copied c.args.only) (sym c.are_none.ensures ∙ c.if-are_none.false) c.requires.fits c.requires.apart c.list_market-else-are_none.ensures
