use Rattle.std.proofs.Common.{sym, subst}
use Rattle.std.specs.Option.{option_copied}
use Rattle.itch_commands.specs.declared.selection.Selection.{Selection}
use Rattle.itch_depth.specs.Series.{ListsSelected}
use Rattle.itch_depth.proofs.listing.list_selected.Goals as goal

pub returns-in-Stocks : goal.returns-in-Stocks
returns-in-Stocks g c =
    subst (λ (s : Selection). ListsSelected g.W.CountedWrite.contents g.W.CountedWrite.failures s (option_copied c.args.only) c.args.depth c.args.form c.args.market.now c.args.time c.args.out.now
    c.list_stocks.result c.list_stocks.new.out) (sym c.in-Stocks.is) c.list_stocks.ensures

pub returns-in-All : goal.returns-in-All
returns-in-All g c =
    subst (λ (s : Selection). ListsSelected g.W.CountedWrite.contents g.W.CountedWrite.failures s (option_copied c.args.only) c.args.depth c.args.form c.args.market.now c.args.time c.args.out.now
    c.list_set.result c.list_set.new.out) (sym c.in-All.is) c.list_set.ensures

pub returns-in-Locates : goal.returns-in-Locates
returns-in-Locates g c =
    subst (λ (s : Selection). ListsSelected g.W.CountedWrite.contents g.W.CountedWrite.failures s (option_copied c.args.only) c.args.depth c.args.form c.args.market.now c.args.time c.args.out.now
    c.list_set-in-Locates.result c.list_set-in-Locates.new.out) (sym c.in-Locates.is) c.list_set-in-Locates.ensures
