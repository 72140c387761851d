use Rattle.std.proofs.Common.{refl, sym}
use Rattle.itch_market.specs.Content.{Content}
use Rattle.itch_commands.specs.Lookup.{Names}
use Rattle.itch_commands.proofs.StockNames.{names_are, one_of_none, others_of_none}
use Rattle.itch_commands.proofs.stocks.pass_locate.Goals as goal

pub returns-in-None-clause-one : goal.returns-in-None-clause-one
returns-in-None-clause-one g c = sym (one_of_none (Content.securities c.args.market.now) c.args.locate (Names.names c.args.stocks.now) (sym c.in-None.ensures))

pub returns-in-None-clause-passed : goal.returns-in-None-clause-passed
returns-in-None-clause-passed g c =
    names_are _ _ _ _ refl (sym (others_of_none (Content.securities c.args.market.now) c.args.locate (Names.missing c.args.stocks.now) (sym c.in-None.ensures)))
