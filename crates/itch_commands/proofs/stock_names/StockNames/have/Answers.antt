use Rattle.std.proofs.Common.{ap, ◌∙◌}
use Rattle.itch_commands.specs.Lookup.{Names, is_one_of}
use Rattle.itch_commands.proofs.StockNames.{one_of_names}
use Rattle.itch_commands.proofs.stock_names.StockNames.have.Goals as goal

pub returns : goal.returns
returns g c =
    c.contains_key.ensures ∙ c.self.invariant c.args.stock.now ∙ one_of_names (λ n. n.now) c.self.inside.names.items c.args.stock.now
    ∙ ap (λ n. is_one_of (Names.names n) c.args.stock.now) c.self.view_is
