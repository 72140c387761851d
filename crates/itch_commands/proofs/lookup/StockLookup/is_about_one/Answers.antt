use Rattle.std.proofs.Common.{ap, ◌∙◌}
use Rattle.itch_commands.specs.Lookup.{is_one_of}
use Rattle.itch_commands.proofs.lookup.StockLookup.is_about_one.Goals as goal

pub returns-in-StockDirectory : goal.returns-in-StockDirectory
returns-in-StockDirectory g c =
    rw c.in-StockDirectory.is (rw (← c.self.view_is) (c.have.ensures ∙ ap (is_one_of c.self.inside.stocks.names) c.text.ensures.trimmed))
