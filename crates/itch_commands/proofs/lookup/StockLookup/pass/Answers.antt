use Rattle.std.proofs.Common.{ap, ◌∙◌}
use Rattle.itch_codec.specs.Text.{before_spaces}
use Rattle.itch_commands.specs.Lookup.{Names, is_one_of, others}
use Rattle.itch_commands.proofs.StockLookup.{alike}
use Rattle.itch_commands.proofs.lookup.StockLookup.pass.Goals as goal

pub returns-in-StockDirectory : goal.returns-in-StockDirectory
returns-in-StockDirectory g c =
    let old = c.self.inside.stocks in
    let stock = before_spaces c.in-StockDirectory.directory.entry.stock in
    rw c.in-StockDirectory.is (rw (← c.self.view_is, ap Names.names c.pass.ensures.passed, ap Names.missing c.pass.ensures.passed)
    (alike old.names _ (others old.missing stock) c.self.inside.found.items _ c.in-StockDirectory.directory.header.locate _ (is_one_of old.names stock)
    (ap (others old.missing) c.text.ensures.trimmed) c.from.ensures (c.pass.ensures.is ∙ ap (is_one_of old.names) c.text.ensures.trimmed)))
