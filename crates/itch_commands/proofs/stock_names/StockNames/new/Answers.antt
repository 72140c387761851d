use Rattle.std.proofs.Common.{map, bytes_eq, ◌∙◌}
use Rattle.std.specs.List.{list_any}
use Rattle.std.specs.HashMap.{get_by}
use Rattle.itch_commands.proofs.StockNames.{names_are, missing_first}
use Rattle.itch_commands.proofs.stock_names.StockNames.new.Goals as goal

pub returns : goal.returns
returns g c =
    names_are _ _ _ _ c.in_ok-names.ensures
    (missing_first (λ name. get_by (λ k. bytes_eq name k.now) c.in_ok-come.come) (λ name. list_any (λ n. bytes_eq name n.now) c.deref.result.now) (map (λ n. n.now) c.in_ok-names.names.items) c.in_ok-come.ensures
    ∙ c.in_ok-names.ensures)
