use Rattle.std.proofs.Common.{ℕ, List, ap, map, length, bytes_eq, ◌∙◌, ◌==◌, sym}
use Rattle.std.specs.List.{list_all}
use Rattle.std.specs.HashMap.{get_by}
use Rattle.itch_commands.specs.Lookup.{Names, has_come}
use Rattle.itch_commands.proofs.StockNames.{all_in, none_left}
use Rattle.itch_commands.proofs.stock_names.StockNames.have_all_come.Goals as goal

pub returns : goal.returns
returns g c =
    let come = λ (name : List ℕ). has_come (get_by (λ k. bytes_eq name k.now) c.self.inside.come) in
    c.all_come.ensures ∙ ap (list_all (λ n. come n.now)) c.deref.ensures.value ∙ sym (all_in come (λ n. n.now) c.self.inside.names.items)
    ∙ sym (none_left come (map (λ n. n.now) c.self.inside.names.items)) ∙ ap (λ n. length (Names.missing n) == 0) c.self.view_is
