use Rattle.std.proofs.Common.{◌≡◌, true, false, Some, is_some, refl, ap, map, bytes_eq, ◌∙◌, sym, rules}
use Rattle.std.specs.List.{list_any}
use Rattle.std.specs.HashMap.{get_by}
use Rattle.std.proofs.lemmas.Map.Text.{hash_map_updates_str}
use Rattle.itch_commands.specs.Lookup.{Names, has_come, is_one_of}
use Rattle.itch_commands.proofs.StockNames.{names_are, marked_on, missing_on_mark, missing_same, one_of_names}
use Rattle.itch_commands.proofs.stock_names.StockNames.pass.Goals as goal

pub returns-in_default-clause-is : goal.returns-in_default-clause-is
returns-in_default-clause-is g c =
    ap is_some c.in_default.ensures.value ∙ c.self.invariant c.args.stock.now ∙ one_of_names (λ n. n.now) c.self.inside.names.items c.args.stock.now
    ∙ ap (λ n. is_one_of (Names.names n) c.args.stock.now) c.self.view_is

pub returns-in_default-clause-passed : goal.returns-in_default-clause-passed
returns-in_default-clause-passed g c =
    let names = map (λ n. n.now) c.self.inside.names.items in
    let other : is_one_of names c.args.stock.now ≡ false =
    sym (ap is_some c.in_default.ensures.value ∙ c.self.invariant c.args.stock.now ∙ one_of_names (λ n. n.now) c.self.inside.names.items c.args.stock.now) in
    rw (← c.self.view_is, c.get_mut.follows.holds-at-none) (names_are _ _ _ _ refl (sym (missing_same (λ name. has_come (get_by (λ k. bytes_eq name k.now) c.self.inside.come)) names c.args.stock.now other)))

pub invariant_of-self-2 : goal.invariant_of-self-2
invariant_of-self-2 g c =
    let updates = (c.get_mut.follows.holds true).3 (search rules) in
    marked_on (λ name. get_by (λ k. bytes_eq name k.now) c.self.inside.come) (λ name. get_by (λ k. bytes_eq name k.now) (c.get_mut.follows.lender true))
    (λ name. list_any (λ n. bytes_eq name n.now) c.self.inside.names.items) c.args.stock.now
    (hash_map_updates_str c.args.stock.now c.self.inside.come (c.get_mut.follows.lender true) (Some true) updates) c.self.invariant (sym (ap is_some c.in-Some.ensures.value))

pub returns-clause-is : goal.returns-clause-is
returns-clause-is g c =
    ap is_some c.in-Some.ensures.value ∙ c.self.invariant c.args.stock.now ∙ one_of_names (λ n. n.now) c.self.inside.names.items c.args.stock.now
    ∙ ap (λ n. is_one_of (Names.names n) c.args.stock.now) c.self.view_is

pub returns-clause-passed : goal.returns-clause-passed
returns-clause-passed g c =
    let updates = (c.get_mut.follows.holds true).3 (search rules) in
    rw (← c.self.view_is) (names_are _ _ _ _ refl (missing_on_mark (λ name. get_by (λ k. bytes_eq name k.now) c.self.inside.come) (λ name. get_by (λ k. bytes_eq name k.now) (c.get_mut.follows.lender true))
    c.args.stock.now (map (λ n. n.now) c.self.inside.names.items) (hash_map_updates_str c.args.stock.now c.self.inside.come (c.get_mut.follows.lender true) (Some true) updates)))
