use Rattle.std.proofs.Common.{Bor, List, ℕ, [], ◌<◌, Some, None, cond, bytes_eq, get_or, length, take, false, ap, sym, ◌∙◌, arith}
use Rattle.std.specs.List.{list_any}
use Rattle.std.proofs.lemmas.List.Folds.{list_any_more}
use Rattle.std.proofs.lemmas.Map.Text.{hash_map_updates_str}
use Rattle.itch_commands.proofs.StockNames.{marked_more, turned}
use Rattle.itch_commands.proofs.stock_names.none_come.Goals as goal

pub loop-name-preserved : goal.loop-name-preserved
loop-name-preserved g c = λ name.
    let names : List (Bor (List ℕ)) = c.args.names.now in
    let i : ℕ = c.loop-name.name-index in
    let blank : Bor (List ℕ) = record { ref_ptr = (0, 0); now = [] } in
    let key : Bor (List ℕ) = get_or names i blank in
    let less : i < length names = omega arith in
    hash_map_updates_str key.now c.loop-name.come c.insert.new.self (Some false) c.in_ok-insert.ensures.updates name
    ∙ ap (λ o. cond (bytes_eq key.now name) (Some false) o) (c.loop-name.invariant name)
    ∙ marked_more (list_any (λ n. bytes_eq name n.now) (take i names)) (bytes_eq key.now name) (bytes_eq name key.now) (turned key.now name)
    ∙ ap (λ b. cond b (Some false) None) (sym (list_any_more (λ n. bytes_eq name n.now) names i blank less))
