use Rattle.std.proofs.Common.{◌≡◌, ℕ, List, Some, None, cond, take, bytes_eq, false}
use Rattle.std.specs.List.{list_any}
use Rattle.std.specs.HashMap.{get_by}
use Rattle.itch_commands.proofs.stock_names.none_come.Given as goal

abbrev pub invariant-loop-name : goal.invariant-loop-name
invariant-loop-name g l = (name : List ℕ) → get_by (λ k. bytes_eq name k.now) l.come ≡ cond (list_any (λ n. bytes_eq name n.now) (take l.name-index l.names)) (Some false) None
