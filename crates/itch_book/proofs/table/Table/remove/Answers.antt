use Rattle.std.proofs.Common.{◌≡◌, eqb, Some, sym, ap, ◌∙◌}
use Rattle.std.specs.Map.{lookup}
use Rattle.itch_book.specs.Table.{or_else, at}
use Rattle.itch_book.specs.Pages.{link_at}
use Rattle.itch_book.proofs.KeyCounts.{count_fewer}
use Rattle.itch_book.proofs.TableLemmas.{near_gone, left_parted, far_gone, cut_parted}
use Rattle.itch_book.proofs.table.Table.remove.Goals as goal

pub invariant_of-self : goal.invariant_of-self
invariant_of-self g c =
    let near = c.self.inside.near in let far = c.self.inside.far.entries in let next = c.remove.new.self in let key = c.args.key in
    let there : link_at near key ≡ Some c.in-Some.link = sym c.remove.ensures.link ∙ c.in-Some.is in
    let whole : at (record { near = near; far = far }) key ≡ Some c.in-Some.link = ap (λ o. or_else o (lookup (eqb key) far)) there in
    record {
      parted = left_parted near next far key c.in-Some.link c.self.invariant.parted there c.remove.ensures.updates;
      count = count_fewer (at (record { near = near; far = far })) (at (record { near = next; far = far })) key c.in-Some.link c.self.inside.len c.self.invariant.count whole
          (near_gone near next far key c.in-Some.link c.self.invariant.parted there c.remove.ensures.updates);
    }

pub invariant_of-self-in-None : goal.invariant_of-self-in-None
invariant_of-self-in-None g c =
    let near = c.self.inside.near in let far = c.self.inside.far.entries in let next = c.remove.new.self in let key = c.args.key in
    let left = c.remove-in-None.new.self.entries in
    let whole : at (record { near = near; far = far }) key ≡ Some c.unwrap-link.result =
    ap (λ o. or_else o (lookup (eqb key) far)) (sym c.remove.ensures.link ∙ c.in-None.is) ∙ sym c.remove-in-None.ensures.value ∙ c.unwrap-link.ensures in
    record {
      parted = cut_parted near next far left key c.remove.ensures.updates c.remove-in-None.ensures.updates.0 c.self.invariant.parted;
      count = count_fewer (at (record { near = near; far = far })) (at (record { near = next; far = left })) key c.unwrap-link.result c.self.inside.len c.self.invariant.count whole
          (far_gone near next far left key c.remove.ensures.updates c.remove-in-None.ensures.updates.0);
    }
