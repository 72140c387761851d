use Rattle.std.proofs.Common.{◌≡◌, None, ap, ◌∙◌}
use Rattle.itch_book.specs.Table.{at}
use Rattle.itch_book.proofs.KeyCounts.{count_more}
use Rattle.itch_book.proofs.TableLemmas.{near_puts, near_parted, far_puts, far_parted}
use Rattle.itch_book.proofs.table.Table.insert.Goals as goal

pub invariant_of-self-then-pays : goal.invariant_of-self-then-pays
invariant_of-self-then-pays g c =
    let near = c.self.inside.near in let far = c.self.inside.far.entries in let next = c.insert.new.self in let key = c.args.key in let link = c.args.link in
    let new : at (record { near = near; far = far }) key ≡ None = ap (λ t. at t key) c.self.view_is ∙ c.requires.new_key in
    record {
      parted = near_parted near next far key link new c.in_ok-insert.ensures.ok c.self.invariant.parted;
      count = count_more (at (record { near = near; far = far })) (at (record { near = next; far = far })) key link c.self.inside.len c.self.invariant.count new
          (near_puts near next far key link new c.in_ok-insert.ensures.ok);
    }

pub invariant_of-self-in-Ok : goal.invariant_of-self-in-Ok
invariant_of-self-in-Ok g c =
    let near = c.self.inside.near in let far = c.self.inside.far.entries in let next = c.insert-2.new.self.entries in let key = c.args.key in let link = c.args.link in
    let new : at (record { near = near; far = far }) key ≡ None = ap (λ t. at t key) c.self.view_is ∙ c.requires.new_key in
    record {
      parted = far_parted near far next key link new c.in-Ok.ensures.updates.0 c.self.invariant.parted;
      count = count_more (at (record { near = near; far = far })) (at (record { near = near; far = next })) key link c.self.inside.len c.self.invariant.count new
          (far_puts near far next key link new c.in-Ok.ensures.updates.0);
    }
