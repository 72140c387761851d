use Rattle.std.proofs.Common.{cond, Some, ap, ◌∙◌}
use Rattle.std.specs.BTreeMap.{is_at}
use Rattle.itch_book.specs.Indexed.{place_cmp}
use Rattle.itch_book.specs.SideLevels.{as_lines}
use Rattle.itch_book.proofs.SideLevelLemmas.{reached_parted, reached_queues, overflow_parted, overflow_queues}
use Rattle.itch_book.proofs.side_levels.put_on.Goals as goal

pub returns-in-Ok-clause-side_levels : goal.returns-in-Ok-clause-side_levels
returns-in-Ok-clause-side_levels g c =
    let s = c.args.side in let l = c.args.locate in let p = c.args.level.price in
    let ls = as_lines c.args.side_levels.now.lines.items in let ls' = as_lines c.reach.new.lines.items in
    let overflow = c.args.side_levels.now.overflow.entries in
    overflow_parted s ls' overflow (reached_parted s ls ls' overflow c.requires.side_levels c.in_ok-reach.ensures.lines) l p (reached_queues ls ls' overflow c.in_ok-reach.ensures.lines l p ∙ c.requires.new_price) c.args.level.queue
    c.insert.new.self.entries c.in-Ok.ensures.ordered (λ k n. c.in-Ok.ensures.updates.0 (k, n))

pub returns-in-Ok-clause-ok : goal.returns-in-Ok-clause-ok
returns-in-Ok-clause-ok g c k n =
    let s = c.args.side in let l = c.args.locate in let p = c.args.level.price in
    let ls = as_lines c.args.side_levels.now.lines.items in let ls' = as_lines c.reach.new.lines.items in
    let overflow = c.args.side_levels.now.overflow.entries in
    overflow_queues s ls' overflow (reached_parted s ls ls' overflow c.requires.side_levels c.in_ok-reach.ensures.lines) l p (reached_queues ls ls' overflow c.in_ok-reach.ensures.lines l p ∙ c.requires.new_price) c.args.level.queue
    c.insert.new.self.entries c.in-Ok.ensures.ordered (λ k n. c.in-Ok.ensures.updates.0 (k, n)) k n
    ∙ ap (cond (is_at (place_cmp (l, p)) (k, n)) (Some c.args.level.queue)) (reached_queues ls ls' overflow c.in_ok-reach.ensures.lines k n)
