use Rattle.itch_book.specs.SideLevels.{as_lines}
use Rattle.itch_book.proofs.SideLevelLemmas.{gone_parted, gone_queues}
use Rattle.itch_book.proofs.side_levels.cut_on.Goals as goal

pub returns-then-not-cut_from_line-clause-side_levels : goal.returns-then-not-cut_from_line-clause-side_levels
returns-then-not-cut_from_line-clause-side_levels g c =
    gone_parted c.args.side (as_lines c.args.side_levels.now.lines.items) c.args.side_levels.now.overflow.entries c.requires c.args.locate c.args.price
    (as_lines c.cut_from_line.new.lines.items) c.cut_from_line.ensures.rising c.cut_from_line.ensures.cut c.remove.new.self.entries c.remove.ensures.ordered (λ k n. c.remove.ensures.updates.0 (k, n))

pub returns-then-not-cut_from_line-clause-cut : goal.returns-then-not-cut_from_line-clause-cut
returns-then-not-cut_from_line-clause-cut g c =
    gone_queues c.args.side (as_lines c.args.side_levels.now.lines.items) c.args.side_levels.now.overflow.entries c.requires c.args.locate c.args.price
    (as_lines c.cut_from_line.new.lines.items) c.cut_from_line.ensures.rising c.cut_from_line.ensures.cut c.remove.new.self.entries c.remove.ensures.ordered (λ k n. c.remove.ensures.updates.0 (k, n))
