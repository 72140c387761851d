use Rattle.std.proofs.Common.{◌≡◌, ◌≤◌, ◌-◌, sym, ◌∙◌}
use Rattle.itch_book.proofs.PartLemmas.{part_in_order, part_all, part_within}
use Rattle.itch_book.proofs.line.part_of.Goals as goal

pub returns-then-all_higher_from-clause-order : goal.returns-then-all_higher_from-clause-order
returns-then-all_higher_from-clause-order c = part_in_order c.args.hint.start (c.args.hint.end - c.args.hint.start) c.args.line.now c.requires

pub returns-then-all_higher_from-clause-all : goal.returns-then-all_higher_from-clause-all
returns-then-all_higher_from-clause-all c =
    part_all c.args.locate c.args.line.now c.args.hint.start c.args.hint.end c.if-start-end.true
    (sym c.all_lower_before.ensures ∙ c.if-all_lower_before.true) (sym c.all_higher_from.ensures ∙ c.if-all_higher_from.true)
