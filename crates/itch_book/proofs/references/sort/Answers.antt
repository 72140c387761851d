use Rattle.std.proofs.Common.{rules}
use Rattle.std.proofs.lemmas.List.Sorted.{answers_always}
use Rattle.itch_book.specs.Settled.{comes_before}
use Rattle.itch_book.proofs.SettledLemmas.{sorted_line, arrival_order}
use Rattle.itch_book.proofs.references.sort.Goals as goal

pub returns-clause-line : goal.returns-clause-line
returns-clause-line g c =
    sorted_line c.args.orders.now.items c.sort_unstable_by.new.self.items c.requires c.sort_unstable_by.ensures.permutation
    (c.sort_unstable_by.ensures.sorted comes_before arrival_order (answers_always _ _ _ (λ f a r g h. search rules)))
