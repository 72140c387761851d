use Rattle.std.proofs.Common.{[]}
use Rattle.std.specs.FinMap as finite
use Rattle.std.specs.Option.{option_copied}
use Rattle.itch_market.specs.Content.{Content}
use Rattle.itch_commands.specs.Books.{wanted_by}
use Rattle.itch_depth.specs.Timed.{timed_at}
use Rattle.itch_commands.proofs.BooksInTurn.{BooksSoFar}
use Rattle.itch_depth.proofs.timed.write_timed_books.Given as goal

abbrev pub invariant-loop-locate : goal.invariant-loop-locate
invariant-loop-locate g l =
    BooksSoFar g.W.CountedWrite.contents g.W.CountedWrite.failures [] (timed_at l.form l.time l.depth l.market) (wanted_by (option_copied l.only)) (finite.keys (Content.securities l.market)) l.fn.out
    l.yielded l.locate-iterator l.out
