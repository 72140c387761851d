use Rattle.std.specs.FinMap as finite
use Rattle.std.specs.Option.{option_copied}
use Rattle.itch_market.specs.Content.{Content}
use Rattle.itch_commands.specs.Books.{lines_at, wanted_by}
use Rattle.itch_commands.specs.Forms.{head}
use Rattle.itch_commands.proofs.BooksInTurn.{BooksSoFar}
use Rattle.itch_commands.proofs.book.listed.write_books.Given as goal

abbrev pub invariant-loop-locate : goal.invariant-loop-locate
invariant-loop-locate g l =
    BooksSoFar g.W.CountedWrite.contents g.W.CountedWrite.failures (head l.form) (lines_at l.form l.depth l.market) (wanted_by (option_copied l.only)) (finite.keys (Content.securities l.market)) l.fn.out
    l.yielded l.locate-iterator l.out
