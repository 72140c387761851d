use Rattle.itch_commands.proofs.BooksInTurn.{ListedBefore}
use Rattle.itch_commands.proofs.book.listed.set_listed.Given as goal

abbrev pub invariant-loop-locate : goal.invariant-loop-locate
invariant-loop-locate g l = ListedBefore l.locate l.set l.market.securities
