-- The lemmas that the law functions state.
use Rattle.itch_book.proofs.BookLemmas.{lay-book, IsBook-lay, front_book, sides-book, lay-added_laid, lay-taken_laid, lay-without_laid, lay-replaced_laid}
use Rattle.itch_book.proofs.OrderLemmas.{lay_twice, queue-lay, get-lay, lay_same, lay_same_levels}
use Rattle.itch_book.proofs.PriceLemmas.{next_stands, next_best, next_none}

pub ruleset laid_laws = (lay_twice, queue-lay, get-lay)

pub ruleset effect_laws = (lay-added_laid, lay-taken_laid, lay-without_laid, lay-replaced_laid)

pub ruleset same_laws = (lay_same, lay_same_levels)

pub ruleset price_laws = (next_stands, next_best, next_none)

pub ruleset book_laws = (lay-book, IsBook-lay, front_book, sides-book)
