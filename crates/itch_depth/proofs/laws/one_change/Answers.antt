use Rattle.itch_depth.proofs.ChangedBooks.{changed_book, of_levels}
use Rattle.itch_depth.proofs.laws.one_change.Goals as goal

pub returns-clause-text : goal.returns-clause-text
returns-clause-text c number time depth locate m s there = changed_book number time depth locate m s there

pub returns-clause-levels : goal.returns-clause-levels
returns-clause-levels c line depth side orders = of_levels line depth side orders
