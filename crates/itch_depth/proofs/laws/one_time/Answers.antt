use Rattle.itch_depth.proofs.OneTime.{one_part}
use Rattle.itch_depth.proofs.TimedLines.{books_with_time, plain_books}
use Rattle.itch_depth.proofs.laws.one_time.Goals as goal

pub returns-clause-lines : goal.returns-clause-lines
returns-clause-lines g c = plain_books

pub returns-clause-timed : goal.returns-clause-timed
returns-clause-timed g c = books_with_time

pub returns-clause-until : goal.returns-clause-until
returns-clause-until g c = one_part g.R.CountedRead.remaining g.R.CountedRead.failures g.W.CountedWrite.contents g.W.CountedWrite.failures

pub returns-clause-at : goal.returns-clause-at
returns-clause-at g c = λ request set first time old new result. (λ one. one, λ one. one)
