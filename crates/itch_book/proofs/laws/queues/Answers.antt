use Rattle.itch_book.proofs.QueueLemmas.{queue_by_priority, IsLine-queue, IsLine-unique}
use Rattle.itch_book.proofs.laws.queues.Goals as goal

pub returns-clause-priority : goal.returns-clause-priority
returns-clause-priority c = queue_by_priority

pub returns-clause-line : goal.returns-clause-line
returns-clause-line c = IsLine-queue

pub returns-clause-only : goal.returns-clause-only
returns-clause-only c = IsLine-unique
