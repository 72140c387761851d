use Rattle.itch_day.proofs.Joined.{joined_to}
use Rattle.itch_day.proofs.reading.read_further.Goals as goal

pub returns-clause-reads : goal.returns-clause-reads
returns-clause-reads g c first begun t before stop read to = joined_to _ _ _ _ before c.args.limit _ _ _ _ _ _ _ _ _ stop _ to read c.read_part.ensures.reads
