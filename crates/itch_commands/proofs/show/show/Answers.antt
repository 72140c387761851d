use Rattle.std.proofs.Common.{inr}
use Rattle.itch_commands.proofs.show.show.Goals as goal

pub returns-clause-shows : goal.returns-clause-shows
returns-clause-shows g c = inr (
  c.in_ok-reader.reader,
  c.show_blocks.new.reader,
  c.in_ok-reader.ensures.0,
  c.in_ok-reader.ensures.1,
  c.in_ok-reader.ensures.2,
  rw (c.whole.ensures, c.everything-choice.ensures) at c.show_blocks.ensures,
)
