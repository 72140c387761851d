use Rattle.std.proofs.Common.{sym, ap, ◌∙◌}
use Rattle.itch_market.specs.Wanted.{has}
use Rattle.itch_snapshot.specs.AsRead.{read_by}
use Rattle.itch_snapshot.proofs.AsRead.{all_as_is}
use Rattle.itch_commands.proofs.join.new_joiner.Goals as goal

pub returns-in-None-clause-read : goal.returns-in-None-clause-read
returns-in-None-clause-read g c = all_as_is (has c.new.result.set) c.new.ensures.set ∙ ap read_by (sym c.in-None.is)
