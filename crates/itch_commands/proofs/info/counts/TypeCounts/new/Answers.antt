use Rattle.std.proofs.lemmas.List.{get_or-replicate}
use Rattle.itch_commands.proofs.info.counts.TypeCounts.new.Goals as goal

pub returns : goal.returns
returns c = λ kind within. get_or-replicate 256 kind 0 0 within
