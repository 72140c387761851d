use Rattle.std.proofs.Common.{ap, ◌∙◌}
use Rattle.std.specs.FinMap as map
use Rattle.itch_join.proofs.Waits.{waits_len}
use Rattle.itch_join.proofs.waiting.Waiting.len.Goals as goal

pub returns : goal.returns
returns g c = c.len.ensures.len ∙ waits_len c.self.inside.messages c.len.ensures.ordered ∙ ap map.len c.self.view_is
