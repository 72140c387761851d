use Rattle.std.proofs.Common.{◌≡◌, ◌∙◌, ap}
use Rattle.itch_status.specs.Times.{utc_text}
use Rattle.itch_status.proofs.time.utc.Goals as goal

pub returns : goal.returns
returns c = (c.in-Ok.date, c.in-Ok.ensures.value, c.time_of.ensures ∙ ap (λ text. utc_text text c.args.unix_ms) c.to_bytes.ensures)
