-- Known facts about a file that was read, and meets the expectations or does not.
use Rattle.std.proofs.Common.{◌≡◌, ℕ, List, map, Option, sym, ap, ◌∙◌}
use Rattle.itch_codec.specs.Messages.{message_of}
use Rattle.itch_market.specs.Content.{Content}
use Rattle.itch_market.specs.Runs.{run}
use Rattle.itch_commands.specs.Expectations.{unmet, unmet_of}
use Rattle.itch_commands.specs.declared.expected.Expectations.{Expectations}
use Rattle.itch_day.specs.declared.limit.Limit.{Limit}
use Rattle.itch_market.proofs.DayMessages.{Applied}

-- messages differ from the expectations if their number and the last event do
pub same_unmet : (expected : Expectations) (limit : Limit) (bytes new : Option (List ℕ)) (count : ℕ) (n : Content) (applied : Applied limit bytes new count n) (event : Option ℕ)
    → event ≡ n.event → unmet_of expected applied.payloads ≡ unmet expected count event
same_unmet expected limit bytes new count n applied event is =
    ap (λ k. unmet expected k (Content.event (run (map message_of applied.payloads)))) applied.counted
    ∙ ap (λ e. unmet expected count e) (sym (is ∙ ap Content.event applied.left))
