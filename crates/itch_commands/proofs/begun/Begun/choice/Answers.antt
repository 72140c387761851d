use Rattle.std.proofs.Common.{map, ap, ◌∙◌}
use Rattle.itch_codec.specs.Messages.{message_of}
use Rattle.itch_commands.specs.Choices.{chosen_listing_all, chosen_past_cursor}
use Rattle.itch_commands.proofs.begun.Begun.choice.Goals as goal

pub returns-clause-choice : goal.returns-clause-choice
returns-clause-choice g c = λ payloads are.
    c.list_all.ensures payloads are
    ∙ ap (λ chosen. chosen_listing_all chosen (map message_of payloads)) (c.pass_cursor.ensures ∙ ap (λ chosen. chosen_past_cursor chosen c.args.self.now.cursor) c.in_ok-choice.ensures)
