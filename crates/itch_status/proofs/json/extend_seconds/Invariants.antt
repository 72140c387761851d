use Rattle.std.proofs.Common.{◌≡◌, ◌++◌, take}
use Rattle.std.specs.List.{flat_map}
use Rattle.itch_status.specs.JsonTexts.{json_second}
use Rattle.itch_status.proofs.json.extend_seconds.Given as goal

abbrev pub invariant-loop-messages : goal.invariant-loop-messages
invariant-loop-messages l = l.text.items ≡ l.fn.text.items ++ flat_map json_second (take l.messages-index l.seconds)
