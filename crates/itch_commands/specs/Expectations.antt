-- The expectations for a day file.
use Rattle.std.specs.Prelude.{◌≡◌, ℕ, ◌==◌, Bool, true, false, List, length, map, ◌⊎◌, Option, None, Some, Result, Ok, Err, nat_lt, if◌then◌else◌}
use Rattle.itch_codec.specs.Messages.{message_of}
use Rattle.itch_market.specs.Content.{Content}
use Rattle.itch_market.specs.Runs.{run}
use Rattle.itch_commands.specs.declared.expected.Expectations.{Expectations}
use Rattle.itch_commands.specs.declared.expected.UnmetExpectation.TheVariants.{More, NoEnd}
use Rattle.itch_commands.specs.declared.fault.Source.TheVariants.{Only}
use Rattle.itch_commands.specs.declared.fault.ToolFault.{ToolFault}
use Rattle.itch_commands.specs.declared.fault.ToolFault.TheVariants as tool

-- no expectation except that the file follows the order rules
abbrev pub nothing : Expectations
nothing = record { count = None; end = false }

-- the code of End of Messages is C
abbrev pub is_last : Option ℕ → Bool
is_last None = false
is_last (Some code) = code == 67

-- the difference between a number of messages and the expected one
abbrev pub unmet_count : ℕ → ℕ → Option ToolFault
unmet_count expected count =
    if nat_lt count expected then Some (tool.Short Only count) else if nat_lt expected count then Some (tool.UnmetExpectation (More expected)) else None

abbrev pub unmet_end : Bool → Option ℕ → Option ToolFault
unmet_end false event = None
unmet_end true event = if is_last event then None else Some (tool.UnmetExpectation NoEnd)

abbrev pub or_end : Bool → Option ℕ → Option ToolFault → Option ToolFault
or_end end event None = unmet_end end event
or_end end event (Some fault) = Some fault

abbrev pub unmet_by : Option ℕ → Bool → ℕ → Option ℕ → Option ToolFault
unmet_by None end count event = unmet_end end event
unmet_by (Some expected) end count event = or_end end event (unmet_count expected count)

-- the difference between a file with that many messages and this last system event, and the expectations, if there is one
abbrev pub unmet : Expectations → ℕ → Option ℕ → Option ToolFault
unmet expected count event = unmet_by expected.count expected.end count event

-- the same for these messages
abbrev pub unmet_of : Expectations → List (List ℕ) → Option ToolFault
unmet_of expected payloads = unmet expected (length payloads) (Content.event (run (map message_of payloads)))

-- the file meets the expectations; or the reading is refused, or the file does not meet them, and this is the difference
abbrev pub Meets : Expectations → (Result (List (List ℕ)) ToolFault → Type 0) → Result (List (List ℕ)) ToolFault → Type 0
Meets expected reads (Ok payloads) = reads (Ok payloads) × (unmet_of expected payloads ≡ None)
Meets expected reads (Err fault) =
    reads (Err fault) ⊎ ((payloads : List (List ℕ)) × reads (Ok payloads) × (unmet_of expected payloads ≡ Some fault))
