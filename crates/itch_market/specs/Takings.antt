-- The effect of a message of a day on the market that takes it.
use Rattle.std.specs.Prelude.{◌≡◌, ℕ, List, Option, None, Some, Ok}
use Rattle.itch_codec.specs.Messages.{fault}
use Rattle.itch_day.specs.declared.stop.PartStop.{PartStop as Part}
use Rattle.itch_day.specs.declared.stop.PartStop.TheVariants as part
use Rattle.itch_market.specs.Content.{Content}
use Rattle.itch_market.specs.Replays.{TakesOne, Refuses}
use Rattle.itch_market.specs.declared.refused.Refused.{Refused}
use Rattle.itch_market.specs.declared.refused.Refused.TheVariants as is
use Rattle.itch_market.specs.declared.stop.Stop.{Stop}
use Rattle.itch_market.specs.declared.stop.Stop.TheVariants as stop

-- the message of a payload is applied, for any number
abbrev pub TakesMessage : Content → ℕ → List ℕ → Content → Type 0
TakesMessage m number payload n = TakesOne m payload (Ok tt) n

-- it is refused, or the payload is not a valid message
abbrev pub RefusesMessage : Content → ℕ → List ℕ → Refused → Content → Type 0
RefusesMessage m number payload (is.Codec f) n = (n ≡ m) × (fault payload ≡ Some f)
RefusesMessage m number payload (is.Rule why) n = (n ≡ m) × Refuses m payload why

-- the reason of a replay when a part of a day stops; the end of the requested part is not a reason
abbrev pub reason_of : Part Refused → Option Stop
reason_of part.Full = None
reason_of part.Late = None
reason_of part.End = Some stop.End
reason_of (part.Frame f) = Some (stop.Frame f)
reason_of part.TooMany = Some stop.TooManyMessages
reason_of (part.Refused (is.Codec f)) = Some (stop.Codec f)
reason_of (part.Refused (is.Rule why)) = Some (stop.Rule why)
