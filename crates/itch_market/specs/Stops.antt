-- The place and the reason of a replay's stop: the first bad place of a day file.
use Rattle.std.specs.Prelude.{ℕ, ◌+◌, ◌-◌, ◌^◌, ◌==◌, nat_lt, min, if◌then◌else◌, List, [], ◌∷◌, map, length, take, Option, Some, None, slice_get, option_map, option_and_then}
use Rattle.itch_codec.specs.declared.fault.CodecFault.{CodecFault}
use Rattle.itch_codec.specs.Messages.{fault, message_of}
use Rattle.itch_frame.specs.Blocks.{Day}
use Rattle.itch_frame.specs.declared.fault.FrameFault.TheVariants.{Truncated}
use Rattle.itch_market.specs.declared.stop.Stop.{Stop}
use Rattle.itch_market.specs.declared.stop.Stop.TheVariants.{End, Frame, Codec, Rule, TooManyMessages}
use Rattle.itch_market.specs.Content.{Content}
use Rattle.itch_market.specs.Reasons.{reason}
use Rattle.itch_market.specs.Runs.{after}
use Rattle.itch_market.specs.FirstPlaces.{IsFirst}

-- the reason why a payload is not taken: it has this fault, or an order rule refuses its message
abbrev pub cause_by : Option CodecFault → Content → List ℕ → Option Stop
cause_by (Some f) m payload = Some (Codec f)
cause_by None m payload = option_map Rule (reason m (message_of payload))

abbrev pub cause : Content → List ℕ → Option Stop
cause m payload = cause_by (fault payload) m payload

-- the reason why the payload after the first k is not taken, in the market after those
abbrev pub cause_at : Content → List (List ℕ) → ℕ → Option Stop
cause_at m payloads k = option_and_then (cause (after m (map message_of (take k payloads)))) (slice_get payloads k)

-- the stop at the rest of a day: an end if the rest is empty or begins with an empty block, and otherwise an unfinished block
abbrev pub end_of : List ℕ → Stop
end_of [] = End
end_of (x ∷ []) = Frame (Truncated 1)
end_of (x ∷ y ∷ rest) = if (x + y) == 0 then End else Frame (Truncated (length (x ∷ y ∷ rest)))

-- the stop after all payloads, or after the maximum number of a replay
abbrev pub last_stop : ℕ → List (List ℕ) → List ℕ → Stop
last_stop most payloads rest = if nat_lt most (length payloads) then TooManyMessages else end_of rest

-- the reason why a replay would stop after the first k payloads, if it would
abbrev pub stop_at : ℕ → Content → List (List ℕ) → List ℕ → ℕ → Option Stop
stop_at most m payloads rest k = if k == min most (length payloads) then Some (last_stop most payloads rest) else cause_at m payloads k

-- a replay from this market takes the first k messages of a day file, and then stops for this reason
pub record Stops (m : Content) (bytes : List ℕ) (k : ℕ) (stop : Stop) : Type 0 where
  pub payloads : List (List ℕ)
  pub rest : List ℕ
  pub day : Day bytes payloads rest
  pub first : IsFirst (stop_at (10 ^ 19 - 1) m payloads rest) k stop
