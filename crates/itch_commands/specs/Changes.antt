-- The kept change of a message in a market.
use Rattle.std.specs.Prelude.{Bool, true, false}
use Rattle.itch_codec.specs.declared.message.Message.{Message}
use Rattle.itch_market.specs.Plain.{nothing}

-- the plainest message with that effect: the one that is kept, or the one that changes nothing
abbrev pub plainest : Bool → Message → Message
plainest false kept = nothing
plainest true kept = kept
