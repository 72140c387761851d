-- A message of one type, read from a payload.
use Rattle.std.proofs.Common.{◌≡◌, ℕ, ◌<◌, List, Some, None, get_or}
use Rattle.itch_codec.specs.declared.fault.CodecFault.{CodecFault}
use Rattle.itch_codec.specs.declared.message.Message.{Message}
use Rattle.itch_codec.specs.Layouts.{Layout, Column}
use Rattle.itch_codec.specs.Fields.{Value, HasAll, first_fault}
use Rattle.itch_codec.specs.Messages.{IsLaid, Spells}
use Rattle.itch_codec.specs.Typed.{IsDecoded}
use Rattle.itch_codec.proofs.Bytes.{all_bytes}
use Rattle.itch_codec.proofs.Spelling.{message_of-Spells, fault-Spells, IsMessage-Spells}
use Rattle.itch_codec.proofs.Tables.{all_none}

-- a message that bytes encode is the payload's message, and its fields fit
pub decoded : (m : Message) (payload : List ℕ) → ((k : ℕ) → get_or payload k 0 < 256) → Spells m payload → IsDecoded m payload
decoded m payload bytes spelled = record {
  spelled = spelled;
  message = message_of-Spells m payload spelled;
  no_fault = fault-Spells m payload spelled;
  fits = IsMessage-Spells m payload (all_bytes payload bytes) spelled;
}

-- a payload with a fault in a field encodes no message of the layout
pub not_laid : (payload : List ℕ) (layout : Layout) (values : List Value) (fault : CodecFault) → first_fault payload layout.columns ≡ Some fault
    → IsLaid layout values payload → ⊥
not_laid payload layout values fault bad laid = let none = all_none payload layout.columns values laid.fields in cc
