-- The next packet of a connection.
use Rattle.std.specs.Prelude.{◌≡◌, ⊤, ℕ, ◌^◌, ◌==◌, Bool, true, false, List, Option, None, Some, Result, Ok, Err}
use Rattle.std.specs.Borrow.{Bor}
use Rattle.std.specs.Io.KnownBytes.{Consumes, IsAtEnd}
use Rattle.itch_frame.specs.Blocks.{IsPayload, block}
use Rattle.itch_frame.specs.Reading.{Reading, NextBlock, FailsHere}
use Rattle.itch_frame.specs.declared.tally.Failures.{Failures}
use Rattle.itch_soup.specs.declared.fault.SoupFault.{SoupFault}
use Rattle.itch_soup.specs.declared.fault.SoupFault.TheVariants as broke
use Rattle.itch_soup.specs.declared.reading.ReadFault.{ReadFault}
use Rattle.itch_soup.specs.declared.reading.ReadFault.TheVariants.{TooMany, Frame}
use Rattle.itch_soup.specs.declared.origin.Origin.{Origin}
use Rattle.itch_soup.specs.declared.packet.Packet.{Packet}
use Rattle.itch_soup.specs.Packets.{PacketSpells, packet_fault}

-- the maximum number of packets was read
abbrev pub is_enough : ℕ → Bool
is_enough count = count == 10 ^ 19

-- a block came off the front, and this holds for its payload
abbrev pub ReadsBlock : Option (List ℕ) → Option (List ℕ) → (List ℕ → Type 0) → Type 0
ReadsBlock old new P = (payload : List ℕ) × IsPayload payload × Consumes old new (block payload) × P payload

-- the next packet from that side, the end of the input, or a fault; after the maximum number of packets, any block is one too many
abbrev pub PacketHere : Origin → Bool → Option (List ℕ) → Option (List ℕ) → Result (Option Packet) SoupFault → Type 0
PacketHere from enough old new (Ok (Some packet)) = (enough ≡ false) × ReadsBlock old new (λ payload. PacketSpells packet payload from)
PacketHere from enough old new (Ok None) = IsAtEnd old
PacketHere from enough old new (Err (broke.Frame fault)) = FailsHere fault old new
PacketHere from enough old new (Err broke.TooManyMessages) = (enough ≡ true) × ReadsBlock old new (λ payload. ⊤)
PacketHere from enough old new (Err fault) = (enough ≡ false) × ReadsBlock old new (λ payload. packet_fault payload from ≡ Some fault)

-- the fault that ends a session if a packet was not read
abbrev pub ends_session : ReadFault → SoupFault
ends_session TooMany = broke.TooManyMessages
ends_session (Frame fault) = broke.Frame fault

module _ {R : Type 0} (remaining : R → Option (List ℕ)) (failures : R → Failures) where
  -- the possible results of a request for the bytes of the next packet, and the reader afterwards
  abbrev pub NextPacket : Bool → Reading R → Result (Option (Bor (List ℕ))) ReadFault → Reading R → Type 0
  NextPacket enough old (Ok (Some packet)) new = (enough ≡ false) × NextBlock remaining failures old (Ok (Some packet)) new
  NextPacket enough old (Ok None) new = NextBlock remaining failures old (Ok None) new
  NextPacket enough old (Err TooMany) new = (enough ≡ true) × ((packet : Bor (List ℕ)) × NextBlock remaining failures old (Ok (Some packet)) new)
  NextPacket enough old (Err (Frame fault)) new = NextBlock remaining failures old (Err fault) new
