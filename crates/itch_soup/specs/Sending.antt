-- The packets that answer the login of a client (SoupBinTCP 3.00, "Logical Packets").
use Rattle.std.specs.Prelude.{◌≡◌, ℕ, ◌-◌, List, [], ◌∷◌, ◌++◌, map, length, drop, Bool, true, false, Option, Result, Ok, Err}
use Rattle.std.specs.List.{AllByRecursion}
use Rattle.std.specs.Io.KnownBytes.{Appends}
use Rattle.itch_codec.specs.declared.message.Message.{Message}
use Rattle.itch_codec.specs.declared.message.Message.TheVariants as message
use Rattle.itch_codec.specs.Messages.{spelling}
use Rattle.itch_frame.specs.Blocks.{IsPayload, blocks}
use Rattle.itch_frame.specs.Writing.{WriteBlocks}
use Rattle.itch_frame.specs.declared.tally.Failures.{Failures}
use Rattle.itch_frame.specs.declared.fault.FrameFault.{FrameFault}
use Rattle.itch_market.specs.Content.{Content}
use Rattle.itch_snapshot.specs.Snapshot.{snap}
use Rattle.itch_soup.specs.declared.login.ServerConfig.{ServerConfig}
use Rattle.itch_soup.specs.declared.packet.LoginRequest.{LoginRequest}
use Rattle.itch_soup.specs.declared.packet.Packet.{Packet}
use Rattle.itch_soup.specs.declared.packet.Packet.TheVariants as is
use Rattle.itch_soup.specs.declared.server.ServerAct.{ServerAct}
use Rattle.itch_soup.specs.declared.server.ServerAct.TheVariants as act
use Rattle.itch_soup.specs.Packets.{packet_spelling}
use Rattle.itch_soup.specs.Servers.{acceptance, judged}

-- the messages of a session: the market's snapshot list, and End of Snapshot
abbrev pub messages : Content → ℕ → List Message
messages m next = snap m ++ message.End next ∷ []

-- the messages from number n on; the first one is number 1
abbrev pub messages_from : ℕ → Content → ℕ → List Message
messages_from n m next = drop (n - 1) (messages m next)

-- the packet of a message
abbrev pub data_packet : Message → Packet
data_packet x = is.SequencedData (spelling x)

-- the packets after an acceptance: one for each of these messages, and the end of the session
abbrev pub session_packets : List Message → List Packet
session_packets xs = map data_packet xs ++ is.EndOfSession ∷ []

-- the End of Snapshot of a session, or none
abbrev pub end_part : Bool → ℕ → List Message
end_part true next = message.End next ∷ []
end_part false next = []

-- the packet of each message fits a block
abbrev pub FitPackets : List Message → Type 0
FitPackets xs = AllByRecursion (λ x. IsPayload (packet_spelling (data_packet x))) xs

-- the packets for an answer
abbrev pub packets_for : Content → ℕ → ServerConfig → ServerAct → List Packet
packets_for m next config (act.Accept n) = is.LoginAccepted (acceptance config n) ∷ session_packets (messages_from n m next)
packets_for m next config (act.Reject code) = is.LoginRejected code ∷ []
packets_for m next config answer = []

-- the server's answer to a login
abbrev pub verdict : Content → ℕ → ServerConfig → LoginRequest → ServerAct
verdict m next config login = (judged config (length (messages m next)) login).0

-- the packets that answer a login
abbrev pub served_packets : Content → ℕ → ServerConfig → LoginRequest → List Packet
served_packets m next config login = packets_for m next config (verdict m next config login)

-- the bytes that answer a login
abbrev pub served : Content → ℕ → ServerConfig → LoginRequest → List ℕ
served m next config login = blocks (map packet_spelling (served_packets m next config login))

module _ {W : Type 0} (contents : W → Option (List ℕ)) (failures : W → Failures) where
  -- the blocks of these payloads were written; or only some of them, and the first `sent` bytes of the next one
  abbrev pub Sends : {T : Type 0} → W → List (List ℕ) → Result T FrameFault → W → Type 0
  Sends old payloads (Ok done) new = Appends (contents old) (contents new) (blocks payloads) × (failures new ≡ failures old)
  Sends old payloads (Err fault) new = WriteBlocks contents failures old payloads (Err fault) new

  -- the same for packets
  abbrev pub SendsPackets : {T : Type 0} → W → List Packet → Result T FrameFault → W → Type 0
  SendsPackets old packets result new = Sends old (map packet_spelling packets) result new
