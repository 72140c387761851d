-- Sessions over lists of calls: a closed session remains closed.
use Rattle.std.specs.Prelude.{ℕ, List, [], ◌∷◌}
use Rattle.itch_soup.specs.declared.packet.Packet.{Packet}
use Rattle.itch_soup.specs.declared.fault.SoupFault.TheVariants as fault
use Rattle.itch_soup.specs.declared.connection.Tick.{Tick}
use Rattle.itch_soup.specs.declared.connection.Tick.TheVariants as tick
use Rattle.itch_soup.specs.declared.server.ServerAct.{ServerAct}
use Rattle.itch_soup.specs.declared.server.ServerAct.TheVariants as server
use Rattle.itch_soup.specs.declared.client.ClientAct.{ClientAct}
use Rattle.itch_soup.specs.declared.client.ClientAct.TheVariants as client
use Rattle.itch_soup.specs.Connections.{tick_answer}
use Rattle.itch_soup.specs.Servers.{Server, server_answer, server_after_packet, server_after_tick, server_after_sent}
use Rattle.itch_soup.specs.Clients.{Client, client_answer, client_after_packet, client_after_tick, client_after_sent}

-- a call of a session, with its time
pub data Call : Type 0 where
  OnPacket : (packet : Packet) (now : ℕ) → Call
  OnTick : (now : ℕ) → Call
  OnSent : (now : ℕ) → Call

-- a call's answer: to a packet, to a tick, or none
pub data Answer (Act : Type 0) : Type 0 where
  ToPacket : (act : Act) → Answer Act
  ToTick : (tick : Tick) → Answer Act
  Silence : Answer Act

-- a server's answer to a call
abbrev pub server_reply : Server → Call → Answer ServerAct
server_reply s (OnPacket packet now) = ToPacket (server_answer s packet)
server_reply s (OnTick now) = ToTick (tick_answer s.connection now)
server_reply s (OnSent now) = Silence

-- a server's session after a call
abbrev pub server_after : Server → Call → Server
server_after s (OnPacket packet now) = server_after_packet s packet now
server_after s (OnTick now) = server_after_tick s now
server_after s (OnSent now) = server_after_sent s now

-- a server's answers to these calls, in order
abbrev pub server_replies : Server → List Call → List (Answer ServerAct)
server_replies s [] = []
server_replies s (call ∷ calls) = server_reply s call ∷ server_replies (server_after s call) calls

-- a client's answer to a call
abbrev pub client_reply : Client → Call → Answer ClientAct
client_reply c (OnPacket packet now) = ToPacket (client_answer c packet)
client_reply c (OnTick now) = ToTick (tick_answer c.connection now)
client_reply c (OnSent now) = Silence

-- a client's session after a call
abbrev pub client_after : Client → Call → Client
client_after c (OnPacket packet now) = client_after_packet c packet now
client_after c (OnTick now) = client_after_tick c now
client_after c (OnSent now) = client_after_sent c now

-- a client's answers to these calls, in order
abbrev pub client_replies : Client → List Call → List (Answer ClientAct)
client_replies c [] = []
client_replies c (call ∷ calls) = client_reply c call ∷ client_replies (client_after c call) calls

-- the answers that close a server's session
abbrev pub ServerCloses : Answer ServerAct → Type 0
ServerCloses (ToPacket (server.Reject code)) = Unit {0}
ServerCloses (ToPacket server.Close) = Unit {0}
ServerCloses (ToPacket (server.Fault found)) = Unit {0}
ServerCloses (ToTick tick.Lost) = Unit {0}
ServerCloses answer = ⊥

-- the answers that close a client's session
abbrev pub ClientCloses : Answer ClientAct → Type 0
ClientCloses (ToPacket (client.Rejected code)) = Unit {0}
ClientCloses (ToPacket client.Ended) = Unit {0}
ClientCloses (ToPacket (client.Fault found)) = Unit {0}
ClientCloses (ToTick tick.Lost) = Unit {0}
ClientCloses answer = ⊥

-- a closed session answers each packet with this, and each tick with `Nothing`
abbrev pub closed_reply : {Act : Type 0} → Act → Call → Answer Act
closed_reply closed (OnPacket packet now) = ToPacket closed
closed_reply closed (OnTick now) = ToTick tick.Nothing
closed_reply closed (OnSent now) = Silence

-- the answers of a closed server's session
abbrev pub closed_server_reply : Call → Answer ServerAct
closed_server_reply call = closed_reply (server.Fault fault.Closed) call

-- the answers of a closed client's session
abbrev pub closed_client_reply : Call → Answer ClientAct
closed_client_reply call = closed_reply (client.Fault fault.Closed) call
