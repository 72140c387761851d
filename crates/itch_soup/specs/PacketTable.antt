-- Each packet type as data: its type byte, its sender, its length and its fields (SoupBinTCP 3.00, "Logical Packets").
use Rattle.std.specs.Prelude.{ℕ, ◌==◌, Bool, true, false, List, [], ◌∷◌, Option, None, Some, if◌then◌else◌}
use Rattle.itch_codec.specs.Layouts.{Column, column, Text, Code, Digits}
use Rattle.itch_soup.specs.declared.origin.Origin.{Origin}
use Rattle.itch_soup.specs.declared.origin.Origin.TheVariants.{Client, Server}
use Rattle.itch_soup.specs.declared.packet_types.Sender.{Sender}
use Rattle.itch_soup.specs.declared.packet_types.Sender.TheVariants.{Only, Either}

-- a part after the type byte: a field as in messages, the number that a login requests, or all bytes from an offset on
pub data Part : Type 0 where
  Field : (column : Column) → Part
  Request : (offset : ℕ) → Part
  Rest : (offset : ℕ) → Part

-- a packet type: its byte, its sender, its length with the type byte (none: any from 1), and the parts after the type byte
pub record PacketType : Type 0 where
  pub kind : ℕ
  pub sender : Sender
  pub size : Option ℕ
  pub parts : List Part

-- packets of this sender come from that side
abbrev pub sends : Sender → Origin → Bool
sends Either side = true
sends (Only Client) Client = true
sends (Only Client) Server = false
sends (Only Server) Client = false
sends (Only Server) Server = true

-- a type of packets that all have this length
abbrev pub fixed : ℕ → Origin → ℕ → List Part → PacketType
fixed kind side size parts = record { kind = kind; sender = Only side; size = Some size; parts = parts }

-- a type of packets of any length, with bytes after the type
abbrev pub carrier : ℕ → Sender → PacketType
carrier kind sender = record { kind = kind; sender = sender; size = None; parts = Rest 1 ∷ [] }

-- Debug, +: a text, from either side
abbrev pub debug : PacketType
debug = carrier 43 Either

-- Login Accepted, A: session, next sequence number
abbrev pub login_accepted : PacketType
login_accepted = fixed 65 Server 31 (Field (column 1 10 Text) ∷ Field (column 11 20 Digits) ∷ [])

-- Login Rejected, J: reject code
abbrev pub login_rejected : PacketType
login_rejected = fixed 74 Server 2 (Field (column 1 1 Code) ∷ [])

-- Sequenced Data, S: a message
abbrev pub sequenced_data : PacketType
sequenced_data = carrier 83 (Only Server)

-- Server Heartbeat, H
abbrev pub server_heartbeat : PacketType
server_heartbeat = fixed 72 Server 1 []

-- End of Session, Z
abbrev pub end_of_session : PacketType
end_of_session = fixed 90 Server 1 []

-- Login Request, L: user name, password, requested session, requested sequence number
abbrev pub login_request : PacketType
login_request = fixed 76 Client 47 (Field (column 1 6 Text) ∷ Field (column 7 10 Text) ∷ Field (column 17 10 Text) ∷ Request 27 ∷ [])

-- Unsequenced Data, U: from the client, and also accepted from a server
abbrev pub unsequenced_data : PacketType
unsequenced_data = carrier 85 Either

-- Client Heartbeat, R
abbrev pub client_heartbeat : PacketType
client_heartbeat = fixed 82 Client 1 []

-- Logout Request, O
abbrev pub logout_request : PacketType
logout_request = fixed 79 Client 1 []

-- every packet type
abbrev pub table : List PacketType
table =
    debug ∷ login_accepted ∷ login_rejected ∷ sequenced_data ∷ server_heartbeat ∷ end_of_session
    ∷ login_request ∷ unsequenced_data ∷ client_heartbeat ∷ logout_request ∷ []

-- the first type in a list with this byte
abbrev pub type_in : List PacketType → ℕ → Option PacketType
type_in [] kind = None
type_in (t ∷ ts) kind = if kind == t.kind then Some t else type_in ts kind

-- the packet type with this byte
abbrev pub type_of : ℕ → Option PacketType
type_of kind = type_in table kind
