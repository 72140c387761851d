-- The bytes of a packet, the fault of a block, and the packet of a block (SoupBinTCP 3.00, "Logical Packets").
use Rattle.std.specs.Prelude.{◌≡◌, ℕ, ◌<◌, ◌==◌, IsTrue, MatchBool, List, [], ◌∷◌, ◌++◌, length, drop, Option, None, Some, if◌then◌else◌}
use Rattle.std.specs.List.{list_all}
use Rattle.itch_codec.specs.Numbers.{slice_at, byte_at, dec20, is_space, SpellsNumber, read20}
use Rattle.itch_codec.specs.Layouts.{Class, Text, Digits}
use Rattle.itch_codec.specs.Fields.{Value, Number, Bytes, Has, bytes_at, text_fault, positive_fault, first_of}
use Rattle.itch_soup.specs.declared.origin.Origin.{Origin}
use Rattle.itch_soup.specs.declared.fault.SoupFault.{SoupFault}
use Rattle.itch_soup.specs.declared.fault.SoupFault.TheVariants.{EmptyPacket, UnknownType, WrongSide, WrongLength, BadText, BadNumber}
use Rattle.itch_soup.specs.declared.packet.LoginRequest.{LoginRequest}
use Rattle.itch_soup.specs.declared.packet.LoginAccepted.{LoginAccepted}
use Rattle.itch_soup.specs.declared.packet.Packet.{Packet}
use Rattle.itch_soup.specs.declared.packet.Packet.TheVariants as is
use Rattle.itch_soup.specs.PacketTable.{Part, Field, Request, Rest, PacketType, type_of, sends, debug, login_accepted, login_rejected, sequenced_data, server_heartbeat, end_of_session, login_request, unsequenced_data, client_heartbeat, logout_request}

-- the type of a packet
abbrev pub packet_type : Packet → PacketType
packet_type (is.Debug payload) = debug
packet_type (is.LoginAccepted login) = login_accepted
packet_type (is.LoginRejected code) = login_rejected
packet_type (is.SequencedData payload) = sequenced_data
packet_type is.ServerHeartbeat = server_heartbeat
packet_type is.EndOfSession = end_of_session
packet_type (is.LoginRequest login) = login_request
packet_type (is.UnsequencedData payload) = unsequenced_data
packet_type is.ClientHeartbeat = client_heartbeat
packet_type is.LogoutRequest = logout_request

-- the values of a Login Accepted
abbrev pub login_accepted_values : LoginAccepted → List Value
login_accepted_values login = Bytes login.session ∷ Number login.next ∷ []

-- the values of a Login Request
abbrev pub login_request_values : LoginRequest → List Value
login_request_values login = Bytes login.username ∷ Bytes login.password ∷ Bytes login.session ∷ Number login.number ∷ []

-- the values after the type byte of a packet, in the order of its type
abbrev pub packet_values : Packet → List Value
packet_values (is.Debug payload) = Bytes payload ∷ []
packet_values (is.LoginAccepted login) = login_accepted_values login
packet_values (is.LoginRejected code) = Number code ∷ []
packet_values (is.SequencedData payload) = Bytes payload ∷ []
packet_values (is.LoginRequest login) = login_request_values login
packet_values (is.UnsequencedData payload) = Bytes payload ∷ []
packet_values packet = []

-- the number that a field requests: 0 if the field is blank, otherwise the number in it
abbrev pub Requests : List ℕ → ℕ → Type 0
Requests field number = MatchBool (list_all is_space field) (number ≡ 0) (SpellsNumber field number)

-- the block holds the value in this part
abbrev pub HasPart : List ℕ → Part → Value → Type 0
HasPart block (Field column) value = Has block column value
HasPart block (Request offset) (Number number) = Requests (slice_at offset 20 block) number
HasPart block (Rest offset) (Bytes bytes) = bytes ≡ drop offset block
HasPart block part value = ⊥

-- each part holds its value
abbrev pub HasParts : List ℕ → List Part → List Value → Type 0
HasParts block [] [] = Unit {0}
HasParts block (part ∷ parts) (value ∷ values) = HasPart block part value × HasParts block parts values
HasParts block parts values = ⊥

-- the block has the length of packets of this size
abbrev pub HasSize : Option ℕ → List ℕ → Type 0
HasSize None block = 0 < length block
HasSize (Some size) block = length block ≡ size

-- the block from that side begins with the type byte, has the length of its type, and holds the values
pub record IsPacket (t : PacketType) (values : List Value) (block : List ℕ) (from : Origin) : Type 0 where
  pub first : byte_at 0 block ≡ t.kind
  pub side : IsTrue (sends t.sender from)
  pub size : HasSize t.size block
  pub parts : HasParts block t.parts values

-- the block, from that side, encodes the packet
abbrev pub PacketSpells : Packet → List ℕ → Origin → Type 0
PacketSpells packet block from = IsPacket (packet_type packet) (packet_values packet) block from

-- the bytes of a part
abbrev pub bytes_of_part : Part → Value → List ℕ
bytes_of_part (Field column) value = bytes_at column.class column.width value
bytes_of_part (Request offset) (Number number) = dec20 number
bytes_of_part (Rest offset) (Bytes bytes) = bytes
bytes_of_part part value = []

-- the bytes of the parts, one part after another
abbrev pub joined_parts : List Part → List Value → List ℕ
joined_parts (part ∷ parts) (value ∷ values) = bytes_of_part part value ++ joined_parts parts values
joined_parts parts values = []

-- the bytes that are written for a packet
abbrev pub packet_spelling : Packet → List ℕ
packet_spelling packet = (packet_type packet).kind ∷ joined_parts (packet_type packet).parts (packet_values packet)

-- a missing number is a fault at the offset of its field
abbrev pub number_fault : ℕ → Option ℕ → Option SoupFault
number_fault offset None = Some (BadNumber offset)
number_fault offset (Some number) = None

-- the number that a field requests: 0 if it is blank, otherwise the number in it, if there is one
abbrev pub requested : List ℕ → Option ℕ
requested field = if list_all is_space field then Some 0 else read20 field

-- the fault of a field of this class
abbrev pub class_fault : Class → ℕ → List ℕ → Option SoupFault
class_fault Text offset field = text_fault BadText offset field
class_fault Digits offset field = positive_fault (BadNumber offset) (read20 field)
class_fault class offset field = None

-- the fault of a part
abbrev pub part_fault : List ℕ → Part → Option SoupFault
part_fault block (Field column) = class_fault column.class column.offset (slice_at column.offset column.width block)
part_fault block (Request offset) = number_fault offset (requested (slice_at offset 20 block))
part_fault block (Rest offset) = None

-- the fault of the first part that has one
abbrev pub parts_fault : List ℕ → List Part → Option SoupFault
parts_fault block [] = None
parts_fault block (part ∷ parts) = first_of (part_fault block part) (parts_fault block parts)

-- the fault of a length that differs from the type's length
abbrev pub size_fault : ℕ → Option ℕ → List ℕ → Option SoupFault
size_fault kind None block = None
size_fault kind (Some size) block = if length block == size then None else Some (WrongLength kind size (length block))

-- the fault of a block of this type, or of no type: the wrong side, the length, the parts in order
abbrev pub fault_by_type : Option PacketType → ℕ → List ℕ → Origin → Option SoupFault
fault_by_type None kind block from = Some (UnknownType kind)
fault_by_type (Some t) kind block from =
    if sends t.sender from then first_of (size_fault kind t.size block) (parts_fault block t.parts) else Some (WrongSide kind)

-- the reason why a block from that side is not a valid packet, if it is not: empty, unknown type, wrong side, length, fields by offset
abbrev pub packet_fault : List ℕ → Origin → Option SoupFault
packet_fault [] from = Some EmptyPacket
packet_fault (kind ∷ rest) from = fault_by_type (type_of kind) kind (kind ∷ rest) from
