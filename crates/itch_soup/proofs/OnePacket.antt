-- A block encodes at most one packet. A block that encodes a packet has no fault, and a block without a fault encodes a packet.
use Rattle.std.proofs.Common.{◌≡◌, ℕ, ◌+◌, Bool, true, false, MatchBool, List, [], ◌∷◌, length, drop, Option, None, Some, Result, Ok, Err, refl, sym, ap, ◌∙◌, arith, rules}
use Rattle.std.specs.Prelude.{◌==◌, if◌then◌else◌, unwrap_or, option_map}
use Rattle.std.specs.List.{list_all}
use Rattle.std.proofs.lemmas.Bool.{eq-eqb}
use Rattle.itch_codec.specs.Text.{first_unprintable}
use Rattle.itch_codec.specs.Numbers.{slice_at, byte_at, is_space, SpellsNumber, read20}
use Rattle.itch_codec.specs.Layouts.{Class, Integer, Price, Text, OneSide, Code, Codes, Digits, column}
use Rattle.itch_codec.specs.Fields.{Value, Number, Bytes, HasAt, positive_fault, Reads}
use Rattle.itch_codec.proofs.Numbers.{spells-read}
use Rattle.itch_codec.proofs.Tables.{positive_none}
use Rattle.itch_codec.proofs.Texts.{printable-none}
use Rattle.itch_soup.specs.declared.origin.Origin.{Origin}
use Rattle.itch_soup.specs.declared.fault.SoupFault.{SoupFault}
use Rattle.itch_soup.specs.declared.fault.SoupFault.TheVariants.{BadText, BadNumber}
use Rattle.itch_soup.specs.declared.packet.LoginRequest.{LoginRequest}
use Rattle.itch_soup.specs.declared.packet.LoginAccepted.{LoginAccepted}
use Rattle.itch_soup.specs.declared.packet.Packet.{Packet}
use Rattle.itch_soup.specs.declared.packet.Packet.TheVariants as is
use Rattle.itch_soup.specs.PacketTable.{Part, Field, Request, Rest, PacketType, type_of, sends}
use Rattle.itch_soup.specs.Packets.{packet_type, packet_values, Requests, HasPart, HasParts, HasSize, IsPacket, PacketSpells, number_fault, requested, class_fault, part_fault, parts_fault, size_fault, fault_by_type, packet_fault}

-- the number in a field that holds or requests one
abbrev pub spelled_number : List ℕ → ℕ
spelled_number field = unwrap_or (read20 field) 0

abbrev pub requested_number : List ℕ → ℕ
requested_number field = unwrap_or (requested field) 0

abbrev pub login_accepted_at : List ℕ → LoginAccepted
login_accepted_at block = record { session = slice_at 1 10 block; next = spelled_number (slice_at 11 20 block) }

abbrev pub login_request_at : List ℕ → LoginRequest
login_request_at block = record {
  username = slice_at 1 6 block;
  password = slice_at 7 10 block;
  session = slice_at 17 10 block;
  number = requested_number (slice_at 27 20 block);
}

-- the packet with this type byte in the block
abbrev pub packet_at : ℕ → List ℕ → Packet
packet_at kind block =
    if kind == 43 then is.Debug (drop 1 block) else (
    if kind == 65 then is.LoginAccepted (login_accepted_at block) else (
    if kind == 74 then is.LoginRejected (byte_at 1 block) else (
    if kind == 83 then is.SequencedData (drop 1 block) else (
    if kind == 72 then is.ServerHeartbeat else (
    if kind == 90 then is.EndOfSession else (
    if kind == 76 then is.LoginRequest (login_request_at block) else (
    if kind == 85 then is.UnsequencedData (drop 1 block) else (
    if kind == 82 then is.ClientHeartbeat else is.LogoutRequest))))))))

number_spelled : (field : List ℕ) (n : ℕ) → SpellsNumber field n → n ≡ spelled_number field
number_spelled field n h = sym (ap (λ found. unwrap_or found 0) (spells-read field n h))

requested_by : (field : List ℕ) (n : ℕ) (b : Bool) → list_all is_space field ≡ b → MatchBool b (n ≡ 0) (SpellsNumber field n) → requested field ≡ Some n
requested_by field n true e h = rw e (ap Some (sym h))
requested_by field n false e h = rw e (spells-read field n h)

-- a field requests the number that is read from it
requests-requested : (field : List ℕ) (n : ℕ) → Requests field n → requested field ≡ Some n
requests-requested field n h = requested_by field n _ refl h

number_requested : (field : List ℕ) (n : ℕ) → Requests field n → n ≡ requested_number field
number_requested field n h = sym (ap (λ found. unwrap_or found 0) (requests-requested field n h))

-- a packet is the one read from each block that encodes it
pub packet_at-spelled : (packet : Packet) (block : List ℕ) (from : Origin) → PacketSpells packet block from → packet ≡ packet_at (byte_at 0 block) block
packet_at-spelled (is.Debug payload) block from h = rw h.first (ap is.Debug h.parts.0)
packet_at-spelled (is.LoginAccepted login) block from h =
    let next = number_spelled (slice_at 11 20 block) login.next h.parts.1.0.0 in
    rw h.first (λ i. is.LoginAccepted (record { session = h.parts.0.0 i; next = next i }))
packet_at-spelled (is.LoginRejected code) block from h = rw h.first (ap is.LoginRejected h.parts.0)
packet_at-spelled (is.SequencedData payload) block from h = rw h.first (ap is.SequencedData h.parts.0)
packet_at-spelled is.ServerHeartbeat block from h = rw h.first refl
packet_at-spelled is.EndOfSession block from h = rw h.first refl
packet_at-spelled (is.LoginRequest login) block from h =
    let number = number_requested (slice_at 27 20 block) login.number h.parts.1.1.1.0 in
    rw h.first (λ i. is.LoginRequest (record {
      username = h.parts.0.0 i;
      password = h.parts.1.0.0 i;
      session = h.parts.1.1.0.0 i;
      number = number i;
    }))
packet_at-spelled (is.UnsequencedData payload) block from h = rw h.first (ap is.UnsequencedData h.parts.0)
packet_at-spelled is.ClientHeartbeat block from h = rw h.first refl
packet_at-spelled is.LogoutRequest block from h = rw h.first refl

-- a block encodes at most one packet, from either side
pub same_packet : (p q : Packet) (block : List ℕ) (from other : Origin) → PacketSpells p block from → PacketSpells q block other → p ≡ q
same_packet p q block from other h k = packet_at-spelled p block from h ∙ sym (packet_at-spelled q block other k)

class_none : (class : Class) (offset width : ℕ) (block : List ℕ) (value : Value) → HasAt class offset width block value
    → class_fault class offset (slice_at offset width block) ≡ None
class_none Integer offset width block value h = refl
class_none Price offset width block value h = refl
class_none Text offset width block (Bytes bytes) h =
    ap (λ found. option_map (λ place. BadText (offset + place)) found) (ap first_unprintable (sym h.0) ∙ printable-none bytes h.1)
class_none Text offset width block value h = absurd h
class_none OneSide offset width block value h = refl
class_none Code offset width block value h = refl
class_none Codes offset width block value h = refl
class_none Digits offset width block (Number n) h =
    ap (positive_fault (BadNumber offset)) (spells-read _ n h.0) ∙ positive_none (BadNumber offset) n h.1
class_none Digits offset width block value h = absurd h

part_none : (block : List ℕ) (part : Part) (value : Value) → HasPart block part value → part_fault block part ≡ None
part_none block (Field column) value h = class_none column.class column.offset column.width block value h
part_none block (Request offset) (Number n) h = ap (λ found. number_fault offset found) (requests-requested (slice_at offset 20 block) n h)
part_none block (Request offset) value h = absurd h
part_none block (Rest offset) value h = refl

parts_none : (block : List ℕ) (parts : List Part) (values : List Value) → HasParts block parts values → parts_fault block parts ≡ None
parts_none block [] values h = refl
parts_none block (part ∷ parts) [] h = absurd h
parts_none block (part ∷ parts) (value ∷ values) h = rw (part_none block part value h.0) (parts_none block parts values h.1)

size_none : (kind : ℕ) (size : Option ℕ) (block : List ℕ) → HasSize size block → size_fault kind size block ≡ None
size_none kind None block h = refl
size_none kind (Some size) block h = rw (eq-eqb (length block) size h) refl

typed_none : (t : PacketType) (kind : ℕ) (values : List Value) (block : List ℕ) (from : Origin) → IsPacket t values block from
    → fault_by_type (Some t) kind block from ≡ None
typed_none t kind values block from h =
    let side : sends t.sender from ≡ true = search rules in
    rw (side, size_none kind t.size block h.size) (parts_none block t.parts values h.parts)

type_of-kind : (packet : Packet) → type_of (packet_type packet).kind ≡ Some (packet_type packet)
type_of-kind (is.Debug payload) = refl
type_of-kind packet = refl

not_empty : (packet : Packet) → HasSize (packet_type packet).size [] → ⊥
not_empty (is.Debug payload) h = omega (arith, h)
not_empty packet h = omega (arith, h)

-- a block that encodes a packet has no fault
pub spelled-none : (packet : Packet) (block : List ℕ) (from : Origin) → PacketSpells packet block from → packet_fault block from ≡ None
spelled-none packet [] from h = absurd (not_empty packet h.size)
spelled-none packet (kind ∷ rest) from h =
    ap (λ t. fault_by_type t kind (kind ∷ rest) from) (ap type_of h.first ∙ type_of-kind packet)
    ∙ typed_none (packet_type packet) kind (packet_values packet) (kind ∷ rest) from h

-- so a function that reads packets returns the packet of a block
pub only_read : (answer : Result Packet SoupFault) (block : List ℕ) (from : Origin)
    → Reads (λ packet. PacketSpells packet block from) (packet_fault block from) answer
    → (packet : Packet) → PacketSpells packet block from → answer ≡ Ok packet
only_read (Ok found) block from h packet spelled = ap Ok (same_packet found packet block from from h.0 spelled)
only_read (Err fault) block from h packet spelled = absurd (let none = spelled-none packet block from spelled in cc)
