-- A block without a fault encodes a packet.
use Rattle.std.proofs.Common.{◌≡◌, ℕ, Bool, true, false, cond, eqb, MatchBool, List, [], ◌∷◌, length, Option, None, Some, refl, arith}
use Rattle.std.specs.List.{list_all}
use Rattle.std.proofs.lemmas.Bool.{eqb-true}
use Rattle.itch_codec.specs.Numbers.{slice_at, byte_at, is_space, SpellsNumber, read20}
use Rattle.itch_codec.proofs.Numbers.{read-spells}
use Rattle.itch_codec.proofs.Tables.{text_printable, positive_some, both_none}
use Rattle.itch_soup.specs.declared.origin.Origin.{Origin}
use Rattle.itch_soup.specs.declared.fault.SoupFault.{SoupFault}
use Rattle.itch_soup.specs.declared.fault.SoupFault.TheVariants.{WrongSide, BadText, BadNumber}
use Rattle.itch_soup.specs.declared.packet.Packet.{Packet}
use Rattle.itch_soup.specs.declared.packet.Packet.TheVariants as is
use Rattle.itch_soup.specs.PacketTable.{PacketType, sends}
use Rattle.itch_soup.specs.Packets.{packet_type, packet_values, Requests, HasParts, HasSize, PacketSpells, number_fault, requested, parts_fault, size_fault, fault_by_type, packet_fault}

abbrev pub IsSpelled : List ℕ → Origin → Type 0
IsSpelled block from = (packet : Packet) × PacketSpells packet block from

side_none : (b : Bool) (kind : ℕ) (found : Option SoupFault) → cond b found (Some (WrongSide kind)) ≡ None → (b ≡ true) × (found ≡ None)
side_none true kind found h = (refl, h)
side_none false kind found h = absurd (cc)

long_none : (kind size : ℕ) (block : List ℕ) (b : Bool) → eqb (length block) size ≡ b → size_fault kind (Some size) block ≡ None → b ≡ true
long_none kind size block true e h = refl
long_none kind size block false e h = absurd (let k = rw e at h in cc)

size_has : (kind : ℕ) (size : Option ℕ) (byte : ℕ) (rest : List ℕ) → size_fault kind size (byte ∷ rest) ≡ None → HasSize size (byte ∷ rest)
size_has kind None byte rest h = omega arith
size_has kind (Some size) byte rest h = eqb-true _ size (long_none kind size (byte ∷ rest) _ refl h)

-- a block without a fault and with the type of a packet encodes the packet if its parts hold the packet's values
spelled_by : (packet : Packet) (kind : ℕ) (rest : List ℕ) (from : Origin) → kind ≡ (packet_type packet).kind
    → fault_by_type (Some (packet_type packet)) kind (kind ∷ rest) from ≡ None
    → (parts_fault (kind ∷ rest) (packet_type packet).parts ≡ None → HasParts (kind ∷ rest) (packet_type packet).parts (packet_values packet))
    → PacketSpells packet (kind ∷ rest) from
spelled_by packet kind rest from same h holds =
    let t = packet_type packet in
    let side = side_none (sends t.sender from) kind _ h in
    let parts = both_none (size_fault kind t.size (kind ∷ rest)) _ side.1 in
    record { first = same; side = side.0; size = size_has kind t.size kind rest parts.0; parts = holds parts.1 }

number_some : (offset : ℕ) (found : Option ℕ) → number_fault offset found ≡ None → (n : ℕ) × (found ≡ Some n)
number_some offset None h = absurd (cc)
number_some offset (Some n) h = (n, refl)

requests_by : (field : List ℕ) (n : ℕ) (b : Bool) → list_all is_space field ≡ b → requested field ≡ Some n → MatchBool b (n ≡ 0) (SpellsNumber field n)
requests_by field n true e h = let k = rw e at h in cc
requests_by field n false e h = read-spells field n (rw e at h)

-- the number read from a field is the number that it requests
requested-requests : (field : List ℕ) (n : ℕ) → requested field ≡ Some n → Requests field n
requested-requests field n h = requests_by field n _ refl h

accepted_spelled : (kind : ℕ) (rest : List ℕ) (from : Origin) → kind ≡ 65
    → fault_by_type (Some (packet_type (is.LoginAccepted (record { session = []; next = 0 })))) kind (kind ∷ rest) from ≡ None → IsSpelled (kind ∷ rest) from
accepted_spelled kind rest from same h =
    let block = kind ∷ rest in
    let session = slice_at 1 10 block in
    let side = side_none _ kind _ h in
    let parts = both_none _ _ (both_none _ _ side.1).1 in
    let number = positive_some (BadNumber 11) (read20 (slice_at 11 20 block)) (both_none _ _ parts.1).0 in
    let packet = is.LoginAccepted (record { session = session; next = number.0 }) in (
      packet,
      spelled_by packet kind rest from same h (λ _.
          ((refl, text_printable BadText 1 session parts.0), ((read-spells _ number.0 number.1, number.2), tt))),
    )

request_spelled : (kind : ℕ) (rest : List ℕ) (from : Origin) → kind ≡ 76
    → fault_by_type (Some (packet_type (is.LoginRequest (record { username = []; password = []; session = []; number = 0 })))) kind (kind ∷ rest) from ≡ None
    → IsSpelled (kind ∷ rest) from
request_spelled kind rest from same h =
    let block = kind ∷ rest in
    let username = slice_at 1 6 block in
    let password = slice_at 7 10 block in
    let session = slice_at 17 10 block in
    let side = side_none _ kind _ h in
    let named = both_none _ _ (both_none _ _ side.1).1 in
    let passed = both_none _ _ named.1 in
    let asked = both_none _ _ passed.1 in
    let number = number_some 27 (requested (slice_at 27 20 block)) (both_none _ _ asked.1).0 in
    let packet = is.LoginRequest (record { username = username; password = password; session = session; number = number.0 }) in (
      packet,
      spelled_by packet kind rest from same h (λ _. (
        (refl, text_printable BadText 1 username named.0),
        (
          (refl, text_printable BadText 7 password passed.0),
          ((refl, text_printable BadText 17 session asked.0), (requested-requests (slice_at 27 20 block) number.0 number.1, tt)),
        ),
      )),
    )

-- the block is of this type, or of one of the later ones
by_type : (t : PacketType) (others : Option PacketType) (kind : ℕ) (rest : List ℕ) (from : Origin)
    → (kind ≡ t.kind → fault_by_type (Some t) kind (kind ∷ rest) from ≡ None → IsSpelled (kind ∷ rest) from)
    → (fault_by_type others kind (kind ∷ rest) from ≡ None → IsSpelled (kind ∷ rest) from)
    → (b : Bool) → eqb kind t.kind ≡ b → fault_by_type (cond b (Some t) others) kind (kind ∷ rest) from ≡ None → IsSpelled (kind ∷ rest) from
by_type t others kind rest from found later true e h = found (eqb-true kind t.kind e) h
by_type t others kind rest from found later false e h = later h

-- a packet without fields, or with all bytes after the type
plain : (packet : Packet) (kind : ℕ) (rest : List ℕ) (from : Origin) → HasParts (kind ∷ rest) (packet_type packet).parts (packet_values packet)
    → kind ≡ (packet_type packet).kind → fault_by_type (Some (packet_type packet)) kind (kind ∷ rest) from ≡ None → IsSpelled (kind ∷ rest) from
plain packet kind rest from holds same h = (packet, spelled_by packet kind rest from same h (λ _. holds))

pub faultless-spelled : (block : List ℕ) (from : Origin) → packet_fault block from ≡ None → IsSpelled block from
faultless-spelled [] from h = absurd (cc)
faultless-spelled (kind ∷ rest) from h =
    by_type _ _ kind rest from (plain (is.Debug rest) kind rest from (refl, tt)) (λ h1.
    by_type _ _ kind rest from (accepted_spelled kind rest from) (λ h2.
    by_type _ _ kind rest from (plain (is.LoginRejected (byte_at 1 (kind ∷ rest))) kind rest from (refl, tt)) (λ h3.
    by_type _ _ kind rest from (plain (is.SequencedData rest) kind rest from (refl, tt)) (λ h4.
    by_type _ _ kind rest from (plain is.ServerHeartbeat kind rest from tt) (λ h5.
    by_type _ _ kind rest from (plain is.EndOfSession kind rest from tt) (λ h6.
    by_type _ _ kind rest from (request_spelled kind rest from) (λ h7.
    by_type _ _ kind rest from (plain (is.UnsequencedData rest) kind rest from (refl, tt)) (λ h8.
    by_type _ _ kind rest from (plain is.ClientHeartbeat kind rest from tt) (λ h9.
    by_type _ _ kind rest from (plain is.LogoutRequest kind rest from tt) (λ h10. absurd (cc))
    _ refl h9) _ refl h8) _ refl h7) _ refl h6) _ refl h5) _ refl h4) _ refl h3) _ refl h2) _ refl h1) _ refl h
