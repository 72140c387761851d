-- The possible faults of a block.
use Rattle.std.proofs.Common.{ℕ, ◌+◌, ◌==◌, Bool, true, false, List, [], ◌∷◌, length, Option, Some, None}
use Rattle.std.specs.Prelude.{if◌then◌else◌, unwrap_or}
use Rattle.std.specs.Option.{option_map}
use Rattle.itch_codec.specs.Fields.{first_of}
use Rattle.itch_codec.specs.Layouts.{Class, Integer, Price, Text, OneSide, Code, Codes, Digits}
use Rattle.itch_codec.specs.Numbers.{slice_at, read20}
use Rattle.itch_codec.specs.Text.{first_unprintable}
use Rattle.itch_soup.specs.declared.fault.SoupFault.{SoupFault}
use Rattle.itch_soup.specs.declared.fault.SoupFault.TheVariants as broke
use Rattle.itch_soup.specs.declared.origin.Origin.{Origin}
use Rattle.itch_soup.specs.PacketTable.{Part, Field, Request, Rest, PacketType, type_of, sends}
use Rattle.itch_soup.specs.Packets.{packet_fault, number_fault, requested, class_fault, part_fault, parts_fault, size_fault, fault_by_type}

-- the faults of a block
abbrev pub OfBlock : Option SoupFault → Type 0
OfBlock None = Unit {0}
OfBlock (Some broke.EmptyPacket) = Unit {0}
OfBlock (Some (broke.UnknownType kind)) = Unit {0}
OfBlock (Some (broke.WrongSide kind)) = Unit {0}
OfBlock (Some (broke.WrongLength kind want got)) = Unit {0}
OfBlock (Some (broke.BadText offset)) = Unit {0}
OfBlock (Some (broke.BadNumber offset)) = Unit {0}
OfBlock (Some other) = ⊥

of_first : (a b : Option SoupFault) → OfBlock a → OfBlock b → OfBlock (first_of a b)
of_first (Some f) b h k = h
of_first None b h k = k

of_test : (b : Bool) (f : SoupFault) → OfBlock (Some f) → OfBlock (if b then Some f else None)
of_test true f h = h
of_test false f h = tt

of_length : (b : Bool) (f : SoupFault) → OfBlock (Some f) → OfBlock (if b then None else Some f)
of_length true f h = tt
of_length false f h = h

of_text : (offset : ℕ) (o : Option ℕ) → OfBlock (option_map (λ place. broke.BadText (offset + place)) o)
of_text offset None = tt
of_text offset (Some place) = tt

of_number : (offset : ℕ) (o : Option ℕ) → OfBlock (number_fault offset o)
of_number offset None = tt
of_number offset (Some n) = tt

of_class : (class : Class) (offset : ℕ) (field : List ℕ) → OfBlock (class_fault class offset field)
of_class Integer offset field = tt
of_class Price offset field = tt
of_class Text offset field = of_text offset (first_unprintable field)
of_class OneSide offset field = tt
of_class Code offset field = tt
of_class Codes offset field = tt
of_class Digits offset field = of_test (unwrap_or (read20 field) 0 == 0) (broke.BadNumber offset) tt

of_part : (block : List ℕ) (part : Part) → OfBlock (part_fault block part)
of_part block (Field column) = of_class column.class column.offset (slice_at column.offset column.width block)
of_part block (Request offset) = of_number offset (requested (slice_at offset 20 block))
of_part block (Rest offset) = tt

of_parts : (block : List ℕ) (parts : List Part) → OfBlock (parts_fault block parts)
of_parts block [] = tt
of_parts block (part ∷ parts) = of_first (part_fault block part) (parts_fault block parts) (of_part block part) (of_parts block parts)

of_size : (kind : ℕ) (size : Option ℕ) (block : List ℕ) → OfBlock (size_fault kind size block)
of_size kind None block = tt
of_size kind (Some size) block = of_length (length block == size) (broke.WrongLength kind size (length block)) tt

of_side : (b : Bool) (kind : ℕ) (o : Option SoupFault) → OfBlock o → OfBlock (if b then o else Some (broke.WrongSide kind))
of_side true kind o h = h
of_side false kind o h = tt

of_type : (t : Option PacketType) (kind : ℕ) (block : List ℕ) (from : Origin) → OfBlock (fault_by_type t kind block from)
of_type None kind block from = tt
of_type (Some t) kind block from =
    of_side (sends t.sender from) kind (first_of (size_fault kind t.size block) (parts_fault block t.parts))
    (of_first (size_fault kind t.size block) (parts_fault block t.parts) (of_size kind t.size block) (of_parts block t.parts))

pub of_block : (block : List ℕ) (from : Origin) → OfBlock (packet_fault block from)
of_block [] from = tt
of_block (kind ∷ rest) from = of_type (type_of kind) kind (kind ∷ rest) from

-- a property of each of them is a property of every fault of a block
pub of_each : (P : SoupFault → Type 0) → P broke.EmptyPacket → ((kind : ℕ) → P (broke.UnknownType kind)) → ((kind : ℕ) → P (broke.WrongSide kind))
    → ((kind want got : ℕ) → P (broke.WrongLength kind want got)) → ((offset : ℕ) → P (broke.BadText offset)) → ((offset : ℕ) → P (broke.BadNumber offset))
    → (f : SoupFault) → OfBlock (Some f) → P f
of_each P empty unknown side long text number broke.EmptyPacket h = empty
of_each P empty unknown side long text number (broke.UnknownType kind) h = unknown kind
of_each P empty unknown side long text number (broke.WrongSide kind) h = side kind
of_each P empty unknown side long text number (broke.WrongLength kind want got) h = long kind want got
of_each P empty unknown side long text number (broke.BadText offset) h = text offset
of_each P empty unknown side long text number (broke.BadNumber offset) h = number offset
of_each P empty unknown side long text number f h = absurd h
