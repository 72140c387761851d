-- The columns of a layout: the values of their fields, the faults, and the joined bytes.
use Rattle.std.proofs.Common.{◌≡◌, ℕ, zero, suc, ◌+◌, ◌≤◌, ◌||◌, Bool, true, false, cond, eqb, List, [], ◌∷◌, map, Option, None, Some, refl, sym, ap, ◌∙◌, subst, arith}
use Rattle.std.specs.Prelude.{unwrap_or, option_map}
use Rattle.std.proofs.lemmas.Bool.Decides.{nat_tests}
use Rattle.itch_codec.specs.declared.orders.Side.{Side}
use Rattle.itch_codec.specs.declared.orders.Side.TheVariants.{Buy, Sell}
use Rattle.itch_codec.specs.declared.fault.CodecFault.{CodecFault}
use Rattle.itch_codec.specs.declared.fault.CodecFault.TheVariants.{BadText, BadSide, BadNumber}
use Rattle.itch_codec.specs.Text.{IsPrintable}
use Rattle.itch_codec.specs.Numbers.{slice_at, byte_at, SpellsNumber, read20}
use Rattle.itch_codec.specs.Layouts.{Class, Integer, Price, Text, OneSide, Code, Codes, Digits, Column}
use Rattle.itch_codec.specs.Fields.{Value, Number, Bytes, TheSide, HasAt, HasAll, side_byte, side_of, value_by, value_at, text_fault, side_fault, positive_fault, fault_by, field_fault, first_of, first_fault}
use Rattle.itch_codec.proofs.Texts.{printable-none, none-printable}
use Rattle.itch_codec.proofs.Numbers.{read-spells, spells-read}

abbrev side_fault_of : ℕ → Bool → Bool → Option CodecFault
side_fault_of offset buy sell = cond (buy || sell) None (Some (BadSide offset))

-- the byte of a side determines the side, and has no fault
side_there : (byte : ℕ) (side : Side) → byte ≡ side_byte side → side ≡ side_of byte
side_there byte Buy h = rw h refl
side_there byte Sell h = rw h refl

side_fine : (offset : ℕ) (payload : List ℕ) (side : Side) → byte_at offset payload ≡ side_byte side → side_fault offset payload ≡ None
side_fine offset payload Buy h = rw h refl
side_fine offset payload Sell h = rw h refl

side_found : (offset byte : ℕ) (b s : Bool) → eqb byte 66 ≡ b → eqb byte 83 ≡ s → side_fault_of offset b s ≡ None → byte ≡ side_byte (side_of byte)
side_found offset byte true s e f h = rw e (grind (arith, nat_tests))
side_found offset byte false true e f h = rw e (grind (arith, nat_tests))
side_found offset byte false false e f h = absurd (cc)

place_none : {F : Type 0} (bad : ℕ → F) (place : Option ℕ) → option_map bad place ≡ None → place ≡ None
place_none bad None h = refl
place_none bad (Some k) h = absurd (cc)

-- a text without a fault is printable
pub text_printable : {F : Type 0} (bad : ℕ → F) (offset : ℕ) (text : List ℕ) → text_fault bad offset text ≡ None → IsPrintable text
text_printable bad offset text h = none-printable text (place_none _ _ h)

-- a number without a fault exists, and is at least 1
pub positive_some : {F : Type 0} (bad : F) (found : Option ℕ) → positive_fault bad found ≡ None → (n : ℕ) × (found ≡ Some n) × (1 ≤ n)
positive_some bad None h = absurd (cc)
positive_some bad (Some zero) h = absurd (cc)
positive_some bad (Some (suc n)) h = (suc n, refl, omega arith)

number_found : (field : List ℕ) → positive_fault BadNumber (read20 field) ≡ None → SpellsNumber field (unwrap_or (read20 field) 0) × (1 ≤ unwrap_or (read20 field) 0)
number_found field h =
    let (n, read, positive) = positive_some BadNumber (read20 field) h in
    subst (λ found. SpellsNumber field (unwrap_or found 0) × (1 ≤ unwrap_or found 0)) (sym read) (read-spells field n read, positive)

pub positive_none : {F : Type 0} (bad : F) (n : ℕ) → 1 ≤ n → positive_fault bad (Some n) ≡ None
positive_none bad zero h = absurd (omega arith)
positive_none bad (suc n) h = let above : eqb (suc n) 0 ≡ false = grind (arith, nat_tests) in rw above refl

-- a field has one value
has_value : (class : Class) (offset width : ℕ) (payload : List ℕ) (value : Value) → HasAt class offset width payload value
    → value ≡ value_by class offset width payload
has_value Integer offset width payload (Number n) h = ap Number h
has_value Price offset width payload (Number n) h = ap Number h
has_value Text offset width payload (Bytes bytes) h = ap Bytes h.0
has_value OneSide offset width payload (TheSide side) h = ap TheSide (side_there (byte_at offset payload) side h)
has_value Code offset width payload (Number n) h = ap Number h
has_value Codes offset width payload (Bytes bytes) h = ap Bytes h
has_value Digits offset width payload (Number n) h =
    ap Number (sym (ap (λ read. unwrap_or read 0) (spells-read (slice_at offset width payload) n h.0)))
has_value class offset width payload value h = absurd h

-- a field with a value has no fault
has_no_fault : (class : Class) (offset width : ℕ) (payload : List ℕ) (value : Value) → HasAt class offset width payload value
    → fault_by class offset width payload ≡ None
has_no_fault Text offset width payload (Bytes bytes) h =
    ap (option_map (λ k. BadText (offset + k))) (printable-none (slice_at offset width payload) (subst IsPrintable h.0 h.1))
has_no_fault OneSide offset width payload (TheSide side) h = side_fine offset payload side h
has_no_fault Digits offset width payload (Number n) h =
    ap (positive_fault BadNumber) (spells-read (slice_at offset width payload) n h.0) ∙ positive_none BadNumber n h.1
has_no_fault Integer offset width payload value h = refl
has_no_fault Price offset width payload value h = refl
has_no_fault Code offset width payload value h = refl
has_no_fault Codes offset width payload value h = refl
has_no_fault class offset width payload value h = absurd h

-- a field without a fault has a value
no_fault_has : (class : Class) (offset width : ℕ) (payload : List ℕ) → fault_by class offset width payload ≡ None
    → HasAt class offset width payload (value_by class offset width payload)
no_fault_has Integer offset width payload h = refl
no_fault_has Price offset width payload h = refl
no_fault_has Text offset width payload h = (refl, text_printable BadText offset (slice_at offset width payload) h)
no_fault_has OneSide offset width payload h = side_found offset (byte_at offset payload) _ _ refl refl h
no_fault_has Code offset width payload h = refl
no_fault_has Codes offset width payload h = refl
no_fault_has Digits offset width payload h = number_found (slice_at offset width payload) h

-- the same for all fields
pub all_values : (payload : List ℕ) (columns : List Column) (values : List Value) → HasAll payload columns values → values ≡ map (value_at payload) columns
all_values payload [] [] h = refl
all_values payload [] (v ∷ vs) h = absurd h
all_values payload (c ∷ cs) [] h = absurd h
all_values payload (c ∷ cs) (v ∷ vs) h =
    let first = has_value c.class c.offset c.width payload v h.0 in
    let rest = all_values payload cs vs h.1 in λ i. first i ∷ rest i

pub all_none : (payload : List ℕ) (columns : List Column) (values : List Value) → HasAll payload columns values → first_fault payload columns ≡ None
all_none payload [] [] h = refl
all_none payload [] (v ∷ vs) h = absurd h
all_none payload (c ∷ cs) [] h = absurd h
all_none payload (c ∷ cs) (v ∷ vs) h =
    ap (λ fault. first_of fault (first_fault payload cs)) (has_no_fault c.class c.offset c.width payload v h.0)
    ∙ all_none payload cs vs h.1

pub both_none : {F : Type 0} (first later : Option F) → first_of first later ≡ None → (first ≡ None) × (later ≡ None)
both_none None later h = (refl, h)
both_none (Some fault) later h = absurd (cc)

pub none_all : (payload : List ℕ) (columns : List Column) → first_fault payload columns ≡ None → HasAll payload columns (map (value_at payload) columns)
none_all payload [] h = tt
none_all payload (c ∷ cs) h =
    let both = both_none (field_fault payload c) (first_fault payload cs) h in
    (no_fault_has c.class c.offset c.width payload both.0, none_all payload cs both.1)
