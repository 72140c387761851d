-- The encoding of messages: each message has an encoding, and a payload encodes at most one message.
use Rattle.std.proofs.Common.{◌≡◌, ℕ, ◌<◌, ◌==◌, Bool, true, false, cond, List, [], ◌∷◌, length, map, Option, None, Some, Result, Ok, Err, refl, sym, ap, ◌∙◌, subst, arith}
use Rattle.std.specs.Prelude.{IfOk}
use Rattle.std.specs.List.{AllByRecursion}
use Rattle.std.proofs.lemmas.Bool.Decides.{nat_tests}
use Rattle.itch_codec.specs.declared.fault.CodecFault.{CodecFault}
use Rattle.itch_codec.specs.declared.message.Message.{Message}
use Rattle.itch_codec.specs.declared.message.Message.TheVariants as is
use Rattle.itch_codec.specs.Layouts.{Layout, table, layout_in, layout_of, IsUndecoded, end_of_snapshot, system_event, stock_directory, trading_action, reg_sho, operational_halt, participant_position, add_order, attributed_add_order, order_executed, order_executed_with_price, order_cancel, order_delete, order_replace, trade, cross_trade, broken_trade}
use Rattle.itch_codec.specs.Fields.{AreBytes, Value, value_at, first_fault, Reads}
use Rattle.itch_codec.specs.Widths.{IsMessage, IsOther}
use Rattle.itch_codec.specs.Messages.{Shape, Fields, Payload, shape, IsLaid, HasShape, Spells, bytes_of_shape, spelling, IsEnd, IsWhole, IsKeptWhole, laid_fault, fault_by_layout, fault, made, message_by_layout, message_of}
use Rattle.itch_codec.proofs.Tables.{all_values, all_none, none_all}
use Rattle.itch_codec.proofs.Joined.{FitAll, is_gapless, gapless_le, has_no_digits, joined_has, joined_len, has_joined, all_fit}

-- the values of a payload's fields
abbrev values_at : Layout → List ℕ → List Value
values_at layout payload = map (value_at payload) layout.columns

-- a row of the table: its type is unique, its fields fill the message, and a message with these values has this layout
pub record IsRow (layout : Layout) : Type 0 where
  pub known : layout_of layout.kind ≡ Some layout
  pub gapless : is_gapless 1 layout.size layout.columns ≡ true
  pub short : layout.size < 65535
  pub makes : (payload : List ℕ) → shape (made layout.kind (values_at layout payload)) ≡ Fields layout (values_at layout payload)

system_event_row : IsRow system_event
system_event_row = record { known = refl; gapless = refl; short = omega arith; makes = λ payload. refl }

stock_directory_row : IsRow stock_directory
stock_directory_row = record { known = refl; gapless = refl; short = omega arith; makes = λ payload. refl }

trading_action_row : IsRow trading_action
trading_action_row = record { known = refl; gapless = refl; short = omega arith; makes = λ payload. refl }

reg_sho_row : IsRow reg_sho
reg_sho_row = record { known = refl; gapless = refl; short = omega arith; makes = λ payload. refl }

operational_halt_row : IsRow operational_halt
operational_halt_row = record { known = refl; gapless = refl; short = omega arith; makes = λ payload. refl }

participant_position_row : IsRow participant_position
participant_position_row = record { known = refl; gapless = refl; short = omega arith; makes = λ payload. refl }

add_order_row : IsRow add_order
add_order_row = record { known = refl; gapless = refl; short = omega arith; makes = λ payload. refl }

attributed_add_order_row : IsRow attributed_add_order
attributed_add_order_row = record { known = refl; gapless = refl; short = omega arith; makes = λ payload. refl }

order_executed_row : IsRow order_executed
order_executed_row = record { known = refl; gapless = refl; short = omega arith; makes = λ payload. refl }

order_executed_with_price_row : IsRow order_executed_with_price
order_executed_with_price_row = record { known = refl; gapless = refl; short = omega arith; makes = λ payload. refl }

order_cancel_row : IsRow order_cancel
order_cancel_row = record { known = refl; gapless = refl; short = omega arith; makes = λ payload. refl }

order_delete_row : IsRow order_delete
order_delete_row = record { known = refl; gapless = refl; short = omega arith; makes = λ payload. refl }

order_replace_row : IsRow order_replace
order_replace_row = record { known = refl; gapless = refl; short = omega arith; makes = λ payload. refl }

trade_row : IsRow trade
trade_row = record { known = refl; gapless = refl; short = omega arith; makes = λ payload. refl }

cross_trade_row : IsRow cross_trade
cross_trade_row = record { known = refl; gapless = refl; short = omega arith; makes = λ payload. refl }

broken_trade_row : IsRow broken_trade
broken_trade_row = record { known = refl; gapless = refl; short = omega arith; makes = λ payload. refl }

end_of_snapshot_row : IsRow end_of_snapshot
end_of_snapshot_row = record { known = refl; gapless = refl; short = omega arith; makes = λ payload. refl }

rows : AllByRecursion IsRow table
rows = (system_event_row, (stock_directory_row, (trading_action_row, (reg_sho_row, (operational_halt_row, (participant_position_row, (add_order_row, (attributed_add_order_row, (order_executed_row, (order_executed_with_price_row, (order_cancel_row, (order_delete_row, (order_replace_row, (trade_row, (cross_trade_row, (broken_trade_row, (end_of_snapshot_row, tt)))))))))))))))))

-- a layout found in the table is a row, with the requested type
row_in : (layouts : List Layout) (kind : ℕ) (layout : Layout) → AllByRecursion IsRow layouts → layout_in layouts kind ≡ Some layout
    → IsRow layout × (layout.kind ≡ kind)
row_in [] kind layout each h = absurd (cc)
row_in (l ∷ ls) kind layout each h = row_at l ls kind layout each _ refl h (row_in ls kind layout each.1)
  where
    row_at : (l : Layout) (ls : List Layout) (kind : ℕ) (layout : Layout) → AllByRecursion IsRow (l ∷ ls) → (b : Bool) → (kind == l.kind) ≡ b
        → cond (kind == l.kind) (Some l) (layout_in ls kind) ≡ Some layout → (layout_in ls kind ≡ Some layout → IsRow layout × (layout.kind ≡ kind))
        → IsRow layout × (layout.kind ≡ kind)
    row_at l ls kind layout each true e h rest =
        let found = rw e at h in
        let one : l ≡ layout = cc in
        let kinds : kind ≡ l.kind = grind (arith, nat_tests) in
        (subst IsRow one each.0, sym (kinds ∙ ap (λ x. x.kind) one))
    row_at l ls kind layout each false e h rest = rest (rw e at h)

row_of : (kind : ℕ) (layout : Layout) → layout_of kind ≡ Some layout → IsRow layout × (layout.kind ≡ kind)
row_of kind layout h = row_in table kind layout rows h

-- the shape of a message is a row of the table, and its values give the message again; or the message is an undecoded payload
abbrev Makes : Shape → Message → Type 0
Makes (Fields layout values) m = IsRow layout × (made layout.kind values ≡ m)
Makes (Payload bytes) m = is.Other bytes ≡ m

makes : (m : Message) → Makes (shape m) m
makes (is.SystemEvent m) = (system_event_row, refl)
makes (is.StockDirectory m) = (stock_directory_row, refl)
makes (is.TradingAction m) = (trading_action_row, refl)
makes (is.RegSho m) = (reg_sho_row, refl)
makes (is.Halt m) = (operational_halt_row, refl)
makes (is.Position m) = (participant_position_row, refl)
makes (is.AddOrder m) = (add_order_row, refl)
makes (is.AttributedAddOrder m) = (attributed_add_order_row, refl)
makes (is.OrderExecuted m) = (order_executed_row, refl)
makes (is.OrderExecutedWithPrice m) = (order_executed_with_price_row, refl)
makes (is.OrderCancel m) = (order_cancel_row, refl)
makes (is.OrderDelete m) = (order_delete_row, refl)
makes (is.OrderReplace m) = (order_replace_row, refl)
makes (is.Trade m) = (trade_row, refl)
makes (is.CrossTrade m) = (cross_trade_row, refl)
makes (is.BrokenTrade m) = (broken_trade_row, refl)
makes (is.End next) = (end_of_snapshot_row, refl)
makes (is.Other bytes) = refl

-- the message with the values of the payload's fields
laid_message : (layout : Layout) (values : List Value) (payload : List ℕ) → IsRow layout → IsLaid layout values payload
    → made layout.kind values ≡ message_of payload
unfolding message_of
laid_message layout values payload row h =
    ap (made layout.kind) (all_values payload layout.columns values h.fields)
    ∙ ap (λ found. message_by_layout found payload) (sym (ap layout_of h.first ∙ row.known))

kept_message : (payload : List ℕ) → IsUndecoded payload → is.Other payload ≡ message_of payload
unfolding message_of
kept_message [] h = absurd h
kept_message (kind ∷ rest) h = ap (λ found. message_by_layout found (kind ∷ rest)) (sym h)

shape_message : (s : Shape) (m : Message) (payload : List ℕ) → Makes s m → HasShape s payload → m ≡ message_of payload
shape_message (Fields layout values) m payload from h = sym from.1 ∙ laid_message layout values payload from.0 h
shape_message (Payload bytes) m payload from h = sym from ∙ ap is.Other (sym h.whole) ∙ kept_message payload h.undecoded

-- a payload encodes only the message that is read from it
pub message_of-Spells : (m : Message) (payload : List ℕ) → Spells m payload → m ≡ message_of payload
message_of-Spells m payload h = shape_message (shape m) m payload (makes m) h

pub same_message : (m n : Message) (payload : List ℕ) → Spells m payload → Spells n payload → m ≡ n
same_message m n payload h k = message_of-Spells m payload h ∙ sym (message_of-Spells n payload k)

-- the payload of a message has no fault
laid_fine : (layout : Layout) (payload : List ℕ) → length payload ≡ layout.size → first_fault payload layout.columns ≡ None → laid_fault layout payload ≡ None
laid_fine layout payload size none = let test : (length payload == layout.size) ≡ true = grind (arith, nat_tests) in rw test none

gapless_pos : (layout : Layout) → IsRow layout → 0 < layout.size
gapless_pos layout row = let le = gapless_le 1 layout.size layout.columns row.gapless in omega arith

shape_fault : (s : Shape) (m : Message) (payload : List ℕ) → Makes s m → HasShape s payload → fault payload ≡ None
shape_fault (Fields layout values) m [] from h = let pos = gapless_pos layout from.0 in absurd (omega (arith, h.size))
shape_fault (Fields layout values) m (kind ∷ rest) from h =
    ap (λ found. fault_by_layout found (kind ∷ rest)) (ap layout_of h.first ∙ from.0.known)
    ∙ laid_fine layout (kind ∷ rest) h.size (all_none (kind ∷ rest) layout.columns values h.fields)
shape_fault (Payload bytes) m [] from h = absurd h.undecoded
shape_fault (Payload bytes) m (kind ∷ rest) from h = ap (λ found. fault_by_layout found (kind ∷ rest)) h.undecoded

pub fault-Spells : (m : Message) (payload : List ℕ) → Spells m payload → fault payload ≡ None
fault-Spells m payload h = shape_fault (shape m) m payload (makes m) h

-- a payload without a fault is the payload of a message
laid_sized : (layout : Layout) (payload : List ℕ) (b : Bool) → (length payload == layout.size) ≡ b → laid_fault layout payload ≡ None
    → (length payload ≡ layout.size) × (first_fault payload layout.columns ≡ None)
laid_sized layout payload true e h = let size : length payload ≡ layout.size = grind (arith, nat_tests) in (size, rw e at h)
laid_sized layout payload false e h = absurd (let found = rw e at h in cc)

found_spells : (kind : ℕ) (rest : List ℕ) (found : Option Layout) → layout_of kind ≡ found → fault_by_layout found (kind ∷ rest) ≡ None
    → Spells (message_by_layout found (kind ∷ rest)) (kind ∷ rest)
found_spells kind rest None e h = record { whole = refl; undecoded = e }
found_spells kind rest (Some layout) e h =
    let row = row_of kind layout e in
    let fine = laid_sized layout (kind ∷ rest) _ refl h in
    let laid : IsLaid layout (values_at layout (kind ∷ rest)) (kind ∷ rest) =
    record { first = sym row.1; size = fine.0; fields = none_all (kind ∷ rest) layout.columns fine.1 } in
    subst (λ s. HasShape s (kind ∷ rest)) (sym (row.0.makes (kind ∷ rest))) laid

pub Spells-message_of : (payload : List ℕ) → fault payload ≡ None → Spells (message_of payload) payload
unfolding message_of
Spells-message_of [] h = absurd (cc)
Spells-message_of (kind ∷ rest) h = found_spells kind rest (layout_of kind) refl h

-- the fields of a message fit their columns, and conversely
abbrev ShapeFits : Shape → Type 0
ShapeFits (Fields layout values) = FitAll layout.columns values
ShapeFits (Payload bytes) = IsOther bytes

fits : (m : Message) → IsMessage m → ShapeFits (shape m)
fits (is.SystemEvent m) h = assumption h
fits (is.StockDirectory m) h = assumption h
fits (is.TradingAction m) h = assumption h
fits (is.RegSho m) h = assumption h
fits (is.Halt m) h = assumption h
fits (is.Position m) h = assumption h
fits (is.AddOrder m) h = assumption h
fits (is.AttributedAddOrder m) h = assumption h
fits (is.OrderExecuted m) h = assumption h
fits (is.OrderExecutedWithPrice m) h = assumption h
fits (is.OrderCancel m) h = assumption h
fits (is.OrderDelete m) h = assumption h
fits (is.OrderReplace m) h = assumption h
fits (is.Trade m) h = assumption h
fits (is.CrossTrade m) h = assumption h
fits (is.BrokenTrade m) h = assumption h
fits (is.End next) h = assumption h
fits (is.Other bytes) h = h

fitting : (m : Message) → ShapeFits (shape m) → IsMessage m
fitting (is.SystemEvent m) h = assumption h
fitting (is.StockDirectory m) h = assumption h
fitting (is.TradingAction m) h = assumption h
fitting (is.RegSho m) h = assumption h
fitting (is.Halt m) h = assumption h
fitting (is.Position m) h = assumption h
fitting (is.AddOrder m) h = assumption h
fitting (is.AttributedAddOrder m) h = assumption h
fitting (is.OrderExecuted m) h = assumption h
fitting (is.OrderExecutedWithPrice m) h = assumption h
fitting (is.OrderCancel m) h = assumption h
fitting (is.OrderDelete m) h = assumption h
fitting (is.OrderReplace m) h = assumption h
fitting (is.Trade m) h = assumption h
fitting (is.CrossTrade m) h = assumption h
fitting (is.BrokenTrade m) h = assumption h
fitting (is.End next) h = assumption h
fitting (is.Other bytes) h = h

-- the bytes of a message encode it
shape_spelled : (s : Shape) (m : Message) → Makes s m → ShapeFits s → HasShape s (bytes_of_shape s)
shape_spelled (Fields layout values) m from h = record {
  first = refl;
  size = let len = joined_len 1 layout.size layout.columns values from.0.gapless h in omega arith;
  fields = joined_has 1 layout.size layout.columns values (layout.kind ∷ []) _ from.0.gapless h refl refl;
}
shape_spelled (Payload bytes) m from h = record { whole = refl; undecoded = h.undecoded }

pub Spells-spelling : (m : Message) → IsMessage m → Spells m (spelling m)
unfolding spelling
Spells-spelling m h = shape_spelled (shape m) m (makes m) (fits m h)

-- the bytes of a message are short, unless it is undecoded
abbrev ShortShape : Shape → Type 0
ShortShape (Fields layout values) = length (bytes_of_shape (Fields layout values)) < 65535
ShortShape (Payload bytes) = Unit {0}

shape_short : (s : Shape) (m : Message) → Makes s m → ShapeFits s → ShortShape s
shape_short (Fields layout values) m from h =
    let len = joined_len 1 layout.size layout.columns values from.0.gapless h in
    let short = from.0.short in omega arith
shape_short (Payload bytes) m from h = tt

kept_some : (bytes : List ℕ) → IsUndecoded bytes → 0 < length bytes
kept_some [] h = absurd h
kept_some (byte ∷ bytes) h = omega arith

shape_some : (s : Shape) (m : Message) → Makes s m → ShapeFits s → 0 < length (bytes_of_shape s)
shape_some (Fields layout values) m from h = omega arith
shape_some (Payload bytes) m from h = kept_some bytes h.undecoded

not_kept : (s : Shape) → (IsWhole s → ⊥) → ShortShape s → length (bytes_of_shape s) < 65535
not_kept (Fields layout values) n h = h
not_kept (Payload bytes) n h = absurd (n tt)

-- the bytes of a message are not empty
pub spelling_some : (m : Message) → IsMessage m → 0 < length (spelling m)
unfolding spelling
spelling_some m h = shape_some (shape m) m (makes m) (fits m h)

-- the bytes of a decoded message are fewer than a block can hold
pub spelling_small : (m : Message) → IsMessage m → (IsKeptWhole m → ⊥) → length (spelling m) < 65535
unfolding spelling
spelling_small m h n = not_kept (shape m) n (shape_short (shape m) m (makes m) (fits m h))

pub spelling_short : (m : Message) → IsMessage m → (IsKeptWhole m → ⊥) → length (spelling m) < 65536
spelling_short m h n = let small = spelling_small m h n in omega arith

-- the bytes of a decoded message fit into a block
pub spelling_size : (m : Message) → IsMessage m → (IsKeptWhole m → ⊥) → (0 < length (spelling m)) × (length (spelling m) < 65536)
spelling_size m h n = (spelling_some m h, spelling_short m h n)

-- each message except End of Snapshot has one encoding
abbrev HasOneSpelling : Shape → Type 0
HasOneSpelling (Fields layout values) = has_no_digits layout.columns ≡ true
HasOneSpelling (Payload bytes) = Unit {0}

one_spelling : (m : Message) → (IsEnd m → ⊥) → HasOneSpelling (shape m)
one_spelling (is.SystemEvent m) h = refl
one_spelling (is.StockDirectory m) h = refl
one_spelling (is.TradingAction m) h = refl
one_spelling (is.RegSho m) h = refl
one_spelling (is.Halt m) h = refl
one_spelling (is.Position m) h = refl
one_spelling (is.AddOrder m) h = refl
one_spelling (is.AttributedAddOrder m) h = refl
one_spelling (is.OrderExecuted m) h = refl
one_spelling (is.OrderExecutedWithPrice m) h = refl
one_spelling (is.OrderCancel m) h = refl
one_spelling (is.OrderDelete m) h = refl
one_spelling (is.OrderReplace m) h = refl
one_spelling (is.Trade m) h = refl
one_spelling (is.CrossTrade m) h = refl
one_spelling (is.BrokenTrade m) h = refl
one_spelling (is.End next) h = absurd (h tt)
one_spelling (is.Other bytes) h = tt

shape_bytes : (s : Shape) (m : Message) (payload : List ℕ) → Makes s m → HasOneSpelling s → AreBytes payload → HasShape s payload → payload ≡ bytes_of_shape s
shape_bytes (Fields layout values) m [] from one b h = let pos = gapless_pos layout from.0 in absurd (omega (arith, h.size))
shape_bytes (Fields layout values) m (kind ∷ rest) from one b h =
    let g = subst (λ end. is_gapless 1 end layout.columns ≡ true) (sym h.size) from.0.gapless in
    let tail = has_joined 1 layout.columns values (kind ∷ rest) g one b h.fields in
    let first = h.first in
    λ i. first i ∷ tail i
shape_bytes (Payload bytes) m payload from one b h = h.whole

pub spelling-Spells : (m : Message) (payload : List ℕ) → (IsEnd m → ⊥) → AreBytes payload → Spells m payload → payload ≡ spelling m
unfolding spelling
spelling-Spells m payload no_end b h = shape_bytes (shape m) m payload (makes m) (one_spelling m no_end) b h

-- the fields of a message in bytes fit
shape_fits : (s : Shape) (m : Message) (payload : List ℕ) → Makes s m → AreBytes payload → HasShape s payload → ShapeFits s
shape_fits (Fields layout values) m payload from b h =
    let g = subst (λ end. is_gapless 1 end layout.columns ≡ true) (sym h.size) from.0.gapless in
    all_fit 1 layout.columns values payload g b h.fields
shape_fits (Payload bytes) m payload from b h =
    record { undecoded = subst IsUndecoded h.whole h.undecoded; wide = subst AreBytes h.whole b }

pub IsMessage-Spells : (m : Message) (payload : List ℕ) → AreBytes payload → Spells m payload → IsMessage m
IsMessage-Spells m payload b h = fitting m (shape_fits (shape m) m payload (makes m) b h)

-- an encoded message
pub encoded : (m : Message) (bytes : List ℕ) → bytes ≡ spelling m → IsMessage m → Spells m bytes
encoded m bytes e h = subst (λ b. Spells m b) (sym e) (Spells-spelling m h)

pub ruleset encoding = (encoded)

-- a decoded message
pub only_read : (payload : List ℕ) (found : Result Message CodecFault) → Reads (λ m. Spells m payload) (fault payload) found
    → (m : Message) → Spells m payload → found ≡ Ok m
only_read payload (Ok n) h m s = ap Ok (same_message n m payload h.0 s)
only_read payload (Err e) h m s = absurd (let none = fault-Spells m payload s in cc (h, none))

pub read_message : (payload : List ℕ) (found : Result Message CodecFault) → Reads (λ m. Spells m payload) (fault payload) found
    → IfOk found (λ m. m ≡ message_of payload)
read_message payload (Ok m) h = message_of-Spells m payload h.0
read_message payload (Err e) h = tt

pub read_fits : (payload : List ℕ) (found : Result Message CodecFault) → AreBytes payload → Reads (λ m. Spells m payload) (fault payload) found
    → IfOk found (λ m. IsMessage m)
read_fits payload (Ok m) b h = IsMessage-Spells m payload b h.0
read_fits payload (Err e) b h = tt

-- encoding and then decoding returns the message
pub message_of-spelling : (m : Message) → IsMessage m → message_of (spelling m) ≡ m
message_of-spelling m h = sym (message_of-Spells m (spelling m) (Spells-spelling m h))

pub fault-spelling : (m : Message) → IsMessage m → fault (spelling m) ≡ None
fault-spelling m h = fault-Spells m (spelling m) (Spells-spelling m h)

pub spelling-message_of : (payload : List ℕ) → AreBytes payload → fault payload ≡ None → (IsEnd (message_of payload) → ⊥) → spelling (message_of payload) ≡ payload
spelling-message_of payload b h no_end = sym (spelling-Spells (message_of payload) payload no_end b (Spells-message_of payload h))

pub ruleset spelling_laws = (
  same_message,
  message_of-Spells,
  fault-Spells,
  Spells-message_of,
  Spells-spelling,
  spelling_size,
  spelling_short,
  spelling-Spells,
  IsMessage-Spells,
  message_of-spelling,
  fault-spelling,
  spelling-message_of,
)
