-- A field that is written to a sink: its class, its width and its value.
use Rattle.std.specs.Prelude.{ℕ}
use Rattle.itch_codec.specs.Layouts.{Class, Integer, Price, Text, OneSide, Code, Codes, Digits}
use Rattle.itch_codec.specs.Fields.{Value, Number, Bytes, TheSide}
use Rattle.itch_codec.specs.declared.sink.Field.{Field}
use Rattle.itch_codec.specs.declared.sink.Field.TheVariants as is

-- a function of the class, the width and the value of a field
abbrev pub at_field : {T : Type 0} → (Class → ℕ → Value → T) → Field → T
at_field at (is.U16 number) = at Integer 2 (Number number)
at_field at (is.U32 number) = at Integer 4 (Number number)
at_field at (is.U64 number) = at Integer 8 (Number number)
at_field at (is.Time nanoseconds) = at Integer 6 (Number nanoseconds)
at_field at (is.Price price) = at Price 4 (Number price)
at_field at (is.Mpid mpid) = at Text 4 (Bytes mpid.now)
at_field at (is.Stock stock) = at Text 8 (Bytes stock.now)
at_field at (is.Side side) = at OneSide 1 (TheSide side)
at_field at (is.Code byte) = at Code 1 (Number byte)
at_field at (is.TwoCodes bytes) = at Codes 2 (Bytes bytes.now)
at_field at (is.FourCodes bytes) = at Codes 4 (Bytes bytes.now)
at_field at (is.Digits number) = at Digits 20 (Number number)
