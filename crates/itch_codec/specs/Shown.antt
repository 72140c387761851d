-- The output of a message: its type, then its fields in the order of its layout, each with its key, its class and its width.
use Rattle.std.specs.Prelude.{ℕ, List, [], ◌∷◌, ◌++◌, length}
use Rattle.itch_codec.specs.Layouts.{Class, Integer, Code, Column}
use Rattle.itch_codec.specs.Numbers.{byte_at}
use Rattle.itch_codec.specs.Fields.{Value, Number}
use Rattle.itch_codec.specs.Messages.{Shape, Fields, Payload, shape}
use Rattle.itch_codec.specs.Names.{keys}
use Rattle.itch_codec.specs.declared.names.Key.{Key}
use Rattle.itch_codec.specs.declared.names.Key.TheVariants as key
use Rattle.itch_codec.specs.declared.message.Message.{Message}

-- a form of output: the text of a type, the text before the type of an undecoded message, and the text of a field with this key, class, width
-- and value
pub record Form : Type 0 where
  pub kind : ℕ → List ℕ
  pub undecoded : List ℕ
  pub field : Key → Class → ℕ → Value → List ℕ

-- the fields of these columns
unfoldable pub fields : Form → List Key → List Column → List Value → List ℕ
fields form [] columns values = []
fields form (key ∷ keys) [] values = []
fields form (key ∷ keys) (column ∷ columns) [] = []
fields form (key ∷ keys) (column ∷ columns) (value ∷ values) =
    form.field key column.class column.width value ++ fields form keys columns values

-- the type and the fields of a message of this shape; or the type of an undecoded message, and its length
abbrev pub shown_as : Form → List Key → Shape → List ℕ
shown_as form keys (Fields layout values) = form.kind layout.kind ++ fields form keys layout.columns values
shown_as form keys (Payload bytes) =
    form.undecoded ++ form.field key.Kind Code 1 (Number (byte_at 0 bytes)) ++ form.field key.Length Integer 8 (Number (length bytes))

-- the output of a message in this form
abbrev pub shown : Form → Message → List ℕ
shown form message = shown_as form (keys message) (shape message)
