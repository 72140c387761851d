-- The bytes of an encoded message: bytes that were built, or the payload of an undecoded message.
use Rattle.std.specs.Prelude.{ℕ, List}
use Rattle.itch_codec.specs.declared.encoded.Form.{Form}
use Rattle.itch_codec.specs.declared.encoded.Form.TheVariants.{Built, Kept}

-- the bytes of a form
abbrev pub bytes_of : Form → List ℕ
bytes_of (Built bytes) = bytes.items
bytes_of (Kept payload) = payload.now
