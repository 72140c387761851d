-- The reason why a field does not accept a text.
use Rattle.std.specs.Prelude.{ℕ, List, length, nat_lt, Option, Some, option_map, if◌then◌else◌}
use Rattle.itch_codec.specs.declared.text.AlphaFault.{AlphaFault}
use Rattle.itch_codec.specs.declared.text.AlphaFault.TheVariants.{TooLong, NotPrintable}
use Rattle.itch_codec.specs.Text.{first_unprintable}

-- the first byte that is not printable, if there is one
abbrev pub bytes_fault : List ℕ → Option AlphaFault
bytes_fault bytes = option_map NotPrintable (first_unprintable bytes)

-- a text is longer than its field, or else its first byte that is not printable
abbrev pub text_fault : ℕ → List ℕ → Option AlphaFault
text_fault width text = if nat_lt width (length text) then Some TooLong else bytes_fault text
