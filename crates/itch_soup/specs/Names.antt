-- Comparing and writing the names in a login.
use Rattle.std.specs.Prelude.{ℕ, Bool, ◌||◌, List, map}
use Rattle.std.specs.Char.{to_ascii_lowercase}
use Rattle.std.specs.List.{list_all}
use Rattle.std.specs.Str.{bytes_eq}
use Rattle.itch_codec.specs.Text.{padded_to, before_spaces}
use Rattle.itch_codec.specs.Numbers.{is_space, after_spaces, padded_on_left}

-- user names and passwords are compared without the spaces at their end, ignoring the case of ASCII letters
abbrev pub is_same_name : List ℕ → List ℕ → Bool
is_same_name name other =
    bytes_eq (map to_ascii_lowercase (before_spaces name)) (map to_ascii_lowercase (before_spaces other))

-- a session's name is the field without the spaces at both ends
abbrev pub session_name : List ℕ → List ℕ
session_name field = after_spaces (before_spaces field)

-- the field that a client writes for a session: its name, padded on the right
abbrev pub client_session : List ℕ → List ℕ
client_session field = padded_to 10 (session_name field)

-- the field that a server writes for a session: its name, padded on the left
abbrev pub server_session : List ℕ → List ℕ
server_session field = padded_on_left 10 (session_name field)

-- a login requests the served session by its name, or by a blank field
abbrev pub asks_for_session : List ℕ → List ℕ → Bool
asks_for_session served asked = list_all is_space asked || bytes_eq (session_name served) (session_name asked)
