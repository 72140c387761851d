-- The user name and the password of a login.
use Rattle.std.specs.Prelude.{◌≡◌, ℕ, ◌+◌, ◌==◌, ◌≤◌, Bool, List, length, Result, Ok, Err, if◌then◌else◌}
use Rattle.std.specs.List.{position_or_len, before_first}
use Rattle.itch_codec.specs.Text.{IsPrintable, padded_to}
use Rattle.itch_sessions.specs.declared.session_fault.SessionFault.{SessionFault}
use Rattle.itch_sessions.specs.declared.session_fault.SessionFault.TheVariants as session_fault
use Rattle.itch_sessions.specs.declared.sessions.login.Login.{Login}

-- at least one character, at most as many as the field has, all printable
abbrev pub IsWord : ℕ → List ℕ → Type 0
IsWord width text = (1 ≤ length text) × (length text ≤ width) × IsPrintable text

-- a user name and a password, padded to their fields; or the first of them that is invalid is the fault
abbrev pub ReadsLogin : List ℕ → List ℕ → Result Login SessionFault → Type 0
ReadsLogin user password (Ok login) =
    IsWord 6 user × IsWord 10 password × (login.username ≡ padded_to 6 user) × (login.password ≡ padded_to 10 password)
ReadsLogin user password (Err session_fault.BadUser) = ¬ IsWord 6 user
ReadsLogin user password (Err session_fault.BadPassword) = IsWord 6 user × (¬ IsWord 10 password)
ReadsLogin user password (Err fault) = ⊥

abbrev pub is_return : ℕ → Bool
is_return byte = byte == 13

-- a line without the carriage return at its end, if it contains no other one
abbrev pub without_return : List ℕ → List ℕ
without_return line = if position_or_len is_return line + 1 == length line then before_first is_return line else line
