-- Session names: a field without the spaces at its ends, and a name padded with spaces.
use Rattle.std.proofs.Common.{◌≡◌, ℕ, ◌-◌, ◌≤◌, Bool, List, ◌++◌, length, take, drop, replicate, length-append, IsTrue, ◌↔◌, sym, ap, ◌∙◌, arith}
use Rattle.std.specs.Prelude.{reverse}
use Rattle.std.specs.List.{All, prefix_len}
use Rattle.std.specs.Str.{bytes_eq}
use Rattle.std.proofs.lemmas.List.{take-append-drop, drop_at, length-drop, length-replicate, reverse-append, reverse-reverse, length-reverse}
use Rattle.std.proofs.lemmas.List.Elements.{All-from_recursion, recursion_from_All, All-same, All-replicate, All-append, All-take, All-drop}
use Rattle.std.proofs.lemmas.List.Sums.{prefix_len-le-length}
use Rattle.std.proofs.lemmas.Bool.Decides.{same_from_decides}
use Rattle.std.proofs.lemmas.Slice.Eq.{bytes_eq-Decides}
use Rattle.itch_codec.specs.Text.{IsPrintableByte, IsPrintable, padded_to, before_spaces}
use Rattle.itch_codec.specs.Numbers.{is_space, after_spaces, padded_on_left}
use Rattle.itch_codec.specs.Fields.{IsAlpha}
use Rattle.itch_soup.specs.Names.{session_name, server_session}

abbrev spaces : ℕ → List ℕ
spaces n = replicate n 32

-- a field without the spaces at its end is a prefix of it
before_spaces-take : (field : List ℕ) → prefix_len is_space (reverse field) ≤ length field
    → before_spaces field ≡ take (length field - prefix_len is_space (reverse field)) field
unfolding before_spaces after_spaces
before_spaces-take field within =
    let n = prefix_len is_space (reverse field) in
    let k = length field - n in
    let front = take k field in
    let back = drop k field in
    let turned : reverse field ≡ reverse back ++ reverse front = ap reverse (sym (take-append-drop k field)) ∙ reverse-append front back in
    let long : length (reverse back) ≡ n = omega (arith, within, length-reverse back, length-drop k field) in
    ap (λ xs. reverse (drop n xs)) turned ∙ ap reverse (drop_at (reverse back) (reverse front) n long) ∙ reverse-reverse front

-- the name of a session is printable if its field is
pub name_printable : (field : List ℕ) → IsPrintable field → IsPrintable (session_name field)
unfolding after_spaces
name_printable field h =
    let front = before_spaces-take field (omega (arith, prefix_len-le-length is_space (reverse field), length-reverse field)) in
    let whole = All-from_recursion IsPrintableByte field h in
    let before = All-same IsPrintableByte _ _ front (All-take IsPrintableByte _ field whole) in
    recursion_from_All IsPrintableByte _ (All-drop IsPrintableByte _ _ before)

pub ruleset trimming = (name_printable)

spaces_printable : (n : ℕ) → All IsPrintableByte (spaces n)
spaces_printable n = All-replicate IsPrintableByte n 32 (omega arith, omega arith)

-- and it is no longer than its field
name_within : (field : List ℕ) → length (session_name field) ≤ length field
unfolding before_spaces after_spaces
name_within field =
    let front = length-drop (prefix_len is_space (reverse field)) (reverse field) in
    let name = length-drop (prefix_len is_space (before_spaces field)) (before_spaces field) in
    omega (arith, front, name, length-reverse (after_spaces (reverse field)), length-reverse field)

-- a name with spaces on either side is a text with the width of the field
pub padded_to-fits : (width : ℕ) (name : List ℕ) → length name ≤ width → IsPrintable name → IsAlpha width (padded_to width name)
padded_to-fits width name within printable =
    let room = width - length name in (
      length-append name (spaces room) ∙ omega (arith, within, length-replicate {A = ℕ} room 32),
      recursion_from_All IsPrintableByte _
          (All-append IsPrintableByte name (spaces room) (All-from_recursion IsPrintableByte name printable) (spaces_printable room)),
    )

pub padded_on_left-fits : (width : ℕ) (name : List ℕ) → length name ≤ width → IsPrintable name → IsAlpha width (padded_on_left width name)
padded_on_left-fits width name within printable =
    let room = width - length name in (
      length-append (spaces room) name ∙ omega (arith, within, length-replicate {A = ℕ} room 32),
      recursion_from_All IsPrintableByte _
          (All-append IsPrintableByte (spaces room) name (spaces_printable room) (All-from_recursion IsPrintableByte name printable)),
    )

-- the field that a server writes for a session is a text of that width
pub server_session-fits : (field : List ℕ) → IsAlpha 10 field → IsAlpha 10 (server_session field)
server_session-fits field (width, printable) =
    let within = name_within field in
    padded_on_left-fits 10 (session_name field) (omega (arith, within, width)) (name_printable field printable)

-- a condition that holds if and only if two texts are equal
pub tested-bytes_eq : (test : Bool) (text other : List ℕ) → IsTrue test ↔ (text ≡ other) → test ≡ bytes_eq text other
tested-bytes_eq test text other h = same_from_decides _ _ h (bytes_eq-Decides text other)

pub ruleset texts = (tested-bytes_eq)
