-- Lists of locates and of ranges of them, as text.
use Rattle.std.specs.Prelude.{◌≡◌, ℕ, ◌<◌, ◌≤◌, ◌+◌, decimal, if◌then◌else◌, ◌⊎◌, ◌==◌, Bool, nat_lt, not, ◌&&◌, cond, List, [], ◌∷◌, ◌++◌, ⊤, Option, Some, None, Result, Ok, Err}
use Rattle.std.specs.List.{list_any}
use Rattle.std.specs.Str.Parse.{IsNumeral, digits_value}
use Rattle.itch_market.specs.Wanted.{Wanted, has}
use Rattle.itch_commands.specs.declared.fault.ToolFault.{ToolFault}
use Rattle.itch_commands.specs.declared.fault.ToolFault.TheVariants as tool

-- the text is this number in decimal digits, and it is not higher than the greatest locate
abbrev pub IsLocate : List ℕ → ℕ → Type 0
IsLocate text locate = IsNumeral 10 text × (digits_value 10 text ≡ locate) × (locate < 65536)

-- The first and the last locate of the range in the text: a single locate, or two with a hyphen between them, the second no lower than the
-- first.
abbrev pub IsRange : List ℕ → ℕ × ℕ → Type 0
IsRange text range =
    (IsLocate text range.0 × (range.1 ≡ range.0))
    ⊎ ((low : List ℕ) × (high : List ℕ) × (text ≡ low ++ 45 ∷ high) × IsLocate low range.0 × IsLocate high range.1 × (range.0 ≤ range.1))

-- the path of the file with a list, if the argument for it is an at sign and this path
abbrev pub list_file : List ℕ → Option (List ℕ)
list_file [] = None
list_file (first ∷ path) = cond (first == 64) (Some path) None

-- the locate is in the range
abbrev pub is_in : ℕ → ℕ × ℕ → Bool
is_in locate range = not (nat_lt locate range.0) && not (nat_lt range.1 locate)

-- a range in a list: its locate, or the first and the last with a hyphen between them
abbrev pub range_text : ℕ × ℕ → List ℕ
range_text range = if nat_lt range.0 range.1 then decimal range.0 ++ (45 ∷ decimal range.1) else decimal range.0

-- the list of these ranges
abbrev pub list_text : List (ℕ × ℕ) → List ℕ
list_text [] = []
list_text (r ∷ []) = range_text r
list_text (r ∷ (q ∷ qs)) = range_text r ++ (44 ∷ list_text (q ∷ qs))

-- each range ascends, and between two of them there is a locate that is in neither
abbrev pub AreApart : List (ℕ × ℕ) → Type 0
AreApart [] = ⊤
AreApart (r ∷ []) = r.0 ≤ r.1
AreApart (r ∷ (q ∷ qs)) = (r.0 ≤ r.1) × (r.1 + 1 < q.0) × AreApart (q ∷ qs)

-- the text is the list of a set's locates, with one range for each run of them, in ascending order
abbrev pub IsListText : Wanted → List ℕ → Type 0
IsListText set text =
    (ranges : List (ℕ × ℕ)) × (text ≡ list_text ranges) × AreApart ranges × ((locate : ℕ) → locate < 65536 → has set locate ≡ list_any (is_in locate) ranges)

-- the text is these ranges, at least one, separated by commas
abbrev pub IsListOf : List (ℕ × ℕ) → List ℕ → Type 0
IsListOf [] text = ⊥
IsListOf (r ∷ []) text = IsRange text r
IsListOf (r ∷ (q ∷ qs)) text = (first : List ℕ) × (rest : List ℕ) × (text ≡ first ++ 44 ∷ rest) × IsRange first r × IsListOf (q ∷ qs) rest

-- the result of reading a list: the set of the locates in its ranges, or that the text is not a list
abbrev pub ReadsLocates : List ℕ → Result Wanted ToolFault → Type 0
ReadsLocates text (Ok set) = (ranges : List (ℕ × ℕ)) × IsListOf ranges text × ((l : ℕ) → has set l ≡ list_any (is_in l) ranges)
ReadsLocates text (Err tool.BadLocates) = (ranges : List (ℕ × ℕ)) → IsListOf ranges text → ⊥
ReadsLocates text (Err tool.OutOfMemory) = ⊤
ReadsLocates text (Err fault) = ⊥
