-- Values as plain text.
use Rattle.std.specs.Prelude.{ℕ, ◌/◌, ◌%◌, true, false, List, [], ◌∷◌, ◌++◌, codes, decimal}
use Rattle.std.specs.List.{flat_map}
use Rattle.itch_status.specs.FigureTables.{figure_key, figure_value, figures_shown}
use Rattle.itch_status.specs.States.{state_words, cause_words}
use Rattle.itch_status.specs.Texts.{digit, session_name, thousandths}
use Rattle.itch_status.specs.declared.figures.Figures.{Figures}
use Rattle.itch_status.specs.declared.figure.Figure.{Figure}
use Rattle.itch_status.specs.declared.shown.Shown.{Shown}
use Rattle.itch_status.specs.declared.shown.Shown.TheVariants as shown

-- nanoseconds since midnight as a time of day, to the millisecond
abbrev pub time_of_day : ℕ → List ℕ
time_of_day n =
    let seconds = n / 1000000000 in
    digit (seconds / 36000) ∷ digit (seconds / 3600) ∷ 58 ∷ digit (seconds / 60 % 60 / 10) ∷ digit (seconds / 60 % 60) ∷ 58
    ∷ digit (seconds % 60 / 10) ∷ digit (seconds % 60) ∷ 46 ∷ digit (n / 100000000) ∷ digit (n / 10000000) ∷ digit (n / 1000000) ∷ []

-- a value
abbrev pub plain_value : Shown → List ℕ
plain_value shown.Nothing = codes "-"
plain_value (shown.Count n) = decimal n
plain_value (shown.Thousandths n) = thousandths n
plain_value (shown.Clock n) = time_of_day n
plain_value (shown.Yes true) = codes "yes"
plain_value (shown.Yes false) = codes "no"
plain_value (shown.State s) = state_words s
plain_value (shown.Cause c) = cause_words c
plain_value (shown.Session s) = session_name s

-- the line of a figure
unfoldable pub plain_line : Figures → Figure → List ℕ
plain_line f figure = figure_key figure ++ codes " " ++ plain_value (figure_value figure f) ++ codes "\n"

-- the lines of all figures, and the line of the version
abbrev pub plain_text : Figures → List ℕ → List ℕ
plain_text f version = flat_map (plain_line f) figures_shown ++ codes "version " ++ version ++ codes "\n"
