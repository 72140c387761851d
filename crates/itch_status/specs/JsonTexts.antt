-- The figures as JSON.
use Rattle.std.specs.Prelude.{ℕ, true, false, List, ◌++◌, codes, decimal}
use Rattle.std.specs.List.{flat_map}
use Rattle.itch_status.specs.FigureTables.{figure_key, figure_value, figures_shown}
use Rattle.itch_status.specs.States.{state_words, cause_words}
use Rattle.itch_status.specs.Texts.{thousandths, nanoseconds, escaped, session_name}
use Rattle.itch_status.specs.declared.figures.Figures.{Figures}
use Rattle.itch_status.specs.declared.figure.Figure.{Figure}
use Rattle.itch_status.specs.declared.shown.Shown.{Shown}
use Rattle.itch_status.specs.declared.shown.Shown.TheVariants as shown

-- a value
abbrev pub json_value : Shown → List ℕ
json_value shown.Nothing = codes "null"
json_value (shown.Count n) = decimal n
json_value (shown.Thousandths n) = thousandths n
json_value (shown.Clock n) = nanoseconds n
json_value (shown.Yes true) = codes "true"
json_value (shown.Yes false) = codes "false"
json_value (shown.State s) = codes "\"" ++ state_words s ++ codes "\""
json_value (shown.Cause c) = codes "\"" ++ cause_words c ++ codes "\""
json_value (shown.Session s) = codes "\"" ++ flat_map escaped (session_name s) ++ codes "\""

-- a figure
unfoldable pub json_member : Figures → Figure → List ℕ
json_member f figure = codes "\"" ++ figure_key figure ++ codes "\":" ++ json_value (figure_value figure f) ++ codes ","

-- the number of messages of a second
abbrev pub json_second : ℕ → List ℕ
json_second n = decimal n ++ codes ","

-- the object of figures
abbrev pub json_text : Figures → List ℕ → List ℕ
json_text f version =
    codes "{" ++ flat_map (json_member f) figures_shown ++ codes "\"version\":\"" ++ version
    ++ codes "\",\"messages_by_second\":[" ++ flat_map json_second f.minute.before ++ decimal f.minute.present ++ codes "]}\n"
