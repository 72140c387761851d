-- The page for people.
use Rattle.std.specs.Prelude.{ℕ, List, ◌++◌, codes, decimal}
use Rattle.std.specs.List.{flat_map}
use Rattle.itch_status.specs.ChartTexts.{chart_text, greatest}
use Rattle.itch_status.specs.FigureTables.{figure_label, figure_value, figures_shown}
use Rattle.itch_status.specs.PlainTexts.{plain_value}
use Rattle.itch_status.specs.Texts.{html_escaped, session_name}
use Rattle.itch_status.specs.declared.figures.Figures.{Figures}
use Rattle.itch_status.specs.declared.figure.Figure.{Figure}
use Rattle.itch_status.specs.declared.shown.Shown.{Shown}
use Rattle.itch_status.specs.declared.shown.Shown.TheVariants as shown

-- a value in HTML: only a session's name can contain characters that have to be escaped
abbrev pub html_value : Shown → List ℕ
html_value shown.Nothing = plain_value shown.Nothing
html_value (shown.Count n) = plain_value (shown.Count n)
html_value (shown.Thousandths n) = plain_value (shown.Thousandths n)
html_value (shown.Clock n) = plain_value (shown.Clock n)
html_value (shown.Yes b) = plain_value (shown.Yes b)
html_value (shown.State s) = plain_value (shown.State s)
html_value (shown.Cause c) = plain_value (shown.Cause c)
html_value (shown.Session s) = flat_map html_escaped (session_name s)

-- a row of the table
unfoldable pub html_row : Figures → Figure → List ℕ
html_row f figure = codes "<tr><th>" ++ figure_label figure ++ codes "</th><td>" ++ html_value (figure_value figure f) ++ codes "</td></tr>\n"

-- the caption of the chart, and the beginning of the table
unfoldable pub caption : ℕ → List ℕ
caption most = codes "<p>Messages per second over the last minute, at most " ++ decimal most ++ codes ".</p>\n<table>\n"

-- the beginning of the page, with all styles
abbrev pub html_beginning : List ℕ
html_beginning =
    codes "<!DOCTYPE html>\n"
    ++ codes "<html lang=\"en\">\n"
    ++ codes "<head>\n"
    ++ codes "<meta charset=\"utf-8\">\n"
    ++ codes "<meta name=\"viewport\" content=\"width=device-width, initial-scale=1\">\n"
    ++ codes "<meta http-equiv=\"refresh\" content=\"5\">\n"
    ++ codes "<title>itchsnap live</title>\n"
    ++ codes "<style>\n"
    ++ codes "body { font: 16px/1.5 system-ui, sans-serif; max-width: 42rem; margin: 2rem auto; padding: 0 1rem; color: #1b1f24; background: #fff; }\n"
    ++ codes "h1 { font-size: 1.4rem; }\n"
    ++ codes "svg { width: 100%; height: 8rem; background: #f3f5f7; fill: #2f6fb0; }\n"
    ++ codes "table { border-collapse: collapse; width: 100%; }\n"
    ++ codes "th, td { text-align: left; padding: 0.25rem 0.5rem; border-top: 1px solid #dde2e7; font-weight: normal; }\n"
    ++ codes "td { text-align: right; font-variant-numeric: tabular-nums; }\n"
    ++ codes "p { color: #57606a; }\n"
    ++ codes "</style>\n"
    ++ codes "</head>\n"
    ++ codes "<body>\n"
    ++ codes "<h1>itchsnap live</h1>\n"

-- the page
abbrev pub html_text : Figures → List ℕ → List ℕ
html_text f version =
    html_beginning ++ chart_text f.minute.before ++ caption (greatest f.minute.before) ++ flat_map (html_row f) figures_shown
    ++ codes "</table>\n<p>itchsnap " ++ version ++ codes "</p>\n</body>\n</html>\n"
