-- The figures as metrics, in the text format of Prometheus, version 0.0.4.
use Rattle.std.specs.Prelude.{ℕ, Bool, true, false, List, [], ◌∷◌, ◌++◌, codes, decimal, if◌then◌else◌}
use Rattle.std.specs.List.{flat_map}
use Rattle.itch_status.specs.FigureTables.{figure_key, figure_help, figure_kind, figure_value, figures_shown}
use Rattle.itch_status.specs.States.{state_words, cause_words, is_state}
use Rattle.itch_status.specs.Texts.{thousandths, nanoseconds, escaped, session_name}
use Rattle.itch_status.specs.declared.state.FeedState.{FeedState}
use Rattle.itch_status.specs.declared.state.FeedState.TheVariants.{Connecting, Following, Lost, Ended}
use Rattle.itch_status.specs.declared.figures.Figures.{Figures}
use Rattle.itch_status.specs.declared.figure.Figure.{Figure}
use Rattle.itch_status.specs.declared.shown.Shown.{Shown}
use Rattle.itch_status.specs.declared.shown.Shown.TheVariants as shown

abbrev pub metric_name : Figure → List ℕ
metric_name figure = codes "itchsnap_" ++ figure_key figure

-- the description and the type of a metric
unfoldable pub metric_heading : Figure → List ℕ
metric_heading figure =
    codes "# HELP " ++ metric_name figure ++ codes " " ++ figure_help figure ++ codes "\n# TYPE " ++ metric_name figure ++ codes " " ++ figure_kind figure ++ codes "\n"

-- a value that is a number
abbrev pub metric_number : Shown → List ℕ
metric_number (shown.Count n) = decimal n
metric_number (shown.Thousandths n) = thousandths n
metric_number (shown.Clock n) = nanoseconds n
metric_number (shown.Yes true) = codes "1"
metric_number (shown.Yes false) = codes "0"
metric_number value = []

-- a sample of 1 whose label is a text, after an opening brace and the label's name
unfoldable pub labelled : Figure → List ℕ → List ℕ → List ℕ
labelled figure opening text = metric_name figure ++ opening ++ flat_map escaped text ++ codes "\"} 1\n"

abbrev pub states : List FeedState
states = Connecting ∷ Following ∷ Lost ∷ Ended ∷ []

-- the sample of a state: 1 for the current state, and 0 for the others
unfoldable pub state_sample : Figure → FeedState → FeedState → List ℕ
state_sample figure present state =
    metric_name figure ++ codes "{state=\"" ++ state_words state ++ (if is_state state present then codes "\"} 1\n" else codes "\"} 0\n")

abbrev pub numbered : Figure → Shown → List ℕ
numbered figure value = metric_name figure ++ codes " " ++ metric_number value ++ codes "\n"

-- the samples of a metric, if it has any now
abbrev pub sample : Figure → Shown → List ℕ
sample figure shown.Nothing = []
sample figure (shown.Count n) = numbered figure (shown.Count n)
sample figure (shown.Thousandths n) = numbered figure (shown.Thousandths n)
sample figure (shown.Clock n) = numbered figure (shown.Clock n)
sample figure (shown.Yes b) = numbered figure (shown.Yes b)
sample figure (shown.State s) = flat_map (state_sample figure s) states
sample figure (shown.Cause c) = labelled figure (codes "{cause=\"") (cause_words c)
sample figure (shown.Session s) = labelled figure (codes "{session=\"") (session_name s)

-- a metric
unfoldable pub metric : Figures → Figure → List ℕ
metric f figure = metric_heading figure ++ sample figure (figure_value figure f)

-- all metrics, and the version
abbrev pub metrics_text : Figures → List ℕ → List ℕ
metrics_text f version =
    flat_map (metric f) figures_shown
    ++ codes "# HELP itchsnap_build_info The version of the program.\n# TYPE itchsnap_build_info gauge\nitchsnap_build_info{version=\""
    ++ version ++ codes "\"} 1\n"
