-- The request of `show --history`, once the first number of the order's history is known.
use Rattle.std.specs.Prelude.{ℕ, Some}
use Rattle.itch_commands.specs.declared.filters.Filters.{Filters}
use Rattle.itch_commands.specs.declared.kind.FileKind.TheVariants.{Day}
use Rattle.itch_commands.specs.declared.request.Command.{Command}
use Rattle.itch_commands.specs.declared.request.Command.TheVariants.{Show, ShowOrders}
use Rattle.itch_commands.specs.declared.request.Request.{Request}
use Rattle.itch_commands.specs.declared.request.Request.TheVariants.{One}
use Rattle.itch_day.specs.declared.limit.Limit.{Limit}
use Rattle.itchsnap_cli.specs.declared.command_line.history.HistoryForm.{HistoryForm}
use Rattle.itchsnap_cli.specs.declared.command_line.history.HistoryForm.TheVariants.{Messages, Orders}
use Rattle.itchsnap_cli.specs.declared.command_line.history.HistoryArguments.{HistoryArguments}

-- `show` in this form, of a part of a day file
abbrev pub command_in : HistoryForm → Limit → Filters → Command
command_in (Messages form) limit filters = Show (Day limit) form filters
command_in (Orders form) limit filters = ShowOrders limit form filters

-- the same filters follow the order from this number on
abbrev pub request_from : HistoryArguments → ℕ → Request
request_from arguments first = One (Some arguments.file) (command_in arguments.form arguments.limit (record arguments.filters { reference = Some first }))
