-- The messages that `show` chooses, and their form.
use Rattle.std.specs.Prelude.{ℕ, ◌+◌, ◌==◌, ◌&&◌, Bool, true, false, List, [], ◌∷◌, ◌++◌, Option, Some, None, is_some, option_map, if◌then◌else◌}
use Rattle.std.specs.List.{list_any}
use Rattle.itch_codec.specs.Headers.{header, kind_of, reference_of, time_of}
use Rattle.itch_codec.specs.Json.{json_line}
use Rattle.itch_codec.specs.Lines.{line_of}
use Rattle.itch_codec.specs.Named.{named_line}
use Rattle.itch_codec.specs.declared.header.Header.{Header}
use Rattle.itch_codec.specs.declared.message.Message.{Message}
use Rattle.itch_codec.specs.declared.message.Message.TheVariants as is
use Rattle.itch_day.specs.declared.cursor.DayCursor.{DayCursor}
use Rattle.itch_market.specs.Wanted.{Wanted, has}
use Rattle.itch_commands.specs.declared.filters.Filters.{Filters}
use Rattle.itch_commands.specs.declared.form.ShowForm.{ShowForm}
use Rattle.itch_commands.specs.declared.form.ShowForm.TheVariants as form
use Rattle.itch_commands.specs.declared.start.Start.{Start}
use Rattle.itch_commands.specs.Rows.{row_of}
use Rattle.itch_commands.specs.Starts.{first, is_begun, start_after, start_past}
use Rattle.itch_commands.specs.Lookup.{Lookup, listed, lookup, lookup_after, is_sought, are_found}
use Rattle.itch_commands.specs.Stocks.{names_of}

-- The criteria for choosing a message, if they are given: the start of a range among the remaining messages, the locates, the stocks, the
-- types, and the present reference number of an order.
pub record Chosen : Type 0 where
  pub start : Start
  pub only : Option Wanted
  pub stocks : Option Lookup
  pub types : Option (List ℕ)
  pub reference : Option ℕ

-- every message
abbrev pub everything : Chosen
everything = record { start = first; only = None; stocks = None; types = None; reference = None }

-- the same messages without a range, from the first one on
abbrev pub of_all : Chosen → Chosen
of_all chosen = record chosen { start = first }

-- the choice of a command line, with the set of its list of locates
abbrev pub chosen_by : Option Wanted → Filters → Chosen
chosen_by set filters = record {
  start = filters.start;
  only = set;
  stocks = option_map (λ names. lookup (names_of names.now)) filters.stocks;
  types = option_map (λ types. types.now) filters.types;
  reference = filters.reference;
}

-- a header has a locate of a set; a message without a header does not
abbrev pub is_at : Wanted → Option Header → Bool
is_at set None = false
is_at set (Some h) = has set h.locate

-- a message has a requested locate
abbrev pub is_located : Option Wanted → Message → Bool
is_located None message = true
is_located (Some set) message = is_at set (header message)

-- a message has a requested type
abbrev pub is_typed : Option (List ℕ) → Message → Bool
is_typed None message = true
is_typed (Some types) message = list_any (λ letter. letter == kind_of message) types

-- a message that names an order names this one
abbrev pub is_named : ℕ → Option ℕ → Bool
is_named reference None = false
is_named reference (Some named) = named == reference

-- a message is about the order that is followed
abbrev pub is_about : Option ℕ → Message → Bool
is_about None message = true
is_about (Some reference) message = is_named reference (reference_of message)

-- a message is shown if it meets all criteria that are given
abbrev pub is_chosen : Chosen → Message → Bool
is_chosen chosen message =
    is_begun chosen.start (time_of message) && is_located chosen.only message && is_sought chosen.stocks message && is_typed chosen.types message && is_about chosen.reference message

-- the reference number of an order after a message: a replace gives the original order another one
abbrev pub renamed : Message → ℕ → ℕ
renamed (is.OrderReplace m) reference = if m.original == reference then m.reference else reference
renamed message reference = reference

-- the choice after this message
abbrev pub chosen_after : Chosen → Message → Chosen
chosen_after chosen message = record {
  start = start_after chosen.start (time_of message);
  only = chosen.only;
  stocks = option_map (lookup_after message) chosen.stocks;
  types = chosen.types;
  reference = option_map (renamed message) chosen.reference;
}

-- the choice after these messages
unfoldable pub chosen_past : Chosen → List Message → Chosen
chosen_past chosen [] = chosen
chosen_past chosen (message ∷ messages) = chosen_past (chosen_after chosen message) messages

-- the choice after the messages before a cursor, which are before the range: no stock is looked up in them, and no order is followed
abbrev pub chosen_past_cursor : Chosen → DayCursor → Chosen
chosen_past_cursor chosen cursor = record chosen { start = start_past chosen.start cursor }

-- the choice once stocks are looked up in this message
abbrev pub chosen_listing : Chosen → Message → Chosen
chosen_listing chosen message = record chosen { stocks = option_map (lookup_after message) chosen.stocks }

-- the choice once stocks are looked up in these messages
unfoldable pub chosen_listing_all : Chosen → List Message → Chosen
chosen_listing_all chosen [] = chosen
chosen_listing_all chosen (message ∷ messages) = chosen_listing_all (chosen_listing chosen message) messages

-- the Stock Directory messages among these
unfoldable pub directory_of : List Message → List Message
directory_of [] = []
directory_of (message ∷ messages) = if is_some (listed message) then message ∷ directory_of messages else directory_of messages

-- each of the stocks searched for has come after these messages
abbrev pub are_found_in : Chosen → List Message → Bool
are_found_in chosen messages = are_found (Chosen.stocks (chosen_past chosen messages))

-- the line of a message in a form; as comma-separated values of another type it has none
abbrev pub line_in : ShowForm → ℕ → Message → List ℕ
line_in form.Text number message = line_of number message
line_in form.Named number message = named_line number message
line_in form.Json number message = json_line number message
line_in (form.Csv kind) number message = row_of kind number message

-- the line of a message if it is chosen, and otherwise nothing
abbrev pub chosen_line : ShowForm → Chosen → ℕ → Message → List ℕ
chosen_line form chosen number message = if is_chosen chosen message then line_in form number message else []

-- The lines of the chosen ones of these messages. All messages are numbered from here on, the others too.
unfoldable pub chosen_lines : ShowForm → Chosen → ℕ → List Message → List ℕ
chosen_lines form chosen number [] = []
chosen_lines form chosen number (message ∷ messages) =
    chosen_line form chosen number message ++ chosen_lines form (chosen_after chosen message) (number + 1) messages

-- the lines of all these messages, numbered from here on
unfoldable pub lines_of : ℕ → List Message → List ℕ
lines_of number [] = []
lines_of number (message ∷ messages) = line_of number message ++ lines_of (number + 1) messages
