-- The order behind a message: the live order that it refers to, as it was before the message.
use Rattle.std.specs.Prelude.{ℕ, ◌+◌, ◌-◌, Bool, true, false, List, [], ◌∷◌, ◌++◌, map, length, Option, None, Some, option_map, if◌then◌else◌}
use Rattle.std.specs.FinMap as finite
use Rattle.itch_book.specs.declared.order.Order.{Order}
use Rattle.itch_book.specs.Orders as book
use Rattle.itch_codec.specs.Messages.{message_of}
use Rattle.itch_codec.specs.declared.message.Message.{Message}
use Rattle.itch_codec.specs.declared.message.Message.TheVariants as is
use Rattle.itch_market.specs.Content.{Content, Listing, empty}
use Rattle.itch_market.specs.Effects.{effect}
use Rattle.itch_market.specs.Runs.{run}
use Rattle.itch_commands.specs.Choices.{Chosen, chosen_after, chosen_past, is_chosen}
use Rattle.itch_commands.specs.OrderForms.{order_line}
use Rattle.itch_commands.specs.declared.form.OrderForm.{OrderForm}
use Rattle.itch_commands.specs.declared.show.orders.behind.Behind.{Behind}

-- the stock of a locate, if the directory has one
abbrev pub stock_at : Content → ℕ → Option (List ℕ)
stock_at m locate = option_map (λ (s : Listing). s.entry.stock) (finite.get m.securities locate)

-- the remaining shares of an order from which these are taken; none if the order ends
abbrev pub left_of : Option ℕ → ℕ → ℕ
left_of None shares = 0
left_of (Some taken) shares = shares - taken

-- the order of a reference with the stock of its locate, and the remaining shares once that many are taken, or once it ends
abbrev pub order_behind : Content → ℕ → Option ℕ → Option Behind
order_behind m reference taken =
    option_map (λ (x : Order). record { order = x; stock = stock_at m x.locate; left = left_of taken x.shares }) (book.get m.orders reference)

-- the order behind a message in the market before it: for an execution or a cancel the order that loses shares, for a delete the one that
-- ends, and for a replace the original one
abbrev pub behind : Content → Message → Option Behind
behind m (is.OrderExecuted x) = order_behind m x.reference (Some x.shares)
behind m (is.OrderExecutedWithPrice x) = order_behind m x.execution.reference (Some x.execution.shares)
behind m (is.OrderCancel x) = order_behind m x.reference (Some x.shares)
behind m (is.OrderDelete x) = order_behind m x.reference None
behind m (is.OrderReplace x) = order_behind m x.original None
behind m message = None

-- the messages that change a live order
abbrev pub changes_order : Message → Bool
changes_order (is.OrderExecuted x) = true
changes_order (is.OrderExecutedWithPrice x) = true
changes_order (is.OrderCancel x) = true
changes_order (is.OrderDelete x) = true
changes_order (is.OrderReplace x) = true
changes_order message = false

-- the shares of an order; zero if it is not live
abbrev pub shares_of : Option Order → ℕ
shares_of None = 0
shares_of (Some x) = x.shares

-- the order behind a chosen message
abbrev pub chosen_behind : Chosen → Content → Message → Option Behind
chosen_behind chosen m message = if is_chosen chosen message then behind m message else None

-- the line of a message with the order behind it; without one, nothing
abbrev pub line_behind : OrderForm → ℕ → Message → Option Behind → List ℕ
line_behind form number message None = []
line_behind form number message (Some order) = order_line form number message order

-- the line of a message, if it is chosen and has an order behind it in this market
abbrev pub line_in : OrderForm → Chosen → Content → ℕ → Message → List ℕ
line_in form chosen m number message = line_behind form number message (chosen_behind chosen m message)

-- The lines of these messages, each for the market after those before it, from this one on. The messages are numbered from here on.
unfoldable pub lines_over : OrderForm → Chosen → Content → ℕ → List Message → List ℕ
lines_over form chosen m number [] = []
lines_over form chosen m number (message ∷ messages) =
    line_in form chosen m number message ++ lines_over form (chosen_after chosen message) (effect m message) (number + 1) messages

-- the lines of a day, from the empty market on
abbrev pub lines_of_day : OrderForm → Chosen → List (List ℕ) → List ℕ
lines_of_day form chosen payloads = lines_over form chosen empty 1 (map message_of payloads)

-- the line of the message in the payload after these
abbrev pub line_past : OrderForm → Chosen → List (List ℕ) → List ℕ → List ℕ
line_past form chosen payloads payload =
    line_in form (chosen_past chosen (map message_of payloads)) (run (map message_of payloads)) (length payloads + 1) (message_of payload)
