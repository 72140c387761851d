-- The order that `show` follows.
use Rattle.std.proofs.Common.{◌≡◌, ℕ, List, [], ◌∷◌, Option, None, Some, option_map, refl, ap, ◌∙◌}
use Rattle.itch_codec.specs.Headers.{reference_of}
use Rattle.itch_codec.specs.declared.message.Message.{Message}
use Rattle.itch_codec.specs.declared.message.Message.TheVariants as is
use Rattle.itch_commands.specs.Choices.{Chosen, chosen_after, chosen_past, is_named, is_about as is_shown, renamed}
use Rattle.itch_history.specs.Histories.{is_about, is_number, last_number, number_after}

renamed_so : (message : Message) (number : ℕ) → renamed message number ≡ number_after message number
renamed_so (is.OrderReplace m) number = refl
renamed_so (is.SystemEvent m) number = refl
renamed_so (is.StockDirectory m) number = refl
renamed_so (is.TradingAction m) number = refl
renamed_so (is.RegSho m) number = refl
renamed_so (is.Halt m) number = refl
renamed_so (is.Position m) number = refl
renamed_so (is.AddOrder m) number = refl
renamed_so (is.AttributedAddOrder m) number = refl
renamed_so (is.OrderExecuted m) number = refl
renamed_so (is.OrderExecutedWithPrice m) number = refl
renamed_so (is.OrderCancel m) number = refl
renamed_so (is.OrderDelete m) number = refl
renamed_so (is.Trade m) number = refl
renamed_so (is.CrossTrade m) number = refl
renamed_so (is.BrokenTrade m) number = refl
renamed_so (is.End next) number = refl
renamed_so (is.Other bytes) number = refl

pub followed : (chosen : Chosen) (messages : List Message) (number : ℕ) → Chosen.reference chosen ≡ Some number
    → Chosen.reference (chosen_past chosen messages) ≡ Some (last_number messages number)
unfolding chosen_past last_number
followed chosen [] number is = is
followed chosen (message ∷ messages) number is =
    followed (chosen_after chosen message) messages (number_after message number) (ap (option_map (renamed message)) is ∙ ap (λ n. Some n) (renamed_so message number))

named_so : (number : ℕ) (named : Option ℕ) → is_named number named ≡ is_number number named
named_so number None = refl
named_so number (Some named) = refl

pub shown : (message : Message) (number : ℕ) → is_shown (Some number) message ≡ is_about number message
shown message number = named_so number (reference_of message)
