-- Each form of line has room for any message.
use Rattle.std.proofs.Common.{◌≤◌, arith}
use Rattle.itch_codec.specs.Rooms.{most_fields, most_shown, line_most, named_most, json_most}
use Rattle.itch_codec.specs.declared.message.Message.{Message}
use Rattle.itch_codec.specs.declared.message.Message.TheVariants as is

pub record Fits (m : Message) : Type 0 where
  pub line : most_shown line_most m ≤ 170
  pub named : most_shown named_most m ≤ 170
  pub json : most_shown json_most m ≤ 616

pub fits : (m : Message) → Fits m
unfolding most_fields
fits (is.SystemEvent m) = record { line = omega arith; named = omega arith; json = omega arith }
fits (is.StockDirectory m) = record { line = omega arith; named = omega arith; json = omega arith }
fits (is.TradingAction m) = record { line = omega arith; named = omega arith; json = omega arith }
fits (is.RegSho m) = record { line = omega arith; named = omega arith; json = omega arith }
fits (is.Halt m) = record { line = omega arith; named = omega arith; json = omega arith }
fits (is.Position m) = record { line = omega arith; named = omega arith; json = omega arith }
fits (is.AddOrder m) = record { line = omega arith; named = omega arith; json = omega arith }
fits (is.AttributedAddOrder m) = record { line = omega arith; named = omega arith; json = omega arith }
fits (is.OrderExecuted m) = record { line = omega arith; named = omega arith; json = omega arith }
fits (is.OrderExecutedWithPrice m) = record { line = omega arith; named = omega arith; json = omega arith }
fits (is.OrderCancel m) = record { line = omega arith; named = omega arith; json = omega arith }
fits (is.OrderDelete m) = record { line = omega arith; named = omega arith; json = omega arith }
fits (is.OrderReplace m) = record { line = omega arith; named = omega arith; json = omega arith }
fits (is.Trade m) = record { line = omega arith; named = omega arith; json = omega arith }
fits (is.CrossTrade m) = record { line = omega arith; named = omega arith; json = omega arith }
fits (is.BrokenTrade m) = record { line = omega arith; named = omega arith; json = omega arith }
fits (is.End next) = record { line = omega arith; named = omega arith; json = omega arith }
fits (is.Other bytes) = record { line = omega arith; named = omega arith; json = omega arith }
