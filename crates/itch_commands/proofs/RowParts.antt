-- A row in two parts: up to the header of its message, and after it.
use Rattle.std.proofs.Common.{◌≡◌, ℕ, ◌++◌, List, codes, refl}
use Rattle.itch_codec.specs.Shown.{fields}
use Rattle.itch_codec.specs.declared.message.Message.{Message}
use Rattle.itch_codec.specs.declared.message.Message.TheVariants as is
use Rattle.itch_codec.proofs.Joining.{joining}
use Rattle.itch_commands.specs.Rows.{own_fields, row, row_start}

pub row_parts : (number : ℕ) (message : Message) → row_start number message ++ (own_fields message ++ codes "\n") ≡ row number message
unfolding fields
row_parts number (is.SystemEvent x) = simp joining refl
row_parts number (is.StockDirectory x) = simp joining refl
row_parts number (is.TradingAction x) = simp joining refl
row_parts number (is.RegSho x) = simp joining refl
row_parts number (is.Halt x) = simp joining refl
row_parts number (is.Position x) = simp joining refl
row_parts number (is.AddOrder x) = simp joining refl
row_parts number (is.AttributedAddOrder x) = simp joining refl
row_parts number (is.OrderExecuted x) = simp joining refl
row_parts number (is.OrderExecutedWithPrice x) = simp joining refl
row_parts number (is.OrderCancel x) = simp joining refl
row_parts number (is.OrderDelete x) = simp joining refl
row_parts number (is.OrderReplace x) = simp joining refl
row_parts number (is.Trade x) = simp joining refl
row_parts number (is.CrossTrade x) = simp joining refl
row_parts number (is.BrokenTrade x) = simp joining refl
row_parts number (is.End next) = simp joining refl
row_parts number (is.Other bytes) = simp joining refl
