-- A file of either kind, a day file or a snapshot, and its market.
use Rattle.std.specs.Prelude.{◌≡◌, ℕ, ◌+◌, ◌<◌, ◌^◌, List, map, length, Option, Result, Ok, Err}
use Rattle.itch_codec.specs.Messages.{message_of}
use Rattle.itch_frame.specs.Reading.{Reading}
use Rattle.itch_frame.specs.declared.tally.Failures.{Failures}
use Rattle.itch_market.specs.Content.{Content, laid}
use Rattle.itch_market.specs.GoodMarkets.{IsGood}
use Rattle.itch_market.specs.Runs.{run}
use Rattle.itch_snapshot.specs.Snapshot.{snap}
use Rattle.itch_commands.specs.Readings.{ReadsDay, ReadsSnap}
use Rattle.itch_commands.specs.declared.fault.Source.{Source}
use Rattle.itch_commands.specs.declared.fault.ToolFault.{ToolFault}
use Rattle.itch_commands.specs.declared.kind.FileKind.{FileKind}
use Rattle.itch_commands.specs.declared.kind.FileKind.TheVariants.{Day, Snapshot}

module _ {R : Type 0} (remaining : R → Option (List ℕ)) (failures : R → Failures) where
  -- The result of reading a file, and its reader afterwards: the market, and the number of the first message that it does not contain.
  abbrev pub ReadsFile : Source → FileKind → Reading R → Reading R → Result (Content × ℕ) ToolFault → Type 0
  ReadsFile file (Day limit) old new (Ok done) =
      (payloads : List (List ℕ)) × ReadsDay remaining failures file limit old new (Ok payloads) × (done.0 ≡ run (map message_of payloads))
      × (done.1 ≡ length payloads + 1)
  ReadsFile file (Day limit) old new (Err fault) = ReadsDay remaining failures file limit old new (Err fault)
  ReadsFile file Snapshot old new result = ReadsSnap remaining failures file old new result

-- a market in any order of its orders, and in snapshot order; it can be written
pub record IsLaid (m n : Content) : Type 0 where
  pub good : IsGood m
  pub in_order : n ≡ laid m
  pub few : length (snap n) < 10 ^ 19

-- the market after a file, and its number
abbrev pub LeavesFile : (Result (Content × ℕ) ToolFault → Type 0) → Result (Content × ℕ) ToolFault → Type 0
LeavesFile reads (Ok done) = (m : Content) × reads (Ok (m, done.1)) × IsLaid m done.0
LeavesFile reads (Err fault) = reads (Err fault)
