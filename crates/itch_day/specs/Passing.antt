-- The rest of a day after the message that was not taken.
use Rattle.std.specs.Prelude.{◌≡◌}
use Rattle.itch_frame.specs.Blocks.{IsBlock}
use Rattle.itch_frame.specs.Reading.{Reading, passed}
use Rattle.itch_frame.specs.declared.reader.BlockStage.TheVariants.{Going}
use Rattle.itch_day.specs.declared.stop.PartStop.{PartStop}
use Rattle.itch_day.specs.declared.stop.PartStop.TheVariants.{Full, Late, End, Frame, TooMany, Refused}

-- the reader of blocks after the block that was not taken
abbrev pub left_by : {R F : Type 0} → PartStop F → Reading R → Reading R
left_by Full r = r
left_by (Frame fault) r = r
left_by Late r = passed r
left_by End r = passed r
left_by TooMany r = passed r
left_by (Refused why) r = passed r

-- the loaded block is the one that was not taken
abbrev pub IsLeft : {R F : Type 0} → PartStop F → Reading R → Type 0
IsLeft Full r = Unit {0}
IsLeft (Frame fault) r = Unit {0}
IsLeft Late r = r.stage ≡ Going → IsBlock r.held
IsLeft End r = r.stage ≡ Going → IsBlock r.held
IsLeft TooMany r = r.stage ≡ Going → IsBlock r.held
IsLeft (Refused why) r = r.stage ≡ Going → IsBlock r.held
