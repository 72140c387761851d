-- The line has room for any message.
use Rattle.std.proofs.Common.{arith}
use Rattle.itch_codec.proofs.Fits.{fits}
use Rattle.itch_codec.proofs.json_lines.json.Goals as goal

pub write-requires : goal.write-requires
write-requires c = let short = (fits c.args.message.now).json in record { room = grind arith }

pub push_str-requires-2 : goal.push_str-requires-2
push_str-requires-2 c = let short = (fits c.args.message.now).json in grind arith
