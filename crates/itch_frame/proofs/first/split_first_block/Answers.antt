use Rattle.itch_frame.proofs.FirstSplits.{split_is}
use Rattle.itch_frame.proofs.first.split_first_block.Goals as goal

pub returns : goal.returns
returns c = split_is c.args.bytes.now c.in_ok-size.size c.in_ok-size.ensures.within c.in_ok-size.ensures.block
