use Rattle.std.proofs.Common.{◌++◌, take, refl, sym, ap}
use Rattle.itch_frame.proofs.reader.fill_block.Goals as goal

pub returns-then-take_block-clause-front : goal.returns-then-take_block-clause-front
returns-then-take_block-clause-front g c =
    let block = take c.take_block.new.len c.take_block.new.buffer in
    (block, ap (λ n. take n c.args.buffer.now ++ block) (sym (c.if-take_block.ensures.begun refl)))
