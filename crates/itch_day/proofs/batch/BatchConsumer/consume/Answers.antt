use Rattle.std.proofs.Common.{refl, arith}
use Rattle.itch_day.proofs.Batches.{block_more}
use Rattle.itch_day.proofs.batch.BatchConsumer.consume.Goals as goal

pub loop-at-preserved : goal.loop-at-preserved
loop-at-preserved g c =
    let so_far = c.loop-at.invariant in
    let taken = rw c.look_ahead.ensures at c.in-Some.ensures.takes in
    let blocks = rw so_far.counted at so_far.taken in
    record {
      counted = refl;
      most = so_far.most;
      few = omega (arith, c.loop-at-test.true, so_far.most);
      sink = so_far.sink;
      ready = c.in-Some.ensures.ready;
      taken = block_more g.T.Sink.takes c.args.self.now.count c.loop-at.at c.args.self.now.sink.now _ c.take_first.new.sink c.args.bytes.now _ c.in-Some.after.now blocks taken;
    }
