use Rattle.std.proofs.Common.{◌≡◌, false, Ok, arith}
use Rattle.itch_day.proofs.Progress.{before_most, going_both, going_first, going_on, going_stops}
use Rattle.itch_day.proofs.reading.read_part.Goals as goal

pub loop-count-init : goal.loop-count-init
loop-count-init g c = record {
  going = going_first g.R.CountedRead.remaining g.R.CountedRead.failures g.T.Sink.takes g.T.Sink.refuses c.args.limit c.args.reader.now c.args.count.now c.args.sink.now;
  few = c.requires.few;
  ready = c.requires.ready;
}

pub loop-count-preserved-in-Ok-true : goal.loop-count-preserved-in-Ok-true
loop-count-preserved-in-Ok-true g c =
    let before = before_most c.args.limit c.take_at_hand.new.count (omega (arith, c.most-in-loop-count.ensures, c.if-count-most.true)) in
    let so_far = going_both _ _ _ g.T.Sink.refuses _ _ _ _ _ _ _ _ _ _ c.loop-count.invariant.going c.take_at_hand.ensures.takes in
    let steps = rw c.in-Ok-true.field-0-test at c.in-Ok-true.ensures.steps in
    record {
      going = going_on _ _ _ g.T.Sink.refuses _ _ _ _ _ _ _ _ _ _ so_far before steps;
      few = omega (arith, steps.3.3, steps.3.0);
      ready = c.in-Ok-true.ensures.ready;
    }

pub loop-count-preserved-in-Ok : goal.loop-count-preserved-in-Ok
loop-count-preserved-in-Ok g c =
    let before = before_most c.args.limit c.take_at_hand.new.count (omega (arith, c.most-in-loop-count.ensures, c.if-count-most.true)) in
    let so_far = going_both _ _ _ g.T.Sink.refuses _ _ _ _ _ _ _ _ _ _ c.loop-count.invariant.going c.take_at_hand.ensures.takes in
    let is : c.take_loaded.result ≡ Ok false = cc in
    let still = rw is at c.take_loaded.ensures.steps in
    let steps = rw (still.0, still.1, still.2) at c.in-Ok.ensures.steps in
    record {
      going = going_on _ _ _ g.T.Sink.refuses _ _ _ _ _ _ _ _ _ _ so_far before steps;
      few = omega (arith, steps.3.3, steps.3.0);
      ready = c.in-Ok.ensures.ready;
    }

pub loop-count-preserved : goal.loop-count-preserved
loop-count-preserved g c = record {
  going = going_both _ _ _ g.T.Sink.refuses _ _ _ _ _ _ _ _ _ _ c.loop-count.invariant.going c.take_at_hand.ensures.takes;
  few = c.take_at_hand.ensures.few;
  ready = c.take_at_hand.ensures.ready;
}

pub returns-in-Err-take_from_input-clause-reads : goal.returns-in-Err-take_from_input-clause-reads
returns-in-Err-take_from_input-clause-reads g c =
    let before = before_most c.args.limit c.take_at_hand.new.count (omega (arith, c.most-in-loop-count.ensures, c.if-count-most.true)) in
    let so_far = going_both _ _ _ g.T.Sink.refuses _ _ _ _ _ _ _ _ _ _ c.loop-count.invariant.going c.take_at_hand.ensures.takes in
    let is : c.take_loaded.result ≡ Ok false = cc in
    let still = rw is at c.take_loaded.ensures.steps in
    going_stops _ _ _ _ _ _ _ _ _ _ _ _ _ _ _ so_far before (rw (still.0, still.1, still.2) at c.in-Err-take_from_input.ensures.steps)

pub returns-in-Err-clause-reads : goal.returns-in-Err-clause-reads
returns-in-Err-clause-reads g c =
    let before = before_most c.args.limit c.take_at_hand.new.count (omega (arith, c.most-in-loop-count.ensures, c.if-count-most.true)) in
    let so_far = going_both _ _ _ g.T.Sink.refuses _ _ _ _ _ _ _ _ _ _ c.loop-count.invariant.going c.take_at_hand.ensures.takes in
    rw c.stop_of.ensures (going_stops _ _ _ _ _ _ _ _ _ _ _ _ _ _ _ so_far before c.in-Err.ensures.steps)
