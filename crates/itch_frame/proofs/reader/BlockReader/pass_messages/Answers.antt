use Rattle.std.proofs.Common.{◌+◌, sym, subst}
use Rattle.itch_frame.proofs.PassedMessages.{one_more}
use Rattle.itch_frame.specs.Passing.{PassedOver}
use Rattle.itch_frame.proofs.reader.BlockReader.pass_messages.Goals.{in-Message, in-Nothing+in-Ok-true}
use Rattle.itch_frame.proofs.reader.BlockReader.pass_messages.Goals as goal

pub returns-in-End : goal.returns-in-End
returns-in-End g c = (c.loop-count-test.true, (c.loop-count.self, c.loop-count.invariant, rw c.in-End.is at c.pass_at_hand.ensures))

pub returns-in-Ok-false : goal.returns-in-Ok-false
returns-in-Ok-false g c =
    let so_far = subst (PassedOver g.R.CountedRead.remaining g.R.CountedRead.failures c.args.self.now c.loop-count.count) (sym c.in-Nothing.ensures) c.loop-count.invariant in
    (c.loop-count-test.true, (c.pass_at_hand.new.reader, so_far, rw c.in-Ok-false.field-0-test at c.in-Ok-false.ensures))

pub returns-in-Err : goal.returns-in-Err
returns-in-Err g c =
    let so_far = subst (PassedOver g.R.CountedRead.remaining g.R.CountedRead.failures c.args.self.now c.loop-count.count) (sym c.in-Nothing.ensures) c.loop-count.invariant in
    (c.loop-count-test.true, (c.pass_at_hand.new.reader, so_far, c.in-Err.ensures))

pub loop-count-preserved : goal.loop-count-preserved
loop-count-preserved g c =
    let remaining = g.R.CountedRead.remaining in
    let failures = g.R.CountedRead.failures in
    let old = c.args.self.now in
    let count = c.loop-count.count in
    elim c.match-pass_at_hand.branch [
      | in-Message w ↦ subst (PassedOver remaining failures old (count + 1)) (sym w.self-is)
          (one_more remaining failures old c.loop-count.self c.pass_at_hand.new.reader count c.loop-count.invariant (rw w.in-Message.is at c.pass_at_hand.ensures))
      | in-Nothing+in-Ok-true w ↦
          let so_far = subst (PassedOver remaining failures old count) (sym w.in-Nothing.ensures) c.loop-count.invariant in
          subst (PassedOver remaining failures old (count + 1)) (sym w.self-is)
          (one_more remaining failures old c.pass_at_hand.new.reader w.pass_message.new.reader count so_far (rw w.in-Ok-true.field-0-test at w.in-Ok-true.ensures))
    ]
