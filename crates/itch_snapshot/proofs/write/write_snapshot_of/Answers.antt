use Rattle.std.proofs.lemmas.Result.{err_from_is_err_and}
use Rattle.itch_snapshot.proofs.WrittenBlocks.{cut_short, none_written, one_written, message_failed, end_failed, all_written}
use Rattle.itch_snapshot.proofs.write.write_snapshot_of.Goals as goal

pub loop-message-init : goal.loop-message-init
loop-message-init g c = rw (c.into_iter-message-iterator.ensures.into_iter_gives, c.of-message-items.ensures) (none_written _ _ _ _)

pub loop-message-preserved : goal.loop-message-preserved
loop-message-preserved g c =
    one_written _ _ _ _ _ _ _ _ _ _ _ c.loop-message.invariant c.in-Some.ensures.steps c.in_ok-write_message.ensures.block

pub returns-in_err-write_message : goal.returns-in_err-write_message
returns-in_err-write_message g c =
    let p = err_from_is_err_and c.from_residual.result c.from_residual.ensures.1 in
    rw (p.1, p.2) (message_failed _ _ _ _ _ _ _ _ _ _ _ _ _ (cut_short c.args.set c.args.market.now c.recall_invariant.ensures.good) c.loop-message.invariant c.in-Some.ensures.steps c.in_err-write_message.ensures.block)

pub returns-in_err-write_message-2 : goal.returns-in_err-write_message-2
returns-in_err-write_message-2 g c =
    let p = err_from_is_err_and c.from_residual-in_err-write_message-2.result c.from_residual-in_err-write_message-2.ensures.1 in
    rw (p.1, p.2) (end_failed _ _ _ _ _ _ _ _ _ _ _ c.loop-message.invariant c.in-None.ensures.steps.0 c.in_err-write_message-2.ensures.fits c.in_err-write_message-2.ensures.block)

pub returns : goal.returns
returns g c = all_written _ _ _ _ _ _ _ _ _ _ c.loop-message.invariant c.in-None.ensures.steps.0 c.in_ok-write_message-2.ensures.block
