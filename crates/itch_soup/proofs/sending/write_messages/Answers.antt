use Rattle.std.proofs.Common.{ℕ}
use Rattle.std.proofs.lemmas.Result.{err_from_is_err_and}
use Rattle.itch_soup.proofs.SentSessions.{no_data, data_sent, data_failed, all_data}
use Rattle.itch_soup.proofs.sending.write_messages.Goals as goal

pub loop-message-init : goal.loop-message-init
loop-message-init g c = rw c.into_iter-message-iterator.ensures.into_iter_gives (no_data _ _ _ _)

pub returns-in_err-write_message-clause-packets : goal.returns-in_err-write_message-clause-packets
returns-in_err-write_message-clause-packets g c =
    let p = err_from_is_err_and c.from_residual.result c.from_residual.ensures.1 in
    rw (p.1, p.2) (data_failed _ _ ℕ _ _ _ _ _ _ _ _ _ _ c.requires.fit c.loop-message.invariant c.in-Some.ensures.steps c.in_err-write_message.ensures.block)

pub loop-message-preserved : goal.loop-message-preserved
loop-message-preserved g c = data_sent _ _ _ _ _ _ _ _ _ _ _ c.loop-message.invariant c.in-Some.ensures.steps c.in_ok-write_message.ensures.block

pub returns-clause-packets : goal.returns-clause-packets
returns-clause-packets g c = (all_data _ _ _ _ _ _ _ _ c.loop-message.invariant c.in-None.ensures.steps.0).0

pub returns-clause-count : goal.returns-clause-count
returns-clause-count g c = (all_data _ _ _ _ _ _ _ _ c.loop-message.invariant c.in-None.ensures.steps.0).1
