use Rattle.std.proofs.Common.{◌∙◌, ◌-◌, ℕ, drop, Ok, Err, sym, ap, subst}
use Rattle.std.proofs.lemmas.Result.{err_from_is_err_and}
use Rattle.itch_soup.specs.Sending.{FitPackets}
use Rattle.itch_soup.proofs.SentSessions.{snap_fits, all_counted, failed_at_data, sent_with_end}
use Rattle.itch_soup.proofs.sending.write_answer.Goals as goal

pub write_messages-requires-clause-fit : goal.write_messages-requires-clause-fit
write_messages-requires-clause-fit g c =
    subst FitPackets (sym (c.pass_over.ensures ∙ ap (drop (c.value-passed.result - 1)) c.new-messages.ensures)) (snap_fits c.args.market.now (c.value-passed.result - 1) c.recall_invariant.ensures.good)

pub returns-in_err-count-clause-packets : goal.returns-in_err-count-clause-packets
returns-in_err-count-clause-packets g c =
    let p = err_from_is_err_and c.from_residual.result c.from_residual.ensures.1 in
    rw (p.1, p.2)
    (failed_at_data g.W.CountedWrite.contents g.W.CountedWrite.failures c.args.market.now c.args.next c.args.from c.pass_over.new.messages (c.value-passed.result - 1) c.messages_before_end.result
    (c.pass_over.ensures ∙ ap (drop (c.value-passed.result - 1)) c.new-messages.ensures) (ap (λ n. n - 1) c.value-passed.ensures.value) c.messages_before_end.ensures
    ℕ c.args.writer.now c.write_messages.new.writer c.in_err-count.field-0.0 c.in_err-count.ensures.packets)

pub returns-in_err-end-clause-packets : goal.returns-in_err-end-clause-packets
returns-in_err-end-clause-packets g c =
    let p = err_from_is_err_and c.from_residual-in_err-end.result c.from_residual-in_err-end.ensures.1 in
    rw (p.1, p.2)
    (sent_with_end g.W.CountedWrite.contents g.W.CountedWrite.failures c.args.market.now c.args.next c.args.from c.pass_over.new.messages (c.value-passed.result - 1) c.messages_before_end.result
    (c.pass_over.ensures ∙ ap (drop (c.value-passed.result - 1)) c.new-messages.ensures) (ap (λ n. n - 1) c.value-passed.ensures.value) c.messages_before_end.ensures
    {T = ℕ} {U = ℕ} c.args.writer.now c.write_messages.new.writer c.write_end.new.writer c.in_ok-count.count (Err c.in_err-end.field-0.0) c.in_ok-count.ensures.packets c.in_err-end.ensures.packets)

pub returns-clause-packets : goal.returns-clause-packets
returns-clause-packets g c =
    sent_with_end g.W.CountedWrite.contents g.W.CountedWrite.failures c.args.market.now c.args.next c.args.from c.pass_over.new.messages (c.value-passed.result - 1) c.messages_before_end.result
    (c.pass_over.ensures ∙ ap (drop (c.value-passed.result - 1)) c.new-messages.ensures) (ap (λ n. n - 1) c.value-passed.ensures.value) c.messages_before_end.ensures
    {T = ℕ} {U = ℕ} c.args.writer.now c.write_messages.new.writer c.write_end.new.writer c.in_ok-count.count (Ok c.in_ok-end.end) c.in_ok-count.ensures.packets c.in_ok-end.ensures.packets

pub returns-clause-count : goal.returns-clause-count
returns-clause-count g c =
    all_counted g.W.CountedWrite.contents g.W.CountedWrite.failures c.args.market.now c.args.next c.args.from c.pass_over.new.messages (c.value-passed.result - 1) c.messages_before_end.result
    (c.pass_over.ensures ∙ ap (drop (c.value-passed.result - 1)) c.new-messages.ensures) (ap (λ n. n - 1) c.value-passed.ensures.value) c.messages_before_end.ensures
    c.in_ok-count.count c.in_ok-end.end c.in_ok-count.ensures.count c.in_ok-end.ensures.count
