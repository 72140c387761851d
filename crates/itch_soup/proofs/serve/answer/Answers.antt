use Rattle.std.proofs.Common.{Err, refl, subst}
use Rattle.std.proofs.lemmas.Result.{err_from_is_err_and}
use Rattle.itch_frame.specs.Writing.{WriteBlock}
use Rattle.itch_soup.specs.declared.server.Judgement.TheVariants.{Rejected}
use Rattle.itch_soup.specs.Servers.{turn_of}
use Rattle.itch_soup.proofs.SentSessions.{rejected}
use Rattle.itch_soup.proofs.serve.answer.Goals as goal

pub returns-in_err-write_block-in-Rejected : goal.returns-in_err-write_block-in-Rejected
returns-in_err-write_block-in-Rejected g c =
    let contents = g.W.CountedWrite.contents in
    let failures = g.W.CountedWrite.failures in
    let code = c.in-Rejected.code in
    let fault = c.in_err-write_block-in-Rejected.field-0.0 in
    let residual = c.from_residual-in_err-write_block-in-Rejected in
    let p = err_from_is_err_and residual.result residual.ensures.1 in
    rw (p.1, p.2)
    (rejected contents failures c.args.market.now c.args.next c.args.config.now c.args.login.now c.messages_before_end-total.result code
    (turn_of (Rejected code)) fault c.args.writer.now c.write_block.new.writer c.messages_before_end-total.ensures c.in-Rejected.ensures refl
    (subst (λ block. WriteBlock contents failures c.args.writer.now block (Err fault) c.write_block.new.writer) c.rejected.ensures.bytes
    c.in_err-write_block-in-Rejected.ensures))
