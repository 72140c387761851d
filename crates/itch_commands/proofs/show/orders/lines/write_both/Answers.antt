use Rattle.std.proofs.lemmas.Result.{err_from_is_err_and}
use Rattle.itch_commands.proofs.JoinedTexts.{text_then, text_fails}
use Rattle.itch_commands.proofs.show.orders.lines.write_both.Goals as goal

pub returns-in_err-write_text : goal.returns-in_err-write_text
returns-in_err-write_text g c =
    let p = err_from_is_err_and c.from_residual.result c.from_residual.ensures.1 in
    rw (p.1, p.2) (text_fails g.W.CountedWrite.contents g.W.CountedWrite.failures c.args.first.now c.args.then.now c.args.out.now c.write_text.new.out _ c.in_err-write_text.ensures)

pub returns : goal.returns
returns g c =
    text_then g.W.CountedWrite.contents g.W.CountedWrite.failures c.args.first.now c.args.then.now c.args.out.now c.write_text.new.out c.write_text-2.new.out c.write_text-2.result
    c.in_ok-write_text.ensures c.write_text-2.ensures
