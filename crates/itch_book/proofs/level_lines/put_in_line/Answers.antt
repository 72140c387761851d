use Rattle.std.proofs.Common.{Some}
use Rattle.std.proofs.lemmas.Result.{on_ok_weaker, on_err_weaker}
use Rattle.itch_book.proofs.SideLevelLemmas.{vec_rising, vec_queues, vec_same}
use Rattle.itch_book.proofs.level_lines.put_in_line.Goals as goal

pub returns-clause-rising : goal.returns-clause-rising
returns-clause-rising g c =
    vec_rising c.args.lines.now.items c.args.locate c.index_mut.result.now c.put_in.new.levels c.requires.reached c.index_mut.ensures.value c.args.side c.requires.rising c.put_in.ensures.rising

pub returns-clause-ok : goal.returns-clause-ok
returns-clause-ok g c =
    on_ok_weaker c.put_in.result (λ h. vec_queues c.args.lines.now.items c.args.locate c.index_mut.result.now c.put_in.new.levels c.requires.reached c.index_mut.ensures.value c.args.level.price (Some c.args.level.queue) h) c.put_in.ensures.ok

pub returns-clause-err : goal.returns-clause-err
returns-clause-err g c =
    on_err_weaker c.put_in.result (λ h. vec_same c.args.lines.now.items c.args.locate c.index_mut.result.now c.put_in.new.levels c.requires.reached c.index_mut.ensures.value h) c.put_in.ensures.err
