use Rattle.std.proofs.Common.{Ok, Err, sym, subst}
use Rattle.std.proofs.lemmas.Result.{err_from_is_err_and}
use Rattle.std.specs.Option.{option_copied}
use Rattle.itch_depth.specs.Series.{Checks}
use Rattle.itch_depth.proofs.MultiplesInTurn.{end_lacks, end_listed, end_refused}
use Rattle.itch_depth.proofs.every.finish.Goals as goal

pub returns-in_err-_count : goal.returns-in_err-_count
returns-in_err-_count g c =
    let p = err_from_is_err_and c.from_residual.result c.from_residual.ensures.1 in
    rw (p.1, p.2) (λ first before stop tracked stands at to.
    let new = c.read_rest.new.self in
    let read = c.in_err-_count.ensures.reads first before stop tracked stands at to in
    end_refused g.R.CountedRead.remaining g.R.CountedRead.failures c.args.request (option_copied c.args.only) first new.reader read.0 _ read.1)

pub returns-in_err-check : goal.returns-in_err-check
returns-in_err-check g c =
    let p = err_from_is_err_and c.from_residual-in_err-check.result c.from_residual-in_err-check.ensures.1 in
    rw (p.1, p.2) (λ first before stop tracked stands at to.
    let new = c.read_rest.new.self in
    let read = c.in_ok-_count.ensures.reads first before stop tracked stands at to in
    end_lacks g.R.CountedRead.remaining g.R.CountedRead.failures c.args.request (option_copied c.args.only) first new.reader read.0 c.in_ok-_count._count read.1 _
    (subst (λ m. Checks c.args.request.selection (option_copied c.args.only) m (Err c.in_err-check.field-0.0)) (sym read.2.market) c.in_err-check.ensures))

pub returns : goal.returns
returns g c = λ first before stop tracked stands at to.
    let new = c.read_rest.new.self in
    let read = c.in_ok-_count.ensures.reads first before stop tracked stands at to in
    end_listed g.R.CountedRead.remaining g.R.CountedRead.failures c.args.request (option_copied c.args.only) first new.reader read.0 c.in_ok-_count._count read.1
    (subst (λ m. Checks c.args.request.selection (option_copied c.args.only) m (Ok tt)) (sym read.2.market) c.in_ok-check.ensures)
