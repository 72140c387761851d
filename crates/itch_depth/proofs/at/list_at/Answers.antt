use Rattle.std.proofs.Common.{sym, subst}
use Rattle.std.proofs.lemmas.Result.{err_from_is_err_and}
use Rattle.std.specs.Option.{option_copied}
use Rattle.itch_depth.specs.Series.{ListsMarket}
use Rattle.itch_depth.proofs.TimedMessages.{still_fits}
use Rattle.itch_depth.proofs.TimesInTurn.{listed_on, refused_on}
use Rattle.itch_depth.proofs.at.list_at.Goals as goal

pub returns-in_err-read_until-clause-lists : goal.returns-in_err-read_until-clause-lists
returns-in_err-read_until-clause-lists g c =
    let p = err_from_is_err_and c.from_residual.result c.from_residual.ensures.1 in
    rw (p.1, p.2) (λ first before stop tracked stands at to.
    let read = c.in_err-read_until.ensures.reads first before stop tracked stands at to in (
      read.0,
      refused_on g.R.CountedRead.remaining g.R.CountedRead.failures g.W.CountedWrite.contents g.W.CountedWrite.failures c.args.request (option_copied c.args.only) first c.args.time
          c.read_until.new.self.reader read.0 c.args.out.now _ read.1,
      read.2,
    ))

pub returns-clause-lists : goal.returns-clause-lists
returns-clause-lists g c = λ first before stop tracked stands at to.
    let read = c.in_ok-read_until.ensures.reads first before stop tracked stands at to in (
      read.0,
      listed_on g.R.CountedRead.remaining g.R.CountedRead.failures g.W.CountedWrite.contents g.W.CountedWrite.failures c.args.request (option_copied c.args.only) first c.args.time
          c.read_until.new.self.reader read.0 c.args.out.now c.list.new.out c.list.result _ read.1
          (subst (λ m. ListsMarket g.W.CountedWrite.contents g.W.CountedWrite.failures c.args.request (option_copied c.args.only) m c.args.time c.args.out.now c.list.result c.list.new.out)
          (sym read.2.market) c.list.ensures),
      read.2,
    )

pub list-requires-clause-fits : goal.list-requires-clause-fits
list-requires-clause-fits g c =
    still_fits c.args.pass.now.markets.locates c.read_until.new.self.markets.locates c.args.request.selection (option_copied c.args.only) c.read_until.ensures.kept c.requires.fits
