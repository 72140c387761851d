use Rattle.std.proofs.Common.{Ok, Err, refl, inl, inr, subst}
use Rattle.itch_sessions.specs.Sessions.{ServesMarket}
use Rattle.itch_tool.proofs.serving.serve_file.Goals as goal

pub returns-in-Err : goal.returns-in-Err
returns-in-Err g c = inl (_, refl, c.in-Err.ensures, refl)

pub returns-in-Ok-serve_market : goal.returns-in-Ok-serve_market
returns-in-Ok-serve_market g c =
    let read = c.in-Ok.ensures in
    inr (
      (read.0, c.in-Ok.market.1),
      Ok c.in-Ok-serve_market.answer,
      read.1,
      refl,
      subst (λ n. ServesMarket g.R.Stream.Read.remaining g.R.Stream.Write.contents g.W.CountedWrite.contents g.W.CountedWrite.failures n c.in-Ok.market.1 c.args.config.now c.args.count c.args.out.now (Ok c.in-Ok-serve_market.answer)
          c.serve_market.new.out)
          read.2.in_order c.in-Ok-serve_market.ensures,
    )

pub returns : goal.returns
returns g c =
    let read = c.in-Ok.ensures in
    inr (
      (read.0, c.in-Ok.market.1),
      Err c.in-Err-serve_market.fault,
      read.1,
      refl,
      subst (λ n. ServesMarket g.R.Stream.Read.remaining g.R.Stream.Write.contents g.W.CountedWrite.contents g.W.CountedWrite.failures n c.in-Ok.market.1 c.args.config.now c.args.count c.args.out.now (Err c.in-Err-serve_market.fault)
          c.serve_market.new.out)
          read.2.in_order c.in-Err-serve_market.ensures,
    )
