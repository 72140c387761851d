use Rattle.std.proofs.Common.{refl}
use Rattle.itch_depth.specs.declared.pass.markets.OwnMarkets.{OwnMarkets}
use Rattle.itch_depth.proofs.TimedMessages.{faulty_untaken}
use Rattle.itch_depth.proofs.TimedParts.{timed_so}
use Rattle.itch_depth.proofs.pass.markets.OwnMarketsSink.take.Goals as goal

pub returns-in-Ok-clause-takes : goal.returns-in-Ok-clause-takes
returns-in-Ok-clause-takes g c =
    let Sink = OwnMarkets g.row.B.Denot g.row.B-Alloc.Denot in
    timed_so (λ (s : Sink). s.locates) (λ (s : Sink). s.market) (λ (s : Sink). s.own) (λ (s : Sink). s.until) c.args.self.now c.pass.new.self c.in-Ok.decoded c.args.number c.args.payload.now
    (rw c.in-Ok.is at c.requires.decoded) c.requires.ready c.pass.result c.pass.ensures.passes c.pass.ensures.kept

pub returns-in-Err-clause-takes : goal.returns-in-Err-clause-takes
returns-in-Err-clause-takes g c =
    let it = c.args.self.now in
    (refl, faulty_untaken it.until it.market c.args.number c.args.payload.now c.in-Err.fault (rw c.in-Err.is at c.requires.decoded), c.requires.ready)
