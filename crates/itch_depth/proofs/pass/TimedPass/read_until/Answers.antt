use Rattle.std.proofs.Common.{Ok, sym, subst, ◌∙◌, arith}
use Rattle.itch_commands.proofs.PointReadings.{ended_there, late_there, refused_there}
use Rattle.itch_depth.specs.Own.{IsApart}
use Rattle.itch_depth.specs.Series.{UnlessStopped}
use Rattle.itch_depth.proofs.TimedParts.{apart_ended, refused_ends}
use Rattle.itch_depth.proofs.pass.TimedPass.read_until.Goals as goal

pub returns-in-None-clause-reads : goal.returns-in-None-clause-reads
returns-in-None-clause-reads g c = λ first before stop tracked stands at to.
    let (why, reason, (now, there, same)) = c.read_on.ensures.reads first before stop tracked stands at to in
    let new = c.read_on.new.self in
    (now, late_there g.R.CountedRead.remaining g.R.CountedRead.failures c.args.time first new.reader now (omega (arith, new.few, same.counted)) why there (reason ∙ c.in-None.is), same)

pub returns-in-Ok-clause-reads : goal.returns-in-Ok-clause-reads
returns-in-Ok-clause-reads g c = λ first before stop tracked stands at to.
    let (why, reason, (now, there, same)) = c.read_on.ensures.reads first before stop tracked stands at to in
    let new = c.read_on.new.self in (
      now,
      ended_there g.R.CountedRead.remaining g.R.CountedRead.failures c.args.time first new.reader now (omega (arith, new.few, same.counted)) why there c.in-Some.stop (reason ∙ c.in-Some.is) new.count (sym same.counted)
          c.in-Ok._count (sym c.ended.ensures ∙ c.in-Ok.is),
      same,
    )

pub returns-in-Ok-clause-apart : goal.returns-in-Ok-clause-apart
returns-in-Ok-clause-apart g c =
    let new = c.read_on.new.self in
    let apart = subst (λ o. UnlessStopped o (IsApart new.markets.locates new.markets.market new.markets.own)) c.in-Some.is c.read_on.ensures.apart in
    apart_ended _ c.in-Some.stop new.count (Ok c.in-Ok._count) (sym c.in-Ok.is ∙ c.ended.ensures) apart

pub returns-in-Err-clause-reads : goal.returns-in-Err-clause-reads
returns-in-Err-clause-reads g c = λ first before stop tracked stands at to.
    let (why, reason, (now, there, same)) = c.read_on.ensures.reads first before stop tracked stands at to in
    let new = c.read_on.new.self in (
      now,
      refused_there g.R.CountedRead.remaining g.R.CountedRead.failures c.args.time first new.reader now (omega (arith, new.few, same.counted)) why there c.in-Some.stop (reason ∙ c.in-Some.is) new.count (sym same.counted)
          c.in-Err.fault (sym c.ended.ensures ∙ c.in-Err.is),
      same,
    )

pub returns-in-Err-clause-stops : goal.returns-in-Err-clause-stops
returns-in-Err-clause-stops g c = refused_ends c.in-Some.stop c.read_on.new.self.count c.in-Err.fault (sym c.ended.ensures ∙ c.in-Err.is)
