use Rattle.std.proofs.Common.{None, sym, subst, ◌∙◌, arith}
use Rattle.itch_day.specs.Limits.{counted}
use Rattle.itch_commands.proofs.PointReadings.{reached_on, stopped_on}
use Rattle.itch_depth.specs.Own.{IsApart}
use Rattle.itch_depth.specs.Series.{UnlessStopped}
use Rattle.itch_depth.proofs.TimedParts.{apart_ended}
use Rattle.itch_depth.proofs.pass.TimedPass.read_rest.Goals as goal

pub returns-in-None-clause-reads : goal.returns-in-None-clause-reads
returns-in-None-clause-reads g c = λ first before stop tracked stands at to.
    let (why, reason, (now, there, same)) = c.read_on.ensures.reads first before stop tracked stands at to in
    let new = c.read_on.new.self in
    (now, reached_on g.R.CountedRead.remaining g.R.CountedRead.failures (counted None) first new.reader now (omega (arith, new.few, same.counted)) why there (reason ∙ c.in-None.is) new.count (sym same.counted), same)

pub returns-in-Some-clause-reads : goal.returns-in-Some-clause-reads
returns-in-Some-clause-reads g c = λ first before stop tracked stands at to.
    let (why, reason, (now, there, same)) = c.read_on.ensures.reads first before stop tracked stands at to in
    let new = c.read_on.new.self in (
      now,
      stopped_on g.R.CountedRead.remaining g.R.CountedRead.failures (counted None) first new.reader now (omega (arith, new.few, same.counted)) why there c.in-Some.stop (reason ∙ c.in-Some.is) new.count (sym same.counted)
          c.ended.result c.ended.ensures,
      same,
    )

pub returns-in-Some-clause-apart : goal.returns-in-Some-clause-apart
returns-in-Some-clause-apart g c =
    let new = c.read_on.new.self in
    let apart = subst (λ o. UnlessStopped o (IsApart new.markets.locates new.markets.market new.markets.own)) c.in-Some.is c.read_on.ensures.apart in
    apart_ended _ c.in-Some.stop new.count c.ended.result c.ended.ensures apart
