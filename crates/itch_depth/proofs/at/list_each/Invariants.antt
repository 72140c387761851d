use Rattle.std.proofs.Common.{drop}
use Rattle.std.specs.Option.{option_copied}
use Rattle.itch_depth.specs.Own.{Fits, IsApart}
use Rattle.itch_depth.proofs.TimesInTurn.{EachInTurn}
use Rattle.itch_depth.proofs.at.list_each.Given as goal

abbrev pub invariant-loop-time : goal.invariant-loop-time
invariant-loop-time g l = record {
  each : EachInTurn g.R.CountedRead.remaining g.R.CountedRead.failures g.W.CountedWrite.contents g.W.CountedWrite.failures l.request (option_copied l.only) l.times (drop l.time-index l.times) l.answer
      l.initial.out l.out l.initial.pass.reader l.initial.pass.markets.market l.initial.pass.count l.pass.reader l.pass.markets.market l.pass.count;
  apart : IsApart l.pass.markets.locates l.pass.markets.market l.pass.markets.own;
  fits : Fits l.pass.markets.locates l.request.selection (option_copied l.only);
}
