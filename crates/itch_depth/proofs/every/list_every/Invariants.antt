use Rattle.std.specs.Option.{option_copied}
use Rattle.itch_depth.specs.Own.{Fits, IsApart}
use Rattle.itch_depth.proofs.MultiplesInTurn.{EveryInTurn}
use Rattle.itch_depth.proofs.every.list_every.Given as goal

abbrev pub invariant-loop-multiple : goal.invariant-loop-multiple
invariant-loop-multiple g l = record {
  every : EveryInTurn g.R.CountedRead.remaining g.R.CountedRead.failures g.W.CountedWrite.contents g.W.CountedWrite.failures l.request (option_copied l.only) l.step l.multiple
      l.initial.out l.out l.initial.pass.reader l.initial.pass.markets.market l.initial.pass.count l.pass.reader l.pass.markets.market l.pass.count;
  apart : IsApart l.pass.markets.locates l.pass.markets.market l.pass.markets.own;
  fits : Fits l.pass.markets.locates l.request.selection (option_copied l.only);
}
