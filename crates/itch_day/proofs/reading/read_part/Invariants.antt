use Rattle.std.proofs.Common.{◌+◌, ◌-◌, ◌^◌, ◌≤◌}
use Rattle.itch_day.specs.Limits.{most_of}
use Rattle.itch_day.specs.Parts.{TakesSome}
use Rattle.itch_day.proofs.reading.read_part.Given as goal

abbrev pub invariant-loop-count : goal.invariant-loop-count
invariant-loop-count g l =
    record {
      going : TakesSome g.R.CountedRead.remaining g.R.CountedRead.failures g.T.Sink.takes l.fn.limit l.initial.reader l.reader l.initial.count l.count l.initial.sink l.sink;
      few : l.count ≤ 10 ^ 19 - 1;
      ready : g.T.Sink.is_ready l.sink (l.count + 1);
    }

abbrev pub decreases-loop-count : goal.decreases-loop-count
decreases-loop-count g l = most_of l.fn.limit.after - l.count
