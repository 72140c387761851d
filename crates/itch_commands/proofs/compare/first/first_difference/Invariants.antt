use Rattle.std.proofs.Common.{◌≡◌, false}
use Rattle.itch_market.specs.Plain.{nothing}
use Rattle.itch_commands.specs.Changes.{plainest}
use Rattle.itch_commands.proofs.FirstDifferences.{Paired}
use Rattle.itch_commands.proofs.compare.first.first_difference.Given as goal

abbrev pub invariant-loop-count : goal.invariant-loop-count
invariant-loop-count g l =
    record {
      paired : Paired g.R.CountedRead.remaining g.R.CountedRead.failures g.S.CountedRead.remaining g.S.CountedRead.failures l.fn.limit l.initial.first l.initial.second l.first l.second l.count l.count l.one_goes
          l.other_goes l.one.market l.other.market;
      one_over : l.one_goes ≡ false → plainest l.one.has_change l.one.change ≡ nothing;
      other_over : l.other_goes ≡ false → plainest l.other.has_change l.other.change ≡ nothing;
    }
