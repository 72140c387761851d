use Rattle.std.proofs.Common.{refl}
use Rattle.itch_market.specs.Takings.{RefusesMessage}
use Rattle.itch_market.proofs.DayParts.{is_part, is_part_left}
use Rattle.itch_day.proofs.PassedBlocks.{stop_held}
use Rattle.itch_market.proofs.replaying.replay_part.Goals as goal

pub pass_stop-requires : goal.pass_stop-requires
pass_stop-requires g c =
    let reads = c.read_part-stop.ensures.reads in
    stop_held g.R.CountedRead.remaining RefusesMessage c.args.limit c.read_part-stop.new.reader c.read_part-stop.new.count reads.last c.read_part-stop.new.sink c.read_part-stop.result reads.stops

pub returns : goal.returns
returns g c =
    let reads = c.read_part-stop.ensures.reads in
    let left = is_part_left _ _ c.args.limit _ _ _ _ _ _ _ refl reads in
    record {
      part = rw (c.reason_of.ensures, c.pass_stop.ensures)
          (is_part _ _ c.args.limit _ _ _ _ _ _ _ c.recall_invariant.ensures.good c.recall_invariant.ensures.in_order refl reads c.read_part-stop.ensures.few);
      failures = rw (c.reason_of.ensures, c.pass_stop.ensures) left.1;
      reader = rw (c.reason_of.ensures, c.pass_stop.ensures) left.0;
    }
