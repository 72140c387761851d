use Rattle.std.proofs.Common.{None, inl}
use Rattle.itch_snapshot.proofs.DaySnapshots.{taken_few, parts-laid}
use Rattle.itch_market.proofs.DayMessages.{taken_good}
use Rattle.itch_day.specs.Limits.{counted}
use Rattle.itchsnap_c.specs.Files.{market_of}
use Rattle.itchsnap_c.proofs.files.itchsnap_compare.Goals as goal

pub part_place-requires : goal.part_place-requires
part_place-requires c = let one = c.in-Ok.ensures.read in taken_few (counted None) one.0 c.in-Ok.market one.1.2 one.1.0 one.2

pub returns-in-Ok-read_day : goal.returns-in-Ok-read_day
returns-in-Ok-read_day c =
    let one = c.in-Ok.ensures.read in
    let other = c.in-Ok-read_day.ensures.read in
    inl (
      one.0,
      other.0,
      c.part_place.result,
      one.1,
      other.1,
      parts-laid (market_of one.0) (market_of other.0) c.in-Ok.market c.in-Ok-read_day.other c.part_place.result
          (taken_good (counted None) one.0 one.1.2 one.1.0) (taken_good (counted None) other.0 other.1.2 other.1.0) one.2 other.2 c.part_place.ensures.place c.part_place.ensures.none,
      c.same_or_not.ensures,
    )
