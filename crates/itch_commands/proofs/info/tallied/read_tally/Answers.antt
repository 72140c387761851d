use Rattle.std.proofs.Common.{◌≡◌, Bool, List, ap, ◌∙◌}
use Rattle.itch_day.specs.DayCursors.{RefusesTracked}
use Rattle.itch_day.proofs.PassedBlocks.{stop_held}
use Rattle.itch_market.specs.Content.{Content}
use Rattle.itch_commands.specs.FirstDifferences.{over}
use Rattle.itch_commands.specs.declared.fault.Source.TheVariants.{Only}
use Rattle.itch_commands.specs.declared.info.events.Event.{Event}
use Rattle.itch_commands.specs.declared.info.tallied.TalliedMarket.{TalliedMarket}
use Rattle.itch_commands.specs.declared.info.tally.Tally.{Tally}
use Rattle.itch_commands.proofs.TalliedDays.{RefusesTallied, is_tally, read_before}
use Rattle.itch_commands.proofs.info.tallied.read_tally.Goals as goal

pub pass_stop-requires : goal.pass_stop-requires
pass_stop-requires g c =
    let T = TalliedMarket g.row.B.Denot g.row.B-Alloc.Denot in
    let market : T → Content = λ s. s.market in
    let tally : T → Tally = λ s. s.tally in
    let complete : T → Bool = λ s. s.events.is_complete in
    let events : T → List Event = λ s. s.events.events.items in
    let reads = c.read_part-stop.ensures.reads in
    stop_held g.R.CountedRead.remaining (RefusesTracked (RefusesTallied market tally complete events)) c.args.limit c.read_part-stop.new.reader c.read_part-stop.new.count reads.last c.read_part-stop.new.sink
    c.read_part-stop.result reads.stops

pub returns : goal.returns
returns g c =
    let T = TalliedMarket g.row.B.Denot g.row.B-Alloc.Denot in
    let market : T → Content = λ s. s.market in
    let tally : T → Tally = λ s. s.tally in
    let complete : T → Bool = λ s. s.events.is_complete in
    let events : T → List Event = λ s. s.events.events.items in
    let remaining = g.R.CountedRead.remaining in
    let failures = g.R.CountedRead.failures in
    let reads = c.read_part-stop.ensures.reads in
    let given = c.requires in (
      reads.payloads,
      rw c.pass_stop.ensures
          (read_before market tally complete events remaining failures c.args.limit c.args.reader.now c.read_part-stop.new.reader c.read_part-stop.new.count c.read_part-stop.ensures.few c.args.tally.now c.read_part-stop.new.sink
          c.read_part-stop.result reads given.cursor given.market c.ended.result (c.ended.ensures ∙ ap (λ stop. over stop c.args.limit Only c.read_part-stop.new.count) c.reason_of.ensures)),
      is_tally market tally complete events remaining failures c.args.limit c.args.reader.now c.read_part-stop.new.reader c.read_part-stop.new.count c.read_part-stop.ensures.few c.args.tally.now c.read_part-stop.new.sink
          c.read_part-stop.result reads given.cursor given.market given.tally given.complete given.events,
    )
