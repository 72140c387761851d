use Rattle.std.proofs.Common.{◌≡◌, ◌+◌, None, sym, ap, ◌∙◌, subst}
use Rattle.itch_day.specs.declared.limit.Limit.{Limit as DayLimit}
use Rattle.itch_day.specs.declared.stop.PartStop.TheVariants.{Late}
use Rattle.itch_day.specs.Parts.{ReadsPart}
use Rattle.itch_day.proofs.PassedBlocks.{stop_held}
use Rattle.itch_join.specs.Positions.{Position}
use Rattle.itch_join.specs.Takings.{MayTake, RefusesNumbered, TakesNumbered, position_of}
use Rattle.itch_commands.specs.FeedParts.{mismatch_of, of_day, part_of}
use Rattle.itch_commands.proofs.FeedReadings.{feed_ends, feed_late}
use Rattle.itch_commands.proofs.JoinedStocks.{number_there}
use Rattle.itch_commands.proofs.join.feed.read_feed.Goals as goal

pub pass_stop-requires : goal.pass_stop-requires
pass_stop-requires g c =
    let reads = c.read_part-stop.ensures.reads in
    stop_held g.R.CountedRead.remaining RefusesNumbered c.of_day-limit.result c.read_part-stop.new.reader c.read_part-stop.new.count reads.last c.read_part-stop.new.sink c.read_part-stop.result reads.stops

pub returns-in-Late : goal.returns-in-Late
returns-in-Late g c =
    let part = c.args.part in
    let first = c.args.joiner.now in
    let start = Position.next (position_of first.state) in
    let next = number_there first.state c.next.result c.unwrap-next.result c.requires.joined c.next.ensures c.unwrap-next.ensures in
    let fits : mismatch_of part start ≡ None = ap (mismatch_of part) (sym next) ∙ sym c.mismatch.ensures ∙ c.in_default.is in
    let limit : c.of_day-limit.result ≡ of_day part.before (part_of part start) = c.of_day-limit.ensures ∙ ap (of_day part.before) (c.wanted.ensures ∙ ap (part_of part) next) in
    let reads =
    subst (λ (l : DayLimit). ReadsPart g.R.CountedRead.remaining g.R.CountedRead.failures TakesNumbered RefusesNumbered l c.args.reader.now c.read_part-stop.new.reader part.before c.read_part-stop.new.count first Late c.read_part-stop.new.sink)
    limit (rw c.in-Late.is at c.read_part-stop.ensures.reads) in
    let ready : MayTake c.read_part-stop.new.sink (c.read_part-stop.new.count + 1) = rw c.in-Late.is at c.read_part-stop.ensures.ready in
    let there = number_there c.read_part-stop.new.sink.state c.next-in-Late.result c.unwrap.result ready.0 c.next-in-Late.ensures c.unwrap.ensures in
    rw (c.pass_stop.ensures, c.in-Late.is)
    (feed_late g.R.CountedRead.remaining g.R.CountedRead.failures part c.args.reader.now c.read_part-stop.new.reader c.read_part-stop.new.count first reads.last c.read_part-stop.new.sink reads.payloads c.requires.start fits reads.taken c.read_part-stop.ensures.few
    c.unwrap.result c.late_at.result reads.stops reads.leaves reads.counts ready there c.late_at.ensures)

pub returns-in_default-stop : goal.returns-in_default-stop
returns-in_default-stop g c =
    let part = c.args.part in
    let first = c.args.joiner.now in
    let start = Position.next (position_of first.state) in
    let why = c.read_part-stop.result in
    let next = number_there first.state c.next.result c.unwrap-next.result c.requires.joined c.next.ensures c.unwrap-next.ensures in
    let fits : mismatch_of part start ≡ None = ap (mismatch_of part) (sym next) ∙ sym c.mismatch.ensures ∙ c.in_default.is in
    let limit : c.of_day-limit.result ≡ of_day part.before (part_of part start) = c.of_day-limit.ensures ∙ ap (of_day part.before) (c.wanted.ensures ∙ ap (part_of part) next) in
    let reads =
    subst (λ (l : DayLimit). ReadsPart g.R.CountedRead.remaining g.R.CountedRead.failures TakesNumbered RefusesNumbered l c.args.reader.now c.read_part-stop.new.reader part.before c.read_part-stop.new.count first why c.read_part-stop.new.sink)
    limit c.read_part-stop.ensures.reads in
    rw (c.ended.ensures, c.reason_of.ensures, c.pass_stop.ensures, limit)
    (feed_ends g.R.CountedRead.remaining g.R.CountedRead.failures part c.args.reader.now c.read_part-stop.new.reader c.read_part-stop.new.count first reads.last c.read_part-stop.new.sink reads.payloads c.requires.start fits reads.taken c.read_part-stop.ensures.few
    why c.in_default-stop.not-Late reads.stops reads.leaves reads.counts c.read_part-stop.ensures.ready)
