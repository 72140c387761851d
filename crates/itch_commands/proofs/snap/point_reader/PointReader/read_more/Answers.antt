use Rattle.std.proofs.Common.{◌≡◌, ◌+◌, ◌-◌, ◌^◌, min, Some, refl, ap, ◌∙◌}
use Rattle.itch_day.specs.Limits.{counted}
use Rattle.itch_commands.proofs.PointPasses.{fails_there, more_there, short_there, whole_there}
use Rattle.itch_commands.proofs.snap.point_reader.PointReader.read_more.Goals as goal

pub returns-in-Ok-clause-reads : goal.returns-in-Ok-clause-reads
returns-in-Ok-clause-reads g c =
    let now = c.args.self.now in
    let new = c.read_to.new.self in
    let is : c.counted.result ≡ counted (Some (min (now.tracked.cursor.count + c.args.count) (2 ^ 64 - 1))) = c.counted.ensures ∙ ap (λ k. counted (Some k)) c.saturating_add-most.ensures in
    more_there _ _ _ c.counted.result is new.first.value new.reader new.tracked new.few new.stop.value c.read_to.ensures.stands new.limit.value c.read_to.ensures.limit _ c.in-Ok.ensures.reads

pub returns-in-Err-Short-clause-stands : goal.returns-in-Err-Short-clause-stands
returns-in-Err-Short-clause-stands g c =
    let now = c.args.self.now in
    let new = c.read_to.new.self in
    let is : c.counted.result ≡ counted (Some (min (now.tracked.cursor.count + c.args.count) (2 ^ 64 - 1))) = c.counted.ensures ∙ ap (λ k. counted (Some k)) c.saturating_add-most.ensures in
    whole_there _ _ _ c.counted.result is new.first.value new.reader new.tracked new.few new.stop.value c.read_to.ensures.stands c.of.result.value (c.of.ensures ∙ c.whole.ensures)
    c.in-Err-Short.field-0 _ _ c.in-Err-Short.field-0-is c.in-Err-Short.ensures.reads

pub returns-in-Err-Short-clause-reads : goal.returns-in-Err-Short-clause-reads
returns-in-Err-Short-clause-reads g c =
    let now = c.args.self.now in
    let new = c.read_to.new.self in
    let is : c.counted.result ≡ counted (Some (min (now.tracked.cursor.count + c.args.count) (2 ^ 64 - 1))) = c.counted.ensures ∙ ap (λ k. counted (Some k)) c.saturating_add-most.ensures in
    short_there _ _ _ c.counted.result is new.first.value new.reader new.tracked new.few new.stop.value c.read_to.ensures.stands c.of.result.value (c.of.ensures ∙ c.whole.ensures)
    c.in-Err-Short.field-0 _ _ c.in-Err-Short.field-0-is c.in-Err-Short.ensures.reads

pub returns-in-Err-clause-reads : goal.returns-in-Err-clause-reads
returns-in-Err-clause-reads g c =
    let now = c.args.self.now in
    let new = c.read_to.new.self in
    let is : c.counted.result ≡ counted (Some (min (now.tracked.cursor.count + c.args.count) (2 ^ 64 - 1))) = c.counted.ensures ∙ ap (λ k. counted (Some k)) c.saturating_add-most.ensures in
    fails_there _ _ _ c.counted.result is new.first.value new.reader new.tracked new.few new.stop.value c.read_to.ensures.stands new.limit.value c.read_to.ensures.limit c.in-Err.fault c.in-Err.ensures.reads
