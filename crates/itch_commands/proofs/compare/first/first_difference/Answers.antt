use Rattle.std.proofs.Common.{◌≡◌, false, refl, sym, ap, ◌∙◌, arith}
use Rattle.std.proofs.lemmas.Result.{err_from_is_err_and}
use Rattle.itch_codec.specs.declared.message.Message.{Message}
use Rattle.itch_market.specs.Content.{Content}
use Rattle.itch_market.specs.Plain.{nothing}
use Rattle.itch_day.specs.Passing.{left_by}
use Rattle.itch_commands.specs.Changes.{plainest}
use Rattle.itch_commands.specs.declared.fault.Source.TheVariants.{First, Second}
use Rattle.itch_commands.specs.declared.compare.tracked.TrackedMarket.{TrackedMarket}
use Rattle.itch_commands.proofs.TrackedMarkets.{Changed}
use Rattle.itch_commands.proofs.FirstDifferences.{StandsOn, along, paired_first, first_refused, second_refused, both_on, alike_on, paired_few, still_same, differ_now, same_to_the_end, both_over, took_none, took_one, was_over, was_refused, within_more}
use Rattle.itch_commands.proofs.PartReadings.{before_most}
use Rattle.itch_commands.proofs.compare.first.first_difference.Goals as goal
use Rattle.itch_commands.proofs.compare.first.first_difference.Goals.{then-one_goes+in-Full, then-one_goes+in_default+in_ok-over-in_default, else-one_goes}
use Rattle.itch_commands.proofs.compare.first.first_difference.Goals.{then-other_goes+in-Full-read_part, then-other_goes+in_default-read_part+in_ok-over-in_default-read_part, else-other_goes}

pub loop-count-init : goal.loop-count-init
loop-count-init g c = record {
  paired = paired_first _ _ _ _ _ _ _ _ _ c.new-one.ensures c.new-other.ensures;
  one_over = λ over. absurd (cc);
  other_over = λ over. absurd (cc);
}

pub returns-then-not-other_goes : goal.returns-then-not-other_goes
returns-then-not-other_goes g c = both_over _ _ _ _ _ _ _ _ _ _ _ _ _ _ c.if-not-one_goes.true c.if-not-other_goes.true c.loop-count.invariant.paired

pub returns-in_err-over-in_default : goal.returns-in_err-over-in_default
returns-in_err-over-in_default g c =
    let p = err_from_is_err_and c.from_residual.result c.from_residual.ensures.1 in
    let limit = c.args.limit in
    let count = c.loop-count.count in
    let before = before_most limit.after count (rw c.most-count-end.ensures at c.loop-count-test.true) in
    let paired = c.loop-count.invariant.paired in
    let T = TrackedMarket g.row.B.Denot g.row.B-Alloc.Denot in
    let market : T → Content = λ s. s.market in
    let change : T → Message = λ s. plainest s.has_change s.change in
    let R = g.R.CountedRead.remaining in
    let failed = g.R.CountedRead.failures in
    let S = g.S.CountedRead.remaining in
    let failed_then = g.S.CountedRead.failures in
    let fault = c.in_err-over-in_default.field-0.0 in
    let refused =
    was_refused R failed First limit market change c.loop-count.one_goes c.args.first.now c.loop-count.first c.read_part.new.reader count c.read_part.new.count paired.p c.loop-count.one c.read_part.new.sink c.read_part.result
    c.if-one_goes.true paired.one c.read_part.ensures.reads c.read_part.ensures.few c.in_default.not-Full before fault (sym c.over.ensures.result ∙ c.in_err-over-in_default.was) in
    rw (p.1, p.2) (rw c.over.ensures.reader (first_refused _ _ _ _ _ _ _ _ _ _ _ _ _ _ before paired (left_by c.read_part.result c.read_part.new.reader) fault refused))

pub returns-in_err-over-in_default-read_part : goal.returns-in_err-over-in_default-read_part
returns-in_err-over-in_default-read_part g c =
    let p = err_from_is_err_and c.from_residual-in_err-over-in_default-read_part.result c.from_residual-in_err-over-in_default-read_part.ensures.1 in
    let limit = c.args.limit in
    let count = c.loop-count.count in
    let before = before_most limit.after count (rw c.most-count-end.ensures at c.loop-count-test.true) in
    let paired = c.loop-count.invariant.paired in
    let T = TrackedMarket g.row.B.Denot g.row.B-Alloc.Denot in
    let market : T → Content = λ s. s.market in
    let change : T → Message = λ s. plainest s.has_change s.change in
    let R = g.R.CountedRead.remaining in
    let failed = g.R.CountedRead.failures in
    let S = g.S.CountedRead.remaining in
    let failed_then = g.S.CountedRead.failures in
    let one : StandsOn R failed First limit c.if-one_goes.one_goes c.args.first.now c.if-one_goes.first count paired.p c.if-one_goes.one.market × Changed c.loop-count.one.market (plainest c.if-one_goes.one.has_change c.if-one_goes.one.change) c.if-one_goes.one.market =
    elim c.if-one_goes.branch [
      | then-one_goes+in-Full w ↦ along R failed First limit market change c.args.first.now w.read_part.new.reader c.if-one_goes.first count paired.p c.loop-count.one.market _ c.if-one_goes.one_goes w.read_part.new.sink c.if-one_goes.one
          (w.one_goes-is ∙ w.if-one_goes.true) w.first-is w.one-is
          (took_one R failed First limit market change c.loop-count.one_goes c.args.first.now c.loop-count.first w.read_part.new.reader count w.read_part.new.count paired.p c.loop-count.one w.read_part.new.sink w.read_part.result
          w.if-one_goes.true paired.one w.read_part.ensures.reads w.read_part.ensures.few w.in-Full.is)
      | then-one_goes+in_default+in_ok-over-in_default w ↦ along R failed First limit market change c.args.first.now (left_by w.read_part.result w.read_part.new.reader) c.if-one_goes.first count paired.p c.loop-count.one.market _ c.if-one_goes.one_goes
          (record { market = w.read_part.new.sink.market; has_change = w.over.new.has_change; change = w.read_part.new.sink.change }) c.if-one_goes.one w.one_goes-is (w.first-is ∙ w.over.ensures.reader) w.one-is
          (took_none R failed First limit market change c.loop-count.one_goes c.args.first.now c.loop-count.first w.read_part.new.reader count w.read_part.new.count paired.p c.loop-count.one w.read_part.new.sink w.read_part.result
          w.if-one_goes.true paired.one w.read_part.ensures.reads w.read_part.ensures.few w.in_default.not-Full before (sym w.over.ensures.result ∙ w.in_ok-over-in_default.was) (plainest w.over.new.has_change w.read_part.new.sink.change) (ap (λ has. plainest has w.read_part.new.sink.change) w.over.ensures.change))
      | else-one_goes w ↦ along R failed First limit market change c.args.first.now c.loop-count.first c.if-one_goes.first count paired.p c.loop-count.one.market c.loop-count.one_goes c.if-one_goes.one_goes c.loop-count.one c.if-one_goes.one
          w.one_goes-is w.first-is w.one-is
          (was_over R failed First limit market change c.loop-count.one_goes c.args.first.now c.loop-count.first count paired.p c.loop-count.one w.if-one_goes.false paired.one
          (c.loop-count.invariant.one_over w.if-one_goes.false))
    ] in
    let fault = c.in_err-over-in_default-read_part.field-0.0 in
    let refused =
    was_refused S failed_then Second limit market change c.loop-count.other_goes c.args.second.now c.loop-count.second c.read_part-then-other_goes.new.reader count c.read_part-then-other_goes.new.count paired.q c.loop-count.other c.read_part-then-other_goes.new.sink c.read_part-then-other_goes.result
    c.if-other_goes.true paired.other c.read_part-then-other_goes.ensures.reads c.read_part-then-other_goes.ensures.few c.in_default-read_part.not-Full before fault (sym c.over-in_default-read_part.ensures.result ∙ c.in_err-over-in_default-read_part.was) in
    rw (p.1, p.2)
    (rw c.over-in_default-read_part.ensures.reader
    (second_refused _ _ _ _ _ _ _ _ _ _ _ _ _ _ before paired c.if-one_goes.first c.if-one_goes.one_goes c.if-one_goes.one.market one.0 (left_by c.read_part-then-other_goes.result c.read_part-then-other_goes.new.reader) fault refused))

pub still_same-requires-clause-few : goal.still_same-requires-clause-few
still_same-requires-clause-few g c =
    let limit = c.args.limit in
    let count = c.loop-count.count in
    let before = before_most limit.after count (rw c.most-count-end.ensures at c.loop-count-test.true) in
    let paired = c.loop-count.invariant.paired in
    let T = TrackedMarket g.row.B.Denot g.row.B-Alloc.Denot in
    let market : T → Content = λ s. s.market in
    let change : T → Message = λ s. plainest s.has_change s.change in
    let R = g.R.CountedRead.remaining in
    let failed = g.R.CountedRead.failures in
    let S = g.S.CountedRead.remaining in
    let failed_then = g.S.CountedRead.failures in
    let one : StandsOn R failed First limit c.if-one_goes.one_goes c.args.first.now c.if-one_goes.first count paired.p c.if-one_goes.one.market × Changed c.loop-count.one.market (plainest c.if-one_goes.one.has_change c.if-one_goes.one.change) c.if-one_goes.one.market =
    elim c.if-one_goes.branch [
      | then-one_goes+in-Full w ↦ along R failed First limit market change c.args.first.now w.read_part.new.reader c.if-one_goes.first count paired.p c.loop-count.one.market _ c.if-one_goes.one_goes w.read_part.new.sink c.if-one_goes.one
          (w.one_goes-is ∙ w.if-one_goes.true) w.first-is w.one-is
          (took_one R failed First limit market change c.loop-count.one_goes c.args.first.now c.loop-count.first w.read_part.new.reader count w.read_part.new.count paired.p c.loop-count.one w.read_part.new.sink w.read_part.result
          w.if-one_goes.true paired.one w.read_part.ensures.reads w.read_part.ensures.few w.in-Full.is)
      | then-one_goes+in_default+in_ok-over-in_default w ↦ along R failed First limit market change c.args.first.now (left_by w.read_part.result w.read_part.new.reader) c.if-one_goes.first count paired.p c.loop-count.one.market _ c.if-one_goes.one_goes
          (record { market = w.read_part.new.sink.market; has_change = w.over.new.has_change; change = w.read_part.new.sink.change }) c.if-one_goes.one w.one_goes-is (w.first-is ∙ w.over.ensures.reader) w.one-is
          (took_none R failed First limit market change c.loop-count.one_goes c.args.first.now c.loop-count.first w.read_part.new.reader count w.read_part.new.count paired.p c.loop-count.one w.read_part.new.sink w.read_part.result
          w.if-one_goes.true paired.one w.read_part.ensures.reads w.read_part.ensures.few w.in_default.not-Full before (sym w.over.ensures.result ∙ w.in_ok-over-in_default.was) (plainest w.over.new.has_change w.read_part.new.sink.change) (ap (λ has. plainest has w.read_part.new.sink.change) w.over.ensures.change))
      | else-one_goes w ↦ along R failed First limit market change c.args.first.now c.loop-count.first c.if-one_goes.first count paired.p c.loop-count.one.market c.loop-count.one_goes c.if-one_goes.one_goes c.loop-count.one c.if-one_goes.one
          w.one_goes-is w.first-is w.one-is
          (was_over R failed First limit market change c.loop-count.one_goes c.args.first.now c.loop-count.first count paired.p c.loop-count.one w.if-one_goes.false paired.one
          (c.loop-count.invariant.one_over w.if-one_goes.false))
    ] in
    let other : StandsOn S failed_then Second limit c.if-other_goes.other_goes c.args.second.now c.if-other_goes.second count paired.q c.if-other_goes.other.market × Changed c.loop-count.other.market (plainest c.if-other_goes.other.has_change c.if-other_goes.other.change) c.if-other_goes.other.market =
    elim c.if-other_goes.branch [
      | then-other_goes+in-Full-read_part w ↦ along S failed_then Second limit market change c.args.second.now w.read_part-then-other_goes.new.reader c.if-other_goes.second count paired.q c.loop-count.other.market _ c.if-other_goes.other_goes w.read_part-then-other_goes.new.sink c.if-other_goes.other
          (w.other_goes-is ∙ w.if-other_goes.true) w.second-is w.other-is
          (took_one S failed_then Second limit market change c.loop-count.other_goes c.args.second.now c.loop-count.second w.read_part-then-other_goes.new.reader count w.read_part-then-other_goes.new.count paired.q c.loop-count.other w.read_part-then-other_goes.new.sink w.read_part-then-other_goes.result
          w.if-other_goes.true paired.other w.read_part-then-other_goes.ensures.reads w.read_part-then-other_goes.ensures.few w.in-Full-read_part.is)
      | then-other_goes+in_default-read_part+in_ok-over-in_default-read_part w ↦ along S failed_then Second limit market change c.args.second.now (left_by w.read_part-then-other_goes.result w.read_part-then-other_goes.new.reader) c.if-other_goes.second count paired.q c.loop-count.other.market _ c.if-other_goes.other_goes
          (record { market = w.read_part-then-other_goes.new.sink.market; has_change = w.over-in_default-read_part.new.has_change; change = w.read_part-then-other_goes.new.sink.change }) c.if-other_goes.other w.other_goes-is (w.second-is ∙ w.over-in_default-read_part.ensures.reader) w.other-is
          (took_none S failed_then Second limit market change c.loop-count.other_goes c.args.second.now c.loop-count.second w.read_part-then-other_goes.new.reader count w.read_part-then-other_goes.new.count paired.q c.loop-count.other w.read_part-then-other_goes.new.sink w.read_part-then-other_goes.result
          w.if-other_goes.true paired.other w.read_part-then-other_goes.ensures.reads w.read_part-then-other_goes.ensures.few w.in_default-read_part.not-Full before (sym w.over-in_default-read_part.ensures.result ∙ w.in_ok-over-in_default-read_part.was) (plainest w.over-in_default-read_part.new.has_change w.read_part-then-other_goes.new.sink.change) (ap (λ has. plainest has w.read_part-then-other_goes.new.sink.change) w.over-in_default-read_part.ensures.change))
      | else-other_goes w ↦ along S failed_then Second limit market change c.args.second.now c.loop-count.second c.if-other_goes.second count paired.q c.loop-count.other.market c.loop-count.other_goes c.if-other_goes.other_goes c.loop-count.other c.if-other_goes.other
          w.other_goes-is w.second-is w.other-is
          (was_over S failed_then Second limit market change c.loop-count.other_goes c.args.second.now c.loop-count.second count paired.q c.loop-count.other w.if-other_goes.false paired.other
          (c.loop-count.invariant.other_over w.if-other_goes.false))
    ] in
    paired_few _ _ _ _ _ _ _ _ _ _ _ _ _ _ _ (both_on _ _ _ _ _ _ _ _ _ _ _ _ _ _ before paired c.if-one_goes.first c.if-one_goes.one_goes c.if-one_goes.one.market one.0 c.if-other_goes.second c.if-other_goes.other_goes c.if-other_goes.other.market other.0)

pub still_same-requires-clause-alike : goal.still_same-requires-clause-alike
still_same-requires-clause-alike g c =
    let limit = c.args.limit in
    let count = c.loop-count.count in
    let before = before_most limit.after count (rw c.most-count-end.ensures at c.loop-count-test.true) in
    let paired = c.loop-count.invariant.paired in
    let T = TrackedMarket g.row.B.Denot g.row.B-Alloc.Denot in
    let market : T → Content = λ s. s.market in
    let change : T → Message = λ s. plainest s.has_change s.change in
    let R = g.R.CountedRead.remaining in
    let failed = g.R.CountedRead.failures in
    let S = g.S.CountedRead.remaining in
    let failed_then = g.S.CountedRead.failures in
    let one : StandsOn R failed First limit c.if-one_goes.one_goes c.args.first.now c.if-one_goes.first count paired.p c.if-one_goes.one.market × Changed c.loop-count.one.market (plainest c.if-one_goes.one.has_change c.if-one_goes.one.change) c.if-one_goes.one.market =
    elim c.if-one_goes.branch [
      | then-one_goes+in-Full w ↦ along R failed First limit market change c.args.first.now w.read_part.new.reader c.if-one_goes.first count paired.p c.loop-count.one.market _ c.if-one_goes.one_goes w.read_part.new.sink c.if-one_goes.one
          (w.one_goes-is ∙ w.if-one_goes.true) w.first-is w.one-is
          (took_one R failed First limit market change c.loop-count.one_goes c.args.first.now c.loop-count.first w.read_part.new.reader count w.read_part.new.count paired.p c.loop-count.one w.read_part.new.sink w.read_part.result
          w.if-one_goes.true paired.one w.read_part.ensures.reads w.read_part.ensures.few w.in-Full.is)
      | then-one_goes+in_default+in_ok-over-in_default w ↦ along R failed First limit market change c.args.first.now (left_by w.read_part.result w.read_part.new.reader) c.if-one_goes.first count paired.p c.loop-count.one.market _ c.if-one_goes.one_goes
          (record { market = w.read_part.new.sink.market; has_change = w.over.new.has_change; change = w.read_part.new.sink.change }) c.if-one_goes.one w.one_goes-is (w.first-is ∙ w.over.ensures.reader) w.one-is
          (took_none R failed First limit market change c.loop-count.one_goes c.args.first.now c.loop-count.first w.read_part.new.reader count w.read_part.new.count paired.p c.loop-count.one w.read_part.new.sink w.read_part.result
          w.if-one_goes.true paired.one w.read_part.ensures.reads w.read_part.ensures.few w.in_default.not-Full before (sym w.over.ensures.result ∙ w.in_ok-over-in_default.was) (plainest w.over.new.has_change w.read_part.new.sink.change) (ap (λ has. plainest has w.read_part.new.sink.change) w.over.ensures.change))
      | else-one_goes w ↦ along R failed First limit market change c.args.first.now c.loop-count.first c.if-one_goes.first count paired.p c.loop-count.one.market c.loop-count.one_goes c.if-one_goes.one_goes c.loop-count.one c.if-one_goes.one
          w.one_goes-is w.first-is w.one-is
          (was_over R failed First limit market change c.loop-count.one_goes c.args.first.now c.loop-count.first count paired.p c.loop-count.one w.if-one_goes.false paired.one
          (c.loop-count.invariant.one_over w.if-one_goes.false))
    ] in
    let other : StandsOn S failed_then Second limit c.if-other_goes.other_goes c.args.second.now c.if-other_goes.second count paired.q c.if-other_goes.other.market × Changed c.loop-count.other.market (plainest c.if-other_goes.other.has_change c.if-other_goes.other.change) c.if-other_goes.other.market =
    elim c.if-other_goes.branch [
      | then-other_goes+in-Full-read_part w ↦ along S failed_then Second limit market change c.args.second.now w.read_part-then-other_goes.new.reader c.if-other_goes.second count paired.q c.loop-count.other.market _ c.if-other_goes.other_goes w.read_part-then-other_goes.new.sink c.if-other_goes.other
          (w.other_goes-is ∙ w.if-other_goes.true) w.second-is w.other-is
          (took_one S failed_then Second limit market change c.loop-count.other_goes c.args.second.now c.loop-count.second w.read_part-then-other_goes.new.reader count w.read_part-then-other_goes.new.count paired.q c.loop-count.other w.read_part-then-other_goes.new.sink w.read_part-then-other_goes.result
          w.if-other_goes.true paired.other w.read_part-then-other_goes.ensures.reads w.read_part-then-other_goes.ensures.few w.in-Full-read_part.is)
      | then-other_goes+in_default-read_part+in_ok-over-in_default-read_part w ↦ along S failed_then Second limit market change c.args.second.now (left_by w.read_part-then-other_goes.result w.read_part-then-other_goes.new.reader) c.if-other_goes.second count paired.q c.loop-count.other.market _ c.if-other_goes.other_goes
          (record { market = w.read_part-then-other_goes.new.sink.market; has_change = w.over-in_default-read_part.new.has_change; change = w.read_part-then-other_goes.new.sink.change }) c.if-other_goes.other w.other_goes-is (w.second-is ∙ w.over-in_default-read_part.ensures.reader) w.other-is
          (took_none S failed_then Second limit market change c.loop-count.other_goes c.args.second.now c.loop-count.second w.read_part-then-other_goes.new.reader count w.read_part-then-other_goes.new.count paired.q c.loop-count.other w.read_part-then-other_goes.new.sink w.read_part-then-other_goes.result
          w.if-other_goes.true paired.other w.read_part-then-other_goes.ensures.reads w.read_part-then-other_goes.ensures.few w.in_default-read_part.not-Full before (sym w.over-in_default-read_part.ensures.result ∙ w.in_ok-over-in_default-read_part.was) (plainest w.over-in_default-read_part.new.has_change w.read_part-then-other_goes.new.sink.change) (ap (λ has. plainest has w.read_part-then-other_goes.new.sink.change) w.over-in_default-read_part.ensures.change))
      | else-other_goes w ↦ along S failed_then Second limit market change c.args.second.now c.loop-count.second c.if-other_goes.second count paired.q c.loop-count.other.market c.loop-count.other_goes c.if-other_goes.other_goes c.loop-count.other c.if-other_goes.other
          w.other_goes-is w.second-is w.other-is
          (was_over S failed_then Second limit market change c.loop-count.other_goes c.args.second.now c.loop-count.second count paired.q c.loop-count.other w.if-other_goes.false paired.other
          (c.loop-count.invariant.other_over w.if-other_goes.false))
    ] in
    λ alike. alike_on _ _ _ _ _ _ _ _ _ _ _ _ _ _ before paired c.if-one_goes.one.market c.if-other_goes.other.market (plainest c.if-one_goes.one.has_change c.if-one_goes.one.change) (plainest c.if-other_goes.other.has_change c.if-other_goes.other.change) one.1 other.1 alike

pub returns-then-not-still_same : goal.returns-then-not-still_same
returns-then-not-still_same g c =
    let limit = c.args.limit in
    let count = c.loop-count.count in
    let before = before_most limit.after count (rw c.most-count-end.ensures at c.loop-count-test.true) in
    let paired = c.loop-count.invariant.paired in
    let T = TrackedMarket g.row.B.Denot g.row.B-Alloc.Denot in
    let market : T → Content = λ s. s.market in
    let change : T → Message = λ s. plainest s.has_change s.change in
    let R = g.R.CountedRead.remaining in
    let failed = g.R.CountedRead.failures in
    let S = g.S.CountedRead.remaining in
    let failed_then = g.S.CountedRead.failures in
    let one : StandsOn R failed First limit c.if-one_goes.one_goes c.args.first.now c.if-one_goes.first count paired.p c.if-one_goes.one.market × Changed c.loop-count.one.market (plainest c.if-one_goes.one.has_change c.if-one_goes.one.change) c.if-one_goes.one.market =
    elim c.if-one_goes.branch [
      | then-one_goes+in-Full w ↦ along R failed First limit market change c.args.first.now w.read_part.new.reader c.if-one_goes.first count paired.p c.loop-count.one.market _ c.if-one_goes.one_goes w.read_part.new.sink c.if-one_goes.one
          (w.one_goes-is ∙ w.if-one_goes.true) w.first-is w.one-is
          (took_one R failed First limit market change c.loop-count.one_goes c.args.first.now c.loop-count.first w.read_part.new.reader count w.read_part.new.count paired.p c.loop-count.one w.read_part.new.sink w.read_part.result
          w.if-one_goes.true paired.one w.read_part.ensures.reads w.read_part.ensures.few w.in-Full.is)
      | then-one_goes+in_default+in_ok-over-in_default w ↦ along R failed First limit market change c.args.first.now (left_by w.read_part.result w.read_part.new.reader) c.if-one_goes.first count paired.p c.loop-count.one.market _ c.if-one_goes.one_goes
          (record { market = w.read_part.new.sink.market; has_change = w.over.new.has_change; change = w.read_part.new.sink.change }) c.if-one_goes.one w.one_goes-is (w.first-is ∙ w.over.ensures.reader) w.one-is
          (took_none R failed First limit market change c.loop-count.one_goes c.args.first.now c.loop-count.first w.read_part.new.reader count w.read_part.new.count paired.p c.loop-count.one w.read_part.new.sink w.read_part.result
          w.if-one_goes.true paired.one w.read_part.ensures.reads w.read_part.ensures.few w.in_default.not-Full before (sym w.over.ensures.result ∙ w.in_ok-over-in_default.was) (plainest w.over.new.has_change w.read_part.new.sink.change) (ap (λ has. plainest has w.read_part.new.sink.change) w.over.ensures.change))
      | else-one_goes w ↦ along R failed First limit market change c.args.first.now c.loop-count.first c.if-one_goes.first count paired.p c.loop-count.one.market c.loop-count.one_goes c.if-one_goes.one_goes c.loop-count.one c.if-one_goes.one
          w.one_goes-is w.first-is w.one-is
          (was_over R failed First limit market change c.loop-count.one_goes c.args.first.now c.loop-count.first count paired.p c.loop-count.one w.if-one_goes.false paired.one
          (c.loop-count.invariant.one_over w.if-one_goes.false))
    ] in
    let other : StandsOn S failed_then Second limit c.if-other_goes.other_goes c.args.second.now c.if-other_goes.second count paired.q c.if-other_goes.other.market × Changed c.loop-count.other.market (plainest c.if-other_goes.other.has_change c.if-other_goes.other.change) c.if-other_goes.other.market =
    elim c.if-other_goes.branch [
      | then-other_goes+in-Full-read_part w ↦ along S failed_then Second limit market change c.args.second.now w.read_part-then-other_goes.new.reader c.if-other_goes.second count paired.q c.loop-count.other.market _ c.if-other_goes.other_goes w.read_part-then-other_goes.new.sink c.if-other_goes.other
          (w.other_goes-is ∙ w.if-other_goes.true) w.second-is w.other-is
          (took_one S failed_then Second limit market change c.loop-count.other_goes c.args.second.now c.loop-count.second w.read_part-then-other_goes.new.reader count w.read_part-then-other_goes.new.count paired.q c.loop-count.other w.read_part-then-other_goes.new.sink w.read_part-then-other_goes.result
          w.if-other_goes.true paired.other w.read_part-then-other_goes.ensures.reads w.read_part-then-other_goes.ensures.few w.in-Full-read_part.is)
      | then-other_goes+in_default-read_part+in_ok-over-in_default-read_part w ↦ along S failed_then Second limit market change c.args.second.now (left_by w.read_part-then-other_goes.result w.read_part-then-other_goes.new.reader) c.if-other_goes.second count paired.q c.loop-count.other.market _ c.if-other_goes.other_goes
          (record { market = w.read_part-then-other_goes.new.sink.market; has_change = w.over-in_default-read_part.new.has_change; change = w.read_part-then-other_goes.new.sink.change }) c.if-other_goes.other w.other_goes-is (w.second-is ∙ w.over-in_default-read_part.ensures.reader) w.other-is
          (took_none S failed_then Second limit market change c.loop-count.other_goes c.args.second.now c.loop-count.second w.read_part-then-other_goes.new.reader count w.read_part-then-other_goes.new.count paired.q c.loop-count.other w.read_part-then-other_goes.new.sink w.read_part-then-other_goes.result
          w.if-other_goes.true paired.other w.read_part-then-other_goes.ensures.reads w.read_part-then-other_goes.ensures.few w.in_default-read_part.not-Full before (sym w.over-in_default-read_part.ensures.result ∙ w.in_ok-over-in_default-read_part.was) (plainest w.over-in_default-read_part.new.has_change w.read_part-then-other_goes.new.sink.change) (ap (λ has. plainest has w.read_part-then-other_goes.new.sink.change) w.over-in_default-read_part.ensures.change))
      | else-other_goes w ↦ along S failed_then Second limit market change c.args.second.now c.loop-count.second c.if-other_goes.second count paired.q c.loop-count.other.market c.loop-count.other_goes c.if-other_goes.other_goes c.loop-count.other c.if-other_goes.other
          w.other_goes-is w.second-is w.other-is
          (was_over S failed_then Second limit market change c.loop-count.other_goes c.args.second.now c.loop-count.second count paired.q c.loop-count.other w.if-other_goes.false paired.other
          (c.loop-count.invariant.other_over w.if-other_goes.false))
    ] in
    differ_now _ _ _ _ _ _ _ _ _ _ _ _ _ _ _ (both_on _ _ _ _ _ _ _ _ _ _ _ _ _ _ before paired c.if-one_goes.first c.if-one_goes.one_goes c.if-one_goes.one.market one.0 c.if-other_goes.second c.if-other_goes.other_goes c.if-other_goes.other.market other.0) refl (within_more limit.after count before) (λ same. let no = c.if-not-still_same.ensures.same.1 same in cc)

pub loop-count-preserved : goal.loop-count-preserved
loop-count-preserved g c =
    let limit = c.args.limit in
    let count = c.loop-count.count in
    let before = before_most limit.after count (rw c.most-count-end.ensures at c.loop-count-test.true) in
    let paired = c.loop-count.invariant.paired in
    let T = TrackedMarket g.row.B.Denot g.row.B-Alloc.Denot in
    let market : T → Content = λ s. s.market in
    let change : T → Message = λ s. plainest s.has_change s.change in
    let R = g.R.CountedRead.remaining in
    let failed = g.R.CountedRead.failures in
    let S = g.S.CountedRead.remaining in
    let failed_then = g.S.CountedRead.failures in
    let one : StandsOn R failed First limit c.if-one_goes.one_goes c.args.first.now c.if-one_goes.first count paired.p c.if-one_goes.one.market × Changed c.loop-count.one.market (plainest c.if-one_goes.one.has_change c.if-one_goes.one.change) c.if-one_goes.one.market =
    elim c.if-one_goes.branch [
      | then-one_goes+in-Full w ↦ along R failed First limit market change c.args.first.now w.read_part.new.reader c.if-one_goes.first count paired.p c.loop-count.one.market _ c.if-one_goes.one_goes w.read_part.new.sink c.if-one_goes.one
          (w.one_goes-is ∙ w.if-one_goes.true) w.first-is w.one-is
          (took_one R failed First limit market change c.loop-count.one_goes c.args.first.now c.loop-count.first w.read_part.new.reader count w.read_part.new.count paired.p c.loop-count.one w.read_part.new.sink w.read_part.result
          w.if-one_goes.true paired.one w.read_part.ensures.reads w.read_part.ensures.few w.in-Full.is)
      | then-one_goes+in_default+in_ok-over-in_default w ↦ along R failed First limit market change c.args.first.now (left_by w.read_part.result w.read_part.new.reader) c.if-one_goes.first count paired.p c.loop-count.one.market _ c.if-one_goes.one_goes
          (record { market = w.read_part.new.sink.market; has_change = w.over.new.has_change; change = w.read_part.new.sink.change }) c.if-one_goes.one w.one_goes-is (w.first-is ∙ w.over.ensures.reader) w.one-is
          (took_none R failed First limit market change c.loop-count.one_goes c.args.first.now c.loop-count.first w.read_part.new.reader count w.read_part.new.count paired.p c.loop-count.one w.read_part.new.sink w.read_part.result
          w.if-one_goes.true paired.one w.read_part.ensures.reads w.read_part.ensures.few w.in_default.not-Full before (sym w.over.ensures.result ∙ w.in_ok-over-in_default.was) (plainest w.over.new.has_change w.read_part.new.sink.change) (ap (λ has. plainest has w.read_part.new.sink.change) w.over.ensures.change))
      | else-one_goes w ↦ along R failed First limit market change c.args.first.now c.loop-count.first c.if-one_goes.first count paired.p c.loop-count.one.market c.loop-count.one_goes c.if-one_goes.one_goes c.loop-count.one c.if-one_goes.one
          w.one_goes-is w.first-is w.one-is
          (was_over R failed First limit market change c.loop-count.one_goes c.args.first.now c.loop-count.first count paired.p c.loop-count.one w.if-one_goes.false paired.one
          (c.loop-count.invariant.one_over w.if-one_goes.false))
    ] in
    let other : StandsOn S failed_then Second limit c.if-other_goes.other_goes c.args.second.now c.if-other_goes.second count paired.q c.if-other_goes.other.market × Changed c.loop-count.other.market (plainest c.if-other_goes.other.has_change c.if-other_goes.other.change) c.if-other_goes.other.market =
    elim c.if-other_goes.branch [
      | then-other_goes+in-Full-read_part w ↦ along S failed_then Second limit market change c.args.second.now w.read_part-then-other_goes.new.reader c.if-other_goes.second count paired.q c.loop-count.other.market _ c.if-other_goes.other_goes w.read_part-then-other_goes.new.sink c.if-other_goes.other
          (w.other_goes-is ∙ w.if-other_goes.true) w.second-is w.other-is
          (took_one S failed_then Second limit market change c.loop-count.other_goes c.args.second.now c.loop-count.second w.read_part-then-other_goes.new.reader count w.read_part-then-other_goes.new.count paired.q c.loop-count.other w.read_part-then-other_goes.new.sink w.read_part-then-other_goes.result
          w.if-other_goes.true paired.other w.read_part-then-other_goes.ensures.reads w.read_part-then-other_goes.ensures.few w.in-Full-read_part.is)
      | then-other_goes+in_default-read_part+in_ok-over-in_default-read_part w ↦ along S failed_then Second limit market change c.args.second.now (left_by w.read_part-then-other_goes.result w.read_part-then-other_goes.new.reader) c.if-other_goes.second count paired.q c.loop-count.other.market _ c.if-other_goes.other_goes
          (record { market = w.read_part-then-other_goes.new.sink.market; has_change = w.over-in_default-read_part.new.has_change; change = w.read_part-then-other_goes.new.sink.change }) c.if-other_goes.other w.other_goes-is (w.second-is ∙ w.over-in_default-read_part.ensures.reader) w.other-is
          (took_none S failed_then Second limit market change c.loop-count.other_goes c.args.second.now c.loop-count.second w.read_part-then-other_goes.new.reader count w.read_part-then-other_goes.new.count paired.q c.loop-count.other w.read_part-then-other_goes.new.sink w.read_part-then-other_goes.result
          w.if-other_goes.true paired.other w.read_part-then-other_goes.ensures.reads w.read_part-then-other_goes.ensures.few w.in_default-read_part.not-Full before (sym w.over-in_default-read_part.ensures.result ∙ w.in_ok-over-in_default-read_part.was) (plainest w.over-in_default-read_part.new.has_change w.read_part-then-other_goes.new.sink.change) (ap (λ has. plainest has w.read_part-then-other_goes.new.sink.change) w.over-in_default-read_part.ensures.change))
      | else-other_goes w ↦ along S failed_then Second limit market change c.args.second.now c.loop-count.second c.if-other_goes.second count paired.q c.loop-count.other.market c.loop-count.other_goes c.if-other_goes.other_goes c.loop-count.other c.if-other_goes.other
          w.other_goes-is w.second-is w.other-is
          (was_over S failed_then Second limit market change c.loop-count.other_goes c.args.second.now c.loop-count.second count paired.q c.loop-count.other w.if-other_goes.false paired.other
          (c.loop-count.invariant.other_over w.if-other_goes.false))
    ] in
    let one_over : c.if-one_goes.one_goes ≡ false → plainest c.if-one_goes.one.has_change c.if-one_goes.one.change ≡ nothing =
    elim c.if-one_goes.branch [
      | then-one_goes+in-Full w ↦ λ over. absurd (cc)
      | then-one_goes+in_default+in_ok-over-in_default w ↦ λ over. rw w.one-is (ap (λ has. plainest has w.read_part.new.sink.change) w.over.ensures.change)
      | else-one_goes w ↦ λ over. rw w.one-is (c.loop-count.invariant.one_over w.if-one_goes.false)
    ] in
    let other_over : c.if-other_goes.other_goes ≡ false → plainest c.if-other_goes.other.has_change c.if-other_goes.other.change ≡ nothing =
    elim c.if-other_goes.branch [
      | then-other_goes+in-Full-read_part w ↦ λ over. absurd (cc)
      | then-other_goes+in_default-read_part+in_ok-over-in_default-read_part w ↦ λ over. rw w.other-is (ap (λ has. plainest has w.read_part-then-other_goes.new.sink.change) w.over-in_default-read_part.ensures.change)
      | else-other_goes w ↦ λ over. rw w.other-is (c.loop-count.invariant.other_over w.if-other_goes.false)
    ] in
    let now = still_same _ _ _ _ _ _ _ _ _ _ _ _ _ _ _ (both_on _ _ _ _ _ _ _ _ _ _ _ _ _ _ before paired c.if-one_goes.first c.if-one_goes.one_goes c.if-one_goes.one.market one.0 c.if-other_goes.second c.if-other_goes.other_goes c.if-other_goes.other.market other.0) refl (c.if-not-still_same.ensures.same.0 refl) in
    rw (c.if-not-still_same.ensures.one, c.if-not-still_same.ensures.other) record { paired = now; one_over = one_over; other_over = other_over }

pub returns : goal.returns
returns g c =
    let last : c.loop-count.count ≡ c.most-count-end.result = omega arith in
    same_to_the_end _ _ _ _ _ _ _ _ _ _ _ _ _ _ _ c.loop-count.invariant.paired refl (last ∙ c.most-count-end.ensures)
