use Rattle.std.proofs.Common.{ap, sym, ◌∙◌, set}
use Rattle.std.proofs.lemmas.List.{set-get_or}
use Rattle.std.proofs.lemmas.List.Edits.{map_over_more}
use Rattle.itch_live.specs.Slots.{answered_slot}
use Rattle.itch_live.proofs.Handing.{only_err}
use Rattle.itch_live.proofs.slots.answer_all.Goals as goal

pub returns-in_err-answer_one : goal.returns-in_err-answer_one
returns-in_err-answer_one g c = (
  c.loop-place.place,
  only_err c.from_residual.result _ c.from_residual.ensures.0,
  ap (λ s. set c.loop-place.slots c.loop-place.place s) c.in_err-answer_one.ensures.err
      ∙ set-get_or c.loop-place.slots c.loop-place.place c.index-slots-place.result ∙ c.loop-place.invariant,
)

pub loop-place-preserved : goal.loop-place-preserved
loop-place-preserved g c =
    ap (λ s. set c.loop-place.slots c.loop-place.place s)
    (c.in_ok-answer_one.ensures.ok ∙ ap (answered_slot c.args.encoded.now.value.items c.args.next c.args.now_ms) (sym c.index-slots-place.is))
    ∙ map_over_more (answered_slot c.args.encoded.now.value.items c.args.next c.args.now_ms) c.args.slots.now c.loop-place.slots c.loop-place.place c.index-slots-place.result
    c.loop-place-test.true c.loop-place.invariant c.index-slots-place.is
