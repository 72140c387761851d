use Rattle.std.proofs.Common.{ap, sym, ◌∙◌, set}
use Rattle.std.proofs.lemmas.List.Edits.{map_over_more}
use Rattle.itch_live.specs.Slots.{ticked_slot}
use Rattle.itch_live.proofs.slots.tick_all.Goals as goal

pub loop-place-preserved : goal.loop-place-preserved
loop-place-preserved g c =
    ap (λ s. set c.loop-place.slots c.loop-place.place s) (c.tick_one.ensures ∙ ap (ticked_slot c.args.now_ms) (sym c.index-slots-place.is))
    ∙ map_over_more (ticked_slot c.args.now_ms) c.args.slots.now c.loop-place.slots c.loop-place.place c.index-slots-place.result c.loop-place-test.true c.loop-place.invariant
    c.index-slots-place.is
