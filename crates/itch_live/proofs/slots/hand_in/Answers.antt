use Rattle.std.proofs.Common.{length, sym, ap, arith, option_map}
use Rattle.itch_live.specs.Slots.{handed}
use Rattle.itch_live.proofs.slots.hand_in.Goals as goal

pub returns-in-None : goal.returns-in-None
returns-in-None g c = (
  length c.args.slots.now,
  omega arith,
  ap (λ s. handed (option_map (λ v. v.value.items) s) c.args.next c.args.now_ms (length c.args.slots.now) c.args.slots.now) (sym c.in-None.is),
)
