use Rattle.std.proofs.Common.{◌≡◌, None, ap, ◌∙◌, replicate, arith}
use Rattle.itch_live.proofs.server.free_slots.Goals as goal

pub returns : goal.returns
returns g c =
    let most = c.loop-place.auto._place-end in
    let all : c.loop-place._place ≡ c.args.count = omega (arith, c.loop-place-test.false) in
    c.loop-place.invariant ∙ ap (λ n. replicate n None) all
