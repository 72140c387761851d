use Rattle.std.proofs.Common.{◌<◌, ◌+◌, [], ◌∷◌, Ok, Err, refl, sym, ap, subst}
use Rattle.std.specs.FinMap as map
use Rattle.std.proofs.lemmas.Result.{err_from_is_err_and}
use Rattle.itch_market.specs.Wanted.{has}
use Rattle.itch_join.specs.Rules.{rules_of}
use Rattle.itch_join.specs.States.{Wait}
use Rattle.itch_join.specs.Applying.{Front, at_hand}
use Rattle.itch_join.proofs.Maps.{len_less}
use Rattle.itch_join.proofs.AppliedMessages.{applied, stopped, nothing_left}
use Rattle.itch_join.proofs.position.drain.Goals as goal

pub loop-payload-init : goal.loop-payload-init
loop-payload-init g c = λ ps ending b h. (ps, h)

pub loop-payload-smaller : goal.loop-payload-smaller
loop-payload-smaller g c =
    let w = c.loop-payload.wait in
    subst (λ (v : Wait). map.len v < map.len w) (sym c.remove.ensures) (len_less w c.loop-payload.position-inside.next c.in-Some.payload.now c.in-Some.ensures.found)

pub loop-payload-preserved : goal.loop-payload-preserved
loop-payload-preserved g c =
    let next = c.loop-payload.position-inside.next in
    let n = c.apply.new.market in
    let here : Front = record { wait = c.loop-payload.wait; next = next; market = c.loop-payload.position-inside.market } in
    let more : Front = record { wait = c.remove.new.self; next = next + 1; market = n } in
    λ ps ending b h. c.loop-payload.invariant (c.in-Some.payload.now ∷ ps) ending b
    (applied (rules_of (has c.args.set.now)) here b more (at_hand here) c.in-Some.payload.now ps ending n c.in-Some.ensures.found c.in_ok-apply.ensures
    (ap (λ (v : Wait). let f : Front = record { wait = v; next = next + 1; market = n } in f) c.remove.ensures) h)

pub returns-in_err-apply : goal.returns-in_err-apply
returns-in_err-apply g c =
    let p = err_from_is_err_and c.from_residual.result c.from_residual.ensures.1 in
    let next = c.loop-payload.position-inside.next in
    let here : Front = record { wait = c.loop-payload.wait; next = next; market = c.loop-payload.position-inside.market } in
    let end : Front = record { wait = c.loop-payload.wait; next = next; market = c.apply.new.market } in
    rw (← c.position.view_is, p.1, p.2)
    (c.loop-payload.invariant [] (Err c.in_err-apply.field-0.0) end
    (stopped (rules_of (has c.args.set.now)) here end (at_hand here) c.in-Some.payload.now c.in_err-apply.field-0.0 c.apply.new.market c.in-Some.ensures.found c.in_err-apply.ensures refl))

pub returns : goal.returns
returns g c =
    let here : Front = record { wait = c.loop-payload.wait; next = c.loop-payload.position-inside.next; market = c.loop-payload.position-inside.market } in
    rw (← c.position.view_is) (c.loop-payload.invariant [] (Ok tt) here (nothing_left (rules_of (has c.args.set.now)) here c.in_default.ensures.found))
