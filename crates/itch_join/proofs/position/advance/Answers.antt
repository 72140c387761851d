use Rattle.std.proofs.Common.{◌+◌, [], ◌∷◌, Some, refl, ap}
use Rattle.std.proofs.lemmas.Result.{err_from_is_err_and}
use Rattle.itch_market.specs.Wanted.{has}
use Rattle.itch_join.specs.Rules.{rules_of}
use Rattle.itch_join.specs.States.{Wait}
use Rattle.itch_join.specs.Applying.{Front}
use Rattle.itch_join.proofs.AppliedMessages.{applied, stopped}
use Rattle.itch_join.proofs.position.advance.Goals as goal

pub returns-in_err-apply_decoded : goal.returns-in_err-apply_decoded
returns-in_err-apply_decoded g c payload decoded =
    let p = err_from_is_err_and c.from_residual.result c.from_residual.ensures.1 in
    let j = c.position.inside in
    let here : Front = record { wait = c.args.wait.now; next = j.next; market = j.market } in
    let end : Front = record { wait = c.args.wait.now; next = j.next; market = c.apply_decoded.new.market } in
    rw (← c.position.view_is, p.1, p.2) (
      [],
      stopped (rules_of (has c.args.set.now)) here end (Some payload) payload c.in_err-apply_decoded.field-0.0 c.apply_decoded.new.market refl (c.in_err-apply_decoded.ensures payload decoded) refl,
    )

pub returns : goal.returns
returns g c payload decoded =
    let j = c.position.inside in
    let n = c.apply_decoded.new.market in
    let here : Front = record { wait = c.args.wait.now; next = j.next; market = j.market } in
    let more : Front = record { wait = c.remove.new.self; next = j.next + 1; market = n } in
    let end : Front = record { wait = c.drain.new.wait; next = c.drain.new.position.next; market = c.drain.new.position.market } in
    rw (← c.position.view_is) (
      payload ∷ c.drain.ensures.0,
      applied (rules_of (has c.args.set.now)) here end more (Some payload) payload c.drain.ensures.0 c.drain.result n refl (c.in_ok-apply_decoded.ensures payload decoded)
          (ap (λ (v : Wait). let f : Front = record { wait = v; next = j.next + 1; market = n } in f) c.remove.ensures) c.drain.ensures.1,
    )
