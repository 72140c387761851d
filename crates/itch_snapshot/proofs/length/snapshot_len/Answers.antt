use Rattle.std.proofs.Common.{◌+◌, [], ◌∷◌, ◌++◌, Some, sym, ap, ◌∙◌, subst, arith}
use Rattle.std.specs.Option.{option_copied}
use Rattle.itch_snapshot.proofs.LengthLemmas.{CountsSoFar, one_counted, none_counted, counts_small, counts_all}
use Rattle.itch_snapshot.proofs.length.snapshot_len.Goals as goal

pub overflow_add-len-in-Some-security : goal.overflow_add-len-in-Some-security
overflow_add-len-in-Some-security g c =
    omega (arith, counts_small _ _ _ _ c.loop-locate.invariant, c.security_len-len.ensures.len, c.security_len-len.ensures.small)

pub loop-locate-preserved-in-Some-security : goal.loop-locate-preserved-in-Some-security
loop-locate-preserved-in-Some-security g c =
    let m = c.args.market.now in
    let next = subst (λ ls. CountsSoFar m c.loop-locate.yielded ls c.loop-locate.len) c.in-Some.ensures.steps c.loop-locate.invariant in
    subst (λ k. CountsSoFar m (c.loop-locate.yielded ++ c.in-Some.locate ∷ []) c.next.new.self (c.loop-locate.len + k)) (sym c.security_len-len.ensures.len)
    (one_counted m _ _ _ c.in-Some.locate (Some c.in-Some-security.security.now) next (sym c.in-Some-security.ensures) c.security_len-len.ensures.small)

pub loop-locate-preserved : goal.loop-locate-preserved
loop-locate-preserved g c =
    let m = c.args.market.now in
    let next = subst (λ ls. CountsSoFar m c.loop-locate.yielded ls c.loop-locate.len) c.in-Some.ensures.steps c.loop-locate.invariant in
    none_counted m _ _ _ c.in-Some.locate next (sym c.security.ensures ∙ ap option_copied c.in_default.is)

pub returns : goal.returns
returns g c = counts_all _ _ _ _ c.loop-locate.invariant c.in-None.ensures.steps.0
