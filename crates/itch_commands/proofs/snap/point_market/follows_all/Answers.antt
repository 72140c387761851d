use Rattle.std.proofs.Common.{◌≡◌, true, [], refl, sym, ap, subst, ◌∙◌}
use Rattle.std.specs.Option.{option_copied}
use Rattle.itch_market.specs.Content.{Content}
use Rattle.itch_market.specs.Wanted.{has}
use Rattle.itch_commands.proofs.PointMarkets.{FollowedSoFar, cut_followed, followed_on}
use Rattle.itch_commands.proofs.snap.point_market.follows_all.Goals as goal
use Rattle.itch_commands.proofs.snap.point_market.follows_all.Goals.{else-contains-via-then-contains+else-not-contains, else-contains-via-else-contains}

pub loop-locate-init : goal.loop-locate-init
loop-locate-init g c =
    let given = c.in-Some-Some in
    subst (λ left. FollowedSoFar (Content.securities c.args.whole.now) given.set.now given.followed.now [] left)
    (sym c.locates-locate-items.ensures ∙ sym c.into_iter-locate-iterator.ensures.into_iter_gives) (record { locates = refl; covered = tt })

pub loop-locate-preserved : goal.loop-locate-preserved
loop-locate-preserved g c =
    let listings = Content.securities c.args.whole.now in
    let set = c.in-Some-Some.set.now in
    let followed = c.in-Some-Some.followed.now in
    let loop = c.loop-locate in
    let locate = c.in-Some.locate in
    let so_far = subst (λ left. FollowedSoFar listings set followed loop.yielded left) c.in-Some.ensures.steps loop.invariant in
    let next : has set locate ≡ true → has followed locate ≡ true =
    elim c.else-contains.branch [
      | else-contains-via-then-contains+else-not-contains w ↦ λ want. sym w.contains-then-contains.ensures ∙ w.if-not-contains.false
      | else-contains-via-else-contains w ↦ λ want. absurd (cc (sym want ∙ sym c.contains.ensures ∙ w.if-contains.false))
    ] in
    followed_on listings set followed loop.yielded c.next.new.self locate so_far next

pub returns : goal.returns
returns g c = λ part good cut ok.
    let loop = c.loop-locate in
    cut_followed c.args.whole.now part (option_copied c.args.followed) c.in-Some-Some.followed.now c.args.set c.in-Some-Some.set loop.yielded loop.locate-iterator good
    (ap option_copied c.in-Some-Some.is-0) c.in-Some-Some.is-1 loop.invariant c.in-None.ensures.steps.0 cut
