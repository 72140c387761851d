use Rattle.std.proofs.Common.{◌≡◌, None, is_err, sym, ap, subst}
use Rattle.itch_market.specs.Content.{laid}
use Rattle.itch_market.specs.Effects.{effect}
use Rattle.itch_market.specs.Reasons.{reason}
use Rattle.itch_depth.specs.Following.{FollowsOne, PassesOne}
use Rattle.itch_depth.proofs.Followings.{accepted, goes_on, passes, when_ok}
use Rattle.itch_depth.proofs.changes.book.Followed.pass.Goals as goal

pub returns-in-Ok-clause-passes : goal.returns-in-Ok-clause-passes
returns-in-Ok-clause-passes g c =
    let R = c.args.request in
    let it = c.args.self.now in
    let x = c.args.message.now in
    let fine = ap is_err c.in-Ok.is in
    let none : reason it.market x ≡ None = accepted (reason it.market x) c.apply.result fine c.apply.ensures.refused in
    let after : c.apply.new.self ≡ laid (effect it.market x) = when_ok c.apply.result fine c.apply.ensures.ok in
    let done = c.follow.ensures.follows it.market c.requires c.recall_invariant.ensures.good c.recall_invariant.ensures.in_order none after in
    subst (λ to. PassesOne R x it.market c.follow.result to) (sym c.follow.ensures.market)
    (passes R it.market c.apply.new.self c.follow.new.self.own x c.follow.result c.follow.new.self.locate c.follow.new.self.best none after done)

pub returns-in-Ok-clause-following : goal.returns-in-Ok-clause-following
returns-in-Ok-clause-following g c =
    let R = c.args.request in
    let it = c.args.self.now in
    let x = c.args.message.now in
    let fine = ap is_err c.in-Ok.is in
    let none : reason it.market x ≡ None = accepted (reason it.market x) c.apply.result fine c.apply.ensures.refused in
    let after : c.apply.new.self ≡ laid (effect it.market x) = when_ok c.apply.result fine c.apply.ensures.ok in
    let done = c.follow.ensures.follows it.market c.requires c.recall_invariant.ensures.good c.recall_invariant.ensures.in_order none after in
    goes_on R it.market c.follow.new.self.market c.follow.new.self.own c.follow.result c.follow.new.self.locate c.follow.new.self.best
    (subst (λ to. FollowsOne R it.market to c.follow.result c.follow.new.self.own c.follow.new.self.locate c.follow.new.self.best) (sym c.follow.ensures.market) done)
