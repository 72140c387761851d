use Rattle.std.proofs.Common.{◌≡◌, true, false, sym, ◌∙◌}
use Rattle.itch_market.specs.Content.{laid}
use Rattle.itch_market.specs.Effects.{effect}
use Rattle.itch_depth.specs.Own.{concerns, is_own}
use Rattle.itch_depth.proofs.TimedMessages.{far_apart, near_apart, ok_so}
use Rattle.itch_depth.proofs.pass.markets.OwnMarkets.follow.Goals as goal

pub returns-then-not-concerns-clause-apart : goal.returns-then-not-concerns-clause-apart
returns-then-not-concerns-clause-apart g c = λ before is_apart good in_order none after.
    let it = c.args.self.now in
    let x = c.args.message.now in
    let far : concerns (is_own it.locates) it.own x ≡ false = sym c.concerns.ensures ∙ c.if-not-concerns.true in
    far_apart it.locates before it.own is_apart good in_order x it.market none after far

pub returns-then-is_ok-clause-apart : goal.returns-then-is_ok-clause-apart
returns-then-is_ok-clause-apart g c = λ before is_apart good in_order none after.
    let it = c.args.self.now in
    let x = c.args.message.now in
    let near : concerns (is_own it.locates) it.own x ≡ true = sym c.concerns.ensures ∙ c.if-not-concerns.false in
    let now_is : c.apply.new.self ≡ laid (effect it.own x) = ok_so c.apply.result (sym c.is_ok.ensures.value ∙ c.if-is_ok.true) c.apply.ensures.ok in
    near_apart it.locates before it.own is_apart good in_order x it.market c.apply.new.self none after now_is near
