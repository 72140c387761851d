use Rattle.std.proofs.Common.{◌≡◌, None, is_err, sym, ap, ◌∙◌}
use Rattle.itch_market.specs.Content.{laid}
use Rattle.itch_market.specs.Effects.{effect}
use Rattle.itch_market.specs.Reasons.{reason}
use Rattle.itch_depth.proofs.Followings.{accepted, when_ok}
use Rattle.itch_depth.proofs.pass.markets.OwnMarkets.pass.Goals as goal

pub returns-in-Ok-clause-passes : goal.returns-in-Ok-clause-passes
returns-in-Ok-clause-passes g c =
    let it = c.args.self.now in
    let x = c.args.message.now in
    let fine = ap is_err c.in-Ok.is in
    let none : reason it.market x ≡ None = accepted (reason it.market x) c.apply.result fine c.apply.ensures.refused in
    let after : c.apply.new.self ≡ laid (effect it.market x) = when_ok c.apply.result fine c.apply.ensures.ok in
    (sym c.is_late.ensures ∙ c.if-is_late.false, none, c.follow.ensures.kept.0 ∙ after)

pub returns-in-Ok-clause-apart : goal.returns-in-Ok-clause-apart
returns-in-Ok-clause-apart g c =
    let it = c.args.self.now in
    let x = c.args.message.now in
    let fine = ap is_err c.in-Ok.is in
    let none : reason it.market x ≡ None = accepted (reason it.market x) c.apply.result fine c.apply.ensures.refused in
    let after : c.apply.new.self ≡ laid (effect it.market x) = when_ok c.apply.result fine c.apply.ensures.ok in
    c.follow.ensures.apart it.market c.requires c.recall_invariant.ensures.good c.recall_invariant.ensures.in_order none after
