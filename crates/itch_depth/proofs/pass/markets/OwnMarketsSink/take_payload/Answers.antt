use Rattle.std.proofs.Common.{◌≡◌, inl, false, refl, sym, subst, ◌∙◌}
use Rattle.itch_day.specs.Sinks.{OffersPayload}
use Rattle.itch_market.specs.Takings.{TakesMessage}
use Rattle.itch_depth.specs.declared.pass.markets.OwnMarkets.{OwnMarkets}
use Rattle.itch_depth.specs.Own.{may_be_late, may_concern}
use Rattle.itch_depth.proofs.FollowedMessages.{offered}
use Rattle.itch_depth.proofs.TimedMessages.{not_late, passed_apart}
use Rattle.itch_depth.proofs.TimedParts.{TakesTimed}
use Rattle.itch_depth.proofs.pass.markets.OwnMarketsSink.take_payload.Goals as goal

pub returns-clause-takes : goal.returns-clause-takes
returns-clause-takes g c =
    let payload = c.args.payload.now in
    let it = c.args.self.now in
    let n = c.take_payload.new.self in
    let early : may_be_late it.until payload ≡ false = sym c.may_be_late.ensures ∙ c.if-may_be_late.false in
    let Sink = OwnMarkets g.row.B.Denot g.row.B-Alloc.Denot in
    let takes = TakesTimed (λ (s : Sink). s.locates) (λ (s : Sink). s.market) (λ (s : Sink). s.until) in
    offered takes it _ c.args.number payload c.take_payload.result
    (λ is. (refl, inl refl, subst (λ r. OffersPayload TakesMessage it.market c.args.number payload r n) is c.take_payload.ensures.takes, not_late it.until payload early))
    (λ is. let same : n ≡ it.market = subst (λ r. OffersPayload TakesMessage it.market c.args.number payload r n) is c.take_payload.ensures.takes in rw same refl)

pub returns-clause-ready : goal.returns-clause-ready
returns-clause-ready g c = λ is.
    let payload = c.args.payload.now in
    let it = c.args.self.now in
    let n = c.take_payload.new.self in
    let far : may_concern it.own payload ≡ false = sym c.may_concern.ensures ∙ c.if-may_concern.false in
    let took = subst (λ r. OffersPayload TakesMessage it.market c.args.number payload r n) is c.take_payload.ensures.takes in
    passed_apart it.locates it.market it.own c.requires.ready c.recall_invariant.ensures.good c.recall_invariant.ensures.in_order c.args.number payload n far took
