use Rattle.std.proofs.Common.{◌≡◌, false, refl, sym, subst, ◌∙◌}
use Rattle.itch_codec.specs.Messages.{message_of}
use Rattle.itch_day.specs.Sinks.{OffersPayload}
use Rattle.itch_market.specs.Takings.{TakesMessage}
use Rattle.itch_depth.specs.declared.changes.sink.ChangeLines.{ChangeLines}
use Rattle.itch_depth.specs.Changes.{change}
use Rattle.itch_depth.specs.Own.{may_concern}
use Rattle.itch_depth.proofs.FollowedDays.{Follows}
use Rattle.itch_depth.proofs.FollowedMessages.{offered, writes_none}
use Rattle.itch_depth.proofs.OtherPayloads.{passed_over}
use Rattle.itch_depth.proofs.changes.sink.ChangeLinesSink.take_payload.Goals as goal

pub returns-clause-takes : goal.returns-clause-takes
returns-clause-takes g c =
    let R = c.args.self.now.request.now in
    let payload = c.args.payload.now in
    let it = c.args.self.now.followed.now in
    let n = c.take_payload.new.self in
    let far : may_concern it.own payload ≡ false = sym c.may_concern.ensures ∙ c.if-may_concern.false in
    let Lines = ChangeLines g.row.B.Denot g.row.W.Denot g.row.B-Alloc.Denot in
    let takes = Follows g.W.CountedWrite.contents g.W.CountedWrite.failures (λ (s : Lines). s.out.now) (λ (s : Lines). s.out.ghost_name) (λ (s : Lines). s.followed.ghost_name) (λ (s : Lines). s.request.now) (λ (s : Lines). s.followed.now.market) in
    offered takes c.args.self.now _ c.args.number payload c.take_payload.result
    (λ is.
    let took = subst (λ r. OffersPayload TakesMessage it.market c.args.number payload r n) is c.take_payload.ensures.takes in
    let over = passed_over R c.args.number payload it.market n it.own it.locate it.best c.requires.ready c.recall_invariant.ensures.good c.recall_invariant.ensures.in_order far took in
    (refl, refl, refl, (took, writes_none g.W.CountedWrite.contents g.W.CountedWrite.failures (change R c.args.number (message_of payload) it.market n) c.args.self.now.out.now over.1)))
    (λ is. let same : n ≡ it.market = subst (λ r. OffersPayload TakesMessage it.market c.args.number payload r n) is c.take_payload.ensures.takes in rw same refl)

pub returns-clause-ready : goal.returns-clause-ready
returns-clause-ready g c = λ is.
    let R = c.args.self.now.request.now in
    let payload = c.args.payload.now in
    let it = c.args.self.now.followed.now in
    let n = c.take_payload.new.self in
    let far : may_concern it.own payload ≡ false = sym c.may_concern.ensures ∙ c.if-may_concern.false in
    let took = subst (λ r. OffersPayload TakesMessage it.market c.args.number payload r n) is c.take_payload.ensures.takes in
    let over = passed_over R c.args.number payload it.market n it.own it.locate it.best c.requires.ready c.recall_invariant.ensures.good c.recall_invariant.ensures.in_order far took in
    over.0
