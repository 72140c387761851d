-- The market of a feed never goes back.
use Rattle.std.proofs.Common.{◌≡◌, ℕ, ◌≤◌, List, [], ◌∷◌, ◌++◌, Option, None, Some, Result, Ok, Err, refl, sym, ap, subst, ◌∙◌, inl, inr, arith}
use Rattle.itch_frame.specs.declared.tally.Failures.{Failures}
use Rattle.itch_market.specs.Wanted.{has}
use Rattle.itch_join.specs.declared.outcome.Live.{Live}
use Rattle.itch_join.specs.declared.outcome.Snap.{Snap}
use Rattle.itch_join.specs.declared.fault.JoinFault.{JoinFault}
use Rattle.itch_join.specs.declared.state.LiveCase.{LiveCase}
use Rattle.itch_join.specs.declared.state.LiveCase.TheVariants as kind
use Rattle.itch_join.specs.declared.state.Stopped.{Stopped}
use Rattle.itch_join.specs.Positions.{Position}
use Rattle.itch_join.specs.Rules.{Rules, rules_of}
use Rattle.itch_join.specs.States.{State}
use Rattle.itch_join.specs.Applying.{Front, front_of, advanced, at_hand, Applies}
use Rattle.itch_join.specs.Steps.{live_case, LiveBy, NextBy, SnapshotCase, SnapHalted, SnapJoined, SnapBroken, SnapFails, SnapEnds, SnapTakes, snapshot_case, SnapshotBy, restarted}
use Rattle.itch_join.proofs.CallCases.{IsSnapshotCase, snapshot_case_is}
use Rattle.itch_soup.specs.declared.client.ClientAct.{ClientAct}
use Rattle.itch_soup.specs.declared.client.ClientAct.TheVariants as act
use Rattle.itch_live.specs.declared.news.ServerKind.{ServerKind}
use Rattle.itch_live.specs.declared.news.ServerKind.TheVariants as source
use Rattle.itch_live.specs.declared.news.News.{News}
use Rattle.itch_live.specs.Follows.{Following, ActsOn}
use Rattle.itch_live.specs.Feeds.{Did, Connects, Ticks, Replays, Hears, Does}
use Rattle.itch_live.specs.LiveServers as servers
use Rattle.itch_live.specs.LiveServers.{LiveServer, encoded_for, with_encoded, answered_with, Call, Event, History}
use Rattle.itch_live.specs.FeedServers.{GoesOn}

-- the position then: it has no fewer messages, and is the same one if it has equally many
pub record Advanced (was : Position) (o : Option Position) : Type 0 where
  pub position : Position
  pub is : o ≡ Some position
  pub up : was.next ≤ position.next
  pub still : was.next ≡ position.next → position ≡ was

abbrev pub Advances : Option Position → Option Position → Type 0
Advances o p = (was : Position) → o ≡ Some was → Advanced was p

same_position : (o p : Option Position) → p ≡ o → Advances o p
same_position o p same = λ was there. record { position = was; is = same ∙ there; up = omega arith; still = λ h. refl }

none_some : {j : Position} → None ≡ Some j → ⊥
none_some {j} h = cc

from_none : (o p : Option Position) → o ≡ None → Advances o p
from_none o p none = λ was there. absurd (none_some (sym none ∙ there))

advanced_on : (was : Position) (p : Option Position) → Advanced was p → GoesOn (Some was) p
advanced_on was p a = subst (GoesOn (Some was)) (sym a.is) a.up

goes_of : (o p : Option Position) → Advances o p → GoesOn o p
goes_of None p advances = tt
goes_of (Some was) p advances = advanced_on was p (advances was refl)

after_both : (o p q : Option Position) → GoesOn o p → GoesOn p q → GoesOn o q
after_both None p q first second = tt
after_both (Some i) None q first second = absurd first
after_both (Some i) (Some j) None first second = absurd second
after_both (Some i) (Some j) (Some k) first second = omega arith

module _ (R : Rules) where
  rises : (a b : Front) (hand : Option (List ℕ)) (ps : List (List ℕ)) (ending : Result (Unit {0}) Stopped) → Applies R a hand ps ending b → a.next ≤ b.next
  rises a b hand [] ending (ends, same) = let e = ap (λ (f : Front). f.next) same in omega arith
  rises a b hand (p ∷ ps) ending (there, none, rest) = let more = rises (advanced R a p) b (at_hand (advanced R a p)) ps ending rest in omega arith

  rests : (a b : Front) (hand : Option (List ℕ)) (ps : List (List ℕ)) (ending : Result (Unit {0}) Stopped) → Applies R a hand ps ending b → a.next ≡ b.next → b ≡ a
  rests a b hand [] ending (ends, same) still = same
  rests a b hand (p ∷ ps) ending (there, none, rest) still =
      let more = rises (advanced R a p) b (at_hand (advanced R a p)) ps ending rest in
      let never : ⊥ = omega arith in
      absurd never

  next_rises : (s now : State) (number : ℕ) (payload : List ℕ) (result : Result Live JoinFault) (o : Option Position) → s.joined ≡ o → NextBy R s number payload o result now → Advances s.joined now.joined
  next_rises s now number payload result None there goes = absurd goes
  next_rises s now number payload result (Some j) there goes =
      let ahead : Position = record { next = goes.front.next; market = goes.front.market } in
      let joined : now.joined ≡ Some ahead = ap (λ (t : State). t.joined) goes.left in
      subst (λ o. Advances o now.joined) (sym there) (λ was is. subst (λ i. Advanced i now.joined) (one is) (record {
        position = ahead;
        is = joined;
        up = rises (front_of s j) goes.front (Some payload) goes.payloads goes.ending goes.applies;
        still = λ h. ap (λ (f : Front). record { next = f.next; market = f.market }) (rests (front_of s j) goes.front (Some payload) goes.payloads goes.ending goes.applies h);
      })) where
        one : {i : Position} → Some j ≡ Some i → j ≡ i
        one {i} h = cc

  live_rises : (s now : State) (number : ℕ) (payload : List ℕ) (result : Result Live JoinFault) (cap : ℕ) (case : LiveCase) → LiveBy R cap s number payload case result now → Advances s.joined now.joined
  live_rises s now number payload result cap (kind.Halted h) (answer, same) = same_position s.joined now.joined (ap (λ (t : State). t.joined) same)
  live_rises s now number payload result cap kind.BadNumber (answer, same) = same_position s.joined now.joined (ap (λ (t : State). t.joined) same)
  live_rises s now number payload result cap kind.Old (answer, same) = same_position s.joined now.joined (ap (λ (t : State). t.joined) same)
  live_rises s now number payload result cap kind.Conflict (answer, same) = same_position s.joined now.joined (ap (λ (t : State). t.joined) same)
  live_rises s now number payload result cap kind.Next goes = next_rises s now number payload result s.joined refl goes
  live_rises s now number payload result cap kind.Kept (answer, same) = same_position s.joined now.joined (ap (λ (t : State). t.joined) same)
  live_rises s now number payload result cap kind.Full (answer, same) = same_position s.joined now.joined (ap (λ (t : State). t.joined) same)
  live_rises s now number payload (Ok outcome) cap kind.Stored (kept, same) = same_position s.joined now.joined (ap (λ (t : State). t.joined) same)
  live_rises s now number payload (Err fault) cap kind.Stored (refused, same) = same_position s.joined now.joined (ap (λ (t : State). t.joined) same)

  snapshot_rises : (s now : State) (payload : List ℕ) (result : Result Snap JoinFault) (case : SnapshotCase) → IsSnapshotCase R s payload case → SnapshotBy R s payload case result now
      → Advances s.joined now.joined
  snapshot_rises s now payload result (SnapHalted h) is (answer, same) = same_position s.joined now.joined (ap (λ (t : State). t.joined) same)
  snapshot_rises s now payload result SnapJoined is (answer, same) = same_position s.joined now.joined (ap (λ (t : State). t.joined) same)
  snapshot_rises s now payload result (SnapBroken place cause) is (answer, same) = same_position s.joined now.joined (ap (λ (t : State). t.joined) same)
  snapshot_rises s now payload result (SnapFails place cause) is (answer, same) = same_position s.joined now.joined (ap (λ (t : State). t.joined) same)
  snapshot_rises s now payload result (SnapEnds next m) (none, apart, taken, half) goes = from_none s.joined now.joined apart
  snapshot_rises s now payload (Ok outcome) (SnapTakes taken m) is (more, same) = same_position s.joined now.joined (ap (λ (t : State). t.joined) same)
  snapshot_rises s now payload (Err fault) (SnapTakes taken m) is (memory, takes, same) = same_position s.joined now.joined (ap (λ (t : State). t.joined) same)

restarted_same : (o : Option Position) (s : State) → (restarted o s).joined ≡ s.joined
restarted_same None s = refl
restarted_same (Some j) s = refl

module _ {W : Type 0} (contents : W → Option (List ℕ)) (failures : W → Failures) where
  acted : (from : ServerKind) (answer : ClientAct) (f g : Following) (old new : W) (told : News) → ActsOn contents failures from answer f.joining old told new g.joining
      → Advances f.joining.state.joined g.joining.state.joined
  acted from (act.Accepted next) f g old new told (says, kept, same) = same_position _ _ (ap (λ x. x.state.joined) same)
  acted from (act.Rejected code) f g old new told (says, kept, same) = same_position _ _ (ap (λ x. x.state.joined) same)
  acted source.Glimpse (act.Data number payload) f g old new told ((result, calls, says), kept) =
      snapshot_rises (rules_of (has f.joining.set)) f.joining.state g.joining.state payload result (snapshot_case (rules_of (has f.joining.set)) f.joining.state payload)
      (snapshot_case_is (rules_of (has f.joining.set)) f.joining.state payload) calls.0
  acted source.Live (act.Data number payload) f g old new told (result, calls, records) =
      live_rises (rules_of (has f.joining.set)) f.joining.state g.joining.state number payload result f.joining.cap (live_case f.joining.cap f.joining.state number payload) calls.0
  acted from act.Nothing f g old new told (says, kept, same) = same_position _ _ (ap (λ x. x.state.joined) same)
  acted from act.Ended f g old new told (says, kept, same) = same_position _ _ (ap (λ x. x.state.joined) same)
  acted from (act.Fault fault) f g old new told (says, kept, same) = same_position _ _ (ap (λ x. x.state.joined) same)

  pub does : (f g : Following) (did : Did W) → Does contents failures f did g → Advances f.joining.state.joined g.joining.state.joined
  does f g (Connects credentials now) is = same_position _ _ (ap (λ x. x.joining.state.joined) is ∙ restarted_same f.joining.state.joined f.joining.state)
  does f g (Ticks now) is = same_position _ _ (ap (λ x. x.joining.state.joined) is)
  does f g (Replays number payload result) (calls, is) =
      live_rises (rules_of (has f.joining.set)) f.joining.state g.joining.state number payload result f.joining.cap (live_case f.joining.cap f.joining.state number payload) calls.0
  does f g (Hears piece now result old new) (held, took, inl (payload, block, (answer, named, t, means, inl (other, is, (says, shut, kept, same))), from, none)) =
      same_position _ _ (ap (λ x. x.state.joined) same)
  does f g (Hears piece now result old new) (held, took, inl (payload, block, (answer, named, t, means, inr (own, goes, (acts, pins))), from, none)) =
      acted f.source answer f g old new result.1 acts
  does f g (Hears piece now result old new) (held, took, inr (none, says, kept, is)) = same_position _ _ (ap (λ x. x.joining.state.joined) is)

  abbrev Of : LiveServer → Option Position
  Of d = d.following.joining.state.joined

  pub called : (d e : LiveServer) (call : Call W) → servers.Step contents failures d call e → Advances (Of d) (Of e)
  called d e (servers.Feeds did) (f, doing, is) = subst (Advances (Of d)) (sym (ap (λ x. Of x) is)) (does d.following f did doing)
  called d e (servers.Admits config now (Ok (Some place))) (free, is) = same_position _ _ (ap (λ x. Of x) is)
  called d e (servers.Admits config now (Ok None)) (taken, is) = same_position _ _ (ap (λ x. Of x) is)
  called d e (servers.Admits config now (Err error)) is = same_position _ _ (ap (λ x. Of x) is)
  called d e (servers.Hears place piece now count) (s, hears, is) = same_position _ _ (ap (λ x. Of x) is)
  called d e (servers.Answers limit now count) is = same_position _ _ (ap (λ x. Of x) is ∙ by_joined (Of d)) where
    by_joined : (o : Option Position) → Of (answered_with o d limit count now) ≡ Of d
    by_joined None = refl
    by_joined (Some j) = by_encoded (encoded_for limit d.slots j.market j.next) where
      by_encoded : (encoded : Option (List ℕ)) → Of (with_encoded encoded d j.next count now) ≡ Of d
      by_encoded None = refl
      by_encoded (Some bytes) = refl
  called d e (servers.Takes place count now) (fits, is) = same_position _ _ (ap (λ x. Of x) is)
  called d e (servers.Ticks now) is = same_position _ _ (ap (λ x. Of x) is)
  called d e (servers.Leaves place) is = same_position _ _ (ap (λ x. Of x) is)

  pub goes_on : (begun : Following) (later : List (Event W)) (at : Event W) (before : List (Event W)) (d : LiveServer)
      → History contents failures begun (later ++ at ∷ before) d → GoesOn (Of at.before) (Of d)
  goes_on begun [] at before d (took, h) = goes_of (Of at.before) (Of d) (called at.before d at.call took)
  goes_on begun (x ∷ later) at before d (took, h) =
      after_both (Of at.before) (Of x.before) (Of d) (goes_on begun later at before x.before h) (goes_of (Of x.before) (Of d) (called x.before d x.call took))
