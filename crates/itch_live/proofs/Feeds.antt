-- The follower of a feed keeps a joiner that has received nothing else.
use Rattle.std.proofs.Common.{◌≡◌, ℕ, ◌<◌, List, [], ◌∷◌, Option, Some, refl, sym, ap, subst, ◌∙◌, inl, inr, arith}
use Rattle.std.specs.List.{AllByRecursion}
use Rattle.itch_codec.specs.Fields.{AreBytes}
use Rattle.itch_frame.specs.declared.tally.Failures.{Failures}
use Rattle.itch_market.specs.Wanted.{Wanted, has}
use Rattle.itch_join.specs.Positions.{Position}
use Rattle.itch_join.specs.Rules.{rules_of}
use Rattle.itch_join.specs.Steps.{Call, CallLive, CallSnapshot, CallRestart, Step}
use Rattle.itch_join.specs.Deliveries.{History, Fits}
use Rattle.itch_join.proofs.LawfulRules.{only_lawful}
use Rattle.itch_join.proofs.JoinerSteps.{always, stands}
use Rattle.itch_soup.specs.declared.client.ClientAct.{ClientAct}
use Rattle.itch_soup.specs.declared.client.ClientAct.TheVariants as act
use Rattle.itch_live.specs.declared.news.ServerKind.{ServerKind}
use Rattle.itch_live.specs.declared.news.ServerKind.TheVariants as source
use Rattle.itch_live.specs.declared.news.News.{News}
use Rattle.itch_live.specs.Follows.{Following, Calls, ActsOn, HearsFeed}
use Rattle.itch_live.specs.Feeds.{Did, Connects, Ticks, Replays, Hears, FitsAct, IsHonest, IsJoining, Does, Followed, StandsJoined}

-- the joiner does not change
same_joining : (set : Wanted) (cap : ℕ) (feed : List (List ℕ)) (f g : Following) → g.joining ≡ f.joining → IsJoining set cap feed f → IsJoining set cap feed g
same_joining set cap feed f g same j = record {
  set_is = ap (λ x. x.set) same ∙ j.set_is;
  cap_is = ap (λ x. x.cap) same ∙ j.cap_is;
  calls = j.calls;
  history = subst (λ x. History (rules_of (has set)) cap feed j.calls x.state) (sym same) j.history;
}

-- the joiner is called once more
called : (set : Wanted) (cap : ℕ) (feed : List (List ℕ)) (f g : Following) (call : Call) → Calls f.joining call g.joining → Fits (rules_of (has set)) feed f.joining.state call
    → IsJoining set cap feed f → IsJoining set cap feed g
called set cap feed f g call (stepped, cap_same, set_same) fits j = record {
  set_is = set_same ∙ j.set_is;
  cap_is = cap_same ∙ j.cap_is;
  calls = record { before = f.joining.state; call = call } ∷ j.calls;
  history = (
    subst (λ c. Step (rules_of (has set)) c f.joining.state call g.joining.state) j.cap_is
        (subst (λ s. Step (rules_of (has s)) f.joining.cap f.joining.state call g.joining.state) j.set_is stepped),
    fits,
    j.history,
  );
}

module _ {W : Type 0} (contents : W → Option (List ℕ)) (failures : W → Failures) where
  acted : (set : Wanted) (cap : ℕ) (feed : List (List ℕ)) (f g : Following) (from : ServerKind) (answer : ClientAct) (old new : W) (told : News) → from ≡ f.source
      → ActsOn contents failures from answer f.joining old told new g.joining → FitsAct (rules_of (has set)) feed (record f { source = from }) answer
      → IsJoining set cap feed f → IsJoining set cap feed g
  acted set cap feed f g from (act.Accepted next) old new told is acts fits j = same_joining set cap feed f g acts.2 j
  acted set cap feed f g from (act.Rejected code) old new told is acts fits j = same_joining set cap feed f g acts.2 j
  acted set cap feed f g source.Glimpse (act.Data number payload) old new told is ((result, calls, said), kept) fits j =
      called set cap feed f g (CallSnapshot payload result) calls fits j
  acted set cap feed f g source.Live (act.Data number payload) old new told is (result, calls, records) fits j =
      called set cap feed f g (CallLive number payload result) calls fits j
  acted set cap feed f g from act.Nothing old new told is acts fits j = same_joining set cap feed f g acts.2 j
  acted set cap feed f g from act.Ended old new told is acts fits j = same_joining set cap feed f g acts.2 j
  acted set cap feed f g from (act.Fault fault) old new told is acts fits j = same_joining set cap feed f g acts.2 j

  heard : (set : Wanted) (cap : ℕ) (feed : List (List ℕ)) (f g : Following) (piece : List ℕ) (now : ℕ) (result : ℕ × News) (old new : W)
      → HearsFeed contents failures f piece now old result new g → IsHonest {W = W} (rules_of (has set)) feed f (Hears piece now result old new)
      → IsJoining set cap feed f → IsJoining set cap feed g
  heard set cap feed f g piece now result old new (held, took, inl (payload, block, (answer, named, t, means, inl (other, is, (says, shut, kept, same))), from, none)) honest j =
      same_joining set cap feed f g same j
  heard set cap feed f g piece now result old new (held, took, inl (payload, block, (answer, named, t, means, inr (own, goes, (acts, pins))), from, none)) honest j =
      acted set cap feed f g f.source answer old new result.1 refl acts (honest held payload answer named t took block means) j
  heard set cap feed f g piece now result old new (held, took, inr (none, told, kept, is)) honest j =
      same_joining set cap feed f g (ap (λ x. x.joining) is) j

  pub does : (set : Wanted) (cap : ℕ) (feed : List (List ℕ)) (f g : Following) (did : Did W) → Does contents failures f did g → IsHonest (rules_of (has set)) feed f did
      → IsJoining set cap feed f → IsJoining set cap feed g
  does set cap feed f g (Connects credentials now) is honest j =
      called set cap feed f g CallRestart (ap (λ x. x.joining.state) is, ap (λ x. x.joining.cap) is, ap (λ x. x.joining.set) is) tt j
  does set cap feed f g (Ticks now) is honest j = same_joining set cap feed f g (ap (λ x. x.joining) is) j
  does set cap feed f g (Replays number payload result) (calls, is) honest j = called set cap feed f g (CallLive number payload result) calls honest j
  does set cap feed f g (Hears piece now result old new) step honest j = heard set cap feed f g piece now result old new step honest j

  pub joining : (set : Wanted) (cap : ℕ) (feed : List (List ℕ)) (begun : Following) (past : List (Did W)) (f : Following) → IsJoining set cap feed begun
      → Followed contents failures (rules_of (has set)) feed begun past f → IsJoining set cap feed f
  joining set cap feed begun [] f j is = subst (IsJoining set cap feed) (sym is) j
  joining set cap feed begun (did ∷ past) f j (e, step, honest, before) = does set cap feed e f did step honest (joining set cap feed begun past e j before)

pub stands_joined : (set : Wanted) (cap : ℕ) (feed : List (List ℕ)) (f : Following) → AllByRecursion AreBytes feed → IsJoining set cap feed f → StandsJoined set cap feed f
stands_joined set cap feed f bytes j = (j.calls, j.history, stands (rules_of (has set)) (only_lawful (has set)) cap feed bytes j.calls f.joining.state j.history)

-- no message has the number 0
pub positive_next : (set : Wanted) (cap : ℕ) (feed : List (List ℕ)) (f : Following) → AllByRecursion AreBytes feed → IsJoining set cap feed f → (p : Position) → f.joining.state.joined ≡ Some p → 0 < p.next
positive_next set cap feed f bytes j p there =
    let placed = (always (rules_of (has set)) (only_lawful (has set)) cap feed bytes j.calls f.joining.state j.history).placed p there in
    let some = placed.positive in let above = placed.from_first in omega arith
