-- The follower of a feed, over every list of its calls.
use Rattle.std.specs.Prelude.{◌≡◌, ℕ, ◌-◌, true, List, [], ◌∷◌, Option, Some, Result, slice_get}
use Rattle.itch_codec.specs.Fields.{AreBytes}
use Rattle.itch_frame.specs.Blocks.{IsBlockOf}
use Rattle.itch_frame.specs.Cuts.{IsTake}
use Rattle.itch_frame.specs.declared.tally.Failures.{Failures}
use Rattle.itch_market.specs.Wanted.{Wanted, has}
use Rattle.itch_join.specs.declared.fault.JoinFault.{JoinFault}
use Rattle.itch_join.specs.declared.outcome.Live.{Live}
use Rattle.itch_join.specs.Rules.{Rules, rules_of}
use Rattle.itch_join.specs.States.{State, is_number}
use Rattle.itch_join.specs.Steps.{snapshot_case}
use Rattle.itch_join.specs.Deliveries.{Event, History, IsOfFeed}
use Rattle.itch_join.specs.Stands.{Stands}
use Rattle.itch_soup.specs.declared.login.Credentials.{Credentials}
use Rattle.itch_soup.specs.declared.client.ClientAct.{ClientAct}
use Rattle.itch_soup.specs.declared.client.ClientAct.TheVariants as act
use Rattle.itch_soup.specs.Clients.{Client}
use Rattle.itch_live.specs.declared.news.ServerKind.{ServerKind}
use Rattle.itch_live.specs.declared.news.ServerKind.TheVariants as source
use Rattle.itch_live.specs.declared.news.News.{News}
use Rattle.itch_live.specs.Follows.{Following, connected, ticked, Means, HearsFeed, Replayed}

-- a call of the follower: the caller begins a connection with a login, reports the time, passes in a message from the record, or passes in
-- bytes of the feed, with the result and the record before and after
pub data Did (W : Type 0) : Type 0 where
  Connects : (credentials : Credentials) (now : ℕ) → Did W
  Ticks : (now : ℕ) → Did W
  Replays : (number : ℕ) (payload : List ℕ) (result : Result Live JoinFault) → Did W
  Hears : (piece : List ℕ) (now : ℕ) (result : ℕ × News) (old new : W) → Did W

-- a message of the live feed is the feed's message with its number; a message of a snapshot consists of bytes, and the snapshot is one of the
-- feed
abbrev pub FitsSource : Rules → List (List ℕ) → State → ServerKind → ℕ → List ℕ → Type 0
FitsSource R feed s source.Live number payload = is_number number ≡ true → slice_get feed (number - 1) ≡ Some payload
FitsSource R feed s source.Glimpse number payload = AreBytes payload × IsOfFeed R feed (snapshot_case R s payload)

abbrev pub FitsAct : Rules → List (List ℕ) → Following → ClientAct → Type 0
FitsAct R feed f (act.Data number payload) = FitsSource R feed f.joining.state f.source number payload
FitsAct R feed f other = Unit {0}

-- the premise on servers and on the record: the meaning of each packet belongs to the feed, and so does each message that is replayed
abbrev pub IsHonest : {W : Type 0} → Rules → List (List ℕ) → Following → Did W → Type 0
IsHonest R feed f (Connects credentials now) = Unit {0}
IsHonest R feed f (Ticks now) = Unit {0}
IsHonest R feed f (Replays number payload result) = FitsSource R feed f.joining.state source.Live number payload
IsHonest R feed f (Hears piece now result old new) =
    (held payload : List ℕ) (answer : ClientAct) (named : Option (List ℕ)) (t : Client) → IsTake f.held piece result.0 held → IsBlockOf payload held
    → Means f.session payload now answer named t → FitsAct R feed f answer

-- a joiner with this cap and these locates that has received only this feed and snapshots of it
pub record IsJoining (set : Wanted) (cap : ℕ) (feed : List (List ℕ)) (f : Following) : Type 0 where
  pub set_is : f.joining.set ≡ set
  pub cap_is : f.joining.cap ≡ cap
  pub calls : List Event
  pub history : History (rules_of (has set)) cap feed calls f.joining.state

module _ {W : Type 0} (contents : W → Option (List ℕ)) (failures : W → Failures) where
  -- the effect of a call on the follower
  abbrev pub Does : Following → Did W → Following → Type 0
  Does f (Connects credentials now) g = g ≡ connected f credentials now
  Does f (Ticks now) g = g ≡ ticked f now
  Does f (Replays number payload result) g = Replayed f number payload result g
  Does f (Hears piece now result old new) g = HearsFeed contents failures f piece now old result new g

  -- these calls lead from one state to the other, and the servers sent messages of this feed only; the latest call comes first
  abbrev pub Followed : Rules → List (List ℕ) → Following → List (Did W) → Following → Type 0
  Followed R feed begun [] f = f ≡ begun
  Followed R feed begun (did ∷ past) f = (e : Following) × Does e did f × IsHonest R feed e did × Followed R feed begun past e

-- the joiner's state is the one that calls of one feed lead to
abbrev pub StandsJoined : Wanted → ℕ → List (List ℕ) → Following → Type 0
StandsJoined set cap feed f = (calls : List Event) × History (rules_of (has set)) cap feed calls f.joining.state × Stands (rules_of (has set)) cap feed calls f.joining.state
