-- The bytes sent to the clients of a server whose follower receives one feed.
use Rattle.std.specs.Prelude.{◌≡◌, ℕ, ◌-◌, ◌<◌, ◌≤◌, ◌⊎◌, List, [], ◌∷◌, ◌++◌, take, Some, None, Option}
use Rattle.itch_join.specs.Positions.{Position}
use Rattle.itch_join.specs.Rules.{Rules, run, bad}
use Rattle.itch_soup.specs.declared.packet.LoginRequest.{LoginRequest}
use Rattle.itch_soup.specs.declared.server.ServerAct.TheVariants as act
use Rattle.itch_soup.specs.Servers.{judged}
use Rattle.itch_live.specs.SnapshotClients.{SnapshotClient, session_bytes}
use Rattle.itch_live.specs.Slots.{client_at}
use Rattle.itch_live.specs.Feeds.{Did, IsHonest}
use Rattle.itch_live.specs.Stories.{IsBeginning, IsRefusal, IsGreeting, greeting}
use Rattle.itch_live.specs.LiveServers.{LiveServer, Call, Feeds, Answers, Event, Stays}
use Rattle.itch_live.specs.Visits.{Visit, visit_at}

-- the calls of a server's follower
abbrev pub fed_by : {W : Type 0} → Call W → List (Did W) → List (Did W)
fed_by (Feeds did) past = did ∷ past
fed_by other past = past

abbrev pub fed : {W : Type 0} → List (Event W) → List (Did W)
fed [] = []
fed (x ∷ past) = fed_by x.call (fed past)

-- the servers send messages of one feed only
abbrev pub IsHonestCall : {W : Type 0} → Rules → List (List ℕ) → LiveServer → Call W → Type 0
IsHonestCall R feed d (Feeds did) = IsHonest R feed d.following did
IsHonestCall R feed d other = Unit {0}

abbrev pub AreHonest : {W : Type 0} → Rules → List (List ℕ) → List (Event W) → Type 0
AreHonest R feed [] = Unit {0}
AreHonest R feed (x ∷ past) = IsHonestCall R feed x.before x.call × AreHonest R feed past

-- The answer to the login of the current client at this place, with this visit. One of these calls passed it in after this client's login had
-- arrived, and the client has kept its place since. It is the snapshot of the market after exactly the messages of the feed before the next
-- one at that time, with the number of that next one.
pub record IsFeedAnswer {W : Type 0} (R : Rules) (feed : List (List ℕ)) (k : ℕ) (past : List (Event W)) (visit : Visit) (bytes : List ℕ) : Type 0 where
  pub later : List (Event W)
  pub at : Event W
  pub before : List (Event W)
  pub place : past ≡ later ++ at ∷ before
  pub limit : ℕ
  pub now : ℕ
  pub count : ℕ
  pub handed : at.call ≡ Answers limit now count
  pub stayed : Stays k later
  pub present : visit_at k past ≡ Some visit
  pub earlier : Visit
  pub visiting : visit_at k before ≡ Some earlier
  pub same_begun : visit.begun ≡ earlier.begun
  pub waiting : SnapshotClient
  pub there : client_at at.before.slots k ≡ Some waiting
  pub login : LoginRequest
  pub asked : waiting.asked ≡ Some login
  pub accepted : (judged visit.begun.config 0 login).0 ≡ act.Accept 1
  pub joined : Position
  pub position : at.before.following.joining.state.joined ≡ Some joined
  pub positive : 0 < joined.next
  pub to_bad : joined.next ≤ bad R feed
  pub is : bytes ≡ session_bytes (run R (take (joined.next - 1) feed)) joined.next

-- the rejection of a login sent by the client at this place
abbrev pub IsRefusalAt : {W : Type 0} → ℕ → List (Event W) → List ℕ → Type 0
IsRefusalAt k past bytes = (visit : Visit) × (visit_at k past ≡ Some visit) × IsRefusal visit.begun.config visit.begun.now visit.past bytes

-- the acceptance of a login sent by the client at this place, and heartbeats
abbrev pub IsGreetingAt : {W : Type 0} → ℕ → List (Event W) → List ℕ → Type 0
IsGreetingAt k past bytes = (visit : Visit) × (visit_at k past ≡ Some visit) × IsGreeting visit.begun.config visit.begun.now visit.past bytes

-- the same, followed by the answer to the login
abbrev pub IsGreetingAndFeedAnswer : {W : Type 0} → Rules → List (List ℕ) → ℕ → List (Event W) → List ℕ → Type 0
IsGreetingAndFeedAnswer R feed k past bytes =
    (visit : Visit) × (beats : ℕ) × (rest : List ℕ) × IsFeedAnswer R feed k past visit rest × (bytes ≡ greeting visit.begun.config beats ++ rest)

-- all bytes for a client: none, the rejection of its login, or its acceptance and heartbeats, with or without the answer after them
abbrev pub IsToldOfFeed : {W : Type 0} → Rules → List (List ℕ) → ℕ → List (Event W) → List ℕ → Type 0
IsToldOfFeed R feed k past bytes = (bytes ≡ []) ⊎ IsRefusalAt k past bytes ⊎ IsGreetingAt k past bytes ⊎ IsGreetingAndFeedAnswer R feed k past bytes

-- the bytes sent so far are a prefix of these
abbrev pub IsSentOfFeed : {W : Type 0} → Rules → List (List ℕ) → ℕ → List (Event W) → List ℕ → Type 0
IsSentOfFeed R feed k past sent = (bytes : List ℕ) × IsToldOfFeed R feed k past bytes × IsBeginning sent bytes

-- if there is a market, there is one from then on, of at least as many messages
abbrev pub GoesOn : Option Position → Option Position → Type 0
GoesOn None now = Unit {0}
GoesOn (Some i) None = ⊥
GoesOn (Some i) (Some j) = i.next ≤ j.next
