-- The events of one client of a server.
use Rattle.std.specs.Prelude.{◌≡◌, ℕ, ◌==◌, nat_lt, ◌&&◌, Bool, is_some, List, [], ◌∷◌, Option, None, Some, Ok, Err, if◌then◌else◌}
use Rattle.itch_join.specs.Positions.{Position}
use Rattle.itch_soup.specs.declared.login.ServerConfig.{ServerConfig}
use Rattle.itch_live.specs.SnapshotClients.{SnapshotClient}
use Rattle.itch_live.specs.Stories as stories
use Rattle.itch_live.specs.Stories.{Happening, Story}
use Rattle.itch_live.specs.LiveServers.{LiveServer, encoded_for, Call, Feeds, Admits, Hears, Answers, Takes, Ticks, Leaves, Event}

-- how a client arrived: the configuration that judges its login, and the time
pub record Arrival : Type 0 where
  pub config : ServerConfig
  pub now : ℕ

-- how a client arrived, and its events since; the latest comes first
pub record Visit : Type 0 where
  pub begun : Arrival
  pub past : List Happening

abbrev pub with : Happening → Option Visit → Option Visit
with happening None = None
with happening (Some v) = Some (record v { past = happening ∷ v.past })

-- the current market is passed in, if there is one with a snapshot and this place is among the first ones
abbrev pub answers : Option Position → LiveServer → ℕ → Bool → ℕ → Option Visit → Option Visit
answers None d limit here now visit = visit
answers (Some j) d limit here now visit = if is_some (encoded_for limit d.slots j.market j.next) && here then with (stories.Answers j.market j.next now) visit else visit

-- Calls at other places are not part of the visit.
abbrev pub visit_by : {W : Type 0} → Call W → LiveServer → ℕ → Option Visit → Option Visit
visit_by (Feeds did) d k visit = visit
visit_by (Admits config now (Ok (Some place))) d k visit = if place == k then Some (record { begun = record { config = config; now = now }; past = [] }) else visit
visit_by (Admits config now (Ok None)) d k visit = visit
visit_by (Admits config now (Err error)) d k visit = visit
visit_by (Hears place piece now count) d k visit = if place == k then with (stories.Hears piece now count) visit else visit
visit_by (Answers limit now count) d k visit = answers d.following.joining.state.joined d limit (nat_lt k count) now visit
visit_by (Takes place count now) d k visit = if place == k then with (stories.Takes count now) visit else visit
visit_by (Ticks now) d k visit = with (stories.Ticks now) visit
visit_by (Leaves place) d k visit = if place == k then None else visit

-- the events of the current client at this place
abbrev pub visit_at : {W : Type 0} → ℕ → List (Event W) → Option Visit
visit_at k [] = None
visit_at k (x ∷ past) = visit_by x.call x.before k (visit_at k past)

-- the client at a place is the one that its visit leads to, and was sent these bytes, as if there were no other client; at a free place,
-- nothing was sent
abbrev pub IsVisit : Option Visit → Option SnapshotClient → List ℕ → Type 0
IsVisit None None sent = sent ≡ []
IsVisit (Some v) (Some g) sent = Story v.begun.config v.begun.now v.past g sent
IsVisit visit slot sent = ⊥
