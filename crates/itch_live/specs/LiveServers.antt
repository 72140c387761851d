-- A follower and its clients, over every list of calls.
use Rattle.std.specs.Prelude.{◌≡◌, ℕ, ◌≤◌, ◌==◌, ◌++◌, Bool, false, List, [], ◌∷◌, length, take, Option, None, Some, Result, Ok, Err, slice_set, replicate, if◌then◌else◌}
use Rattle.std.specs.List.{AllByRecursion}
use Rattle.std.specs.declared.alloc.AllocError.{AllocError}
use Rattle.itch_frame.specs.declared.tally.Failures.{Failures}
use Rattle.itch_market.specs.Content.{Content}
use Rattle.itch_join.specs.Positions.{Position}
use Rattle.std.specs.Option.{option_or}
use Rattle.itch_soup.specs.declared.login.ServerConfig.{ServerConfig}
use Rattle.itch_live.specs.SnapshotClients.{session_bytes, new_snapshot_client}
use Rattle.itch_live.specs.Slots as seating
use Rattle.itch_live.specs.Slots.{Slots, client_at, pending_of, IsFree, AreTaken}
use Rattle.itch_live.specs.Kept.{has_room, kept_bytes}
use Rattle.itch_live.specs.Follows.{Following}
use Rattle.itch_live.specs.Feeds.{Did, Does}

-- the follower of the feed, and the places of clients
pub record LiveServer : Type 0 where
  pub following : Following
  pub slots : Slots

abbrev pub new_live_server : Following → ℕ → LiveServer
new_live_server following places = record { following = following; slots = replicate places None }

-- a client is given a free place, where its login will be judged by this configuration, or all places are taken; or memory is refused, and
-- nothing changes
abbrev pub Accepts : ServerConfig → LiveServer → ℕ → Result (Option ℕ) AllocError → LiveServer → Type 0
Accepts config d now (Ok (Some place)) e =
    IsFree d.slots place × (e ≡ record d { slots = slice_set d.slots place (Some (new_snapshot_client config now)) })
Accepts config d now (Ok None) e = AreTaken d.slots × (e ≡ d)
Accepts config d now (Err error) e = e ≡ d

-- the snapshot for the waiting clients at this number: the kept one with this number, or else that of the market, if there is room for it
abbrev pub encoded_for : ℕ → Slots → Content → ℕ → Option (List ℕ)
encoded_for limit slots market next =
    option_or (kept_bytes slots next) (if has_room limit slots market then Some (session_bytes market next) else None)

-- the waiting clients at the first `count` places receive this snapshot, if there is one
abbrev pub with_encoded : Option (List ℕ) → LiveServer → ℕ → ℕ → ℕ → LiveServer
with_encoded encoded d next count now = record d { slots = seating.handed encoded next now count d.slots }

abbrev pub answered_with : Option Position → LiveServer → ℕ → ℕ → ℕ → LiveServer
answered_with None d limit count now = d
answered_with (Some j) d limit count now = with_encoded (encoded_for limit d.slots j.market j.next) d j.next count now

-- the waiting clients at the first `count` places are answered, if there is a market, with a limit of `limit` bytes for all snapshots
abbrev pub answered : LiveServer → ℕ → ℕ → ℕ → LiveServer
answered d limit count now = answered_with d.following.joining.state.joined d limit count now

-- a call, with its result; an answer has the limit of the snapshots in bytes, and the number of places that it reached
pub data Call (W : Type 0) : Type 0 where
  Feeds : (did : Did W) → Call W
  Admits : (config : ServerConfig) (now : ℕ) (result : Result (Option ℕ) AllocError) → Call W
  Hears : (place : ℕ) (piece : List ℕ) (now count : ℕ) → Call W
  Answers : (limit now count : ℕ) → Call W
  Takes : (place count now : ℕ) → Call W
  Ticks : (now : ℕ) → Call W
  Leaves : (place : ℕ) → Call W

-- a call, and the server before it
pub record Event (W : Type 0) : Type 0 where
  pub before : LiveServer
  pub call : Call W

module _ {W : Type 0} (contents : W → Option (List ℕ)) (failures : W → Failures) where
  -- the effect of a call on a server
  abbrev pub Step : LiveServer → Call W → LiveServer → Type 0
  Step d (Feeds did) e = (f : Following) × Does contents failures d.following did f × (e ≡ record d { following = f })
  Step d (Admits config now result) e = Accepts config d now result e
  Step d (Hears place piece now count) e = (s : Slots) × seating.HearsAt d.slots place piece now count s × (e ≡ record d { slots = s })
  Step d (Answers limit now count) e = e ≡ answered d limit count now
  Step d (Takes place count now) e = (count ≤ length (pending_of (client_at d.slots place))) × (e ≡ record d { slots = seating.took_at d.slots place count now })
  Step d (Ticks now) e = e ≡ record d { slots = seating.ticked now d.slots }
  Step d (Leaves place) e = e ≡ record d { slots = slice_set d.slots place None }

  -- a server that began as a new one, after these calls; the latest comes first
  abbrev pub History : Following → List (Event W) → LiveServer → Type 0
  History begun [] d = (places : ℕ) × (d ≡ new_live_server begun places)
  History begun (x ∷ past) d = Step x.before x.call d × History begun past x.before

-- a client was given this place, or left it
abbrev pub changes : {W : Type 0} → ℕ → Call W → Bool
changes k (Admits config now (Ok (Some place))) = place == k
changes k (Leaves place) = place == k
changes k other = false

-- the client at this place stayed there during these calls, and no other one arrived
abbrev pub Stays : {W : Type 0} → ℕ → List (Event W) → Type 0
Stays k past = AllByRecursion (λ x. changes k x.call ≡ false) past

-- the bytes that the socket of the current client at this place has accepted
abbrev pub sent_by : {W : Type 0} → Call W → LiveServer → ℕ → List ℕ → List ℕ
sent_by (Admits config now (Ok (Some place))) d k so_far = if place == k then [] else so_far
sent_by (Takes place count now) d k so_far = if place == k then so_far ++ take count (pending_of (client_at d.slots k)) else so_far
sent_by (Leaves place) d k so_far = if place == k then [] else so_far
sent_by other d k so_far = so_far

abbrev pub sent_at : {W : Type 0} → ℕ → List (Event W) → List ℕ
sent_at k [] = []
sent_at k (x ∷ past) = sent_by x.call x.before k (sent_at k past)
