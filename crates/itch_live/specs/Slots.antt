-- The places of clients. Each is free or has a client.
use Rattle.std.specs.Prelude.{◌≡◌, ℕ, ◌<◌, ◌++◌, Bool, false, List, [], length, map, take, drop, Option, None, Some, IsSome, option_map, get_or, slice_set}
use Rattle.itch_live.specs.SnapshotClients as clients
use Rattle.itch_live.specs.SnapshotClients.{SnapshotClient, Hears, pending, is_waiting}

abbrev pub Slots : Type 0
Slots = List (Option SnapshotClient)

-- the client at a place; there is none at a place that does not exist
abbrev pub client_at : Slots → ℕ → Option SnapshotClient
client_at slots place = get_or slots place None

abbrev pub IsFree : Slots → ℕ → Type 0
IsFree slots place = (place < length slots) × (client_at slots place ≡ None)

-- each place has a client
abbrev pub AreTaken : Slots → Type 0
AreTaken slots = (place : ℕ) → place < length slots → IsSome (client_at slots place)

abbrev pub HearsBy : Option SnapshotClient → Slots → ℕ → List ℕ → ℕ → ℕ → Slots → Type 0
HearsBy None slots place piece now count new = (count ≡ length piece) × (new ≡ slots)
HearsBy (Some g) slots place piece now count new = (h : SnapshotClient) × Hears g piece now count h × (new ≡ slice_set slots place (Some h))

-- the client at a place consumes some bytes; if there is no client, all are ignored
abbrev pub HearsAt : Slots → ℕ → List ℕ → ℕ → ℕ → Slots → Type 0
HearsAt slots place piece now count new = HearsBy (client_at slots place) slots place piece now count new

-- the bytes still to be written to a client, if there is one
abbrev pub pending_of : Option SnapshotClient → List ℕ
pending_of None = []
pending_of (Some g) = pending g

abbrev pub took_by : Option SnapshotClient → Slots → ℕ → ℕ → ℕ → Slots
took_by None slots place count now = slots
took_by (Some g) slots place count now = slice_set slots place (Some (clients.took g count now))

-- the socket of the client at a place has accepted the next bytes
abbrev pub took_at : Slots → ℕ → ℕ → ℕ → Slots
took_at slots place count now = took_by (client_at slots place) slots place count now

abbrev pub answered_slot : List ℕ → ℕ → ℕ → Option SnapshotClient → Option SnapshotClient
answered_slot bytes next now slot = option_map (clients.answered_if bytes next now) slot

-- the waiting clients at the first `count` places are answered with a snapshot of this number
abbrev pub answered : List ℕ → ℕ → ℕ → ℕ → Slots → Slots
answered bytes next now count slots = map (answered_slot bytes next now) (take count slots) ++ drop count slots

-- the waiting clients at the first `count` places receive a snapshot of this number, if there is one
abbrev pub handed : Option (List ℕ) → ℕ → ℕ → ℕ → Slots → Slots
handed None next now count slots = slots
handed (Some bytes) next now count slots = answered bytes next now count slots

abbrev pub ticked_slot : ℕ → Option SnapshotClient → Option SnapshotClient
ticked_slot now slot = option_map (λ g. clients.ticked g now) slot

abbrev pub ticked : ℕ → Slots → Slots
ticked now slots = map (ticked_slot now) slots

abbrev pub waits : Option SnapshotClient → Bool
waits None = false
waits (Some g) = is_waiting g
