-- The snapshots that are kept for clients, by the numbers of the next messages at which they were encoded.
use Rattle.std.specs.Prelude.{ℕ, ◌+◌, ◌*◌, ◌==◌, ◌||◌, nat_le, Bool, false, not, List, [], ◌∷◌, length, Option, None, Some, if◌then◌else◌}
use Rattle.std.specs.List.{list_any, sum_by}
use Rattle.std.specs.Option.{option_or}
use Rattle.itch_market.specs.Content.{Content}
use Rattle.itch_snapshot.specs.Snapshot.{snap}
use Rattle.itch_live.specs.SnapshotClients.{SnapshotClient, is_at, encoded_in}
use Rattle.itch_live.specs.Slots.{Slots}

-- the number of the snapshot of the client at a place
abbrev pub number_of : Option SnapshotClient → Option ℕ
number_of None = None
number_of (Some g) = g.snapshot

abbrev pub is_sent : Option SnapshotClient → ℕ → Bool
is_sent slot number = is_at (number_of slot) number

-- the bytes of the snapshot of the client at a place, if it has this number
abbrev pub bytes_at : Option SnapshotClient → ℕ → Option (List ℕ)
bytes_at None number = None
bytes_at (Some g) number = encoded_in g.snapshot g.told number

-- the bytes of the snapshot with this number, if it is kept
abbrev pub kept_bytes : Slots → ℕ → Option (List ℕ)
kept_bytes [] number = None
kept_bytes (slot ∷ slots) number = option_or (bytes_at slot number) (kept_bytes slots number)

abbrev pub is_kept : Slots → ℕ → Bool
is_kept slots number = list_any (λ slot. is_sent slot number) slots

-- a snapshot has this number, and none with this number is kept at the other places
abbrev pub keeps_alone : Option ℕ → Slots → Bool
keeps_alone None others = false
keeps_alone (Some number) others = not (is_kept others number)

-- this number, if no snapshot with it is kept at the other places
abbrev pub number_alone : Option ℕ → Slots → Option ℕ
number_alone number others = if keeps_alone number others then number else None

abbrev pub with_number : Option ℕ → List ℕ → List ℕ
with_number None numbers = numbers
with_number (Some number) numbers = number ∷ numbers

-- the numbers of the kept snapshots, each once
abbrev pub kept : Slots → List ℕ
kept [] = []
kept (slot ∷ slots) = if keeps_alone (number_of slot) slots then with_number (number_of slot) (kept slots) else kept slots

abbrev pub length_or : Option (List ℕ) → ℕ
length_or None = 0
length_or (Some bytes) = length bytes

-- the size in bytes of the snapshot with this number, or 0 if it is not kept
abbrev pub bytes_under : Slots → Option ℕ → ℕ
bytes_under slots None = 0
bytes_under slots (Some number) = length_or (kept_bytes slots number)

-- the total size in bytes of the kept snapshots, each counted once
abbrev pub snapshot_bytes : Slots → ℕ
snapshot_bytes slots = sum_by (λ number. length_or (kept_bytes slots number)) (kept slots)

-- the greatest size in bytes of the snapshot of a market
abbrev pub most_bytes_of : Content → ℕ
most_bytes_of market = 43 * length (snap market) + 128

-- this number of bytes may be added to those in use: the total is within the limit, or none are in use
abbrev pub fits : ℕ → ℕ → ℕ → Bool
fits limit used more = (used == 0) || nat_le (used + more) limit

-- there is room for the snapshot of a market in addition to the kept ones
abbrev pub has_room : ℕ → Slots → Content → Bool
has_room limit slots market = fits limit (snapshot_bytes slots) (most_bytes_of market)
