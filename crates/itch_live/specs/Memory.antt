-- The bytes that a server holds, without the market of its feed and the fixed size of its places.
use Rattle.std.specs.Prelude.{◌≡◌, ℕ, ◌+◌, ◌*◌, max, List, [], ◌∷◌, length, Option, None, Some}
use Rattle.itch_codec.specs.Widths.{IsSequence}
use Rattle.itch_market.specs.GoodMarkets.{IsGood}
use Rattle.itch_snapshot.specs.Snapshot.{snap}
use Rattle.itch_join.specs.Positions.{Position}
use Rattle.itch_live.specs.Slots.{Slots}
use Rattle.itch_live.specs.Kept.{length_or, snapshot_bytes}
use Rattle.itch_live.specs.LiveServers.{LiveServer, encoded_for, Call, Answers, Event}

-- the bytes of a splitter: the longest block
abbrev pub splitter_bytes : ℕ
splitter_bytes = 65537

-- the number of clients
abbrev pub clients : Slots → ℕ
clients [] = 0
clients (None ∷ slots) = clients slots
clients (Some g ∷ slots) = 1 + clients slots

-- a splitter for the feed and for each client, and the snapshots
abbrev pub held_bytes : LiveServer → ℕ
held_bytes d = splitter_bytes + clients d.slots * splitter_bytes + snapshot_bytes d.slots

-- the most bytes that a server with `places` places holds, if its snapshots have at most `most` bytes together
abbrev pub most_bytes : ℕ → ℕ → ℕ
most_bytes places most = splitter_bytes + places * splitter_bytes + most

-- the number of bytes that waiting clients are to receive, if there is a market
abbrev pub handed_at : Option Position → ℕ → LiveServer → ℕ
handed_at None limit d = 0
handed_at (Some j) limit d = length_or (encoded_for limit d.slots j.market j.next)

abbrev pub handed_by : {W : Type 0} → LiveServer → Call W → ℕ
handed_by d (Answers limit now count) = handed_at d.following.joining.state.joined limit d
handed_by d other = 0

-- the size in bytes of the longest snapshot that was passed in
abbrev pub longest : {W : Type 0} → List (Event W) → ℕ
longest [] = 0
longest (x ∷ past) = max (handed_by x.before x.call) (longest past)

-- the limit of the snapshots in bytes, in a call that answers
abbrev pub limit_by : {W : Type 0} → Call W → ℕ
limit_by (Answers limit now count) = limit
limit_by other = 0

-- the greatest of these limits
abbrev pub largest_limit : {W : Type 0} → List (Event W) → ℕ
largest_limit [] = 0
largest_limit (x ∷ past) = max (limit_by x.call) (largest_limit past)

-- the number of messages in the snapshot of the current market
abbrev pub messages_at : Option Position → ℕ
messages_at None = 0
messages_at (Some j) = length (snap j.market)

abbrev pub messages_by : {W : Type 0} → LiveServer → Call W → ℕ
messages_by d (Answers limit now count) = messages_at d.following.joining.state.joined
messages_by d other = 0

-- the most messages in a snapshot that was passed in
abbrev pub most_messages : {W : Type 0} → List (Event W) → ℕ
most_messages [] = 0
most_messages (x ∷ past) = max (messages_by x.before x.call) (most_messages past)

-- the market and the number of each answer satisfy the invariants of `Market` and `Seq`
abbrev pub IsOfMarket : {W : Type 0} → LiveServer → Call W → Type 0
IsOfMarket d (Answers limit now count) = (j : Position) → d.following.joining.state.joined ≡ Some j → IsGood j.market × IsSequence j.next
IsOfMarket d other = Unit {0}

abbrev pub AreOfMarkets : {W : Type 0} → List (Event W) → Type 0
AreOfMarkets [] = Unit {0}
AreOfMarkets (x ∷ past) = IsOfMarket x.before x.call × AreOfMarkets past
