-- The record of the messages of a feed.
use Rattle.std.specs.Prelude.{◌≡◌, ℕ, ◌-◌, ◌<◌, ◌≤◌, List, [], ◌∷◌, take, drop, Option, None, Some}
use Rattle.std.specs.Io.KnownBytes.{Appends}
use Rattle.itch_frame.specs.Blocks.{blocks}
use Rattle.itch_join.specs.Positions.{Position}
use Rattle.itch_join.specs.Deliveries.{or_else}
use Rattle.itch_live.specs.declared.news.News.{News}
use Rattle.itch_live.specs.declared.news.News.TheVariants as news
use Rattle.itch_live.specs.Follows.{Following}
use Rattle.itch_live.specs.Feeds.{Did, Connects, Ticks, Replays, Hears}

-- no write failed
abbrev pub IsWritten : News → Type 0
IsWritten (news.Unrecorded fault) = ⊥
IsWritten other = Unit {0}

-- there is one record, which each call continues where the one before it ended, and no write to it failed; it was replayed before these calls
abbrev pub IsOneRecord : {W : Type 0} → W → List (Did W) → W → Type 0
IsOneRecord begun [] record_now = record_now ≡ begun
IsOneRecord begun (Connects credentials now ∷ past) record_now = IsOneRecord begun past record_now
IsOneRecord begun (Ticks now ∷ past) record_now = IsOneRecord begun past record_now
IsOneRecord begun (Replays number payload result ∷ past) record_now = ⊥
IsOneRecord begun (Hears piece now result old new ∷ past) record_now = (record_now ≡ new) × IsWritten result.1 × IsOneRecord begun past old

-- the number at which this call completed a snapshot
abbrev pub joined_in : News → Option ℕ
joined_in (news.Joined next) = Some next
joined_in other = None

abbrev pub joined_by : {W : Type 0} → Did W → Option ℕ
joined_by (Connects credentials now) = None
joined_by (Ticks now) = None
joined_by (Replays number payload result) = None
joined_by (Hears piece now result old new) = joined_in result.1

-- the number of the first message that is recorded: the next one when the calls began, or the one at which the joiner has joined since
abbrev pub first_recorded : {W : Type 0} → Option Position → List (Did W) → Option ℕ
first_recorded (Some j) past = Some j.next
first_recorded None [] = None
first_recorded None (did ∷ past) = or_else (first_recorded None past) (joined_by did)

-- the feed's messages from one number up to the one before another
abbrev pub between : ℕ → ℕ → List (List ℕ) → List (List ℕ)
between first next feed = take (next - first) (drop (first - 1) feed)

module _ {W : Type 0} (contents : W → Option (List ℕ)) where
  abbrev pub RecordsUpTo : List (List ℕ) → Option ℕ → W → W → Option Position → Type 0
  RecordsUpTo feed first begun record_now None = (first ≡ None) × Appends (contents begun) (contents record_now) []
  RecordsUpTo feed first begun record_now (Some j) =
      (number : ℕ) × (first ≡ Some number) × (0 < number) × (number ≤ j.next) × Appends (contents begun) (contents record_now) (blocks (between number j.next feed))

  -- the bytes added to the record are the blocks of the feed's messages from the first recorded one up to the one before the next, each once
  abbrev pub IsRecord : List (List ℕ) → Following → List (Did W) → W → Following → W → Type 0
  IsRecord feed begun past record_begun f record_now =
      RecordsUpTo feed (first_recorded begun.joining.state.joined past) record_begun record_now f.joining.state.joined
