-- The tally of messages for `info`: how many have each type, their times, the system events, and the live orders meanwhile.
use Rattle.std.specs.Prelude.{◌≡◌, ◌≢◌, ℕ, ◌+◌, ◌-◌, ◌^◌, ◌<◌, ◌==◌, ◌⊎◌, min, max, slice_index, if◌then◌else◌, Bool, true, false, List, [], ◌∷◌, ◌++◌, length, map, Option, None, Some}
use Rattle.std.specs.FinMap as finite
use Rattle.std.specs.List.{count_by}
use Rattle.itch_codec.specs.Headers.{kind_of, time_of}
use Rattle.itch_codec.specs.Messages.{message_of}
use Rattle.itch_codec.specs.declared.message.Message.{Message}
use Rattle.itch_codec.specs.declared.message.Message.TheVariants as is
use Rattle.itch_day.specs.DayCursors.{IsDayCursor, latest}
use Rattle.itch_day.specs.declared.cursor.DayCursor.{DayCursor}
use Rattle.itch_frame.specs.Blocks.{blocks}
use Rattle.itch_market.specs.Content.{Content, empty, laid}
use Rattle.itch_market.specs.Effects.{effect}
use Rattle.itch_market.specs.GoodMarkets.{IsGood}
use Rattle.itch_market.specs.Runs.{run}
use Rattle.itch_commands.specs.Expectations.{is_last}
use Rattle.itch_commands.specs.declared.info.events.Event.{Event}
use Rattle.itch_commands.specs.declared.info.summary.Summary.{Summary}
use Rattle.itch_commands.specs.declared.info.tally.Tally.{Tally}

-- the number of messages with this type
abbrev pub count_of : ℕ → List Message → ℕ
count_of kind messages = count_by (λ message. kind_of message == kind) messages

-- the earlier of two times, if there are any
abbrev pub earlier : Option ℕ → Option ℕ → Option ℕ
earlier None time = time
earlier (Some before) None = Some before
earlier (Some before) (Some time) = Some (min before time)

-- the earliest time of these messages and of a time before them
abbrev pub earliest : Option ℕ → List Message → Option ℕ
earliest before [] = before
earliest before (message ∷ rest) = earliest (earlier before (time_of message)) rest

-- the system event in a message with this number, if it is one
abbrev pub event_of : ℕ → Message → List Event
event_of number (is.SystemEvent x) = record { number = number; time = x.header.stamp; code = x.code } ∷ []
event_of number message = []

-- the system events among these messages; the first message has this number
abbrev pub events_from : ℕ → List Message → List Event
events_from number [] = []
events_from number (message ∷ rest) = event_of number message ++ events_from (number + 1) rest

-- the number of live orders
abbrev pub live : Content → ℕ
live m = length m.orders

-- the greatest number of live orders after any of these messages, from this market on
abbrev pub peak_from : Content → List Message → ℕ
peak_from m [] = 0
peak_from m (message ∷ rest) = max (live (effect m message)) (peak_from (effect m message) rest)

-- the summary of messages after which the market is this one
abbrev pub summary_in : Content → List (List ℕ) → Summary
summary_in m payloads =
    record {
      count = length payloads;
      bytes = min (length (blocks payloads)) (2 ^ 64 - 1);
      first = earliest None (map message_of payloads);
      last = latest None (map message_of payloads);
      stocks = length (finite.keys m.securities);
      live = live m;
      peak = peak_from empty (map message_of payloads);
      is_ended = is_last m.event;
    }

-- the summary of the messages at the beginning of a day
abbrev pub summary_of : List (List ℕ) → Summary
summary_of payloads = summary_in (run (map message_of payloads)) payloads

-- one more message, after which the market is this one, is counted
pub record IsCounted (old : Tally) (message : Message) (m : Content) (new : Tally) : Type 0 where
  pub counts : (kind : ℕ) → kind < 256 → slice_index new.counts.counts kind ≡ slice_index old.counts.counts kind + (if kind_of message == kind then 1 else 0)
  pub first : new.first ≡ earlier old.first (time_of message)
  pub peak : new.peak ≡ max old.peak (live m)

-- the system event of one more message, if it is one, is in the list, unless memory ran out for it or for an earlier one
pub record IsListed (before : Bool) (old : List Event) (number : ℕ) (message : Message) (now : Bool) (new : List Event) : Type 0 where
  pub complete : now ≡ true → (before ≡ true) × (new ≡ old ++ event_of number message)
  pub lost : now ≡ false → (before ≡ false) ⊎ (event_of number message ≢ [])

-- the tally of these messages
pub record IsTally (payloads : List (List ℕ)) (cursor : DayCursor) (m : Content) (tally : Tally) (complete : Bool) (events : List Event) : Type 0 where
  pub tracked : IsDayCursor cursor payloads
  pub market : m ≡ laid (run (map message_of payloads))
  pub good : IsGood (run (map message_of payloads))
  pub counts : (kind : ℕ) → kind < 256 → slice_index tally.counts.counts kind ≡ count_of kind (map message_of payloads)
  pub first : tally.first ≡ earliest None (map message_of payloads)
  pub peak : tally.peak ≡ peak_from empty (map message_of payloads)
  pub listed : complete ≡ true → events ≡ events_from 1 (map message_of payloads)
  pub lost : complete ≡ false → events_from 1 (map message_of payloads) ≢ []

-- nothing is counted yet
pub record IsNew (tally : Tally) : Type 0 where
  pub counts : (kind : ℕ) → kind < 256 → slice_index tally.counts.counts kind ≡ 0
  pub first : tally.first ≡ None
  pub peak : tally.peak ≡ 0

-- the summary of the tally
abbrev pub summary_by : DayCursor → Content → Tally → Summary
summary_by cursor m tally =
    record {
      count = cursor.count;
      bytes = cursor.offset;
      first = tally.first;
      last = cursor.latest;
      stocks = length (finite.keys m.securities);
      live = live m;
      peak = tally.peak;
      is_ended = is_last m.event;
    }
