-- The table of figures: their names, their descriptions and their values.
use Rattle.std.specs.Prelude.{ℕ, ◌&&◌, Bool, true, false, List, [], ◌∷◌, Option, None, Some, is_some, option_map, codes}
use Rattle.itch_status.specs.Rates.{rate}
use Rattle.itch_status.specs.declared.cause.LossCause.{LossCause}
use Rattle.itch_status.specs.declared.state.FeedState.{FeedState}
use Rattle.itch_status.specs.declared.state.FeedState.TheVariants.{Connecting, Following, Lost, Ended}
use Rattle.itch_status.specs.declared.figures.Figures.{Figures}
use Rattle.itch_status.specs.declared.figure.Figure.{Figure}
use Rattle.itch_status.specs.declared.figure.Figure.TheVariants as is
use Rattle.itch_status.specs.declared.shown.Shown.{Shown}
use Rattle.itch_status.specs.declared.shown.Shown.TheVariants as shown

-- clients receive the market of a feed in this state
abbrev pub is_current : FeedState → Bool
is_current Connecting = false
is_current Following = true
is_current Lost = false
is_current Ended = true

-- a client that logs in now receives the feed's market
abbrev pub is_ready : Figures → Bool
is_ready f = is_some f.next && is_current f.state

abbrev pub record_length : Figures → Option ℕ
record_length f = option_map (λ r. r.length) f.recorded

abbrev pub record_unsynced : Figures → Option ℕ
record_unsynced f = option_map (λ r. r.unsynced) f.recorded

-- the key in JSON, which is also the name of the metric after itchsnap_
abbrev pub figure_key : Figure → List ℕ
figure_key is.Ready = codes "ready"
figure_key is.State = codes "feed_state"
figure_key is.Cause = codes "feed_cause"
figure_key is.Session = codes "feed_session"
figure_key is.Server = codes "feed_server"
figure_key is.Losses = codes "feed_losses_total"
figure_key is.Next = codes "next_message"
figure_key is.Messages = codes "messages_total"
figure_key is.Rate = codes "messages_per_second"
figure_key is.MarketTime = codes "market_time_seconds"
figure_key is.Silence = codes "silence_seconds"
figure_key is.Connections = codes "connections_total"
figure_key is.Opening = codes "connections_opening"
figure_key is.Waiting = codes "clients_waiting"
figure_key is.Served = codes "clients_served"
figure_key is.Slots = codes "client_slots"
figure_key is.Encoded = codes "snapshots_encoded_total"
figure_key is.Kept = codes "snapshot_bytes"
figure_key is.Sent = codes "sent_bytes_total"
figure_key is.RecordLength = codes "record_bytes"
figure_key is.RecordUnsynced = codes "record_unsynced_bytes"
figure_key is.Saved = codes "snapshot_file_message"
figure_key is.Missed = codes "snapshot_files_missed_total"
figure_key is.LinesLost = codes "log_lines_lost_total"
figure_key is.Uptime = codes "uptime_seconds"

-- the label on the page for people
abbrev pub figure_label : Figure → List ℕ
figure_label is.Ready = codes "Ready"
figure_label is.State = codes "Feed"
figure_label is.Cause = codes "Why it is not followed"
figure_label is.Session = codes "Session"
figure_label is.Server = codes "Server of the feed"
figure_label is.Losses = codes "Losses of the feed"
figure_label is.Next = codes "Next message"
figure_label is.Messages = codes "Messages received"
figure_label is.Rate = codes "Messages per second, last minute"
figure_label is.MarketTime = codes "Time of the last message"
figure_label is.Silence = codes "Seconds since the last message"
figure_label is.Connections = codes "Connections"
figure_label is.Opening = codes "Connections not logged in"
figure_label is.Waiting = codes "Clients waiting for a snapshot"
figure_label is.Served = codes "Clients being sent a snapshot"
figure_label is.Slots = codes "Client slots"
figure_label is.Encoded = codes "Snapshots encoded"
figure_label is.Kept = codes "Bytes of snapshots in use"
figure_label is.Sent = codes "Bytes sent to clients"
figure_label is.RecordLength = codes "Bytes of the record"
figure_label is.RecordUnsynced = codes "Bytes of the record not synced"
figure_label is.Saved = codes "Messages in the newest snapshot file"
figure_label is.Missed = codes "Snapshot files not written"
figure_label is.LinesLost = codes "Lines of the log lost"
figure_label is.Uptime = codes "Seconds since the start"

-- the description of the metric
abbrev pub figure_help : Figure → List ℕ
figure_help is.Ready = codes "Whether clients are served the current market."
figure_help is.State = codes "The state of the feed."
figure_help is.Cause = codes "Why the feed is not followed."
figure_help is.Session = codes "The session of the feed."
figure_help is.Server = codes "Which --feed is used, from 1."
figure_help is.Losses = codes "Connections to the feed that were lost or not made."
figure_help is.Next = codes "The number of the feed's next message."
figure_help is.Messages = codes "Messages received since the start."
figure_help is.Rate = codes "Messages per second over the last 60 complete seconds."
figure_help is.MarketTime = codes "The timestamp of the last message, in seconds since midnight."
figure_help is.Silence = codes "Seconds since the last message was received."
figure_help is.Connections = codes "Connections of clients since the start."
figure_help is.Opening = codes "Connections that have not logged in yet."
figure_help is.Waiting = codes "Clients that wait for a snapshot."
figure_help is.Served = codes "Clients that are being sent a snapshot."
figure_help is.Slots = codes "The most clients at a time."
figure_help is.Encoded = codes "Snapshots encoded for clients since the start."
figure_help is.Kept = codes "Bytes of encoded snapshots in use."
figure_help is.Sent = codes "Bytes sent to clients since the start."
figure_help is.RecordLength = codes "Bytes of the record."
figure_help is.RecordUnsynced = codes "Bytes of the record that are not known to be on disk."
figure_help is.Saved = codes "The number of messages in the newest snapshot file of this run."
figure_help is.Missed = codes "Snapshot files that could not be written."
figure_help is.LinesLost = codes "Lines of the log that could not be written."
figure_help is.Uptime = codes "Seconds since the start."

-- the type of the metric
abbrev pub figure_kind : Figure → List ℕ
figure_kind is.Ready = codes "gauge"
figure_kind is.State = codes "gauge"
figure_kind is.Cause = codes "gauge"
figure_kind is.Session = codes "gauge"
figure_kind is.Server = codes "gauge"
figure_kind is.Losses = codes "counter"
figure_kind is.Next = codes "gauge"
figure_kind is.Messages = codes "counter"
figure_kind is.Rate = codes "gauge"
figure_kind is.MarketTime = codes "gauge"
figure_kind is.Silence = codes "gauge"
figure_kind is.Connections = codes "counter"
figure_kind is.Opening = codes "gauge"
figure_kind is.Waiting = codes "gauge"
figure_kind is.Served = codes "gauge"
figure_kind is.Slots = codes "gauge"
figure_kind is.Encoded = codes "counter"
figure_kind is.Kept = codes "gauge"
figure_kind is.Sent = codes "counter"
figure_kind is.RecordLength = codes "gauge"
figure_kind is.RecordUnsynced = codes "gauge"
figure_kind is.Saved = codes "gauge"
figure_kind is.Missed = codes "counter"
figure_kind is.LinesLost = codes "counter"
figure_kind is.Uptime = codes "gauge"

abbrev pub counted : Option ℕ → Shown
counted None = shown.Nothing
counted (Some n) = shown.Count n

abbrev pub in_thousandths : Option ℕ → Shown
in_thousandths None = shown.Nothing
in_thousandths (Some n) = shown.Thousandths n

abbrev pub as_clock : Option ℕ → Shown
as_clock None = shown.Nothing
as_clock (Some n) = shown.Clock n

abbrev pub as_cause : Option LossCause → Shown
as_cause None = shown.Nothing
as_cause (Some c) = shown.Cause c

abbrev pub as_session : Option (List ℕ) → Shown
as_session None = shown.Nothing
as_session (Some s) = shown.Session s

-- the value of a figure
abbrev pub figure_value : Figure → Figures → Shown
figure_value is.Ready f = shown.Yes (is_ready f)
figure_value is.State f = shown.State f.state
figure_value is.Cause f = as_cause f.cause
figure_value is.Session f = as_session f.session
figure_value is.Server f = shown.Count f.server
figure_value is.Losses f = shown.Count f.losses
figure_value is.Next f = counted f.next
figure_value is.Messages f = shown.Count f.messages
figure_value is.Rate f = shown.Thousandths (rate f.minute)
figure_value is.MarketTime f = as_clock f.market_ns
figure_value is.Silence f = in_thousandths f.silence_ms
figure_value is.Connections f = shown.Count f.connections
figure_value is.Opening f = shown.Count f.opening
figure_value is.Waiting f = shown.Count f.waiting
figure_value is.Served f = shown.Count f.served
figure_value is.Slots f = shown.Count f.slots
figure_value is.Encoded f = shown.Count f.encoded
figure_value is.Kept f = shown.Count f.kept
figure_value is.Sent f = shown.Count f.sent
figure_value is.RecordLength f = counted (record_length f)
figure_value is.RecordUnsynced f = counted (record_unsynced f)
figure_value is.Saved f = counted f.saved
figure_value is.Missed f = shown.Count f.missed
figure_value is.LinesLost f = shown.Count f.lines_lost
figure_value is.Uptime f = shown.Thousandths f.uptime_ms

-- all figures, in the order of the output
abbrev pub figures_shown : List Figure
figures_shown =
    is.Ready ∷ is.State ∷ is.Cause ∷ is.Session ∷ is.Server ∷ is.Losses ∷ is.Next ∷ is.Messages ∷ is.Rate
    ∷ is.MarketTime ∷ is.Silence ∷ is.Connections ∷ is.Opening ∷ is.Waiting ∷ is.Served ∷ is.Slots ∷ is.Encoded ∷ is.Kept
    ∷ is.Sent ∷ is.RecordLength ∷ is.RecordUnsynced ∷ is.Saved ∷ is.Missed ∷ is.LinesLost ∷ is.Uptime ∷ []
