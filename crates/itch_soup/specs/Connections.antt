-- The actions that are due in a session as time passes (SoupBinTCP 3.00, "Heartbeats"). Times are in milliseconds.
use Rattle.std.specs.Prelude.{ℕ, ◌-◌, nat_le, nat_lt, Bool, true, false}
use Rattle.itch_soup.specs.declared.connection.SessionStage.{SessionStage}
use Rattle.itch_soup.specs.declared.connection.SessionStage.TheVariants as stage
use Rattle.itch_soup.specs.declared.connection.Tick.{Tick}
use Rattle.itch_soup.specs.declared.connection.Tick.TheVariants as tick
use Rattle.itch_soup.specs.declared.connection.Connection.{Connection}

-- a session that begins at this time
abbrev pub opened : ℕ → Connection
opened now = record { stage = stage.Before; heard = now; sent = now }

-- nothing was received for 15,000 ms or more; at a time before the last receipt, 0 ms count as passed
abbrev pub is_silent : Connection → ℕ → Bool
is_silent c now = nat_le 15000 (now - c.heard)

-- nothing was sent for more than 1,000 ms
abbrev pub is_idle : Connection → ℕ → Bool
is_idle c now = nat_lt 1000 (now - c.sent)

-- the due action, depending on the stage, on whether the other side is silent and on whether this side is idle
abbrev pub tick_by : SessionStage → Bool → Bool → Tick
tick_by stage.Closed silent idle = tick.Nothing
tick_by stage true idle = tick.Lost
tick_by stage.Accepted false true = tick.Heartbeat
tick_by stage false idle = tick.Nothing

-- the action that is due at this time
abbrev pub tick_answer : Connection → ℕ → Tick
tick_answer c now = tick_by c.stage (is_silent c now) (is_idle c now)

-- a lost session is closed; a heartbeat is sent at this time
abbrev pub connection_after : Tick → Connection → ℕ → Connection
connection_after tick.Nothing c now = c
connection_after tick.Heartbeat c now = record c { sent = now }
connection_after tick.Lost c now = record c { stage = stage.Closed }

-- the connection after a tick at this time
abbrev pub after_tick : Connection → ℕ → Connection
after_tick c now = connection_after (tick_answer c now) c now

-- the connection after a packet received at this time, after which the session is at this stage
abbrev pub after_packet : Connection → SessionStage → ℕ → Connection
after_packet c stage now = record c { stage = stage; heard = now }

-- the connection after something is sent at this time
abbrev pub after_sent : Connection → ℕ → Connection
after_sent c now = record c { sent = now }
