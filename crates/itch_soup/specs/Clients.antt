-- The client's side of a session (SoupBinTCP 3.00): its login, its answer to each packet, and its state after it.
use Rattle.std.specs.Prelude.{ℕ, ◌+◌, ◌^◌, nat_lt, if◌then◌else◌}
use Rattle.itch_soup.specs.declared.login.Credentials.{Credentials}
use Rattle.itch_soup.specs.declared.packet.LoginRequest.{LoginRequest}
use Rattle.itch_soup.specs.declared.packet.Packet.{Packet}
use Rattle.itch_soup.specs.declared.packet.Packet.TheVariants as is
use Rattle.itch_soup.specs.declared.fault.SoupFault.TheVariants as fault
use Rattle.itch_soup.specs.declared.connection.SessionStage.{SessionStage}
use Rattle.itch_soup.specs.declared.connection.SessionStage.TheVariants as stage
use Rattle.itch_soup.specs.declared.connection.Connection.{Connection}
use Rattle.itch_soup.specs.declared.client.ClientAct.{ClientAct}
use Rattle.itch_soup.specs.declared.client.ClientAct.TheVariants as act
use Rattle.itch_soup.specs.PacketTable.{sequenced_data}
use Rattle.itch_soup.specs.Packets.{packet_type}
use Rattle.itch_soup.specs.Names.{client_session}
use Rattle.itch_soup.specs.Connections.{opened, after_packet, after_tick, after_sent}

-- a client's session: its credentials, the first number that it requests, the number of the next message, and the state of its connection
pub record Client : Type 0 where
  pub credentials : Credentials
  pub from : ℕ
  pub next : ℕ
  pub connection : Connection

-- the login with these credentials and this number: its session's name is padded on the right
abbrev pub login_with : Credentials → ℕ → LoginRequest
login_with credentials number = record {
  username = credentials.username;
  password = credentials.password;
  session = client_session credentials.session;
  number = number;
}

-- the login of a session
abbrev pub login_of : Client → LoginRequest
login_of c = login_with c.credentials c.from

-- the answer to a packet, the next stage, and the number of the next message
abbrev pub client_turn : ℕ → SessionStage → Packet → ClientAct × SessionStage × ℕ
client_turn next stage.Closed packet = (act.Fault fault.Closed, stage.Closed, next)
client_turn next at (is.Debug text) = (act.Nothing, at, next)
client_turn next at (is.UnsequencedData payload) = (act.Nothing, at, next)
client_turn next at is.ServerHeartbeat = (act.Nothing, at, next)
client_turn next at is.EndOfSession = (act.Ended, stage.Closed, next)
client_turn next stage.Before (is.LoginAccepted login) = (act.Accepted login.next, stage.Accepted, login.next)
client_turn next stage.Before (is.LoginRejected code) = (act.Rejected code, stage.Closed, next)
client_turn next stage.Before (is.SequencedData payload) = (act.Fault (fault.Early sequenced_data.kind), stage.Closed, next)
client_turn next stage.Accepted (is.SequencedData payload) =
    if nat_lt next (10 ^ 19) then (act.Data next payload, stage.Accepted, next + 1) else (act.Fault fault.TooManyMessages, stage.Closed, next)
client_turn next stage.Accepted (is.LoginAccepted login) = (act.Fault fault.SecondLogin, stage.Closed, next)
client_turn next stage.Accepted (is.LoginRejected code) = (act.Fault fault.SecondLogin, stage.Closed, next)
client_turn next at packet = (act.Fault (fault.WrongSide (packet_type packet).kind), stage.Closed, next)

-- a session that begins at this time, and requests the messages from this number on
abbrev pub new_client : Credentials → ℕ → ℕ → Client
new_client credentials from now = record { credentials = credentials; from = from; next = from; connection = opened now }

-- the answer of a session to a packet
abbrev pub client_answer : Client → Packet → ClientAct
client_answer c packet = (client_turn c.next c.connection.stage packet).0

-- the session after a packet received at this time
abbrev pub client_after_packet : Client → Packet → ℕ → Client
client_after_packet c packet now =
    let turn = client_turn c.next c.connection.stage packet in
    record c { next = turn.2; connection = after_packet c.connection turn.1 now }

-- the session after a tick at this time
abbrev pub client_after_tick : Client → ℕ → Client
client_after_tick c now = record c { connection = after_tick c.connection now }

-- the session after something is sent at this time
abbrev pub client_after_sent : Client → ℕ → Client
client_after_sent c now = record c { connection = after_sent c.connection now }
