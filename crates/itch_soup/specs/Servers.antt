-- The server's side of a session (SoupBinTCP 3.00): its answer to each packet, and its state after it.
use Rattle.std.specs.Prelude.{ℕ, ◌+◌, ◌&&◌, max, nat_lt, Bool, not, if◌then◌else◌}
use Rattle.itch_soup.specs.declared.login.ServerConfig.{ServerConfig}
use Rattle.itch_soup.specs.declared.packet.LoginRequest.{LoginRequest}
use Rattle.itch_soup.specs.declared.packet.LoginAccepted.{LoginAccepted}
use Rattle.itch_soup.specs.declared.packet.Packet.{Packet}
use Rattle.itch_soup.specs.declared.packet.Packet.TheVariants as is
use Rattle.itch_soup.specs.declared.fault.SoupFault.TheVariants as fault
use Rattle.itch_soup.specs.declared.connection.SessionStage.{SessionStage}
use Rattle.itch_soup.specs.declared.connection.SessionStage.TheVariants as stage
use Rattle.itch_soup.specs.declared.connection.Connection.{Connection}
use Rattle.itch_soup.specs.declared.server.ServerAct.{ServerAct}
use Rattle.itch_soup.specs.declared.server.ServerAct.TheVariants as act
use Rattle.itch_soup.specs.declared.server.Judgement.{Judgement}
use Rattle.itch_soup.specs.declared.server.Judgement.TheVariants.{Accepted, Rejected}
use Rattle.itch_soup.specs.Packets.{packet_type}
use Rattle.itch_soup.specs.Names.{is_same_name, asks_for_session, server_session}
use Rattle.itch_soup.specs.Connections.{opened, after_packet, after_tick, after_sent}

-- a server's session: its configuration, its number of messages, and the state of its connection
pub record Server : Type 0 where
  pub config : ServerConfig
  pub total : ℕ
  pub connection : Connection

-- the user name and the password are the server's
abbrev pub is_user : ServerConfig → LoginRequest → Bool
is_user config login = is_same_name config.username login.username && is_same_name config.password login.password

-- the number of the first message that a login requests: 0 requests all messages, as 1 does
abbrev pub first_asked : LoginRequest → ℕ
first_asked login = max 1 login.number

-- the reject codes: A for not authorised, S for a session that is not available
abbrev pub not_authorised : ℕ
not_authorised = 65

abbrev pub not_available : ℕ
not_available = 83

-- a login is judged by user name and password, session, and number, which is at most the one after the last message
abbrev pub judged : ServerConfig → ℕ → LoginRequest → ServerAct × SessionStage
judged config total login =
    if not (is_user config login) then (act.Reject not_authorised, stage.Closed) else (
    if not (asks_for_session config.session login.session) then (act.Reject not_available, stage.Closed) else (
    if nat_lt (total + 1) (first_asked login) then (act.Reject not_available, stage.Closed) else (
    (act.Accept (first_asked login), stage.Accepted))))

-- the answer to a login with this judgement, and the next stage
abbrev pub turn_of : Judgement → ServerAct × SessionStage
turn_of (Accepted next) = (act.Accept next, stage.Accepted)
turn_of (Rejected code) = (act.Reject code, stage.Closed)

-- the acceptance of a login from this number on: the name of the server's session is padded on the left
abbrev pub acceptance : ServerConfig → ℕ → LoginAccepted
acceptance config next = record { session = server_session config.session; next = next }

-- the answer to a packet, and the next stage
abbrev pub server_turn : ServerConfig → ℕ → SessionStage → Packet → ServerAct × SessionStage
server_turn config total stage.Closed packet = (act.Fault fault.Closed, stage.Closed)
server_turn config total at (is.Debug text) = (act.Nothing, at)
server_turn config total at (is.UnsequencedData payload) = (act.Nothing, at)
server_turn config total at is.ClientHeartbeat = (act.Nothing, at)
server_turn config total at is.LogoutRequest = (act.Close, stage.Closed)
server_turn config total stage.Before (is.LoginRequest login) = judged config total login
server_turn config total stage.Accepted (is.LoginRequest login) = (act.Fault fault.SecondLogin, stage.Closed)
server_turn config total at packet = (act.Fault (fault.WrongSide (packet_type packet).kind), stage.Closed)

-- a session of this many messages that begins at this time
abbrev pub new_server : ServerConfig → ℕ → ℕ → Server
new_server config total now = record { config = config; total = total; connection = opened now }

-- the answer of a session to a packet
abbrev pub server_answer : Server → Packet → ServerAct
server_answer s packet = (server_turn s.config s.total s.connection.stage packet).0

-- the session after a packet received at this time
abbrev pub server_after_packet : Server → Packet → ℕ → Server
server_after_packet s packet now =
    record s { connection = after_packet s.connection (server_turn s.config s.total s.connection.stage packet).1 now }

-- the session after a tick at this time
abbrev pub server_after_tick : Server → ℕ → Server
server_after_tick s now = record s { connection = after_tick s.connection now }

-- the session after something is sent at this time
abbrev pub server_after_sent : Server → ℕ → Server
server_after_sent s now = record s { connection = after_sent s.connection now }
