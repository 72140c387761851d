-- One client of a played feed: what it has sent, its progress, and the bytes that wait for its socket.
use Rattle.std.specs.Prelude.{◌≡◌, ℕ, ◌+◌, ◌-◌, ◌&&◌, ◌||◌, nat_le, nat_lt, ◌==◌, ◌⊎◌, true, false, Bool, not, List, [], ◌++◌, length, drop, Option, None, Some, is_some, if◌then◌else◌}
use Rattle.std.specs.Option.{option_or}
use Rattle.itch_frame.specs.Blocks.{IsBlock, IsBlockOf, block}
use Rattle.itch_frame.specs.Cuts.{IsTake}
use Rattle.itch_soup.specs.declared.login.ServerConfig.{ServerConfig}
use Rattle.itch_soup.specs.declared.packet.LoginRequest.{LoginRequest}
use Rattle.itch_soup.specs.declared.packet.Packet.TheVariants as is
use Rattle.itch_soup.specs.declared.server.ServerAct.{ServerAct}
use Rattle.itch_soup.specs.declared.server.ServerAct.TheVariants as act
use Rattle.itch_soup.specs.Packets.{packet_spelling}
use Rattle.itch_soup.specs.Servers.{Server, new_server, acceptance}
use Rattle.itch_live.specs.declared.disconnect_cause.DisconnectCause.{DisconnectCause}
use Rattle.itch_live.specs.declared.disconnect_cause.DisconnectCause.TheVariants as reason
use Rattle.itch_live.specs.declared.progress.Progress.{Progress}
use Rattle.itch_live.specs.declared.progress.Progress.TheVariants.{Waiting, Refused, Playing, Ended}
use Rattle.itch_live.specs.SnapshotClients.{Judges}

-- a client of a played feed: the bytes of an incomplete packet; its session; its progress; the number of the next message; the bytes that
-- wait for its socket; why it is gone, if it is; when it last sent or accepted something; and when something was last sent to it
pub record Player : Type 0 where
  pub held : List ℕ
  pub session : Server
  pub progress : Progress
  pub next : ℕ
  pub outbox : List ℕ
  pub gone : Option DisconnectCause
  pub moved : ℕ
  pub sent : ℕ

abbrev pub is_empty : List ℕ → Bool
is_empty bytes = length bytes == 0

-- there is room for any packet after these bytes
abbrev pub has_room : List ℕ → Bool
has_room bytes = nat_le (length bytes) 65536

-- the most bytes that may wait: those that leave room for a packet, a message, and then the end of the session
abbrev pub most_pending : Progress → ℕ
most_pending (Ended first) = 131076
most_pending progress = 131073

abbrev pub is_gone : Player → Bool
is_gone p = is_some p.gone

-- the client is gone for this reason, unless it was gone before
abbrev pub gone_for : DisconnectCause → Player → Player
gone_for why p = record p { gone = option_or p.gone (Some why) }

-- the bytes still to be written
abbrev pub pending : Player → List ℕ
pending p = if is_gone p then [] else p.outbox

abbrev pub plays : Progress → Bool
plays (Playing first) = true
plays progress = false

abbrev pub was_refused : Progress → Bool
was_refused (Refused code) = true
was_refused progress = false

-- nothing follows a rejection or the end of the session
abbrev pub is_last : Progress → Bool
is_last (Refused code) = true
is_last (Ended first) = true
is_last progress = false

-- the code with which the login was rejected
abbrev pub rejection_of : Progress → Option ℕ
rejection_of (Refused code) = Some code
rejection_of progress = None

-- the number from which the login was accepted
abbrev pub first_of : Progress → Option ℕ
first_of (Playing first) = Some first
first_of (Ended first) = Some first
first_of progress = None

-- the progress after the end of the session, if the session has not ended yet
abbrev pub after_end : Progress → Progress
after_end (Playing first) = Ended first
after_end progress = progress

-- the login was accepted, the session has not ended, and the client is not gone
abbrev pub is_playing : Player → Bool
is_playing p = plays p.progress && not (is_gone p)

-- the socket has accepted everything, and nothing follows
abbrev pub has_all : Player → Bool
has_all p = is_last p.progress && is_empty p.outbox

-- the client has received everything, and its connection is closed when it closes its half
abbrev pub is_closing : Player → Bool
is_closing p = not (is_gone p) && has_all p

-- bytes from the client are ignored: it is gone, was rejected, or has received everything
abbrev pub is_deaf : Player → Bool
is_deaf p = is_gone p || was_refused p.progress || has_all p

-- a heartbeat is due: nothing waits, and nothing was sent for more than 1,000 ms
abbrev pub is_idle : Player → ℕ → Bool
is_idle p now = is_playing p && is_empty p.outbox && nat_lt 1000 (now - p.sent)

-- the number of the message to pass in next, if one may be passed in
abbrev pub wanted : Player → Option ℕ
wanted p = if is_playing p && nat_le p.next p.session.total && has_room p.outbox then Some p.next else None

abbrev pub new_player : ServerConfig → ℕ → ℕ → Player
new_player config total now =
    record { held = []; session = new_server config total now; progress = Waiting; next = 0; outbox = []; gone = None; moved = now; sent = now }

-- the client is sent the answer to its login
abbrev pub told : Player → Progress → List ℕ → ℕ → Player
told p progress packet now = record p { progress = progress; outbox = block packet; sent = now }

-- the effect of the session's answer on the client
abbrev pub after_act : ServerAct → ℕ → Player → Player
after_act (act.Accept n) now p = told (record p { next = n }) (Playing n) (packet_spelling (is.LoginAccepted (acceptance p.session.config n))) now
after_act (act.Reject code) now p = told p (Refused code) (packet_spelling (is.LoginRejected code)) now
after_act act.Nothing now p = p
after_act act.Close now p = gone_for reason.Left p
after_act (act.Fault fault) now p = gone_for reason.Fault p

-- a packet has arrived, or a block that is not a packet
abbrev pub heard : Player → Server → ServerAct → ℕ → Player
heard p session answer now = after_act answer now (record p { held = []; session = session; moved = now })

-- the held and consumed bytes are a complete packet, which is handled, or less than one
abbrev pub HearsHeld : Player → List ℕ → ℕ → Player → Type 0
HearsHeld p held now q =
    ((payload : List ℕ) × (answer : ServerAct × Option LoginRequest) × (session : Server) × IsBlockOf payload held × Judges p.session payload now answer session
    × (q ≡ heard p session answer.0 now))
    ⊎ ((IsBlock held → ⊥) × (q ≡ record p { held = held }))

-- some bytes of a piece are consumed; if bytes from the client are ignored, all of them are
abbrev pub Hears : Player → List ℕ → ℕ → ℕ → Player → Type 0
Hears p piece now n q =
    ((is_deaf p ≡ true) × (n ≡ length piece) × (q ≡ p))
    ⊎ ((is_deaf p ≡ false) × ((held : List ℕ) × IsTake p.held piece n held × HearsHeld p held now q))

-- the packet of a message
abbrev pub message_packet : List ℕ → List ℕ
message_packet message = packet_spelling (is.SequencedData message)

-- the requested message is passed in
abbrev pub played : Player → List ℕ → ℕ → Player
played p message now = record p { outbox = p.outbox ++ block (message_packet message); next = p.next + 1; sent = now }

-- all messages were passed in, and the session has not ended yet
abbrev pub is_played : Player → Bool
is_played p = is_playing p && nat_lt p.session.total p.next

-- the session ends, if all messages were passed in
abbrev pub ended : Player → ℕ → Player
ended p now = if is_played p then record p { outbox = p.outbox ++ block (packet_spelling is.EndOfSession); progress = after_end p.progress; sent = now } else p

-- the socket has accepted the next bytes
abbrev pub took : Player → ℕ → ℕ → Player
took p count now = if nat_lt 0 count then record p { outbox = drop count p.outbox; moved = now; sent = now } else p

abbrev pub left : Player → Player
left p = gone_for reason.Left p

-- a client that has sent nothing and accepted nothing for 15,000 ms is disconnected; any other client is sent a heartbeat if one is due
abbrev pub ticked : Player → ℕ → Player
ticked p now =
    if nat_le 15000 (now - p.moved) then gone_for reason.Silent p else (
    if is_idle p now then record p { outbox = p.outbox ++ block (packet_spelling is.ServerHeartbeat); sent = now } else p)
