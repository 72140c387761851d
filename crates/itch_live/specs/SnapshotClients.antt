-- One client of a live server: what it has sent, what it is to receive, and how many of these bytes its socket has accepted.
use Rattle.std.specs.Prelude.{◌≡◌, ℕ, ◌+◌, ◌-◌, ◌&&◌, ◌||◌, nat_le, nat_lt, ◌==◌, ◌⊎◌, true, false, Bool, not, List, [], ◌∷◌, map, length, drop, Option, None, Some, is_some, if◌then◌else◌}
use Rattle.std.specs.Option.{option_or}
use Rattle.itch_frame.specs.Blocks.{IsBlock, IsBlockOf, block, blocks}
use Rattle.itch_frame.specs.Cuts.{IsTake}
use Rattle.itch_market.specs.Content.{Content}
use Rattle.itch_soup.specs.declared.login.ServerConfig.{ServerConfig}
use Rattle.itch_soup.specs.declared.packet.LoginRequest.{LoginRequest}
use Rattle.itch_soup.specs.declared.packet.Packet.{Packet}
use Rattle.itch_soup.specs.declared.packet.Packet.TheVariants as is
use Rattle.itch_soup.specs.declared.server.ServerAct.{ServerAct}
use Rattle.itch_soup.specs.declared.server.ServerAct.TheVariants as act
use Rattle.itch_soup.specs.declared.origin.Origin.TheVariants.{Client}
use Rattle.itch_soup.specs.declared.fault.SoupFault.{SoupFault}
use Rattle.itch_soup.specs.Packets.{PacketSpells, packet_fault, packet_spelling}
use Rattle.itch_soup.specs.Servers.{Server, new_server, server_answer, server_after_packet, acceptance}
use Rattle.itch_soup.specs.Sending.{session_packets, messages_from}
use Rattle.itch_live.specs.declared.disconnect_cause.DisconnectCause.{DisconnectCause}
use Rattle.itch_live.specs.declared.disconnect_cause.DisconnectCause.TheVariants as reason
use Rattle.itch_live.specs.declared.login.LoginState.{LoginState}
use Rattle.itch_live.specs.declared.login.LoginState.TheVariants as login
use Rattle.itch_live.specs.declared.snapshot_answer.SnapshotAnswer.{SnapshotAnswer}
use Rattle.itch_live.specs.declared.snapshot_answer.SnapshotAnswer.TheVariants as told

-- the block of the Login Accepted packet, with this number
abbrev pub welcome : ServerConfig → ℕ → List ℕ
welcome config n = block (packet_spelling (is.LoginAccepted (acceptance config n)))

-- the bytes that follow it: the market's snapshot with its End of Snapshot, and the end of the session
abbrev pub session_bytes : Content → ℕ → List ℕ
session_bytes m next = blocks (map packet_spelling (session_packets (messages_from 1 m next)))

-- a heartbeat of the server
abbrev pub heartbeat : List ℕ
heartbeat = block (packet_spelling is.ServerHeartbeat)

-- the block of a Login Rejected packet: J and the code
abbrev pub refusal : ℕ → List ℕ
refusal code = 0 ∷ 2 ∷ 74 ∷ code ∷ []

-- a client of a live server: the bytes of an incomplete packet; its session; the accepted login; the unsent bytes of the Login Accepted
-- packet, of a heartbeat or of the rejection; the code of its rejection; its snapshot; the number of the next message at which the snapshot
-- was encoded; how many bytes of the snapshot the socket has accepted; why the client is gone, if it is; the time of its last progress; how
-- many bytes of the snapshot were accepted then; and when something was last sent
pub record SnapshotClient : Type 0 where
  pub held : List ℕ
  pub session : Server
  pub asked : Option LoginRequest
  pub notes : List ℕ
  pub rejection : Option ℕ
  pub told : Option (List ℕ)
  pub snapshot : Option ℕ
  pub taken : ℕ
  pub gone : Option DisconnectCause
  pub moved : ℕ
  pub marked : ℕ
  pub sent : ℕ

-- the bytes of the snapshot in the program's type
abbrev pub told_of : {A : Type 0} → SnapshotAnswer A → Option (List ℕ)
told_of told.Nothing = None
told_of (told.Whole encoded next) = Some encoded.value.items

abbrev pub snapshot_of : {A : Type 0} → SnapshotAnswer A → Option ℕ
snapshot_of (told.Whole encoded next) = Some next
snapshot_of other = None

-- a snapshot was encoded at this number
abbrev pub is_at : Option ℕ → ℕ → Bool
is_at None number = false
is_at (Some next) number = next == number

-- the bytes of a snapshot, if it has this number
abbrev pub encoded_in : Option ℕ → Option (List ℕ) → ℕ → Option (List ℕ)
encoded_in snapshot bytes number = if is_at snapshot number then bytes else None

-- the accepted login, and the code of a rejected one
abbrev pub asked_of : LoginState → Option LoginRequest
asked_of (login.Accepted request) = Some request
asked_of other = None

abbrev pub rejection_of : LoginState → Option ℕ
rejection_of (login.Rejected code) = Some code
rejection_of other = None

-- if a login was rejected with this code, the waiting bytes are the rest of the block with this rejection
abbrev pub IsOneRefusal : Option ℕ → List ℕ → Type 0
IsOneRefusal None notes = Unit {0}
IsOneRefusal (Some code) notes = (taken : ℕ) × (notes ≡ drop taken (refusal code))

abbrev pub bytes_of : Option (List ℕ) → List ℕ
bytes_of None = []
bytes_of (Some bytes) = bytes

abbrev pub is_gone : SnapshotClient → Bool
is_gone g = is_some g.gone

-- the client is gone for this reason, unless it was gone before
abbrev pub gone_for : DisconnectCause → SnapshotClient → SnapshotClient
gone_for why g = record g { gone = option_or g.gone (Some why) }

-- the bytes to be written next: those of the waiting packet, or else those of the snapshot
abbrev pub first_of : List ℕ → List ℕ → List ℕ
first_of [] rest = rest
first_of (b ∷ notes) rest = b ∷ notes

abbrev pub pending : SnapshotClient → List ℕ
pending g = if is_gone g then [] else first_of g.notes (drop g.taken (bytes_of g.told))

-- a login was accepted, and the client is not gone
abbrev pub is_accepted : SnapshotClient → Bool
is_accepted g = is_some g.asked && not (is_gone g)

-- a login was accepted, and is not answered with a snapshot yet
abbrev pub is_waiting : SnapshotClient → Bool
is_waiting g = is_some g.asked && not (is_some g.told) && not (is_gone g)

abbrev pub is_none : List ℕ → Bool
is_none [] = true
is_none (b ∷ bytes) = false

-- nothing follows a rejection or a snapshot
abbrev pub is_last : SnapshotClient → Bool
is_last g = is_some g.rejection || (is_some g.told && g.taken == length (bytes_of g.told))

-- the socket has accepted all bytes for the client
abbrev pub has_all : SnapshotClient → Bool
has_all g = is_none g.notes && is_last g

-- the client has received everything, and its connection is closed when it closes its half
abbrev pub is_closing : SnapshotClient → Bool
is_closing g = not (is_gone g) && has_all g

-- bytes from the client are ignored: it is gone, was rejected, or has received everything
abbrev pub is_deaf : SnapshotClient → Bool
is_deaf g = is_gone g || is_some g.rejection || has_all g

abbrev pub new_snapshot_client : ServerConfig → ℕ → SnapshotClient
new_snapshot_client config now = record { held = []; session = new_server config 0 now; asked = None; notes = []; rejection = None; told = None; snapshot = None; taken = 0; gone = None; moved = now; marked = 0; sent = now }

abbrev pub login_in : Packet → Option LoginRequest
login_in (is.LoginRequest login) = Some login
login_in packet = None

-- the effect of the session's answer on the client: the acceptance or rejection of its login is sent at once
abbrev pub after_act : ServerAct → Option LoginRequest → ℕ → SnapshotClient → SnapshotClient
after_act (act.Accept n) login now g = record g { asked = login; notes = welcome g.session.config n; rejection = None; sent = now }
after_act (act.Reject code) login now g = record g { asked = None; notes = refusal code; rejection = Some code; sent = now }
after_act act.Nothing login now g = g
after_act act.Close login now g = gone_for reason.Left g
after_act (act.Fault fault) login now g = gone_for reason.Fault g

-- once its login is accepted, only bytes accepted by its socket are progress
abbrev pub moved_by_words : SnapshotClient → ℕ → ℕ
moved_by_words g now = if is_some g.asked then g.moved else now

-- a packet has arrived
abbrev pub heard : SnapshotClient → Packet → ℕ → SnapshotClient
heard g packet now =
    after_act (server_answer g.session packet) (login_in packet) now
    (record g { held = []; session = server_after_packet g.session packet now; moved = moved_by_words g now })

-- a block has arrived that is not a packet
abbrev pub faulted : SnapshotClient → ℕ → SnapshotClient
faulted g now = gone_for reason.Fault (record g { held = []; moved = moved_by_words g now })

-- the answer is passed in: a snapshot that was encoded at this number
abbrev pub answered : SnapshotClient → List ℕ → ℕ → ℕ → SnapshotClient
answered g bytes next now = record g { told = Some bytes; snapshot = Some next; moved = now }

-- the client is answered if it waits
abbrev pub answered_if : List ℕ → ℕ → ℕ → SnapshotClient → SnapshotClient
answered_if bytes next now g = if is_waiting g then answered g bytes next now else g

-- The socket has accepted the next bytes of the waiting packet, or of the snapshot. For the snapshot it is progress if the socket has
-- accepted 65,536 bytes since the last progress, or all of them.
abbrev pub took_of : List ℕ → SnapshotClient → ℕ → ℕ → SnapshotClient
took_of [] g count now =
    if nat_lt 0 count && (nat_le 65536 (g.taken + count - g.marked) || g.taken + count == length (bytes_of g.told))
    then record g { taken = g.taken + count; moved = now; marked = g.taken + count } else record g { taken = g.taken + count }
took_of (b ∷ notes) g count now = record g { notes = drop count (b ∷ notes); moved = if nat_lt 0 count then now else g.moved }

abbrev pub took : SnapshotClient → ℕ → ℕ → SnapshotClient
took g count now = took_of g.notes g count now

-- the client waits, and its socket has accepted everything sent so far
abbrev pub is_patient : SnapshotClient → Bool
is_patient g = is_waiting g && is_none g.notes

-- a client is silent if it is not patient, and has made no progress for 15,000 ms
abbrev pub is_silent : SnapshotClient → ℕ → Bool
is_silent g now = not (is_patient g) && nat_le 15000 (now - g.moved)

-- a client that waits and was sent nothing for more than 1,000 ms is due for a heartbeat
abbrev pub is_idle : SnapshotClient → ℕ → Bool
is_idle g now = is_none g.notes && is_waiting g && nat_lt 1000 (now - g.sent)

-- a heartbeat waits for the socket, which must accept bytes of it from now on
abbrev pub with_heartbeat : SnapshotClient → ℕ → SnapshotClient
with_heartbeat g now = record g { notes = heartbeat; moved = now; sent = now }

-- a silent client is disconnected
abbrev pub ticked : SnapshotClient → ℕ → SnapshotClient
ticked g now = if is_silent g now then gone_for reason.Silent g else (if is_idle g now then with_heartbeat g now else g)

abbrev pub left : SnapshotClient → SnapshotClient
left g = gone_for reason.Left g

-- the answer of the session to a payload, and its login: those of its packet, or its fault
abbrev pub Judges : Server → List ℕ → ℕ → ServerAct × Option LoginRequest → Server → Type 0
Judges s payload now answer t =
    ((packet : Packet) × PacketSpells packet payload Client × (answer ≡ (server_answer s packet, login_in packet)) × (t ≡ server_after_packet s packet now))
    ⊎ ((fault : SoupFault) × (packet_fault payload Client ≡ Some fault) × (answer ≡ (act.Fault fault, None)) × (t ≡ s))

-- the packet of a payload has arrived, or its fault
abbrev pub HearsPayload : SnapshotClient → List ℕ → ℕ → SnapshotClient → Type 0
HearsPayload g payload now h =
    ((packet : Packet) × PacketSpells packet payload Client × (h ≡ heard g packet now))
    ⊎ ((fault : SoupFault) × (packet_fault payload Client ≡ Some fault) × (h ≡ faulted g now))

-- the held and consumed bytes are a complete packet, which is handled, or less than one
abbrev pub HearsHeld : SnapshotClient → List ℕ → ℕ → SnapshotClient → Type 0
HearsHeld g held now h =
    ((payload : List ℕ) × IsBlockOf payload held × HearsPayload g payload now h)
    ⊎ ((IsBlock held → ⊥) × (h ≡ record g { held = held }))

-- some bytes of a piece are consumed; if bytes from the client are ignored, all of them are
abbrev pub Hears : SnapshotClient → List ℕ → ℕ → ℕ → SnapshotClient → Type 0
Hears g piece now n h =
    ((is_deaf g ≡ true) × (n ≡ length piece) × (h ≡ g))
    ⊎ ((is_deaf g ≡ false) × ((held : List ℕ) × IsTake g.held piece n held × HearsHeld g held now h))
