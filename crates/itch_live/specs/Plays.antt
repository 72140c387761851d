-- The bytes sent to a client of a played feed, over every list of events.
use Rattle.std.specs.Prelude.{◌≡◌, ℕ, ◌+◌, ◌-◌, ◌<◌, ◌≤◌, ◌⊎◌, List, [], ◌∷◌, ◌++◌, length, take, map, Some, IsSome, slice_get}
use Rattle.itch_frame.specs.Blocks.{block, blocks}
use Rattle.itch_soup.specs.declared.login.ServerConfig.{ServerConfig}
use Rattle.itch_soup.specs.declared.packet.LoginRequest.{LoginRequest}
use Rattle.itch_soup.specs.declared.packet.Packet.{Packet}
use Rattle.itch_soup.specs.declared.packet.Packet.TheVariants as is
use Rattle.itch_soup.specs.declared.server.ServerAct.TheVariants as act
use Rattle.itch_soup.specs.Packets.{packet_spelling}
use Rattle.itch_soup.specs.Servers.{judged, first_asked, acceptance}
use Rattle.itch_live.specs.declared.progress.Progress.{Progress}
use Rattle.itch_live.specs.declared.progress.Progress.TheVariants.{Waiting, Ended}
use Rattle.itch_live.specs.Players as players
use Rattle.itch_live.specs.Players.{Player, new_player, wanted, pending, rejection_of, first_of}
use Rattle.itch_live.specs.Records.{between}
use Rattle.itch_live.specs.Stories.{IsLogin, IsBeginning}

-- an event of a client: some bytes of a piece are consumed; the requested message is passed in; its socket accepts `count` bytes; the time is
-- reported; the session ends, if all messages were passed in; the client is gone
pub data Happening : Type 0 where
  Hears : (piece : List ℕ) (now count : ℕ) → Happening
  Plays : (message : List ℕ) (now : ℕ) → Happening
  Takes : (count now : ℕ) → Happening
  Ticks : (now : ℕ) → Happening
  Ends : (now : ℕ) → Happening
  Leaves : Happening

-- the effect of an event on a client
abbrev pub Becomes : Player → Happening → Player → Type 0
Becomes p (Hears piece now count) q = players.Hears p piece now count q
Becomes p (Plays message now) q = IsSome (wanted p) × (length message < 65535) × (q ≡ players.played p message now)
Becomes p (Takes count now) q = (count ≤ length (pending p)) × (q ≡ players.took p count now)
Becomes p (Ticks now) q = q ≡ players.ticked p now
Becomes p (Ends now) q = q ≡ players.ended p now
Becomes p Leaves q = q ≡ players.left p

-- an event, and the client before it
pub record Event : Type 0 where
  pub before : Player
  pub happening : Happening

-- a client of a feed of `total` messages that connected at time `begun`, after all these events; the latest comes first
abbrev pub History : ServerConfig → ℕ → ℕ → List Event → Player → Type 0
History config total begun [] p = p ≡ new_player config total begun
History config total begun (x ∷ past) p = Becomes x.before x.happening p × History config total begun past x.before

-- the bytes that its socket has accepted
abbrev pub sent_by : Happening → Player → List ℕ
sent_by (Takes count now) p = take count (pending p)
sent_by other p = []

abbrev pub sent_bytes : List Event → List ℕ
sent_bytes [] = []
sent_bytes (x ∷ past) = sent_bytes past ++ sent_by x.happening x.before

-- the messages that were passed in, in this order
abbrev pub handed_by : Happening → List (List ℕ)
handed_by (Plays message now) = message ∷ []
handed_by other = []

abbrev pub handed_in : List Event → List (List ℕ)
handed_in [] = []
handed_in (x ∷ past) = handed_in past ++ handed_by x.happening

abbrev pub without_heartbeats : List Packet → List Packet
without_heartbeats [] = []
without_heartbeats (is.ServerHeartbeat ∷ packets) = without_heartbeats packets
without_heartbeats (packet ∷ packets) = packet ∷ without_heartbeats packets

-- the end of the session, if it has ended
abbrev pub ending : Progress → List Packet
ending (Ended first) = is.EndOfSession ∷ []
ending progress = []

-- the session has ended only if the next number is the one after the last message
abbrev pub IsAllPlayed : ℕ → ℕ → Progress → Type 0
IsAllPlayed total next (Ended first) = next ≡ total + 1
IsAllPlayed total next progress = Unit {0}

-- a login of the client has arrived
pub record Came (past : List Event) (login : LoginRequest) : Type 0 where
  pub later : List Event
  pub at : Event
  pub before : List Event
  pub place : past ≡ later ++ at ∷ before
  pub piece : List ℕ
  pub now : ℕ
  pub count : ℕ
  pub heard : at.happening ≡ Hears piece now count
  pub is : IsLogin at.before.held piece count login

-- the rejection of a login that has arrived, with the code in the client's progress
pub record IsRefusal (config : ServerConfig) (total : ℕ) (past : List Event) (progress : Progress) (bytes : List ℕ) : Type 0 where
  pub login : LoginRequest
  pub came : Came past login
  pub code : ℕ
  pub known : rejection_of progress ≡ Some code
  pub rejected : (judged config total login).0 ≡ act.Reject code
  pub is : bytes ≡ block (packet_spelling (is.LoginRejected code))

-- The acceptance of a login that has arrived, from the requested number on, which the client's progress contains; then the packets of the
-- messages that were passed in, each once and in order, with heartbeats between them; and then the end of the session, if it has ended. The
-- client's next message is the one after these.
pub record IsFeed (config : ServerConfig) (total : ℕ) (past : List Event) (next : ℕ) (progress : Progress) (bytes : List ℕ) : Type 0 where
  pub login : LoginRequest
  pub came : Came past login
  pub accepted : (judged config total login).0 ≡ act.Accept (first_asked login)
  pub known : first_of progress ≡ Some (first_asked login)
  pub packets : List Packet
  pub played : without_heartbeats packets ≡ map is.SequencedData (handed_in past)
  pub counted : next ≡ first_asked login + length (handed_in past)
  pub within : next ≤ total + 1
  pub ended : IsAllPlayed total next progress
  pub is : bytes ≡ blocks (map packet_spelling (is.LoginAccepted (acceptance config (first_asked login)) ∷ packets ++ ending progress))

-- the login has not been judged, and the client is sent nothing
abbrev pub IsNothing : Progress → List ℕ → Type 0
IsNothing progress bytes = (progress ≡ Waiting) × (bytes ≡ [])

-- all bytes for a client: none, the rejection of its login, or the feed from the number in its login on
abbrev pub IsTold : ServerConfig → ℕ → List Event → Player → List ℕ → Type 0
IsTold config total past p bytes = IsNothing p.progress bytes ⊎ IsRefusal config total past p.progress bytes ⊎ IsFeed config total past p.next p.progress bytes

-- the bytes sent so far are a prefix of these
abbrev pub IsSentRight : ServerConfig → ℕ → List Event → Player → Type 0
IsSentRight config total past p = (bytes : List ℕ) × IsTold config total past p bytes × IsBeginning (sent_bytes past) bytes

-- each message passed in is the file's message with the requested number
abbrev pub IsOfFile : List (List ℕ) → Player → Happening → Type 0
IsOfFile file p (Plays message now) = (number : ℕ) → wanted p ≡ Some number → slice_get file (number - 1) ≡ Some message
IsOfFile file p other = Unit {0}

abbrev pub AreOfFile : List (List ℕ) → List Event → Type 0
AreOfFile file [] = Unit {0}
AreOfFile file (x ∷ past) = IsOfFile file x.before x.happening × AreOfFile file past

-- the feed of a file: the messages passed in are exactly those of the file from the number in the login on
pub record IsFeedOfFile (config : ServerConfig) (total : ℕ) (file : List (List ℕ)) (past : List Event) (next : ℕ) (progress : Progress) (bytes : List ℕ) : Type 0 where
  pub feed : IsFeed config total past next progress bytes
  pub of_file : handed_in past ≡ between (first_asked feed.login) next file

abbrev pub IsToldOfFile : ServerConfig → ℕ → List (List ℕ) → List Event → Player → List ℕ → Type 0
IsToldOfFile config total file past p bytes =
    IsNothing p.progress bytes ⊎ IsRefusal config total past p.progress bytes ⊎ IsFeedOfFile config total file past p.next p.progress bytes

abbrev pub IsSentOfFile : ServerConfig → ℕ → List (List ℕ) → List Event → Player → Type 0
IsSentOfFile config total file past p = (bytes : List ℕ) × IsToldOfFile config total file past p bytes × IsBeginning (sent_bytes past) bytes
