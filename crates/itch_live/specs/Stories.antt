-- The bytes sent to a client, over every list of events.
use Rattle.std.specs.Prelude.{◌≡◌, ℕ, ◌≤◌, List, [], ◌∷◌, ◌++◌, length, take, Some, ◌⊎◌, suc, zero}
use Rattle.itch_frame.specs.Blocks.{IsBlockOf}
use Rattle.itch_frame.specs.Cuts.{IsTake}
use Rattle.itch_market.specs.Content.{Content}
use Rattle.itch_soup.specs.declared.login.ServerConfig.{ServerConfig}
use Rattle.itch_soup.specs.declared.packet.LoginRequest.{LoginRequest}
use Rattle.itch_soup.specs.declared.packet.Packet.TheVariants as is
use Rattle.itch_soup.specs.declared.origin.Origin.TheVariants.{Client}
use Rattle.itch_soup.specs.declared.server.ServerAct.TheVariants as act
use Rattle.itch_soup.specs.Packets.{PacketSpells}
use Rattle.itch_soup.specs.Servers.{judged}
use Rattle.itch_live.specs.SnapshotClients as clients
use Rattle.itch_live.specs.SnapshotClients.{SnapshotClient, welcome, heartbeat, session_bytes, refusal, pending, new_snapshot_client}

-- an event of a client: some bytes of a piece are consumed; the snapshot of a market with the number of the next message is passed in, if the
-- client waits; its socket accepts `count` bytes; the time is reported; the client is gone
pub data Happening : Type 0 where
  Hears : (piece : List ℕ) (now count : ℕ) → Happening
  Answers : (m : Content) (next now : ℕ) → Happening
  Takes : (count now : ℕ) → Happening
  Ticks : (now : ℕ) → Happening
  Leaves : Happening

-- the effect of an event on a client
abbrev pub Becomes : ServerConfig → SnapshotClient → Happening → SnapshotClient → Type 0
Becomes config g (Hears piece now count) h = clients.Hears g piece now count h
Becomes config g (Answers m next now) h = h ≡ clients.answered_if (session_bytes m next) next now g
Becomes config g (Takes count now) h = (count ≤ length (pending g)) × (h ≡ clients.took g count now)
Becomes config g (Ticks now) h = h ≡ clients.ticked g now
Becomes config g Leaves h = h ≡ clients.left g

-- the bytes that its socket accepts
abbrev pub sent_by : SnapshotClient → Happening → List ℕ
sent_by g (Takes count now) = take count (pending g)
sent_by g other = []

-- A client that connected at time `begun`, after all these events, and the bytes sent to it. The latest event comes first.
abbrev pub Story : ServerConfig → ℕ → List Happening → SnapshotClient → List ℕ → Type 0
Story config begun [] g sent = (g ≡ new_snapshot_client config begun) × (sent ≡ [])
Story config begun (happening ∷ past) g sent =
    (f : SnapshotClient) × (so_far : List ℕ) × Story config begun past f so_far × Becomes config f happening g × (sent ≡ so_far ++ sent_by f happening)

-- bytes are a prefix of others
abbrev pub IsBeginning : List ℕ → List ℕ → Type 0
IsBeginning front bytes = (rest : List ℕ) × (bytes ≡ front ++ rest)

-- the held bytes of a client, with those consumed of a piece, are a login
pub record IsLogin (before piece : List ℕ) (count : ℕ) (login : LoginRequest) : Type 0 where
  pub held : List ℕ
  pub takes : IsTake before piece count held
  pub payload : List ℕ
  pub block : IsBlockOf payload held
  pub spelled : PacketSpells (is.LoginRequest login) payload Client

-- the rejection of a login that the client has sent
pub record IsRefusal (config : ServerConfig) (begun : ℕ) (past : List Happening) (bytes : List ℕ) : Type 0 where
  pub later : List Happening
  pub before : List Happening
  pub piece : List ℕ
  pub now : ℕ
  pub count : ℕ
  pub place : past ≡ later ++ Hears piece now count ∷ before
  pub hearing : SnapshotClient
  pub so_far : List ℕ
  pub story : Story config begun before hearing so_far
  pub login : LoginRequest
  pub came : IsLogin hearing.held piece count login
  pub code : ℕ
  pub rejected : (judged config 0 login).0 ≡ act.Reject code
  pub is : bytes ≡ refusal code

-- a login that the client has sent was accepted
pub record IsWelcome (config : ServerConfig) (begun : ℕ) (past : List Happening) : Type 0 where
  pub later : List Happening
  pub before : List Happening
  pub piece : List ℕ
  pub now : ℕ
  pub count : ℕ
  pub place : past ≡ later ++ Hears piece now count ∷ before
  pub hearing : SnapshotClient
  pub so_far : List ℕ
  pub story : Story config begun before hearing so_far
  pub login : LoginRequest
  pub came : IsLogin hearing.held piece count login
  pub accepted : (judged config 0 login).0 ≡ act.Accept 1

-- the snapshot of a market that answers the client's login, and was passed in after the login had arrived
pub record IsAnswer (config : ServerConfig) (begun : ℕ) (past : List Happening) (bytes : List ℕ) : Type 0 where
  pub later : List Happening
  pub before : List Happening
  pub m : Content
  pub next : ℕ
  pub now : ℕ
  pub place : past ≡ later ++ Answers m next now ∷ before
  pub waiting : SnapshotClient
  pub so_far : List ℕ
  pub story : Story config begun before waiting so_far
  pub login : LoginRequest
  pub asked : waiting.asked ≡ Some login
  pub accepted : (judged config 0 login).0 ≡ act.Accept 1
  pub is : bytes ≡ session_bytes m next

-- the acceptance of a login, and `beats` heartbeats after it
abbrev pub greeting : ServerConfig → ℕ → List ℕ
greeting config zero = welcome config 1
greeting config (suc beats) = greeting config beats ++ heartbeat

abbrev pub IsGreeting : ServerConfig → ℕ → List Happening → List ℕ → Type 0
IsGreeting config begun past bytes = (beats : ℕ) × IsWelcome config begun past × (bytes ≡ greeting config beats)

abbrev pub IsGreetingAndAnswer : ServerConfig → ℕ → List Happening → List ℕ → Type 0
IsGreetingAndAnswer config begun past bytes = (beats : ℕ) × (rest : List ℕ) × IsAnswer config begun past rest × (bytes ≡ greeting config beats ++ rest)

-- all bytes for a client: none, the rejection of its login, or its acceptance and heartbeats, with or without the answer after them
abbrev pub IsTold : ServerConfig → ℕ → List Happening → List ℕ → Type 0
IsTold config begun past bytes = (bytes ≡ []) ⊎ IsRefusal config begun past bytes ⊎ IsGreeting config begun past bytes ⊎ IsGreetingAndAnswer config begun past bytes

-- the bytes sent to a client are a prefix of these
abbrev pub IsSentRight : ServerConfig → ℕ → List Happening → List ℕ → Type 0
IsSentRight config begun past sent = (bytes : List ℕ) × IsTold config begun past bytes × IsBeginning sent bytes
