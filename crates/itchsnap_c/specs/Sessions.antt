-- The results and effects of the calls on sessions.
use Rattle.std.specs.Prelude.{◌≡◌, ◌⊎◌, ◌<◌, ◌≤◌, ◌-◌, ◌^◌, ℕ, List, replicate, Option, Some, None, option_and_then}
use Rattle.itch_codec.specs.Text.{IsPrintable}
use Rattle.itch_soup.specs.Clients as soup
use Rattle.itch_soup.specs.Connections.{tick_answer as due}
use Rattle.itch_soup.specs.Packets.{PacketSpells, packet_fault, packet_spelling}
use Rattle.itch_soup.specs.Servers as soup_server
use Rattle.itch_soup.specs.declared.fault.SoupFault.{SoupFault}
use Rattle.itch_soup.specs.declared.login.Credentials.{Credentials}
use Rattle.itch_soup.specs.declared.login.ServerConfig.{ServerConfig}
use Rattle.itch_soup.specs.declared.origin.Origin.{Origin}
use Rattle.itch_soup.specs.declared.origin.Origin.TheVariants as from
use Rattle.itch_soup.specs.declared.packet.Packet.{Packet}
use Rattle.itch_soup.specs.declared.packet.Packet.TheVariants as is
use Rattle.itchsnap_c.specs.declared.answers.AcceptancePacket.{AcceptancePacket}
use Rattle.itchsnap_c.specs.declared.answers.Act.{Act}
use Rattle.itchsnap_c.specs.declared.answers.Answer.{Answer}
use Rattle.itchsnap_c.specs.declared.answers.SessionLogin.{SessionLogin}
use Rattle.itchsnap_c.specs.declared.answers.LoginPacket.{LoginPacket}
use Rattle.itchsnap_c.specs.declared.object.Object.{Object}
use Rattle.itchsnap_c.specs.declared.object.Object.TheVariants.{Market, Joiner, Client, Server}
use Rattle.itchsnap_c.specs.Codes.{coded, done, wrong}
use Rattle.itchsnap_c.specs.Objects.{Fills, client_of, server_of}
use Rattle.itchsnap_c.specs.Snapshots.{IsNumber}
use Rattle.itchsnap_c.specs.SoupCodes.{act, client_act, server_act, soup_fault_act, tick_answer}

-- the handle holds no such session
abbrev pub wrong_act : Act
wrong_act = act 50 0 0

-- each text is printable
abbrev pub AreTexts : SessionLogin → Type 0
AreTexts login = IsPrintable login.username × IsPrintable login.password × IsPrintable login.session

abbrev pub credentials_of : SessionLogin → Credentials
credentials_of login = record { username = login.username; password = login.password; session = login.session }

abbrev pub config_of : SessionLogin → ServerConfig
config_of login = record { username = login.username; password = login.password; session = login.session }

-- a handle is filled with a new session, unless a text is invalid, or the number is above the greatest; this is the code for the latter
abbrev pub FillsSession : SessionLogin → ℕ → ℕ → ℕ → Object → Option Object → Answer → Option Object → Type 0
FillsSession login number most code session old answer new =
    (AreTexts login × (number ≤ most) × Fills old session answer new)
    ⊎ ((¬ AreTexts login) × (answer ≡ coded 3 0) × (new ≡ old))
    ⊎ (AreTexts login × (most < number) × (answer ≡ coded code 0) × (new ≡ old))

-- the same for a client's session and its number
abbrev pub FillsClient : SessionLogin → ℕ → ℕ → Option Object → Answer → Option Object → Type 0
FillsClient login number now = FillsSession login number (10 ^ 19) 54 (Client (soup.new_client (credentials_of login) number now))

-- the same for a server's session and its number of messages
abbrev pub FillsServer : SessionLogin → ℕ → ℕ → Option Object → Answer → Option Object → Type 0
FillsServer config total now = FillsSession config total (10 ^ 19 - 1) 33 (Server (soup_server.new_server (config_of config) total now))

-- a block is a packet of this side, and gets this answer; or it is not, and the session is unchanged
abbrev pub Hears : {S : Type 0} → Origin → (S → Packet → Act) → (S → Packet → S) → List ℕ → S → Act → S → Type 0
Hears side answer_to after block s answer t =
    ((packet : Packet) × PacketSpells packet block side × (answer ≡ answer_to s packet) × (t ≡ after s packet))
    ⊎ ((fault : SoupFault) × (packet_fault block side ≡ Some fault) × (answer ≡ soup_fault_act fault) × (t ≡ s))

abbrev pub ClientHears : List ℕ → ℕ → soup.Client → Act → soup.Client → Type 0
ClientHears block now = Hears from.Server (λ c packet. client_act (soup.client_answer c packet)) (λ c packet. soup.client_after_packet c packet now) block

abbrev pub ServerHears : List ℕ → ℕ → soup_server.Server → Act → soup_server.Server → Type 0
ServerHears block now = Hears from.Client (λ s packet. server_act (soup_server.server_answer s packet)) (λ s packet. soup_server.server_after_packet s packet now) block

-- the action due in a session at a time
abbrev pub Ticks : ℕ → Object → Answer → Object → Type 0
Ticks now (Market m) answer new = (answer ≡ wrong) × (new ≡ Market m)
Ticks now (Joiner j) answer new = (answer ≡ wrong) × (new ≡ Joiner j)
Ticks now (Client c) answer new = (answer ≡ tick_answer (due c.connection now)) × (new ≡ Client (soup.client_after_tick c now))
Ticks now (Server s) answer new = (answer ≡ tick_answer (due s.connection now)) × (new ≡ Server (soup_server.server_after_tick s now))

-- a session notes that a packet was sent at a time
abbrev pub Notes : ℕ → Object → Answer → Object → Type 0
Notes now (Market m) answer new = (answer ≡ wrong) × (new ≡ Market m)
Notes now (Joiner j) answer new = (answer ≡ wrong) × (new ≡ Joiner j)
Notes now (Client c) answer new = (answer ≡ done) × (new ≡ Client (soup.client_after_sent c now))
Notes now (Server s) answer new = (answer ≡ done) × (new ≡ Server (soup_server.server_after_sent s now))

abbrev pub held_client : Option Object → Option soup.Client
held_client held = option_and_then client_of held

abbrev pub held_server : Option Object → Option soup_server.Server
held_server held = option_and_then server_of held

-- the login request of a session, or zeros if there is no session
abbrev pub login_in : Option soup.Client → LoginPacket
login_in (Some c) = record { bytes = packet_spelling (is.LoginRequest (soup.login_of c)); code = 0 }
login_in None = record { bytes = replicate 47 0; code = 50 }

abbrev pub no_acceptance : ℕ → AcceptancePacket
no_acceptance code = record { bytes = replicate 31 0; code = code }

-- the acceptance of a session from a number on, which is a valid message number
abbrev pub Accepts : Option soup_server.Server → ℕ → AcceptancePacket → Type 0
Accepts (Some s) next answer =
    (IsNumber next × (answer ≡ record { bytes = packet_spelling (is.LoginAccepted (soup_server.acceptance s.config next)); code = 0 }))
    ⊎ ((¬ IsNumber next) × (answer ≡ no_acceptance 54))
Accepts None next answer = answer ≡ no_acceptance 50
