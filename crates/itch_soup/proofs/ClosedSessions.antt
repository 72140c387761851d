-- A closed session remains closed.
use Rattle.std.proofs.Common.{◌≡◌, ℕ, ◌+◌, ◌^◌, Bool, true, false, List, [], ◌∷◌, refl, ap, ◌∙◌}
use Rattle.std.specs.Prelude.{map, nat_lt}
use Rattle.itch_soup.specs.declared.login.ServerConfig.{ServerConfig}
use Rattle.itch_soup.specs.declared.packet.LoginRequest.{LoginRequest}
use Rattle.itch_soup.specs.declared.packet.Packet.{Packet}
use Rattle.itch_soup.specs.declared.packet.Packet.TheVariants as is
use Rattle.itch_soup.specs.declared.connection.SessionStage.{SessionStage}
use Rattle.itch_soup.specs.declared.connection.SessionStage.TheVariants as stage
use Rattle.itch_soup.specs.declared.connection.Tick.{Tick}
use Rattle.itch_soup.specs.declared.connection.Tick.TheVariants as tick
use Rattle.itch_soup.specs.declared.connection.Connection.{Connection}
use Rattle.itch_soup.specs.Connections.{is_silent, is_idle, tick_by, tick_answer, connection_after, after_tick}
use Rattle.itch_soup.specs.Names.{asks_for_session}
use Rattle.itch_soup.specs.Servers.{Server, judged, server_turn, is_user, first_asked}
use Rattle.itch_soup.specs.Clients.{Client, client_turn}
use Rattle.itch_soup.specs.Closing.{Call, OnPacket, OnTick, OnSent, ToPacket, ToTick, Silence, server_reply, server_after, server_replies, ServerCloses, closed_server_reply, client_reply, client_after, client_replies, ClientCloses, closed_client_reply}

tick_closed : (c : Connection) (now : ℕ) → c.stage ≡ stage.Closed → tick_answer c now ≡ tick.Nothing
tick_closed c now h = ap (λ at. tick_by at (is_silent c now) (is_idle c now)) h

after_closed : (c : Connection) (now : ℕ) → c.stage ≡ stage.Closed → (after_tick c now).stage ≡ stage.Closed
after_closed c now h = ap (λ t. (connection_after t c now).stage) (tick_closed c now h) ∙ h

server_stays : (s : Server) (later : List Call) → s.connection.stage ≡ stage.Closed → server_replies s later ≡ map closed_server_reply later
server_stays s [] h = refl
server_stays s (OnPacket packet now ∷ later) h =
    let turn = ap (λ at. server_turn s.config s.total at packet) h in
    let rest = server_stays (server_after s (OnPacket packet now)) later (ap (λ t. t.1) turn) in
    λ i. ToPacket (turn i).0 ∷ rest i
server_stays s (OnTick now ∷ later) h =
    let answer = tick_closed s.connection now h in
    let rest = server_stays (server_after s (OnTick now)) later (after_closed s.connection now h) in
    λ i. ToTick (answer i) ∷ rest i
server_stays s (OnSent now ∷ later) h = ap (λ replies. Silence ∷ replies) (server_stays (server_after s (OnSent now)) later h)

client_stays : (c : Client) (later : List Call) → c.connection.stage ≡ stage.Closed → client_replies c later ≡ map closed_client_reply later
client_stays c [] h = refl
client_stays c (OnPacket packet now ∷ later) h =
    let turn = ap (λ at. client_turn c.next at packet) h in
    let rest = client_stays (client_after c (OnPacket packet now)) later (ap (λ t. t.1) turn) in
    λ i. ToPacket (turn i).0 ∷ rest i
client_stays c (OnTick now ∷ later) h =
    let answer = tick_closed c.connection now h in
    let rest = client_stays (client_after c (OnTick now)) later (after_closed c.connection now h) in
    λ i. ToTick (answer i) ∷ rest i
client_stays c (OnSent now ∷ later) h = ap (λ replies. Silence ∷ replies) (client_stays (client_after c (OnSent now)) later h)

judged_closes : (config : ServerConfig) (total : ℕ) (login : LoginRequest) (user session above : Bool) → is_user config login ≡ user
    → asks_for_session config.session login.session ≡ session → nat_lt (total + 1) (first_asked login) ≡ above
    → ServerCloses (ToPacket (judged config total login).0) → (judged config total login).1 ≡ stage.Closed
judged_closes config total login false session above u s a h = rw u refl
judged_closes config total login true false above u s a h = rw (u, s) refl
judged_closes config total login true true true u s a h = rw (u, s, a) refl
judged_closes config total login true true false u s a h = absurd (rw (u, s, a) at h)

server_closes : (config : ServerConfig) (total : ℕ) (at : SessionStage) (packet : Packet) → ServerCloses (ToPacket (server_turn config total at packet).0)
    → (server_turn config total at packet).1 ≡ stage.Closed
server_closes config total stage.Closed packet h = refl
server_closes config total stage.Before (is.Debug text) h = absurd h
server_closes config total stage.Before (is.UnsequencedData payload) h = absurd h
server_closes config total stage.Before is.ClientHeartbeat h = absurd h
server_closes config total stage.Before (is.LoginRequest login) h = judged_closes config total login _ _ _ refl refl refl h
server_closes config total stage.Before packet h = refl
server_closes config total stage.Accepted (is.Debug text) h = absurd h
server_closes config total stage.Accepted (is.UnsequencedData payload) h = absurd h
server_closes config total stage.Accepted is.ClientHeartbeat h = absurd h
server_closes config total stage.Accepted packet h = refl

data_closes : (next : ℕ) (payload : List ℕ) (b : Bool) → nat_lt next (10 ^ 19) ≡ b
    → ClientCloses (ToPacket (client_turn next stage.Accepted (is.SequencedData payload)).0)
    → (client_turn next stage.Accepted (is.SequencedData payload)).1 ≡ stage.Closed
data_closes next payload true e h = absurd (rw e at h)
data_closes next payload false e h = rw e refl

client_closes : (next : ℕ) (at : SessionStage) (packet : Packet) → ClientCloses (ToPacket (client_turn next at packet).0) → (client_turn next at packet).1 ≡ stage.Closed
client_closes next stage.Closed packet h = refl
client_closes next stage.Before (is.Debug text) h = absurd h
client_closes next stage.Before (is.UnsequencedData payload) h = absurd h
client_closes next stage.Before is.ServerHeartbeat h = absurd h
client_closes next stage.Before (is.LoginAccepted login) h = absurd h
client_closes next stage.Before packet h = refl
client_closes next stage.Accepted (is.Debug text) h = absurd h
client_closes next stage.Accepted (is.UnsequencedData payload) h = absurd h
client_closes next stage.Accepted is.ServerHeartbeat h = absurd h
client_closes next stage.Accepted (is.SequencedData payload) h = data_closes next payload _ refl h
client_closes next stage.Accepted packet h = refl

server_tick : (c : Connection) (now : ℕ) (answer : Tick) → ServerCloses (ToTick answer) → (connection_after answer c now).stage ≡ stage.Closed
server_tick c now tick.Nothing h = absurd h
server_tick c now tick.Heartbeat h = absurd h
server_tick c now tick.Lost h = refl

client_tick : (c : Connection) (now : ℕ) (answer : Tick) → ClientCloses (ToTick answer) → (connection_after answer c now).stage ≡ stage.Closed
client_tick c now tick.Nothing h = absurd h
client_tick c now tick.Heartbeat h = absurd h
client_tick c now tick.Lost h = refl

server_closed : (s : Server) (call : Call) → ServerCloses (server_reply s call) → (server_after s call).connection.stage ≡ stage.Closed
server_closed s (OnPacket packet now) h = server_closes s.config s.total s.connection.stage packet h
server_closed s (OnTick now) h = server_tick s.connection now (tick_answer s.connection now) h
server_closed s (OnSent now) h = absurd h

client_closed : (c : Client) (call : Call) → ClientCloses (client_reply c call) → (client_after c call).connection.stage ≡ stage.Closed
client_closed c (OnPacket packet now) h = client_closes c.next c.connection.stage packet h
client_closed c (OnTick now) h = client_tick c.connection now (tick_answer c.connection now) h
client_closed c (OnSent now) h = absurd h

-- after an answer that closes a session, it remains closed
pub server_stays-closed : (s : Server) (call : Call) (later : List Call) → ServerCloses (server_reply s call)
    → server_replies (server_after s call) later ≡ map closed_server_reply later
server_stays-closed s call later h = server_stays (server_after s call) later (server_closed s call h)

pub client_stays-closed : (c : Client) (call : Call) (later : List Call) → ClientCloses (client_reply c call)
    → client_replies (client_after c call) later ≡ map closed_client_reply later
client_stays-closed c call later h = client_stays (client_after c call) later (client_closed c call h)
