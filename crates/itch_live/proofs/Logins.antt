-- How a login is judged if there are no messages yet.
use Rattle.std.proofs.Common.{◌≡◌, ℕ, ◌+◌, ◌≤◌, ◌++◌, nat_lt, max, Bool, true, false, map, length, Some, refl, sym, ap, arith}
use Rattle.std.proofs.lemmas.Bool.{ltb-true, ltb-false}
use Rattle.itch_frame.specs.Blocks.{blocks}
use Rattle.itch_market.specs.Content.{Content}
use Rattle.itch_soup.specs.declared.login.ServerConfig.{ServerConfig}
use Rattle.itch_soup.specs.declared.packet.LoginRequest.{LoginRequest}
use Rattle.itch_soup.specs.declared.packet.Packet.{Packet}
use Rattle.itch_soup.specs.declared.packet.Packet.TheVariants as is
use Rattle.itch_soup.specs.declared.connection.SessionStage.{SessionStage}
use Rattle.itch_soup.specs.declared.connection.SessionStage.TheVariants as stage
use Rattle.itch_soup.specs.declared.server.ServerAct.{ServerAct}
use Rattle.itch_soup.specs.declared.server.ServerAct.TheVariants as act
use Rattle.itch_soup.specs.Names.{asks_for_session}
use Rattle.itch_soup.specs.Packets.{packet_spelling}
use Rattle.itch_soup.specs.Servers.{judged, server_turn, is_user, first_asked}
use Rattle.itch_soup.specs.Sending.{served, messages, packets_for}
use Rattle.itch_live.specs.SnapshotClients.{welcome, session_bytes, login_in}

abbrev pub IsBefore : SessionStage → Type 0
IsBefore stage.Before = Unit {0}
IsBefore other = ⊥

abbrev pub IsAcceptance : ServerAct → Type 0
IsAcceptance (act.Accept n) = Unit {0}
IsAcceptance other = ⊥

-- a login that is accepted while there are no messages is accepted from number 1, for any number of messages
accepted : (config : ServerConfig) (total : ℕ) (login : LoginRequest) (user session above far : Bool) → is_user config login ≡ user
    → asks_for_session config.session login.session ≡ session → nat_lt 1 (first_asked login) ≡ above → nat_lt (total + 1) (first_asked login) ≡ far
    → IsAcceptance (judged config 0 login).0 → (judged config total login).0 ≡ act.Accept 1
accepted config total login false session above far u s a f h = absurd (rw u at h)
accepted config total login true false above far u s a f h = absurd (rw (u, s) at h)
accepted config total login true true true far u s a f h = absurd (rw (u, s, a) at h)
accepted config total login true true false true u s a f h =
    let near = ltb-false 1 (first_asked login) a in let beyond = ltb-true (total + 1) (first_asked login) f in absurd (omega arith)
accepted config total login true true false false u s a f h =
    let near = ltb-false 1 (first_asked login) a in rw (u, s, f) (ap act.Accept (one (login.number) near)) where
      one : (n : ℕ) → max 1 n ≤ 1 → max 1 n ≡ 1
      one n h = omega arith

-- so the acceptance and the answer are the ones that a server of a file sends
pub answered_whole : (config : ServerConfig) (m : Content) (next : ℕ) (login : LoginRequest) → IsAcceptance (judged config 0 login).0 → welcome config 1 ++ session_bytes m next ≡ served m next config login
answered_whole config m next login h =
    ap (λ a. blocks (map packet_spelling (packets_for m next config a)))
    (sym (accepted config (length (messages m next)) login _ _ _ _ refl refl refl refl h))

pub accepts_first : (config : ServerConfig) (login : LoginRequest) → IsAcceptance (judged config 0 login).0 → (judged config 0 login).0 ≡ act.Accept 1
accepts_first config login h = accepted config 0 login _ _ _ _ refl refl refl refl h

-- a verdict ends the wait for a login
verdict_ends : (config : ServerConfig) (total : ℕ) (login : LoginRequest) (user session above : Bool) → is_user config login ≡ user
    → asks_for_session config.session login.session ≡ session → nat_lt (total + 1) (first_asked login) ≡ above → IsBefore (judged config total login).1 → ⊥
verdict_ends config total login false session above u s a h = rw u at h
verdict_ends config total login true false above u s a h = rw (u, s) at h
verdict_ends config total login true true true u s a h = rw (u, s, a) at h
verdict_ends config total login true true false u s a h = rw (u, s, a) at h

-- a decision on a login
abbrev pub IsDecision : ServerAct → Type 0
IsDecision (act.Accept n) = Unit {0}
IsDecision (act.Reject code) = Unit {0}
IsDecision other = ⊥

-- a login is judged that was awaited before, and none is awaited afterwards
pub record Decides (config : ServerConfig) (total : ℕ) (at : SessionStage) (packet : Packet) : Type 0 where
  pub was_before : IsBefore at
  pub login : LoginRequest
  pub is_login : login_in packet ≡ Some login
  pub verdict : (server_turn config total at packet).0 ≡ (judged config total login).0
  pub ends : IsBefore (server_turn config total at packet).1 → ⊥

pub decides : (config : ServerConfig) (total : ℕ) (at : SessionStage) (packet : Packet) → IsDecision (server_turn config total at packet).0 → Decides config total at packet
decides config total stage.Closed packet h = absurd h
decides config total stage.Before (is.Debug text) h = absurd h
decides config total stage.Before (is.LoginAccepted login) h = absurd h
decides config total stage.Before (is.LoginRejected code) h = absurd h
decides config total stage.Before (is.SequencedData payload) h = absurd h
decides config total stage.Before is.ServerHeartbeat h = absurd h
decides config total stage.Before is.EndOfSession h = absurd h
decides config total stage.Before (is.LoginRequest login) h =
    record { was_before = tt; login = login; is_login = refl; verdict = refl; ends = verdict_ends config total login _ _ _ refl refl refl }
decides config total stage.Before (is.UnsequencedData payload) h = absurd h
decides config total stage.Before is.ClientHeartbeat h = absurd h
decides config total stage.Before is.LogoutRequest h = absurd h
decides config total stage.Accepted (is.Debug text) h = absurd h
decides config total stage.Accepted (is.LoginAccepted login) h = absurd h
decides config total stage.Accepted (is.LoginRejected code) h = absurd h
decides config total stage.Accepted (is.SequencedData payload) h = absurd h
decides config total stage.Accepted is.ServerHeartbeat h = absurd h
decides config total stage.Accepted is.EndOfSession h = absurd h
decides config total stage.Accepted (is.LoginRequest login) h = absurd h
decides config total stage.Accepted (is.UnsequencedData payload) h = absurd h
decides config total stage.Accepted is.ClientHeartbeat h = absurd h
decides config total stage.Accepted is.LogoutRequest h = absurd h

-- no packet leads back to the wait for a login
pub stays_past : (config : ServerConfig) (total : ℕ) (at : SessionStage) (packet : Packet) → IsBefore (server_turn config total at packet).1 → IsBefore at
stays_past config total stage.Closed packet h = absurd h
stays_past config total stage.Before packet h = tt
stays_past config total stage.Accepted (is.Debug text) h = absurd h
stays_past config total stage.Accepted (is.LoginAccepted login) h = absurd h
stays_past config total stage.Accepted (is.LoginRejected code) h = absurd h
stays_past config total stage.Accepted (is.SequencedData payload) h = absurd h
stays_past config total stage.Accepted is.ServerHeartbeat h = absurd h
stays_past config total stage.Accepted is.EndOfSession h = absurd h
stays_past config total stage.Accepted (is.LoginRequest login) h = absurd h
stays_past config total stage.Accepted (is.UnsequencedData payload) h = absurd h
stays_past config total stage.Accepted is.ClientHeartbeat h = absurd h
stays_past config total stage.Accepted is.LogoutRequest h = absurd h
