-- How a client continues to wait.
use Rattle.std.proofs.Common.{◌≡◌, ℕ, ◌+◌, ◌&&◌, true, false, not, Bool, List, [], ◌∷◌, Option, None, Some, is_some, refl, sym, ap, subst, ◌∙◌, inl, inr, if◌then◌else◌}
use Rattle.std.specs.Option.{option_or}
use Rattle.itch_soup.specs.declared.login.ServerConfig.{ServerConfig}
use Rattle.itch_soup.specs.declared.packet.LoginRequest.{LoginRequest}
use Rattle.itch_soup.specs.declared.packet.Packet.{Packet}
use Rattle.itch_soup.specs.declared.server.ServerAct.{ServerAct}
use Rattle.itch_soup.specs.declared.server.ServerAct.TheVariants as act
use Rattle.itch_soup.specs.Servers.{server_answer, server_after_packet}
use Rattle.itch_live.specs.declared.disconnect_cause.DisconnectCause.{DisconnectCause}
use Rattle.itch_live.specs.declared.disconnect_cause.DisconnectCause.TheVariants as reason
use Rattle.itch_live.specs.SnapshotClients as clients
use Rattle.itch_live.specs.SnapshotClients.{SnapshotClient, is_waiting, is_silent, login_in, after_act, moved_by_words, session_bytes}
use Rattle.itch_live.specs.Stories.{Happening, Hears, Answers, Takes, Ticks, Leaves, Becomes, Story}
use Rattle.itch_live.specs.Fairness.{MayBecome}
use Rattle.itch_live.proofs.Logins.{IsBefore, IsDecision, decides}
use Rattle.itch_live.proofs.Stories.{sound}

-- a waiting client has logged in, has no snapshot yet, and is not gone
record Waits (g : SnapshotClient) : Type 0 where
  login : LoginRequest
  asked : g.asked ≡ Some login
  here : g.gone ≡ None

waits : (g : SnapshotClient) → is_waiting g ≡ true → Waits g
waits g h = by_parts g.asked refl g.gone refl h where
  by_parts : (asked : Option LoginRequest) → g.asked ≡ asked → (left : Option DisconnectCause) → g.gone ≡ left → (is_some asked && not (is_some g.told) && not (is_some left)) ≡ true → Waits g
  by_parts None asked_is left left_is h = absurd (cc)
  by_parts (Some login) asked_is None left_is h = record { login = login; asked = asked_is; here = left_is }
  by_parts (Some login) asked_is (Some why) left_is h = absurd (never (not (is_some g.told)) h) where
    never : (b : Bool) → (b && false) ≡ true → ⊥
    never true h = cc
    never false h = cc

no_login : {login : LoginRequest} → None ≡ Some login → ⊥
no_login {login} h = cc

-- the effect of a packet on a waiting client
by_act : (g : SnapshotClient) (packet : Packet) (now : ℕ) (a : ServerAct) → server_answer g.session packet ≡ a → (IsBefore g.session.connection.stage → g.asked ≡ None) → is_waiting g ≡ true
    → MayBecome g (Hears [] now 0) (after_act a (login_in packet) now (record g { held = []; session = server_after_packet g.session packet now; moved = moved_by_words g now }))
by_act g packet now (act.Accept n) is unasked h =
    let d = decides g.session.config g.session.total g.session.connection.stage packet (subst IsDecision (sym is) tt) in
    absurd (no_login (sym (unasked d.was_before) ∙ (waits g h).asked))
by_act g packet now (act.Reject code) is unasked h =
    let d = decides g.session.config g.session.total g.session.connection.stage packet (subst IsDecision (sym is) tt) in
    absurd (no_login (sym (unasked d.was_before) ∙ (waits g h).asked))
by_act g packet now act.Nothing is unasked h = inl h
by_act g packet now act.Close is unasked h = inr (inl (ap (λ o. option_or o (Some reason.Left)) (waits g h).here))
by_act g packet now (act.Fault fault) is unasked h = inr (inr (ap (λ o. option_or o (Some reason.Fault)) (waits g h).here))

pub goes_on : (config : ServerConfig) (begun : ℕ) (past : List Happening) (g : SnapshotClient) (sent : List ℕ) (happening : Happening) (h : SnapshotClient)
    → Story config begun past g sent → Becomes config g happening h → is_waiting g ≡ true → MayBecome g happening h
goes_on config begun past g sent (Hears piece now n) h story (inl (deaf, all, same)) waiting = inl (ap is_waiting same ∙ waiting)
goes_on config begun past g sent (Hears piece now n) h story (inr (hears, (held, take_is, inl (payload, block, inl (packet, spelled, heard_is))))) waiting =
    subst (MayBecome g (Hears piece now n)) (sym heard_is) (by_act g packet now (server_answer g.session packet) refl (sound config begun past g sent story).unasked waiting)
goes_on config begun past g sent (Hears piece now n) h story (inr (hears, (held, take_is, inl (payload, block, inr (fault, at, is))))) waiting =
    inr (inr (ap (λ (x : SnapshotClient). x.gone) is ∙ ap (λ o. option_or o (Some reason.Fault)) (waits g waiting).here))
goes_on config begun past g sent (Hears piece now n) h story (inr (hears, (held, take_is, inr (none, is)))) waiting = inl (ap is_waiting is ∙ waiting)
goes_on config begun past g sent (Answers m next now) h story is waiting = is ∙ ap (λ b. if b then clients.answered g (session_bytes m next) next now else g) waiting
goes_on config begun past g sent (Takes count now) h story (fits, is) waiting = ap is_waiting is ∙ by_notes g.notes where
  either : (b : Bool) (x y : SnapshotClient) → is_waiting x ≡ true → is_waiting y ≡ true → is_waiting (if b then x else y) ≡ true
  either true x y one other = one
  either false x y one other = other

  by_notes : (notes : List ℕ) → is_waiting (clients.took_of notes g count now) ≡ true
  by_notes [] = either _ (record g { taken = g.taken + count; moved = now; marked = g.taken + count }) (record g { taken = g.taken + count }) waiting waiting
  by_notes (b ∷ notes) = waiting
goes_on config begun past g sent (Ticks now) h story is waiting = subst (MayBecome g (Ticks now)) (sym is) (by_test (is_silent g now) refl) where
  by_test : (b : Bool) → is_silent g now ≡ b → MayBecome g (Ticks now) (if b then clients.gone_for reason.Silent g else (if clients.is_idle g now then clients.with_heartbeat g now else g))
  by_test true silent = inr (silent, ap (λ o. option_or o (Some reason.Silent)) (waits g waiting).here)
  by_test false talks = inl (by_idle (clients.is_idle g now)) where
    by_idle : (b : Bool) → is_waiting (if b then clients.with_heartbeat g now else g) ≡ true
    by_idle true = waiting
    by_idle false = waiting
goes_on config begun past g sent Leaves h story is waiting = ap (λ (x : SnapshotClient). x.gone) is ∙ ap (λ o. option_or o (Some reason.Left)) (waits g waiting).here
