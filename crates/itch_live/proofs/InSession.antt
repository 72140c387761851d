-- A follower takes messages only from a connection that was accepted under the name of the session.
use Rattle.std.proofs.Common.{◌≡◌, ℕ, ◌+◌, ◌^◌, nat_lt, Bool, true, false, not, List, [], ◌∷◌, Option, None, Some, is_some, refl, sym, ap, subst, ◌∙◌, inl, inr, ◌⊎◌, if◌then◌else◌}
use Rattle.std.specs.Option.{option_or}
use Rattle.std.specs.Str.{bytes_eq}
use Rattle.std.proofs.lemmas.Slice.Eq.{bytes_eq-Decides}
use Rattle.itch_frame.specs.declared.tally.Failures.{Failures}
use Rattle.itch_join.specs.States.{Joining}
use Rattle.itch_soup.specs.declared.packet.LoginAccepted.{LoginAccepted}
use Rattle.itch_soup.specs.declared.packet.Packet.{Packet}
use Rattle.itch_soup.specs.declared.packet.Packet.TheVariants as is
use Rattle.itch_soup.specs.declared.connection.SessionStage.{SessionStage}
use Rattle.itch_soup.specs.declared.connection.SessionStage.TheVariants as stage
use Rattle.itch_soup.specs.declared.connection.Connection.{Connection}
use Rattle.itch_soup.specs.declared.connection.Tick.{Tick}
use Rattle.itch_soup.specs.declared.connection.Tick.TheVariants as tick
use Rattle.itch_soup.specs.declared.client.ClientAct.{ClientAct}
use Rattle.itch_soup.specs.declared.client.ClientAct.TheVariants as act
use Rattle.itch_soup.specs.declared.fault.SoupFault.TheVariants as fault
use Rattle.itch_soup.specs.declared.origin.Origin.TheVariants.{Server}
use Rattle.itch_soup.specs.Names.{session_name}
use Rattle.itch_soup.specs.Packets.{PacketSpells}
use Rattle.itch_soup.specs.Connections.{tick_answer, connection_after}
use Rattle.itch_soup.specs.Clients.{Client, client_turn, client_answer}
use Rattle.itch_live.specs.declared.news.News.{News}
use Rattle.itch_live.specs.declared.news.ServerKind.{ServerKind}
use Rattle.itch_live.specs.declared.news.ServerKind.TheVariants as source
use Rattle.itch_live.specs.declared.sessions.Sessions.{Sessions}
use Rattle.itch_live.specs.Sessions.{expected, other_name, known_after}
use Rattle.itch_live.specs.Follows.{Following, Means, ActsOn, HearsFeed, named_in, accepted_as}
use Rattle.itch_live.specs.Feeds.{Did, Connects, Ticks, Replays, Hears}
use Rattle.itch_live.specs.Identity.{StaysConnected, Led, IsInSession}
use Rattle.itch_live.proofs.Shutting.{none_known}

-- an accepted session was accepted before, or this packet accepts its login
turned : (next : ℕ) (at : SessionStage) (packet : Packet) → (client_turn next at packet).1 ≡ stage.Accepted
    → ((at ≡ stage.Accepted) × (accepted_as (client_turn next at packet).0 (named_in packet) ≡ None))
    ⊎ ((login : LoginAccepted) × (packet ≡ is.LoginAccepted login) × (accepted_as (client_turn next at packet).0 (named_in packet) ≡ Some login.session))
turned next stage.Closed packet h = absurd (cc)
turned next stage.Before (is.Debug text) h = absurd (cc)
turned next stage.Before (is.LoginAccepted login) h = inr (login, refl, refl)
turned next stage.Before (is.LoginRejected code) h = absurd (cc)
turned next stage.Before (is.SequencedData payload) h = absurd (cc)
turned next stage.Before is.ServerHeartbeat h = absurd (cc)
turned next stage.Before is.EndOfSession h = absurd (cc)
turned next stage.Before (is.LoginRequest login) h = absurd (cc)
turned next stage.Before (is.UnsequencedData payload) h = absurd (cc)
turned next stage.Before is.ClientHeartbeat h = absurd (cc)
turned next stage.Before is.LogoutRequest h = absurd (cc)
turned next stage.Accepted (is.Debug text) h = inl (refl, refl)
turned next stage.Accepted (is.LoginAccepted login) h = absurd (cc)
turned next stage.Accepted (is.LoginRejected code) h = absurd (cc)
turned next stage.Accepted (is.SequencedData payload) h = inl (refl, by_test (nat_lt next (10 ^ 19))) where
  by_test : (b : Bool) → accepted_as (if◌then◌else◌ {A = ClientAct × SessionStage × ℕ} b (act.Data next payload, stage.Accepted, next + 1) (act.Fault fault.TooManyMessages, stage.Closed, next)).0 None ≡ None
  by_test true = refl
  by_test false = refl
turned next stage.Accepted is.ServerHeartbeat h = inl (refl, refl)
turned next stage.Accepted is.EndOfSession h = absurd (cc)
turned next stage.Accepted (is.LoginRequest login) h = absurd (cc)
turned next stage.Accepted (is.UnsequencedData payload) h = inl (refl, refl)
turned next stage.Accepted is.ClientHeartbeat h = absurd (cc)
turned next stage.Accepted is.LogoutRequest h = absurd (cc)

-- only in an accepted session can a packet be a message
told_data : (next : ℕ) (at : SessionStage) (packet : Packet) (number : ℕ) (payload : List ℕ) → (client_turn next at packet).0 ≡ act.Data number payload → at ≡ stage.Accepted
told_data next stage.Accepted packet number payload h = refl
told_data next stage.Closed packet number payload h = absurd (cc)
told_data next stage.Before (is.Debug text) number payload h = absurd (cc)
told_data next stage.Before (is.LoginAccepted login) number payload h = absurd (cc)
told_data next stage.Before (is.LoginRejected code) number payload h = absurd (cc)
told_data next stage.Before (is.SequencedData bytes) number payload h = absurd (cc)
told_data next stage.Before is.ServerHeartbeat number payload h = absurd (cc)
told_data next stage.Before is.EndOfSession number payload h = absurd (cc)
told_data next stage.Before (is.LoginRequest login) number payload h = absurd (cc)
told_data next stage.Before (is.UnsequencedData bytes) number payload h = absurd (cc)
told_data next stage.Before is.ClientHeartbeat number payload h = absurd (cc)
told_data next stage.Before is.LogoutRequest number payload h = absurd (cc)

-- an end closes a session
ended : (next : ℕ) (at : SessionStage) → (client_turn next at is.EndOfSession).1 ≡ stage.Accepted → ⊥
ended next stage.Closed h = cc
ended next stage.Before h = cc
ended next stage.Accepted h = cc

ticked_on : (t : Tick) (c : Connection) (now : ℕ) → (connection_after t c now).stage ≡ stage.Accepted → c.stage ≡ stage.Accepted
ticked_on tick.Nothing c now h = h
ticked_on tick.Heartbeat c now h = h
ticked_on tick.Lost c now h = absurd (cc)

-- the expected session after a login was accepted under this name, and not under another one
pub record Agrees (known : Sessions) (from : ServerKind) (name : List ℕ) : Type 0 where
  pub session : List ℕ
  pub wanted : expected known from ≡ Some session
  pub same : session_name session ≡ session_name name

one_some : (b : Bool) (name : List ℕ) → (if b then None else Some name) ≡ None → b ≡ true
one_some true name h = refl
one_some false name h = absurd (cc)

same_name : (wanted name : List ℕ) → other_name (Some wanted) (Some name) ≡ None → session_name wanted ≡ session_name name
same_name wanted name h = (bytes_eq-Decides (session_name wanted) (session_name name)).0 (one_some (bytes_eq (session_name wanted) (session_name name)) name h)

first_named : (feed : Option (List ℕ)) (name : List ℕ) → other_name feed (Some name) ≡ None → (session : List ℕ) × (option_or feed (Some name) ≡ Some session) × (session_name session ≡ session_name name)
first_named None name h = (name, refl, refl)
first_named (Some wanted) name h = (wanted, refl, same_name wanted name h)

agreed : (known : Sessions) (from : ServerKind) (name : List ℕ) → other_name (expected known from) (Some name) ≡ None → Agrees (known_after known from (Some name)) from name
agreed known source.Live name own = let f = first_named known.feed name own in record { session = f.0; wanted = f.1; same = f.2 }
agreed known source.Glimpse name own = by_own known.glimpse refl own where
  by_own : (glimpse : Option (List ℕ)) → known.glimpse ≡ glimpse → other_name (option_or glimpse known.feed) (Some name) ≡ None
      → Agrees (if not (is_some glimpse) then record known { feed = option_or known.feed (Some name) } else known) source.Glimpse name
  by_own None is own =
      let f = first_named known.feed name own in
      record { session = f.0; wanted = ap (λ o. option_or o (option_or known.feed (Some name))) is ∙ f.1; same = f.2 }
  by_own (Some wanted) is own = record { session = wanted; wanted = ap (λ o. option_or o known.feed) is; same = same_name wanted name own }

-- a packet changes the joiner only if it is a message
module _ {W : Type 0} (contents : W → Option (List ℕ)) (failures : W → Failures) where
  unless_data : (from : ServerKind) (answer : ClientAct) (old new : Joining) (record_old record_new : W) (told : News) → ActsOn contents failures from answer old record_old told record_new new
      → (new ≡ old) ⊎ ((number : ℕ) × (payload : List ℕ) × (answer ≡ act.Data number payload))
  unless_data from (act.Accepted next) old new record_old record_new told (says, kept, same) = inl same
  unless_data from (act.Rejected code) old new record_old record_new told (says, kept, same) = inl same
  unless_data from (act.Data number payload) old new record_old record_new told acts = inr (number, payload, refl)
  unless_data from act.Nothing old new record_old record_new told (says, kept, same) = inl same
  unless_data from act.Ended old new record_old record_new told (says, kept, same) = inl same
  unless_data from (act.Fault fault) old new record_old record_new told (says, kept, same) = inl same

  module _ (begun : Following) (fresh : begun.session.connection.stage ≡ stage.Before) where
    abbrev Holds : List (Did W) → Following → Type 0
    Holds past f = f.session.connection.stage ≡ stage.Accepted → IsInSession contents failures begun past f

    -- the same connection
    on : (past : List (Did W)) (did : Did W) (f g : Following) → StaysConnected did → g.sessions ≡ f.sessions → g.source ≡ f.source → IsInSession contents failures begun past f
        → IsInSession contents failures begun (did ∷ past) g
    on past did f g stays sessions_same source_same s = record {
      name = s.name;
      accepted = record {
        later = did ∷ s.accepted.later;
        before = s.accepted.before;
        piece = s.accepted.piece;
        now = s.accepted.now;
        result = s.accepted.result;
        old = s.accepted.old;
        new = s.accepted.new;
        place = ap (λ ds. did ∷ ds) s.accepted.place;
        still = (stays, s.accepted.still);
        hearing = s.accepted.hearing;
        led = s.accepted.led;
        held = s.accepted.held;
        takes = s.accepted.takes;
        payload = s.accepted.payload;
        block = s.accepted.block;
        login = s.accepted.login;
        spelled = s.accepted.spelled;
        named = s.accepted.named;
      };
      session = s.session;
      wanted = ap (λ k. expected k g.source) sessions_same ∙ ap (λ from. expected f.sessions from) source_same ∙ s.wanted;
      same = s.same;
    }

    pub holds : (past : List (Did W)) (f : Following) → Led contents failures begun past f → Holds past f
    holds [] f is = λ at. let never = sym fresh ∙ sym (ap (λ x. x.session.connection.stage) is) ∙ at in absurd (cc)
    holds (Connects credentials now ∷ past) g (f, is, led) = λ at. let never : stage.Before ≡ stage.Accepted = sym (ap (λ x. x.session.connection.stage) is) ∙ at in absurd (cc)
    holds (Ticks now ∷ past) g (f, is, led) = λ at.
        on past (Ticks now) f g tt (ap (λ x. x.sessions) is) (ap (λ x. x.source) is)
        (holds past f led (ticked_on (tick_answer f.session.connection now) f.session.connection now (sym (ap (λ x. x.session.connection.stage) is) ∙ at)))
    holds (Replays number payload result ∷ past) g (f, (calls, is), led) = λ at.
        on past (Replays number payload result) f g tt (ap (λ x. x.sessions) is) (ap (λ x. x.source) is) (holds past f led (sym (ap (λ x. x.session.connection.stage) is) ∙ at))
    holds (Hears piece now result old new ∷ past) g (f, (held, took, inr (none, says, kept, is)), led) = λ at.
        on past (Hears piece now result old new) f g tt (ap (λ x. x.sessions) is) (ap (λ x. x.source) is) (holds past f led (sym (ap (λ x. x.session.connection.stage) is) ∙ at))
    holds (Hears piece now result old new ∷ past) g (f, (held, took, inl (payload, block, (answer, named, t, means, inl (other, is, (says, shut, kept, same))), from, none)), led) = λ at.
        absurd (ended t.next t.connection.stage (sym (ap (λ (c : Client). c.connection.stage) shut) ∙ at))
    holds (Hears piece now result old new ∷ past) g
        (f, (held, took, inl (payload, block, (answer, named, t, inr (why, at_fault, answer_is, named_is, same), inr (own, goes, (acts, pins))), from, none)), led) = λ at.
        on past (Hears piece now result old new) f g tt
        (pins ∙ ap (λ a. known_after f.sessions f.source (accepted_as a named)) answer_is ∙ none_known f.sessions f.source) from
        (holds past f led (ap (λ (c : Client). c.connection.stage) (sym (goes ∙ same)) ∙ at))
    holds (Hears piece now result old new ∷ past) g
        (f, (held, took, inl (payload, block, (answer, named, t, inl (packet, spelled, answer_is, named_is, after), inr (own, goes, (acts, pins))), from, none)), led) = λ at.
        by_turn (holds past f led) (turned f.session.next f.session.connection.stage packet (ap (λ (c : Client). c.connection.stage) (sym (goes ∙ after)) ∙ at)) where
          named_so : accepted_as answer named ≡ accepted_as (client_answer f.session packet) (named_in packet)
          named_so = ap (λ a. accepted_as a named) answer_is ∙ ap (accepted_as (client_answer f.session packet)) named_is

          by_turn : Holds past f → ((f.session.connection.stage ≡ stage.Accepted) × (accepted_as (client_answer f.session packet) (named_in packet) ≡ None))
              ⊎ ((accepted : LoginAccepted) × (packet ≡ is.LoginAccepted accepted) × (accepted_as (client_answer f.session packet) (named_in packet) ≡ Some accepted.session))
              → IsInSession contents failures begun (Hears piece now result old new ∷ past) g
          by_turn so (inl (before, unnamed)) =
              on past (Hears piece now result old new) f g tt (pins ∙ ap (known_after f.sessions f.source) (named_so ∙ unnamed) ∙ none_known f.sessions f.source) from (so before)
          by_turn so (inr (accepted, packet_is, name_is)) =
              let agrees = agreed f.sessions f.source accepted.session (ap (other_name (expected f.sessions f.source)) (sym (named_so ∙ name_is)) ∙ own) in
              record {
                name = accepted.session;
                accepted = record {
                  later = [];
                  before = past;
                  piece = piece;
                  now = now;
                  result = result;
                  old = old;
                  new = new;
                  place = refl;
                  still = tt;
                  hearing = f;
                  led = led;
                  held = held;
                  takes = took;
                  payload = payload;
                  block = block;
                  login = accepted;
                  spelled = subst (λ p. PacketSpells p payload Server) packet_is spelled;
                  named = refl;
                };
                session = agrees.session;
                wanted = ap (λ k. expected k g.source) (pins ∙ ap (known_after f.sessions f.source) (named_so ∙ name_is))
                    ∙ ap (λ s. expected (known_after f.sessions f.source (Some accepted.session)) s) from ∙ agrees.wanted;
                same = agrees.same;
              }

    pub changed_in_session : (past : List (Did W)) (f g : Following) (piece : List ℕ) (now : ℕ) (result : ℕ × News) (old new : W) → Led contents failures begun past f
        → HearsFeed contents failures f piece now old result new g → (g.joining ≡ f.joining → ⊥) → IsInSession contents failures begun past f
    changed_in_session past f g piece now result old new led (held, took, inr (none, says, kept, is)) differs = absurd (differs (ap (λ x. x.joining) is))
    changed_in_session past f g piece now result old new led (held, took, inl (payload, block, (answer, named, t, means, inl (other, is, (says, shut, kept, same))), from, none)) differs =
        absurd (differs same)
    changed_in_session past f g piece now result old new led (held, took, inl (payload, block, (answer, named, t, means, inr (own, goes, (acts, pins))), from, none)) differs =
        by_act means (unless_data f.source answer f.joining g.joining old new result.1 acts) where
          by_act : Means f.session payload now answer named t → (g.joining ≡ f.joining) ⊎ ((number : ℕ) × (bytes : List ℕ) × (answer ≡ act.Data number bytes)) → IsInSession contents failures begun past f
          by_act means (inl same) = absurd (differs same)
          by_act (inl (packet, spelled, answer_is, named_is, after)) (inr (number, bytes, is)) =
              holds past f led (told_data f.session.next f.session.connection.stage packet number bytes (sym answer_is ∙ is))
          by_act (inr (why, at_fault, answer_is, named_is, same)) (inr (number, bytes, is)) = let never = sym answer_is ∙ is in absurd (cc)
