-- The bytes sent to a client of a played feed.
use Rattle.std.proofs.Common.{◌≡◌, ℕ, ◌+◌, ◌-◌, ◌<◌, ◌≤◌, ◌⊎◌, inl, inr, Bool, true, false, List, [], ◌∷◌, ◌++◌, length, take, drop, map, Option, None, Some, refl, sym, ap, subst, ◌∙◌, arith, append-nil, append_assoc, length-append, ◌&&◌, not, nat_le, nat_lt, if◌then◌else◌}
use Rattle.std.specs.Option.{IsSome}
use Rattle.std.proofs.lemmas.Bool.{leb-true, ltb-true, ltb-false}
use Rattle.std.proofs.lemmas.List.{map-append, take-append-drop}
use Rattle.itch_frame.specs.Blocks.{block, blocks}
use Rattle.itch_frame.proofs.BlockLemmas.{blocks-push}
use Rattle.itch_soup.specs.declared.login.ServerConfig.{ServerConfig}
use Rattle.itch_soup.specs.declared.packet.LoginRequest.{LoginRequest}
use Rattle.itch_soup.specs.declared.packet.Packet.{Packet}
use Rattle.itch_soup.specs.declared.packet.Packet.TheVariants as is
use Rattle.itch_soup.specs.declared.origin.Origin.TheVariants.{Client}
use Rattle.itch_soup.specs.declared.server.ServerAct.{ServerAct}
use Rattle.itch_soup.specs.declared.server.ServerAct.TheVariants as act
use Rattle.itch_soup.specs.Names.{asks_for_session}
use Rattle.itch_soup.specs.Packets.{PacketSpells, packet_spelling}
use Rattle.itch_soup.specs.Servers.{judged, is_user, first_asked, acceptance, server_answer, server_after_packet}
use Rattle.itch_live.specs.declared.progress.Progress.{Progress}
use Rattle.itch_live.specs.declared.progress.Progress.TheVariants as progress
use Rattle.itch_live.specs.SnapshotClients.{login_in}
use Rattle.itch_live.specs.Players as players
use Rattle.itch_live.specs.Players.{Player, new_player, is_gone, pending, plays, wanted, is_playing, is_idle, is_played, after_end, has_room, is_empty, heard, message_packet, HearsHeld}
use Rattle.itch_live.specs.Plays.{Happening, Hears, Plays, Takes, Ticks, Ends, Leaves, Becomes, Event, History, sent_bytes, sent_by, handed_in, handed_by, without_heartbeats, Came, IsNothing, IsRefusal, IsFeed, IsTold, IsSentRight}
use Rattle.itch_live.proofs.Logins.{IsBefore, IsAcceptance, IsDecision, decides, stays_past}
use Rattle.itch_live.proofs.Sound.{IsYes, login_packet}

-- packets ------------------------------------------------------------------

without-append : (xs ys : List Packet) → without_heartbeats (xs ++ ys) ≡ without_heartbeats xs ++ without_heartbeats ys
without-append [] ys = refl
without-append (is.ServerHeartbeat ∷ xs) ys = without-append xs ys
without-append (x ∷ xs) ys = ap (λ zs. x ∷ zs) (without-append xs ys)

-- one more packet
pushed : (packets : List Packet) (x : Packet) → blocks (map packet_spelling packets) ++ block (packet_spelling x) ≡ blocks (map packet_spelling (packets ++ x ∷ []))
pushed packets x = sym (ap blocks (map-append packet_spelling packets (x ∷ [])) ∙ blocks-push (map packet_spelling packets) (packet_spelling x))

-- bytes are added to those sent
seam : (a b c : List ℕ) → (a ++ []) ++ (b ++ c) ≡ (a ++ b) ++ c
seam a b c = ap (λ front. front ++ (b ++ c)) (append-nil a) ∙ sym (append_assoc a b c)

more_told : (first : Packet) (packets : List Packet) (x : Packet) (bytes : List ℕ) → bytes ≡ blocks (map packet_spelling (first ∷ packets ++ []))
    → bytes ++ block (packet_spelling x) ≡ blocks (map packet_spelling (first ∷ (packets ++ x ∷ []) ++ []))
more_told first packets x bytes is =
    ap (λ b. b ++ block (packet_spelling x)) (is ∙ ap (λ ps. blocks (map packet_spelling ps)) (append-nil (first ∷ packets))) ∙ pushed (first ∷ packets) x
    ∙ ap (λ ps. blocks (map packet_spelling ps)) (sym (append-nil ((first ∷ packets) ++ x ∷ [])))

ended_so : (first : Packet) (packets : List Packet) (x : Packet) (bytes : List ℕ) → bytes ≡ blocks (map packet_spelling (first ∷ packets ++ []))
    → bytes ++ block (packet_spelling x) ≡ blocks (map packet_spelling (first ∷ packets ++ x ∷ []))
ended_so first packets x bytes is = more_told first packets x bytes is ∙ ap (λ ps. blocks (map packet_spelling ps)) (append-nil ((first ∷ packets) ++ x ∷ []))

-- tests --------------------------------------------------------------------

both : (a b : Bool) → (a && b) ≡ true → (a ≡ true) × (b ≡ true)
both true b h = (refl, h)
both false b h = absurd (subst IsYes (sym h) tt)

negated : (b : Bool) → not b ≡ true → b ≡ false
negated true h = absurd (subst IsYes (sym h) tt)
negated false h = refl

-- a client that is sent its feed from some number on
abbrev pub IsPlayed : Progress → Type 0
IsPlayed at = (first : ℕ) × (at ≡ progress.Playing first)

plays_only : (at : Progress) → plays at ≡ true → IsPlayed at
plays_only progress.Waiting h = absurd (subst IsYes (sym h) tt)
plays_only (progress.Refused code) h = absurd (subst IsYes (sym h) tt)
plays_only (progress.Playing first) h = (first, refl)
plays_only (progress.Ended first) h = absurd (subst IsYes (sym h) tt)

playing_is : (p : Player) → is_playing p ≡ true → IsPlayed p.progress
playing_is p h = plays_only p.progress (both (plays p.progress) (not (is_gone p)) h).0

some_if : (b : Bool) (n : ℕ) → IsSome (if b then Some n else None) → b ≡ true
some_if true n h = refl
some_if false n h = absurd (subst IsYes (sym h) tt)

-- the known facts about a client for which a message is requested
pub record Wants (p : Player) : Type 0 where
  pub playing : IsPlayed p.progress
  pub left : p.next ≤ p.session.total
  pub number : wanted p ≡ Some p.next

pub wants : (p : Player) → IsSome (wanted p) → Wants p
wants p some =
    let all = some_if (is_playing p && nat_le p.next p.session.total && has_room p.outbox) p.next some in
    let first = both (is_playing p && nat_le p.next p.session.total) (has_room p.outbox) all in
    let second = both (is_playing p) (nat_le p.next p.session.total) first.0 in
    record {
      playing = playing_is p second.0;
      left = leb-true p.next p.session.total second.1;
      number = ap (λ b. if b then Some p.next else None) all;
    }

-- logins -------------------------------------------------------------------

accepted_at : (config : ServerConfig) (total n : ℕ) (login : LoginRequest) (user session above : Bool) → is_user config login ≡ user
    → asks_for_session config.session login.session ≡ session → nat_lt (total + 1) (first_asked login) ≡ above → IsAcceptance (judged config total login).0
    → (judged config total login).0 ≡ act.Accept n → (n ≡ first_asked login) × (first_asked login ≤ total + 1)
accepted_at config total n login false session above u s a accepts h = absurd (rw u at accepts)
accepted_at config total n login true false above u s a accepts h = absurd (rw (u, s) at accepts)
accepted_at config total n login true true true u s a accepts h = absurd (rw (u, s, a) at accepts)
accepted_at config total n login true true false u s a accepts h =
    let is : act.Accept (first_asked login) ≡ act.Accept n = rw (u, s, a) at h in
    let same : n ≡ first_asked login = cc in
    (same, ltb-false (total + 1) (first_asked login) a)

-- a login is accepted from the number that it asks for, which is at most the one after the last
accepted_first : (config : ServerConfig) (total n : ℕ) (login : LoginRequest) → (judged config total login).0 ≡ act.Accept n → (n ≡ first_asked login) × (first_asked login ≤ total + 1)
accepted_first config total n login h = accepted_at config total n login _ _ _ refl refl refl (subst IsAcceptance (sym h) tt) h

judged_at : (c config : ServerConfig) (t total : ℕ) (login : LoginRequest) (a : ServerAct) → c ≡ config → t ≡ total → (judged c t login).0 ≡ a → (judged config total login).0 ≡ a
judged_at c config t total login a e f h = subst (λ x. (judged x total login).0 ≡ a) e (subst (λ y. (judged c y login).0 ≡ a) f h)

module _ (config : ServerConfig) (total : ℕ) where
  came_before : (e : Event) (past : List Event) (login : LoginRequest) → Came past login → Came (e ∷ past) login
  came_before e past login c = record {
    later = e ∷ c.later;
    at = c.at;
    before = c.before;
    place = ap (λ es. e ∷ es) c.place;
    piece = c.piece;
    now = c.now;
    count = c.count;
    heard = c.heard;
    is = c.is;
  }

  refused_before : (e : Event) (past : List Event) (at : Progress) (bytes : List ℕ) → IsRefusal config total past at bytes → IsRefusal config total (e ∷ past) at bytes
  refused_before e past at bytes r =
      record { login = r.login; came = came_before e past r.login r.came; code = r.code; known = r.known; rejected = r.rejected; is = r.is }

  fed_before : (e : Event) (past : List Event) (next : ℕ) (at : Progress) (bytes : List ℕ) → handed_in (e ∷ past) ≡ handed_in past → IsFeed config total past next at bytes
      → IsFeed config total (e ∷ past) next at bytes
  fed_before e past next at bytes same f = record {
    login = f.login;
    came = came_before e past f.login f.came;
    accepted = f.accepted;
    known = f.known;
    packets = f.packets;
    played = f.played ∙ ap (λ ms. map is.SequencedData ms) (sym same);
    counted = f.counted ∙ ap (λ ms. first_asked f.login + length ms) (sym same);
    within = f.within;
    ended = f.ended;
    is = f.is;
  }

  -- all bytes for a client, by its progress
  abbrev pub Stands : List Event → ℕ → Progress → List ℕ → Type 0
  Stands past next progress.Waiting bytes = (bytes ≡ []) × (handed_in past ≡ [])
  Stands past next (progress.Refused code) bytes = IsRefusal config total past (progress.Refused code) bytes
  Stands past next (progress.Playing first) bytes = IsFeed config total past next (progress.Playing first) bytes
  Stands past next (progress.Ended first) bytes = IsFeed config total past next (progress.Ended first) bytes

  stands_before : (e : Event) (past : List Event) (next : ℕ) (at : Progress) (bytes : List ℕ) → handed_in (e ∷ past) ≡ handed_in past → Stands past next at bytes → Stands (e ∷ past) next at bytes
  stands_before e past next progress.Waiting bytes same (none, nothing) = (none, same ∙ nothing)
  stands_before e past next (progress.Refused code) bytes same r = refused_before e past (progress.Refused code) bytes r
  stands_before e past next (progress.Playing first) bytes same f = fed_before e past next (progress.Playing first) bytes same f
  stands_before e past next (progress.Ended first) bytes same f = fed_before e past next (progress.Ended first) bytes same f

  pub record IsSound (past : List Event) (p : Player) : Type 0 where
    pub config_is : p.session.config ≡ config
    pub total_is : p.session.total ≡ total
    pub fresh : IsBefore p.session.connection.stage → p.progress ≡ progress.Waiting
    pub stands : Stands past p.next p.progress (sent_bytes past ++ p.outbox)

  new_sound : (begun : ℕ) → IsSound [] (new_player config total begun)
  new_sound begun = record { config_is = refl; total_is = refl; fresh = λ b. refl; stands = (refl, refl) }

  -- a client with the same progress and number, in no earlier stage, has the same bytes
  kept : (e : Event) (past : List Event) (p q : Player) → q.session.config ≡ p.session.config → q.session.total ≡ p.session.total
      → (IsBefore q.session.connection.stage → IsBefore p.session.connection.stage) → q.progress ≡ p.progress → q.next ≡ p.next
      → sent_bytes (e ∷ past) ++ q.outbox ≡ sent_bytes past ++ p.outbox → handed_in (e ∷ past) ≡ handed_in past → IsSound past p → IsSound (e ∷ past) q
  kept e past p q config_same total_same stage_same progress_same next_same bytes_same handed_same s = record {
    config_is = config_same ∙ s.config_is;
    total_is = total_same ∙ s.total_is;
    fresh = λ b. progress_same ∙ s.fresh (stage_same b);
    stands = subst (λ n. Stands (e ∷ past) n q.progress (sent_bytes (e ∷ past) ++ q.outbox)) (sym next_same)
        (subst (λ at. Stands (e ∷ past) p.next at (sent_bytes (e ∷ past) ++ q.outbox)) (sym progress_same)
        (subst (λ bytes. Stands (e ∷ past) p.next p.progress bytes) (sym bytes_same)
        (stands_before e past p.next p.progress (sent_bytes past ++ p.outbox) handed_same s.stands)));
  }

  -- the same if nothing is sent, passed in or queued
  idle : (e : Event) (past : List Event) (p q : Player) → sent_by e.happening e.before ≡ [] → handed_by e.happening ≡ [] → q.session.config ≡ p.session.config
      → q.session.total ≡ p.session.total → (IsBefore q.session.connection.stage → IsBefore p.session.connection.stage) → q.progress ≡ p.progress → q.next ≡ p.next
      → q.outbox ≡ p.outbox → IsSound past p → IsSound (e ∷ past) q
  idle e past p q unsent unhanded config_same total_same stage_same progress_same next_same outbox_same s =
      kept e past p q config_same total_same stage_same progress_same next_same
      (ap (λ xs. (sent_bytes past ++ xs) ++ q.outbox) unsent ∙ ap (λ xs. xs ++ q.outbox) (append-nil (sent_bytes past)) ∙ ap (λ xs. sent_bytes past ++ xs) outbox_same)
      (ap (λ xs. handed_in past ++ xs) unhanded ∙ append-nil (handed_in past)) s

  either : (past : List Event) (b : Bool) (p q : Player) → (b ≡ true → IsSound past p) → (b ≡ false → IsSound past q) → IsSound past (if b then p else q)
  either past true p q one other = one refl
  either past false p q one other = other refl

  abbrev pub after : List Event → Player → Happening → List Event
  after past p happening = record { before = p; happening = happening } ∷ past

  -- a client whose login is awaited was sent nothing
  pub untold : (past : List Event) (p : Player) → IsSound past p → IsBefore p.session.connection.stage → (sent_bytes past ≡ []) × (handed_in past ≡ [])
  untold past p s before =
      let none = subst (λ at. Stands past p.next at (sent_bytes past ++ p.outbox)) (s.fresh before) s.stands in
      (first_nil (sent_bytes past) p.outbox none.0, none.1) where
        first_nil : (a b : List ℕ) → a ++ b ≡ [] → a ≡ []
        first_nil [] b h = refl
        first_nil (x ∷ a) b h = absurd (cc)

  -- a packet arrives
  heard_by : (past : List Event) (p : Player) (piece : List ℕ) (now n : ℕ) (packet : Packet) (a : ServerAct) → server_answer p.session packet ≡ a
      → ((login : LoginRequest) → login_in packet ≡ Some login → Came (after past p (Hears piece now n)) login) → IsSound past p
      → IsSound (after past p (Hears piece now n)) (heard p (server_after_packet p.session packet now) a now)
  heard_by past p piece now n packet (act.Accept number) turns comes s =
      let d = decides p.session.config p.session.total p.session.connection.stage packet (subst IsDecision (sym turns) tt) in
      let none = untold past p s d.was_before in
      let verdict = judged_at _ _ _ _ d.login _ s.config_is s.total_is (sym d.verdict ∙ turns) in
      let first = accepted_first config total number d.login verdict in
      let empty : length (handed_in past ++ []) ≡ 0 = ap (λ ms. length (ms ++ [])) none.1 in
      let told : Packet = is.LoginAccepted (acceptance config (first_asked d.login)) in
      record {
        config_is = s.config_is;
        total_is = s.total_is;
        fresh = λ b. absurd (d.ends b);
        stands = record {
          login = d.login;
          came = comes d.login d.is_login;
          accepted = verdict ∙ ap act.Accept first.0;
          known = ap (λ n. Some n) first.0;
          packets = [];
          played = ap (λ ms. map is.SequencedData (ms ++ [])) (sym none.1);
          counted = omega (arith, first.0);
          within = omega (arith, first.0, first.1);
          ended = tt;
          is = ap (λ front. (front ++ []) ++ block (packet_spelling (is.LoginAccepted (acceptance p.session.config number)))) none.0
              ∙ ap (λ c. block (packet_spelling (is.LoginAccepted (acceptance c number)))) s.config_is
              ∙ ap (λ k. block (packet_spelling (is.LoginAccepted (acceptance config k)))) first.0 ∙ sym (append-nil (block (packet_spelling told)));
        };
      }
  heard_by past p piece now n packet (act.Reject code) turns comes s =
      let d = decides p.session.config p.session.total p.session.connection.stage packet (subst IsDecision (sym turns) tt) in
      let none = untold past p s d.was_before in
      record {
        config_is = s.config_is;
        total_is = s.total_is;
        fresh = λ b. absurd (d.ends b);
        stands = record {
          login = d.login;
          came = comes d.login d.is_login;
          code = code;
          known = refl;
          rejected = judged_at _ _ _ _ d.login _ s.config_is s.total_is (sym d.verdict ∙ turns);
          is = ap (λ front. (front ++ []) ++ block (packet_spelling (is.LoginRejected code))) none.0;
        };
      }
  heard_by past p piece now n packet act.Nothing turns comes s = idle _ past p _ refl refl refl refl (stays_past _ _ _ packet) refl refl refl s
  heard_by past p piece now n packet act.Close turns comes s = idle _ past p _ refl refl refl refl (stays_past _ _ _ packet) refl refl refl s
  heard_by past p piece now n packet (act.Fault fault) turns comes s = idle _ past p _ refl refl refl refl (stays_past _ _ _ packet) refl refl refl s

  hears : (past : List Event) (p q : Player) (piece : List ℕ) (now n : ℕ) → players.Hears p piece now n q → IsSound past p → IsSound (after past p (Hears piece now n)) q
  hears past p q piece now n (inl (deaf, all, same)) s = subst (λ x. IsSound (after past p (Hears piece now n)) x) (sym same) (idle _ past p p refl refl refl refl (λ b. b) refl refl refl s)
  hears past p q piece now n (inr (listens, (held, takes, inl (payload, answer, session, block_is, inl (packet, spelled, answer_is, after_is), turned)))) s =
      subst (λ x. IsSound (after past p (Hears piece now n)) x)
      (sym (turned ∙ ap (λ (x : ServerAct × Option LoginRequest). heard p session x.0 now) answer_is ∙ ap (λ t. heard p t (server_answer p.session packet) now) after_is))
      (heard_by past p piece now n packet _ refl (λ login there. record {
        later = [];
        at = record { before = p; happening = Hears piece now n };
        before = past;
        place = refl;
        piece = piece;
        now = now;
        count = n;
        heard = refl;
        is = record { held = held; takes = takes; payload = payload; block = block_is; spelled = subst (λ x. PacketSpells x payload Client) (login_packet packet login there) spelled };
      }) s)
  hears past p q piece now n (inr (listens, (held, takes, inl (payload, answer, session, block_is, inr (fault, at, answer_is, after_is), turned)))) s =
      subst (λ x. IsSound (after past p (Hears piece now n)) x)
      (sym (turned ∙ ap (λ (x : ServerAct × Option LoginRequest). heard p session x.0 now) answer_is ∙ ap (λ t. heard p t (act.Fault fault) now) after_is))
      (idle _ past p _ refl refl refl refl (λ b. b) refl refl refl s)
  hears past p q piece now n (inr (listens, (held, takes, inr (none, is)))) s =
      subst (λ x. IsSound (after past p (Hears piece now n)) x) (sym is) (idle _ past p _ refl refl refl refl (λ b. b) refl refl refl s)

  -- the bytes for a client that is sent its feed
  feed_of : (past : List Event) (p : Player) → IsSound past p → (playing : IsPlayed p.progress)
      → IsFeed config total past p.next (progress.Playing playing.0) (sent_bytes past ++ p.outbox)
  feed_of past p s playing = subst (λ at. Stands past p.next at (sent_bytes past ++ p.outbox)) playing.1 s.stands

  plays_one : (past : List Event) (p : Player) (message : List ℕ) (now : ℕ) → Wants p → IsSound past p → IsSound (after past p (Plays message now)) (players.played p message now)
  plays_one past p message now w s =
      let f = feed_of past p s w.playing in
      let told : Packet = is.LoginAccepted (acceptance config (first_asked f.login)) in
      record {
        config_is = s.config_is;
        total_is = s.total_is;
        fresh = s.fresh;
        stands = subst (λ at. Stands (after past p (Plays message now)) (p.next + 1) at ((sent_bytes past ++ []) ++ (p.outbox ++ block (message_packet message)))) (sym w.playing.1) (record {
          login = f.login;
          came = came_before _ past f.login f.came;
          accepted = f.accepted;
          known = f.known;
          packets = f.packets ++ is.SequencedData message ∷ [];
          played = without-append f.packets (is.SequencedData message ∷ []) ∙ ap (λ xs. xs ++ is.SequencedData message ∷ []) f.played
              ∙ sym (map-append is.SequencedData (handed_in past) (message ∷ []));
          counted = omega (arith, f.counted, length-append (handed_in past) (message ∷ []));
          within = omega (arith, w.left, s.total_is);
          ended = tt;
          is = seam (sent_bytes past) p.outbox (block (message_packet message)) ∙ more_told told f.packets (is.SequencedData message) (sent_bytes past ++ p.outbox) f.is;
        });
      }

  takes_some : (past : List Event) (p : Player) (count : ℕ) → (gone : Bool) → 0 < count → count ≤ length (if gone then [] else p.outbox)
      → (sent_bytes past ++ take count (if gone then [] else p.outbox)) ++ drop count p.outbox ≡ sent_bytes past ++ p.outbox
  takes_some past p count true some fits = absurd (omega arith)
  takes_some past p count false some fits = append_assoc (sent_bytes past) (take count p.outbox) (drop count p.outbox) ∙ ap (λ xs. sent_bytes past ++ xs) (take-append-drop count p.outbox)

  takes_none : (past : List Event) (p : Player) (count : ℕ) → count ≤ 0 → (sent_bytes past ++ take count (pending p)) ++ p.outbox ≡ sent_bytes past ++ p.outbox
  takes_none past p count none =
      let zero_is : count ≡ 0 = omega arith in
      ap (λ k. (sent_bytes past ++ take k (pending p)) ++ p.outbox) zero_is ∙ ap (λ xs. xs ++ p.outbox) (append-nil (sent_bytes past))

  takes : (past : List Event) (p : Player) (count now : ℕ) → count ≤ length (pending p) → IsSound past p → IsSound (after past p (Takes count now)) (players.took p count now)
  takes past p count now fits s =
      either (after past p (Takes count now)) (nat_lt 0 count) _ _
      (λ some. kept _ past p _ refl refl (λ b. b) refl refl (takes_some past p count (is_gone p) (ltb-true 0 count some) fits) (append-nil (handed_in past)) s)
      (λ none. kept _ past p _ refl refl (λ b. b) refl refl (takes_none past p count (ltb-false 0 count none)) (append-nil (handed_in past)) s)

  -- a heartbeat
  beats : (past : List Event) (p : Player) (now : ℕ) → is_idle p now ≡ true → IsSound past p
      → IsSound (after past p (Ticks now)) (record p { outbox = p.outbox ++ block (packet_spelling is.ServerHeartbeat); sent = now })
  beats past p now due s =
      let playing = playing_is p (both (is_playing p) (is_empty p.outbox) (both (is_playing p && is_empty p.outbox) (nat_lt 1000 (now - p.sent)) due).0).0 in
      let f = fed_before (record { before = p; happening = Ticks now }) past p.next (progress.Playing playing.0) (sent_bytes past ++ p.outbox) (append-nil (handed_in past)) (feed_of past p s playing) in
      let told : Packet = is.LoginAccepted (acceptance config (first_asked f.login)) in
      record {
        config_is = s.config_is;
        total_is = s.total_is;
        fresh = s.fresh;
        stands = subst (λ at. Stands (after past p (Ticks now)) p.next at ((sent_bytes past ++ []) ++ (p.outbox ++ block (packet_spelling is.ServerHeartbeat)))) (sym playing.1) (record {
          login = f.login;
          came = f.came;
          accepted = f.accepted;
          known = f.known;
          packets = f.packets ++ is.ServerHeartbeat ∷ [];
          played = without-append f.packets (is.ServerHeartbeat ∷ []) ∙ append-nil (without_heartbeats f.packets) ∙ f.played;
          counted = f.counted;
          within = f.within;
          ended = tt;
          is = seam (sent_bytes past) p.outbox (block (packet_spelling is.ServerHeartbeat)) ∙ more_told told f.packets is.ServerHeartbeat (sent_bytes past ++ p.outbox) f.is;
        });
      }

  ticks : (past : List Event) (p : Player) (now : ℕ) → IsSound past p → IsSound (after past p (Ticks now)) (players.ticked p now)
  ticks past p now s =
      either (after past p (Ticks now)) (nat_le 15000 (now - p.moved)) _ _ (λ silent. idle _ past p _ refl refl refl refl (λ b. b) refl refl refl s)
      (λ heard. either (after past p (Ticks now)) (is_idle p now) _ _ (λ due. beats past p now due s) (λ busy. idle _ past p p refl refl refl refl (λ b. b) refl refl refl s))

  -- the end of the session
  ends_it : (past : List Event) (p : Player) (now : ℕ) → is_played p ≡ true → IsSound past p
      → IsSound (after past p (Ends now)) (record p { outbox = p.outbox ++ block (packet_spelling is.EndOfSession); progress = after_end p.progress; sent = now })
  ends_it past p now all s =
      let tests = both (is_playing p) (nat_lt p.session.total p.next) all in
      let playing = playing_is p tests.0 in
      let beyond = ltb-true p.session.total p.next tests.1 in
      let f = fed_before (record { before = p; happening = Ends now }) past p.next (progress.Playing playing.0) (sent_bytes past ++ p.outbox) (append-nil (handed_in past)) (feed_of past p s playing) in
      let told : Packet = is.LoginAccepted (acceptance config (first_asked f.login)) in
      record {
        config_is = s.config_is;
        total_is = s.total_is;
        fresh = λ b. absurd (never playing.0 (sym playing.1 ∙ s.fresh b));
        stands = subst (λ at. Stands (after past p (Ends now)) p.next (after_end at) ((sent_bytes past ++ []) ++ (p.outbox ++ block (packet_spelling is.EndOfSession)))) (sym playing.1) (record {
          login = f.login;
          came = f.came;
          accepted = f.accepted;
          known = f.known;
          packets = f.packets;
          played = f.played;
          counted = f.counted;
          within = f.within;
          ended = omega (arith, f.within, beyond, s.total_is);
          is = seam (sent_bytes past) p.outbox (block (packet_spelling is.EndOfSession)) ∙ ended_so told f.packets is.EndOfSession (sent_bytes past ++ p.outbox) f.is;
        });
      } where
        never : (first : ℕ) → progress.Playing first ≡ progress.Waiting → ⊥
        never first h = cc

  ends : (past : List Event) (p : Player) (now : ℕ) → IsSound past p → IsSound (after past p (Ends now)) (players.ended p now)
  ends past p now s =
      either (after past p (Ends now)) (is_played p) _ _ (λ all. ends_it past p now all s) (λ more. idle _ past p p refl refl refl refl (λ b. b) refl refl refl s)

  step : (past : List Event) (p q : Player) (happening : Happening) → Becomes p happening q → IsSound past p → IsSound (after past p happening) q
  step past p q (Hears piece now n) becomes s = hears past p q piece now n becomes s
  step past p q (Plays message now) (some, fits, is) s = subst (λ x. IsSound (after past p (Plays message now)) x) (sym is) (plays_one past p message now (wants p some) s)
  step past p q (Takes count now) (fits, is) s = subst (λ x. IsSound (after past p (Takes count now)) x) (sym is) (takes past p count now fits s)
  step past p q (Ticks now) is s = subst (λ x. IsSound (after past p (Ticks now)) x) (sym is) (ticks past p now s)
  step past p q (Ends now) is s = subst (λ x. IsSound (after past p (Ends now)) x) (sym is) (ends past p now s)
  step past p q Leaves is s = subst (λ x. IsSound (after past p Leaves) x) (sym is) (idle _ past p _ refl refl refl refl (λ b. b) refl refl refl s)

  pub sound : (begun : ℕ) (past : List Event) (p : Player) → History config total begun past p → IsSound past p
  sound begun [] p is = subst (λ x. IsSound [] x) (sym is) (new_sound begun)
  sound begun (x ∷ past) p (becomes, before) = step past x.before p x.happening becomes (sound begun past x.before before)

  told_by : (past : List Event) (next : ℕ) (at : Progress) (bytes : List ℕ) → Stands past next at bytes
      → IsNothing at bytes ⊎ IsRefusal config total past at bytes ⊎ IsFeed config total past next at bytes
  told_by past next progress.Waiting bytes s = inl (refl, s.0)
  told_by past next (progress.Refused code) bytes s = inr (inl s)
  told_by past next (progress.Playing first) bytes s = inr (inr s)
  told_by past next (progress.Ended first) bytes s = inr (inr s)

  pub told_right : (begun : ℕ) (past : List Event) (p : Player) → History config total begun past p → IsTold config total past p (sent_bytes past ++ p.outbox)
  told_right begun past p history = told_by past p.next p.progress (sent_bytes past ++ p.outbox) (sound begun past p history).stands

pub sent_right : (config : ServerConfig) (total begun : ℕ) (past : List Event) (p : Player) → History config total begun past p → IsSentRight config total past p
sent_right config total begun past p history = (sent_bytes past ++ p.outbox, told_right config total begun past p history, (p.outbox, refl))
