-- The invariant of a client and of the bytes sent to it.
use Rattle.std.proofs.Common.{◌≡◌, ℕ, ◌+◌, ◌≤◌, Bool, true, false, List, [], ◌++◌, length, take, drop, Option, None, Some, refl, sym, ap, subst, ◌∙◌, inl, inr, arith, append-nil, if◌then◌else◌, is_some, ◌&&◌, not, nat_lt, nat_le, ◌||◌, ◌==◌, ◌-◌, suc, ◌∷◌}
use Rattle.std.proofs.Math.Seq.{take-nil, drop-nil}
use Rattle.std.proofs.lemmas.List.{append_assoc, take-append-drop, drop-drop}
use Rattle.itch_soup.specs.declared.login.ServerConfig.{ServerConfig}
use Rattle.itch_soup.specs.declared.packet.LoginRequest.{LoginRequest}
use Rattle.itch_soup.specs.declared.packet.Packet.{Packet}
use Rattle.itch_soup.specs.declared.packet.Packet.TheVariants as is
use Rattle.itch_soup.specs.declared.origin.Origin.TheVariants.{Client}
use Rattle.itch_soup.specs.Packets.{PacketSpells}
use Rattle.itch_soup.specs.declared.server.ServerAct.{ServerAct}
use Rattle.itch_soup.specs.declared.server.ServerAct.TheVariants as act
use Rattle.itch_soup.specs.Servers.{judged, server_answer, server_after_packet}
use Rattle.itch_live.specs.declared.disconnect_cause.DisconnectCause.{DisconnectCause}
use Rattle.itch_live.specs.declared.disconnect_cause.DisconnectCause.TheVariants as reason
use Rattle.itch_live.specs.SnapshotClients as clients
use Rattle.itch_live.specs.SnapshotClients.{SnapshotClient, welcome, heartbeat, with_heartbeat, session_bytes, bytes_of, is_gone, is_silent, is_idle, gone_for, first_of, pending, is_waiting, new_snapshot_client, login_in, after_act, moved_by_words, answered, refusal, took_of}
use Rattle.itch_live.specs.Stories.{Happening, Hears, Answers, Takes, Ticks, Leaves, Becomes, sent_by, IsLogin, greeting}
use Rattle.itch_live.proofs.Logins.{IsBefore, IsAcceptance, IsDecision, decides, stays_past, accepts_first}

-- the kinds of answers: the rejection of a login with this code, the acceptance of a login, and the snapshot that answers it
pub data Kind : Type 0 where
  Refused : (code : ℕ) → Kind
  Greeted : Kind
  Answered : (bytes : List ℕ) → Kind

-- all bytes so far for a client with this login, rejection and answer
abbrev pub IsWhole : ServerConfig → (Kind → Type 0) → Option LoginRequest → Option ℕ → Option (List ℕ) → List ℕ → Type 0
IsWhole config P None None told bytes = bytes ≡ []
IsWhole config P None (Some code) told bytes = P (Refused code) × (bytes ≡ refusal code)
IsWhole config P (Some login) rejection None bytes = (beats : ℕ) × P Greeted × (bytes ≡ greeting config beats)
IsWhole config P (Some login) rejection (Some rest) bytes = (beats : ℕ) × P (Answered rest) × (bytes ≡ greeting config beats ++ rest)

-- the bytes still to be sent, if the client is not gone
abbrev pub rest_of : SnapshotClient → List ℕ
rest_of g = g.notes ++ drop g.taken (bytes_of g.told)

-- a client that was sent these bytes, where P holds of each kind of answer
pub record IsSound (config : ServerConfig) (P : Kind → Type 0) (so_far : List ℕ) (g : SnapshotClient) : Type 0 where
  pub config_is : g.session.config ≡ config
  pub total_is : g.session.total ≡ 0
  pub unasked : IsBefore g.session.connection.stage → g.asked ≡ None
  pub unrejected : IsBefore g.session.connection.stage → g.rejection ≡ None
  pub fresh : g.asked ≡ None → g.told ≡ None
  pub untaken : g.told ≡ None → g.taken ≡ 0
  pub asked : (login : LoginRequest) → g.asked ≡ Some login → IsAcceptance (judged config 0 login).0
  pub whole : IsWhole config P g.asked g.rejection g.told (so_far ++ rest_of g)

some_is : {x y : List ℕ} → Some x ≡ Some y → x ≡ y
some_is {x} {y} h = ap (λ o. bytes_of o) h

login_is : {x y : LoginRequest} → Some x ≡ Some y → x ≡ y
login_is {x} h = ap (λ o. or_that x o) h where
  or_that : LoginRequest → Option LoginRequest → LoginRequest
  or_that d None = d
  or_that d (Some y) = y

abbrev pub IsNothing : {A : Type 0} → Option A → Type 0
IsNothing None = Unit {0}
IsNothing (Some y) = ⊥

none_some : {A : Type 0} {x : A} → None ≡ Some x → ⊥
none_some {A} {x} h = subst IsNothing h tt

pub new_sound : (config : ServerConfig) (P : Kind → Type 0) (begun : ℕ) → IsSound config P [] (new_snapshot_client config begun)
new_sound config P begun = record {
  config_is = refl;
  total_is = refl;
  unasked = λ b. refl;
  unrejected = λ b. refl;
  fresh = λ h. refl;
  untaken = λ h. refl;
  asked = λ login h. absurd (none_some h);
  whole = refl;
}

more_whole : (config : ServerConfig) (P Q : Kind → Type 0) (asked : Option LoginRequest) (rejection : Option ℕ) (told : Option (List ℕ)) (bytes : List ℕ) → ((k : Kind) → P k → Q k)
    → IsWhole config P asked rejection told bytes → IsWhole config Q asked rejection told bytes
more_whole config P Q None None told bytes more is = is
more_whole config P Q None (Some code) told bytes more (may, is) = (more (Refused code) may, is)
more_whole config P Q (Some login) rejection None bytes more (beats, may, is) = (beats, more Greeted may, is)
more_whole config P Q (Some login) rejection (Some rest) bytes more (beats, may, is) = (beats, more (Answered rest) may, is)

pub weaken : (config : ServerConfig) (P Q : Kind → Type 0) (so_far : List ℕ) (g : SnapshotClient) → ((k : Kind) → P k → Q k) → IsSound config P so_far g → IsSound config Q so_far g
weaken config P Q so_far g more s = record {
  config_is = s.config_is;
  total_is = s.total_is;
  unasked = s.unasked;
  unrejected = s.unrejected;
  fresh = s.fresh;
  untaken = s.untaken;
  asked = s.asked;
  whole = more_whole config P Q g.asked g.rejection g.told (so_far ++ rest_of g) more s.whole;
}

either : (config : ServerConfig) (P : Kind → Type 0) (so_far : List ℕ) (b : Bool) (g h : SnapshotClient) → (b ≡ true → IsSound config P so_far g) → (b ≡ false → IsSound config P so_far h)
    → IsSound config P so_far (if b then g else h)
either config P so_far true g h s t = s refl
either config P so_far false g h s t = t refl

at_config : (c config : ServerConfig) (t : ℕ) (login : LoginRequest) (a : ServerAct) → c ≡ config → t ≡ 0 → (judged c t login).0 ≡ a → (judged config 0 login).0 ≡ a
at_config c config t login a e f h = subst (λ x. (judged x 0 login).0 ≡ a) e (subst (λ y. (judged c y login).0 ≡ a) f h)

-- a client that has not logged in and was not rejected was sent nothing
none_told : (config : ServerConfig) (P : Kind → Type 0) (asked : Option LoginRequest) (rejection : Option ℕ) (told : Option (List ℕ)) (bytes : List ℕ) → asked ≡ None → rejection ≡ None
    → IsWhole config P asked rejection told bytes → bytes ≡ []
none_told config P None None told bytes a r is = is
none_told config P None (Some code) told bytes a r is = absurd (cc)
none_told config P (Some login) rejection told bytes a r is = absurd (cc)

empty_front : (xs ys : List ℕ) → xs ++ ys ≡ [] → xs ≡ []
empty_front [] ys h = refl
empty_front (x ∷ xs) ys h = absurd (cc)

module _ (config : ServerConfig) (P : Kind → Type 0) (so_far : List ℕ) (g : SnapshotClient) where
  -- a client with the same login and answers, in no earlier stage
  kept : (h : SnapshotClient) → h.session.config ≡ g.session.config → h.session.total ≡ g.session.total → (IsBefore h.session.connection.stage → IsBefore g.session.connection.stage)
      → h.asked ≡ g.asked → h.rejection ≡ g.rejection → h.told ≡ g.told → h.taken ≡ g.taken → h.notes ≡ g.notes → IsSound config P so_far g → IsSound config P so_far h
  kept h config_same total_same stage_same asked_same rejection_same told_same taken_same notes_same s =
      let rest_same : rest_of g ≡ rest_of h =
      ap (λ n. n ++ drop g.taken (bytes_of g.told)) (sym notes_same) ∙ ap (λ n. h.notes ++ drop n (bytes_of g.told)) (sym taken_same) ∙ ap (λ o. h.notes ++ drop h.taken (bytes_of o)) (sym told_same) in
      record {
        config_is = config_same ∙ s.config_is;
        total_is = total_same ∙ s.total_is;
        unasked = λ b. asked_same ∙ s.unasked (stage_same b);
        unrejected = λ b. rejection_same ∙ s.unrejected (stage_same b);
        fresh = λ h. told_same ∙ s.fresh (sym asked_same ∙ h);
        untaken = λ h. taken_same ∙ s.untaken (sym told_same ∙ h);
        asked = λ login h. s.asked login (sym asked_same ∙ h);
        whole = subst (λ o. IsWhole config P o h.rejection h.told (so_far ++ rest_of h)) (sym asked_same)
            (subst (λ o. IsWhole config P g.asked o h.told (so_far ++ rest_of h)) (sym rejection_same)
            (subst (λ o. IsWhole config P g.asked g.rejection o (so_far ++ rest_of h)) (sym told_same)
            (subst (λ r. IsWhole config P g.asked g.rejection g.told (so_far ++ r)) rest_same s.whole)));
      }

  -- a change of the held bytes, of the times, or of the reason why it is gone
  idle : (held : List ℕ) (gone : Option DisconnectCause) (moved marked : ℕ) → IsSound config P so_far g → IsSound config P so_far (record g { held = held; gone = gone; moved = moved; marked = marked })
  idle held gone moved marked s = kept (record g { held = held; gone = gone; moved = moved; marked = marked }) refl refl (λ b. b) refl refl refl refl refl s

-- a packet for a client that was sent nothing before: it is everything then
noted : (config : ServerConfig) (P : Kind → Type 0) (so_far notes : List ℕ) (g : SnapshotClient) → g.asked ≡ None → g.rejection ≡ None → IsSound config P so_far g
    → so_far ++ (notes ++ drop g.taken (bytes_of g.told)) ≡ notes
noted config P so_far notes g unasked unrejected s =
    let none : so_far ≡ [] = empty_front so_far (rest_of g) (none_told config P g.asked g.rejection g.told _ unasked unrejected s.whole) in
    let untold : drop g.taken (bytes_of g.told) ≡ [] = ap (λ o. drop g.taken (bytes_of o)) (s.fresh unasked) ∙ drop-nil {A = ℕ} g.taken in
    ap (λ xs. xs ++ (notes ++ drop g.taken (bytes_of g.told))) none ∙ ap (λ xs. notes ++ xs) untold ∙ append-nil notes

-- the acceptance of a client that logs in now, and was sent nothing before
greets : (config : ServerConfig) (P : Kind → Type 0) (asked : Option LoginRequest) (login : LoginRequest) (rejection : Option ℕ) (told : Option (List ℕ)) (bytes : List ℕ) → asked ≡ Some login → told ≡ None
    → P Greeted → bytes ≡ welcome config 1 → IsWhole config P asked rejection told bytes
greets config P None login rejection told bytes is untold may all = absurd (none_some is)
greets config P (Some other) login rejection (Some rest) bytes is untold may all = absurd (none_some (sym untold))
greets config P (Some other) login rejection None bytes is untold may all = (0, may, all)

one_number : {n k : ℕ} → act.Accept n ≡ act.Accept k → n ≡ k
one_number {n} {k} same = cc

-- a packet arrives
heard_by : (config : ServerConfig) (P : Kind → Type 0) (so_far : List ℕ) (g : SnapshotClient) (packet : Packet) (now moved : ℕ) (a : ServerAct) → server_answer g.session packet ≡ a
    → ((login : LoginRequest) (code : ℕ) → login_in packet ≡ Some login → (judged config 0 login).0 ≡ act.Reject code → P (Refused code))
    → ((login : LoginRequest) → login_in packet ≡ Some login → (judged config 0 login).0 ≡ act.Accept 1 → P Greeted) → IsSound config P so_far g
    → IsSound config P so_far (after_act a (login_in packet) now (record g { held = []; session = server_after_packet g.session packet now; moved = moved }))
heard_by config P so_far g packet now moved (act.Accept n) is refused greeted s =
    let d = decides g.session.config g.session.total g.session.connection.stage packet (subst IsDecision (sym is) tt) in
    let fits : IsAcceptance (judged config 0 d.login).0 = subst IsAcceptance (sym (at_config _ _ _ d.login _ s.config_is s.total_is (sym d.verdict ∙ is))) tt in
    let unasked = s.unasked d.was_before in
    let one : n ≡ 1 = one_number (sym (at_config _ _ _ d.login _ s.config_is s.total_is (sym d.verdict ∙ is)) ∙ accepts_first config d.login fits) in
    record {
      config_is = s.config_is;
      total_is = s.total_is;
      unasked = λ b. absurd (d.ends b);
      unrejected = λ b. absurd (d.ends b);
      fresh = λ h. s.fresh unasked;
      untaken = s.untaken;
      asked = λ login h. subst (λ x. IsAcceptance (judged config 0 x).0) (login_is (sym d.is_login ∙ h)) fits;
      whole = greets config P (login_in packet) d.login None g.told _ d.is_login (s.fresh unasked) (greeted d.login d.is_login (accepts_first config d.login fits))
          (noted config P so_far (welcome g.session.config n) g unasked (s.unrejected d.was_before) s ∙ ap (λ c. welcome c n) s.config_is ∙ ap (welcome config) one);
    }
heard_by config P so_far g packet now moved (act.Reject code) is refused greeted s =
    let d = decides g.session.config g.session.total g.session.connection.stage packet (subst IsDecision (sym is) tt) in
    let unasked = s.unasked d.was_before in
    record {
      config_is = s.config_is;
      total_is = s.total_is;
      unasked = λ b. refl;
      unrejected = λ b. absurd (d.ends b);
      fresh = λ h. s.fresh unasked;
      untaken = s.untaken;
      asked = λ login h. absurd (none_some h);
      whole = (
        refused d.login code d.is_login (at_config _ _ _ d.login _ s.config_is s.total_is (sym d.verdict ∙ is)),
        noted config P so_far (refusal code) g unasked (s.unrejected d.was_before) s,
      );
    }
heard_by config P so_far g packet now moved act.Nothing is refused greeted s = kept config P so_far g _ refl refl (stays_past _ _ _ packet) refl refl refl refl refl s
heard_by config P so_far g packet now moved act.Close is refused greeted s = kept config P so_far g _ refl refl (stays_past _ _ _ packet) refl refl refl refl refl s
heard_by config P so_far g packet now moved (act.Fault fault) is refused greeted s = kept config P so_far g _ refl refl (stays_past _ _ _ packet) refl refl refl refl refl s

-- a waiting client has logged in, and has no snapshot yet
abbrev pub IsYes : Bool → Type 0
IsYes true = Unit {0}
IsYes false = ⊥

waits : (asked : Option LoginRequest) (told : Option (List ℕ)) (gone : Bool) → (is_some asked && not (is_some told) && not gone) ≡ true
    → ((login : LoginRequest) × (asked ≡ Some login)) × (told ≡ None)
waits None told gone h = absurd (subst IsYes (sym h) tt)
waits (Some login) None gone h = ((login, refl), refl)
waits (Some login) (Some bytes) gone h = absurd (subst IsYes (sym h) tt)

-- the snapshot comes after the greeting
then_answered : (config : ServerConfig) (P : Kind → Type 0) (asked : Option LoginRequest) (login : LoginRequest) (rejection : Option ℕ) (told : Option (List ℕ)) (before after rest : List ℕ)
    → asked ≡ Some login → told ≡ None → P (Answered rest) → after ≡ before ++ rest → IsWhole config P asked rejection told before → IsWhole config P asked rejection (Some rest) after
then_answered config P None login rejection told before after rest is untold may all was = absurd (none_some is)
then_answered config P (Some other) login rejection (Some bytes) before after rest is untold may all was = absurd (none_some (sym untold))
then_answered config P (Some other) login rejection None before after rest is untold may all (beats, greeted, front) = (beats, may, all ∙ ap (λ b. b ++ rest) front)

answered_by : (config : ServerConfig) (P : Kind → Type 0) (so_far : List ℕ) (g : SnapshotClient) (bytes : List ℕ) (next now : ℕ) (b : Bool) → is_waiting g ≡ b
    → ((login : LoginRequest) → g.asked ≡ Some login → IsAcceptance (judged config 0 login).0 → P (Answered bytes)) → IsSound config P so_far g
    → IsSound config P so_far (if b then answered g bytes next now else g)
answered_by config P so_far g bytes next now false waiting fits s = s
answered_by config P so_far g bytes next now true waiting fits s =
    let w = waits g.asked g.told (is_gone g) waiting in
    let nothing : g.notes ++ drop g.taken (bytes_of g.told) ≡ g.notes =
    ap (λ o. g.notes ++ drop g.taken (bytes_of o)) w.1 ∙ ap (λ xs. g.notes ++ xs) (drop-nil {A = ℕ} g.taken) ∙ append-nil g.notes in
    record {
      config_is = s.config_is;
      total_is = s.total_is;
      unasked = s.unasked;
      unrejected = s.unrejected;
      fresh = λ h. absurd (none_some (sym h ∙ w.0.1));
      untaken = λ h. s.untaken w.1;
      asked = s.asked;
      whole = then_answered config P g.asked w.0.0 g.rejection g.told (so_far ++ rest_of g) (so_far ++ (g.notes ++ drop g.taken bytes)) bytes w.0.1 w.1 (fits w.0.0 w.0.1 (s.asked w.0.0 w.0.1))
          (ap (λ n. so_far ++ (g.notes ++ drop n bytes)) (s.untaken w.1) ∙ sym (append_assoc so_far g.notes bytes) ∙ ap (λ xs. (so_far ++ xs) ++ bytes) (sym nothing)) s.whole;
    }

-- a heartbeat comes after the greeting
then_beats : (config : ServerConfig) (P : Kind → Type 0) (asked : Option LoginRequest) (login : LoginRequest) (rejection : Option ℕ) (told : Option (List ℕ)) (before after : List ℕ)
    → asked ≡ Some login → told ≡ None → after ≡ before ++ heartbeat → IsWhole config P asked rejection told before → IsWhole config P asked rejection told after
then_beats config P None login rejection told before after is untold all was = absurd (none_some is)
then_beats config P (Some other) login rejection (Some bytes) before after is untold all was = absurd (none_some (sym untold))
then_beats config P (Some other) login rejection None before after is untold all (beats, greeted, front) = (suc beats, greeted, all ∙ ap (λ b. b ++ heartbeat) front)

beaten : (config : ServerConfig) (P : Kind → Type 0) (so_far : List ℕ) (g : SnapshotClient) (now : ℕ) → g.notes ≡ [] → is_waiting g ≡ true → IsSound config P so_far g
    → IsSound config P so_far (with_heartbeat g now)
beaten config P so_far g now none waiting s =
    let w = waits g.asked g.told (is_gone g) waiting in
    let untold : drop g.taken (bytes_of g.told) ≡ [] = ap (λ o. drop g.taken (bytes_of o)) w.1 ∙ drop-nil {A = ℕ} g.taken in
    let rest : rest_of g ≡ [] = ap (λ n. n ++ drop g.taken (bytes_of g.told)) none ∙ untold in
    record {
      config_is = s.config_is;
      total_is = s.total_is;
      unasked = s.unasked;
      unrejected = s.unrejected;
      fresh = s.fresh;
      untaken = s.untaken;
      asked = s.asked;
      whole = then_beats config P g.asked w.0.0 g.rejection g.told (so_far ++ rest_of g) (so_far ++ (heartbeat ++ drop g.taken (bytes_of g.told))) w.0.1 w.1
          (ap (λ xs. so_far ++ (heartbeat ++ xs)) untold ∙ ap (λ xs. so_far ++ xs) (append-nil heartbeat) ∙ ap (λ xs. xs ++ heartbeat) (sym (append-nil so_far) ∙ ap (λ xs. so_far ++ xs) (sym rest)))
          s.whole;
    }

-- the socket accepts the bytes that were next
moves : (config : ServerConfig) (P : Kind → Type 0) (so_far more notes : List ℕ) (g : SnapshotClient) (taken moved marked : ℕ) → (g.told ≡ None → taken ≡ 0)
    → more ++ (notes ++ drop taken (bytes_of g.told)) ≡ rest_of g → IsSound config P so_far g → IsSound config P (so_far ++ more) (record g { notes = notes; taken = taken; moved = moved; marked = marked })
moves config P so_far more notes g taken moved marked none goes s = record {
  config_is = s.config_is;
  total_is = s.total_is;
  unasked = s.unasked;
  unrejected = s.unrejected;
  fresh = s.fresh;
  untaken = none;
  asked = s.asked;
  whole = subst (λ all. IsWhole config P g.asked g.rejection g.told all) (ap (λ xs. so_far ++ xs) (sym goes) ∙ sym (append_assoc so_far more (notes ++ drop taken (bytes_of g.told)))) s.whole;
}

none_at : (told : Option (List ℕ)) (taken count : ℕ) (gone : Bool) → told ≡ None → taken ≡ 0 → count ≤ length (if gone then [] else drop taken (bytes_of told)) → taken + count ≡ 0
none_at told taken count true untold none fits = omega (arith, none, fits)
none_at told taken count false untold none fits =
    let nothing : drop taken (bytes_of told) ≡ [] = ap (λ o. drop taken (bytes_of o)) untold ∙ drop-nil {A = ℕ} taken in
    let short : count ≤ length {A = ℕ} [] = subst (λ xs. count ≤ length xs) nothing fits in
    omega (arith, none, short)

-- bytes of the snapshot
goes_on : (bytes : List ℕ) (taken count : ℕ) (gone : Bool) → count ≤ length (if gone then [] else drop taken bytes)
    → take count (if gone then [] else drop taken bytes) ++ drop (taken + count) bytes ≡ drop taken bytes
goes_on bytes taken count true fits =
    ap (λ xs. xs ++ drop (taken + count) bytes) (take-nil {A = ℕ} count) ∙ ap (λ n. drop n bytes) (no_more fits) where
      no_more : count ≤ 0 → taken + count ≡ taken
      no_more h = omega (arith, h)
goes_on bytes taken count false fits =
    ap (λ xs. take count (drop taken bytes) ++ xs) (sym (drop-drop count taken bytes)) ∙ take-append-drop count (drop taken bytes)

-- bytes of the waiting packet
notes_go : (notes rest : List ℕ) (count : ℕ) (gone : Bool) → count ≤ length (if gone then [] else notes)
    → take count (if gone then [] else notes) ++ (drop count notes ++ rest) ≡ notes ++ rest
notes_go notes rest count true fits =
    ap (λ xs. xs ++ (drop count notes ++ rest)) (take-nil {A = ℕ} count) ∙ ap (λ n. drop n notes ++ rest) (no_more fits) where
      no_more : count ≤ 0 → count ≡ 0
      no_more h = omega (arith, h)
notes_go notes rest count false fits = sym (append_assoc (take count notes) (drop count notes) rest) ∙ ap (λ xs. xs ++ rest) (take-append-drop count notes)

either_taken : (config : ServerConfig) (P : Kind → Type 0) (all : List ℕ) (b : Bool) (g h : SnapshotClient) → IsSound config P all g → IsSound config P all h → IsSound config P all (if b then g else h)
either_taken config P all true g h s t = s
either_taken config P all false g h s t = t

took_by : (config : ServerConfig) (P : Kind → Type 0) (so_far : List ℕ) (g : SnapshotClient) (count now : ℕ) (notes : List ℕ) → g.notes ≡ notes
    → count ≤ length (if is_gone g then [] else first_of notes (drop g.taken (bytes_of g.told))) → IsSound config P so_far g
    → IsSound config P (so_far ++ take count (if is_gone g then [] else first_of notes (drop g.taken (bytes_of g.told)))) (took_of notes g count now)
took_by config P so_far g count now [] none fits s =
    let untaken : g.told ≡ None → g.taken + count ≡ 0 = λ h. none_at g.told g.taken count (is_gone g) h (s.untaken h) fits in
    let goes : take count (if is_gone g then [] else drop g.taken (bytes_of g.told)) ++ (g.notes ++ drop (g.taken + count) (bytes_of g.told)) ≡ rest_of g =
    ap (λ n. take count (if is_gone g then [] else drop g.taken (bytes_of g.told)) ++ (n ++ drop (g.taken + count) (bytes_of g.told))) none
    ∙ goes_on (bytes_of g.told) g.taken count (is_gone g) fits ∙ ap (λ n. n ++ drop g.taken (bytes_of g.told)) (sym none) in
    either_taken config P _ (nat_lt 0 count && (nat_le 65536 (g.taken + count - g.marked) || g.taken + count == length (bytes_of g.told))) _ _
    (moves config P so_far _ g.notes g (g.taken + count) now (g.taken + count) untaken goes s)
    (moves config P so_far _ g.notes g (g.taken + count) g.moved g.marked untaken goes s)
took_by config P so_far g count now (b ∷ notes) some fits s =
    moves config P so_far _ (drop count (b ∷ notes)) g g.taken (if nat_lt 0 count then now else g.moved) g.marked s.untaken
    (notes_go (b ∷ notes) (drop g.taken (bytes_of g.told)) count (is_gone g) fits ∙ ap (λ n. n ++ drop g.taken (bytes_of g.told)) (sym some)) s

nothing_more : (config : ServerConfig) (P : Kind → Type 0) (so_far : List ℕ) (g : SnapshotClient) → IsSound config P so_far g → IsSound config P (so_far ++ []) g
nothing_more config P so_far g s = subst (λ all. IsSound config P all g) (sym (append-nil so_far)) s

-- the snapshot that is passed in is permitted
abbrev pub Permits : ServerConfig → (Kind → Type 0) → SnapshotClient → Happening → Type 0
Permits config P g (Answers m next now) = (login : LoginRequest) → g.asked ≡ Some login → (judged config 0 login).0 ≡ act.Accept 1 → P (Answered (session_bytes m next))
Permits config P g other = Unit {0}

-- a rejection is permitted, and so is an acceptance
abbrev pub Rejects : ServerConfig → (Kind → Type 0) → SnapshotClient → Happening → Type 0
Rejects config P g (Hears piece now count) = (login : LoginRequest) (code : ℕ) → IsLogin g.held piece count login → (judged config 0 login).0 ≡ act.Reject code → P (Refused code)
Rejects config P g other = Unit {0}

abbrev pub Greets : ServerConfig → (Kind → Type 0) → SnapshotClient → Happening → Type 0
Greets config P g (Hears piece now count) = (login : LoginRequest) → IsLogin g.held piece count login → (judged config 0 login).0 ≡ act.Accept 1 → P Greeted
Greets config P g other = Unit {0}

-- the packet of a login
pub login_packet : (packet : Packet) (login : LoginRequest) → login_in packet ≡ Some login → packet ≡ is.LoginRequest login
login_packet (is.Debug text) login h = absurd (none_some h)
login_packet (is.LoginAccepted accepted) login h = absurd (none_some h)
login_packet (is.LoginRejected code) login h = absurd (none_some h)
login_packet (is.SequencedData payload) login h = absurd (none_some h)
login_packet is.ServerHeartbeat login h = absurd (none_some h)
login_packet is.EndOfSession login h = absurd (none_some h)
login_packet (is.LoginRequest other) login h = ap is.LoginRequest (login_is h)
login_packet (is.UnsequencedData payload) login h = absurd (none_some h)
login_packet is.ClientHeartbeat login h = absurd (none_some h)
login_packet is.LogoutRequest login h = absurd (none_some h)

is_idle_then : (g : SnapshotClient) (now : ℕ) (notes : List ℕ) → g.notes ≡ notes → (clients.is_none notes && is_waiting g && nat_lt 1000 (now - g.sent)) ≡ true → (g.notes ≡ []) × (is_waiting g ≡ true)
is_idle_then g now [] none h = (none, first (is_waiting g) (nat_lt 1000 (now - g.sent)) h) where
  first : (a b : Bool) → (a && b) ≡ true → a ≡ true
  first true b h = refl
  first false b h = absurd (cc)
is_idle_then g now (b ∷ notes) some h = absurd (cc)

pub step : (config : ServerConfig) (P : Kind → Type 0) (so_far : List ℕ) (g h : SnapshotClient) (happening : Happening) → Becomes config g happening h → Permits config P g happening
    → Rejects config P g happening → Greets config P g happening → IsSound config P so_far g → IsSound config P (so_far ++ sent_by g happening) h
step config P so_far g h (Hears piece now n) (inl (deaf, all, same)) permits refused greeted s = nothing_more config P so_far h (subst (λ x. IsSound config P so_far x) (sym same) s)
step config P so_far g h (Hears piece now n) (inr (hears, (held, take_is, inl (payload, block, inl (packet, spelled, heard_is))))) permits refused greeted s =
    let came : (login : LoginRequest) → login_in packet ≡ Some login → IsLogin g.held piece n login =
    λ login there. record { held = held; takes = take_is; payload = payload; block = block; spelled = subst (λ p. PacketSpells p payload Client) (login_packet packet login there) spelled } in
    nothing_more config P so_far h (subst (λ x. IsSound config P so_far x) (sym heard_is) (heard_by config P so_far g packet now (moved_by_words g now) _ refl
    (λ login code there rejected. refused login code (came login there) rejected) (λ login there accepted. greeted login (came login there) accepted) s))
step config P so_far g h (Hears piece now n) (inr (hears, (held, take_is, inl (payload, block, inr (fault, at, is))))) permits refused greeted s =
    nothing_more config P so_far h (subst (λ x. IsSound config P so_far x) (sym is) (idle config P so_far g [] (gone_for reason.Fault g).gone (moved_by_words g now) g.marked s))
step config P so_far g h (Hears piece now n) (inr (hears, (held, take_is, inr (none, is)))) permits refused greeted s =
    nothing_more config P so_far h (subst (λ x. IsSound config P so_far x) (sym is) (idle config P so_far g held g.gone g.moved g.marked s))
step config P so_far g h (Answers m next now) is permits refused greeted s =
    nothing_more config P so_far h (subst (λ x. IsSound config P so_far x) (sym is)
    (answered_by config P so_far g (session_bytes m next) next now _ refl (λ login asked fits. permits login asked (accepts_first config login fits)) s))
step config P so_far g h (Takes count now) (fits, is) permits refused greeted s =
    subst (λ x. IsSound config P (so_far ++ take count (pending g)) x) (sym is) (took_by config P so_far g count now g.notes refl fits s)
step config P so_far g h (Ticks now) is permits refused greeted s =
    nothing_more config P so_far h (subst (λ x. IsSound config P so_far x) (sym is)
    (either config P so_far (is_silent g now) _ _ (λ silent. idle config P so_far g g.held (gone_for reason.Silent g).gone g.moved g.marked s)
    (λ talks. either config P so_far (is_idle g now) _ _ (λ due. let w = is_idle_then g now g.notes refl due in beaten config P so_far g now w.0 w.1 s) (λ early. s))))
step config P so_far g h Leaves is permits refused greeted s =
    nothing_more config P so_far h (subst (λ x. IsSound config P so_far x) (sym is) (idle config P so_far g g.held (gone_for reason.Left g).gone g.moved g.marked s))
