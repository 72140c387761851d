-- A waiting client is answered, and a silent one is disconnected.
use Rattle.std.proofs.Common.{◌≡◌, ℕ, ◌-◌, ◌+◌, ◌<◌, ◌≤◌, nat_lt, nat_le, ◌==◌, Bool, true, false, not, cond, if◌then◌else◌, ◌&&◌, ◌||◌, List, [], ◌∷◌, length, Option, None, Some, refl, sym, ap, subst, ◌∙◌, ◌⊎◌, inl, inr, is_some, arith}
use Rattle.std.specs.Option.{option_or}
use Rattle.std.proofs.lemmas.Bool.{leb-true, ltb-false}
use Rattle.itch_frame.specs.declared.tally.Failures.{Failures}
use Rattle.itch_join.specs.Positions.{Position}
use Rattle.itch_soup.specs.declared.login.ServerConfig.{ServerConfig}
use Rattle.itch_soup.specs.declared.packet.LoginRequest.{LoginRequest}
use Rattle.itch_soup.specs.declared.server.ServerAct.{ServerAct}
use Rattle.itch_soup.specs.declared.server.ServerAct.TheVariants as act
use Rattle.itch_soup.specs.Servers.{server_answer}
use Rattle.itch_live.specs.declared.disconnect_cause.DisconnectCause.{DisconnectCause}
use Rattle.itch_live.specs.declared.disconnect_cause.DisconnectCause.TheVariants as reason
use Rattle.itch_live.specs.SnapshotClients as clients
use Rattle.itch_live.specs.SnapshotClients.{SnapshotClient, session_bytes, is_waiting, is_silent, gone_for, after_act, login_in}
use Rattle.itch_live.specs.Slots.{client_at, answered_slot}
use Rattle.itch_live.specs.Kept.{has_room, kept_bytes}
use Rattle.itch_live.specs.Follows.{Following}
use Rattle.itch_live.specs.Stories as stories
use Rattle.itch_live.specs.Stories.{Happening, Story, Becomes}
use Rattle.itch_live.specs.LiveServers.{LiveServer, with_encoded, answered_with, answered, Answers, Event, Step, History}
use Rattle.itch_live.specs.Fairness.{HasRoom, IsCutOff}
use Rattle.itch_live.proofs.Places.{within, at_first}
use Rattle.itch_live.proofs.Present.{AreFitting, right_encoded, all_fit}

is_first : (place count : ℕ) → place < count → nat_lt place count ≡ true
is_first place count below = by_test (nat_lt place count) refl where
  by_test : (b : Bool) → nat_lt place count ≡ b → nat_lt place count ≡ true
  by_test true h = h
  by_test false h = let above = ltb-false place count h in absurd (omega (arith, above, below))

-- if there is room, there is a snapshot
encoded_of : (k : Option (List ℕ)) (b : Bool) (w : List ℕ) → (is_some k ≡ true) ⊎ (b ≡ true) → (bytes : List ℕ) × (option_or k (if b then Some w else None) ≡ Some bytes)
encoded_of (Some bytes) b w room = (bytes, refl)
encoded_of None true w room = (w, refl)
encoded_of None false w (inl some) = absurd (cc)
encoded_of None false w (inr few) = absurd (cc)

module _ {W : Type 0} (contents : W → Option (List ℕ)) (failures : W → Failures) where
  pub answered_now : (begun : Following) (past : List (Event W)) (at : Event W) (d : LiveServer) (limit now count k : ℕ) (j : Position) (g : SnapshotClient)
      → History contents failures begun (at ∷ past) d → at.call ≡ Answers limit now count → length at.before.slots ≤ count → at.before.following.joining.state.joined ≡ Some j
      → HasRoom limit at.before j → client_at at.before.slots k ≡ Some g → is_waiting g ≡ true → client_at d.slots k ≡ Some (clients.answered g (session_bytes j.market j.next) j.next now)
  answered_now begun past at d limit now count k j g (took, before) call all there room here waits =
      let e : LiveServer = at.before in
      let step : d ≡ answered e limit count now = subst (λ c. Step contents failures e c d) call took in
      let inside : k < length e.slots = within e.slots k g here in
      let first : nat_lt k count ≡ true = is_first k count (omega (arith, inside, all)) in
      let encoded = encoded_of (kept_bytes e.slots j.next) (has_room limit e.slots j.market) (session_bytes j.market j.next) room in
      let right : encoded.0 ≡ session_bytes j.market j.next =
      right_encoded limit e.slots j encoded.0 (subst (λ o. AreFitting o e.slots) there (all_fit contents failures begun past e before)) encoded.1 in
      ap (λ (x : LiveServer). client_at x.slots k) step
      ∙ ap (λ o. client_at (answered_with o e limit count now).slots k) there
      ∙ ap (λ s. client_at (with_encoded s e j.next count now).slots k) encoded.1
      ∙ at_first (answered_slot encoded.0 j.next now) e.slots count k refl
      ∙ ap (λ b. cond b (answered_slot encoded.0 j.next now (client_at e.slots k)) (client_at e.slots k)) first
      ∙ ap (answered_slot encoded.0 j.next now) here
      ∙ ap (λ b. Some (if b then clients.answered g encoded.0 j.next now else g)) waits
      ∙ ap (λ bytes. Some (clients.answered g bytes j.next now)) right

-- silence ---------------------------------------------------------------------

abbrev pub IsSilence : Option DisconnectCause → Type 0
IsSilence None = ⊥
IsSilence (Some reason.Silent) = Unit {0}
IsSilence (Some other) = ⊥

-- another reason does not make a client silent that was not before
left_first : (o : Option DisconnectCause) → IsSilence (option_or o (Some reason.Left)) → IsSilence o
left_first None h = absurd h
left_first (Some why) h = h

fault_first : (o : Option DisconnectCause) → IsSilence (option_or o (Some reason.Fault)) → IsSilence o
fault_first None h = absurd h
fault_first (Some why) h = h

by_act : (a : ServerAct) (login : Option LoginRequest) (now : ℕ) (g : SnapshotClient) → IsSilence (after_act a login now g).gone → IsSilence g.gone
by_act (act.Accept n) login now g h = h
by_act (act.Reject code) login now g h = h
by_act act.Nothing login now g h = h
by_act act.Close login now g h = left_first g.gone h
by_act (act.Fault fault) login now g h = fault_first g.gone h

same_gone : (g h : SnapshotClient) → h ≡ g → IsSilence h.gone → IsSilence g.gone
same_gone g h same is = subst (λ (x : SnapshotClient). IsSilence x.gone) same is

-- a client becomes silent at a reported time
abbrev pub Falls : SnapshotClient → Happening → Type 0
Falls f happening = (now : ℕ) × (happening ≡ stories.Ticks now) × (is_silent f now ≡ true)

kept_gone : (b : Bool) (g h f : SnapshotClient) → g.gone ≡ f.gone → h.gone ≡ f.gone → IsSilence (if b then g else h).gone → IsSilence f.gone
kept_gone true g h f one other is = subst IsSilence one is
kept_gone false g h f one other is = subst IsSilence other is

falls : (config : ServerConfig) (f g : SnapshotClient) (happening : Happening) → Becomes config f happening g → IsSilence g.gone → IsSilence f.gone ⊎ Falls f happening
falls config f g (stories.Hears piece now n) (inl (deaf, all, same)) is = inl (same_gone f g same is)
falls config f g (stories.Hears piece now n) (inr (hears, (held, takes, inl (payload, block, inl (packet, spelled, heard))))) is =
    inl (by_act (server_answer f.session packet) (login_in packet) now _ (same_gone _ g heard is))
falls config f g (stories.Hears piece now n) (inr (hears, (held, takes, inl (payload, block, inr (fault, at, heard))))) is = inl (fault_first f.gone (same_gone _ g heard is))
falls config f g (stories.Hears piece now n) (inr (hears, (held, takes, inr (none, heard)))) is = inl (same_gone _ g heard is)
falls config f g (stories.Answers m next now) same is =
    inl (kept_gone (is_waiting f) (clients.answered f (session_bytes m next) next now) f f refl refl (same_gone _ g same is))
falls config f g (stories.Takes count now) (fits, same) is = inl (by_notes f.notes (same_gone _ g same is)) where
  by_notes : (notes : List ℕ) → IsSilence (clients.took_of notes f count now).gone → IsSilence f.gone
  by_notes [] h =
      kept_gone (nat_lt 0 count && (nat_le 65536 (f.taken + count - f.marked) || f.taken + count == length (clients.bytes_of f.told)))
      (record f { taken = f.taken + count; moved = now; marked = f.taken + count }) (record f { taken = f.taken + count }) f refl refl h
  by_notes (b ∷ notes) h = h
falls config f g (stories.Ticks now) same is = by_test (is_silent f now) refl (same_gone _ g same is) where
  by_test : (b : Bool) → is_silent f now ≡ b → IsSilence (if b then gone_for reason.Silent f else (if clients.is_idle f now then clients.with_heartbeat f now else f)).gone
      → IsSilence f.gone ⊎ Falls f (stories.Ticks now)
  by_test true silent h = inr (now, refl, silent)
  by_test false talks h = inl (kept_gone (clients.is_idle f now) (clients.with_heartbeat f now) f f refl refl h)
falls config f g stories.Leaves same is = inl (left_first f.gone (same_gone _ g same is))

both_hold : (a b : Bool) → (not a && b) ≡ true → (a ≡ false) × (b ≡ true)
both_hold true b h = absurd (cc)
both_hold false true h = (refl, refl)
both_hold false false h = absurd (cc)

cut : (config : ServerConfig) (begun : ℕ) (past : List Happening) (g : SnapshotClient) (sent : List ℕ) → Story config begun past g sent → IsSilence g.gone → IsCutOff config begun past
cut config begun [] g sent (is, none) silent = absurd (same_gone _ g is silent)
cut config begun (e ∷ past) g sent (f, so_far, story, becomes, sends) silent = by_case (λ before. cut config begun past f so_far story before) (falls config f g e becomes silent) where
  by_case : (IsSilence f.gone → IsCutOff config begun past) → IsSilence f.gone ⊎ Falls f e → IsCutOff config begun (e ∷ past)
  by_case so (inl before) =
      let c = so before in
      record {
        later = e ∷ c.later;
        before = c.before;
        now = c.now;
        place = ap (λ es. e ∷ es) c.place;
        silent = c.silent;
        so_far = c.so_far;
        story = c.story;
        waits_not = c.waits_not;
        long = c.long;
      }
  by_case so (inr (now, ticks, is)) =
      let both = both_hold (clients.is_patient f) (nat_le 15000 (now - f.moved)) is in
      record {
        later = [];
        before = past;
        now = now;
        place = ap (λ x. x ∷ past) ticks;
        silent = f;
        so_far = so_far;
        story = story;
        waits_not = both.0;
        long = leb-true 15000 (now - f.moved) both.1;
      }

pub cut_off : (config : ServerConfig) (begun : ℕ) (past : List Happening) (g : SnapshotClient) (sent : List ℕ) → Story config begun past g sent → g.gone ≡ Some reason.Silent → IsCutOff config begun past
cut_off config begun past g sent story silent = cut config begun past g sent story (subst IsSilence (sym silent) tt)
