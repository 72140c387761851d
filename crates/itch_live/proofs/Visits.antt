-- The events of one client of a server are the same as if it were alone.
use Rattle.std.proofs.Common.{◌≡◌, ℕ, ◌<◌, ◌≤◌, ◌++◌, ◌==◌, nat_lt, Bool, true, false, cond, if◌then◌else◌, List, [], ◌∷◌, length, take, Option, None, Some, Result, Ok, Err, option_map, refl, sym, ap, ◌∙◌, subst, append-nil, set, ◌&&◌, is_some}
use Rattle.std.specs.declared.alloc.AllocError.{AllocError}
use Rattle.std.proofs.Math.Seq.{take-nil}
use Rattle.std.proofs.lemmas.Bool.{eqb-true, eqb-false, ltb-true, ltb-false}
use Rattle.std.proofs.lemmas.List.{get_or-set_same, get_or-set_other, get_or_past, length-set}
use Rattle.itch_frame.specs.declared.tally.Failures.{Failures}
use Rattle.itch_join.specs.Positions.{Position}
use Rattle.itch_soup.specs.declared.login.ServerConfig.{ServerConfig}
use Rattle.itch_live.specs.SnapshotClients as clients
use Rattle.itch_live.specs.SnapshotClients.{SnapshotClient, session_bytes, new_snapshot_client, pending}
use Rattle.itch_live.specs.Slots.{Slots, client_at, HearsBy, pending_of, took_by, took_at, answered_slot, ticked_slot}
use Rattle.itch_live.specs.Follows.{Following}
use Rattle.itch_live.specs.Stories as stories
use Rattle.itch_live.specs.Stories.{Happening, Story, Becomes}
use Rattle.itch_live.specs.LiveServers.{LiveServer, Accepts, encoded_for, with_encoded, answered_with, Call, Feeds, Admits, Hears, Answers, Takes, Ticks, Leaves, Event, Step, History, sent_by, sent_at}
use Rattle.itch_live.specs.Visits.{Visit, with, answers, visit_by, visit_at, IsVisit}
use Rattle.itch_live.proofs.Places.{within, at_mapped, at_first, none_seated}
use Rattle.itch_live.proofs.Present.{AreFitting, right_encoded, all_fit}

-- one more event of the client of a visit
more : (visit : Option Visit) (g h : SnapshotClient) (so_far sent : List ℕ) (happening : Happening) → IsVisit visit (Some g) so_far
    → ((config : ServerConfig) → Becomes config g happening h) → sent ≡ so_far ++ stories.sent_by g happening → IsVisit (with happening visit) (Some h) sent
more None g h so_far sent happening is becomes sends = absurd is
more (Some v) g h so_far sent happening is becomes sends = (g, so_far, is, becomes v.begun.config, sends)

-- the same client
along : (visit : Option Visit) (slot other : Option SnapshotClient) (sent : List ℕ) → other ≡ slot → IsVisit visit slot sent → IsVisit visit other sent
along visit slot other sent same is = subst (λ s. IsVisit visit s sent) (sym same) is

-- an event of a client, if there is one
happens : (visit : Option Visit) (slot : Option SnapshotClient) (f : SnapshotClient → SnapshotClient) (so_far : List ℕ) (happening : Happening) → IsVisit visit slot so_far
    → ((config : ServerConfig) (g : SnapshotClient) → Becomes config g happening (f g)) → ((g : SnapshotClient) → stories.sent_by g happening ≡ []) → IsVisit (with happening visit) (option_map f slot) so_far
happens None None f so_far happening is becomes silent = is
happens None (Some g) f so_far happening is becomes silent = absurd is
happens (Some v) None f so_far happening is becomes silent = absurd is
happens (Some v) (Some g) f so_far happening is becomes silent =
    (g, so_far, is, becomes v.begun.config g, sym (append-nil so_far) ∙ ap (λ bytes. so_far ++ bytes) (sym (silent g)))

module _ {W : Type 0} (contents : W → Option (List ℕ)) (failures : W → Failures) (k : ℕ) where
  abbrev Stands : Option Visit → LiveServer → List ℕ → Type 0
  Stands visit d sent = IsVisit visit (client_at d.slots k) sent

  -- the slots change, but not the client at this place
  unmoved : (visit : Option Visit) (d e : LiveServer) (sent : List ℕ) → client_at e.slots k ≡ client_at d.slots k → Stands visit d sent → Stands visit e sent
  unmoved visit d e sent same is = along visit (client_at d.slots k) (client_at e.slots k) sent same is

  -- a change at another place
  other_place : (slots : Slots) (place : ℕ) (slot : Option SnapshotClient) → (place == k) ≡ false → client_at (set slots place slot) k ≡ client_at slots k
  other_place slots place slot is = get_or-set_other slots place k slot None (λ same. eqb-false place k is (sym same))

  this_place : (slots : Slots) (place : ℕ) (slot : Option SnapshotClient) → (place == k) ≡ true → place < length slots → client_at (set slots place slot) k ≡ slot
  this_place slots place slot is inside = ap (λ i. client_at (set slots place slot) i) (sym (eqb-true place k is)) ∙ get_or-set_same slots place slot None inside

  admitted : (visit : Option Visit) (d e : LiveServer) (so_far : List ℕ) (config : ServerConfig) (now : ℕ) (result : Result (Option ℕ) AllocError) → Accepts config d now result e → Stands visit d so_far
      → Stands (visit_by {W = W} (Admits config now result) d k visit) e (sent_by {W = W} (Admits config now result) d k so_far)
  admitted visit d e so_far config now (Ok None) (taken, same) is = unmoved visit d e so_far (ap (λ x. client_at x.slots k) same) is
  admitted visit d e so_far config now (Err error) same is = unmoved visit d e so_far (ap (λ x. client_at x.slots k) same) is
  admitted visit d e so_far config now (Ok (Some place)) (free, same) is = by_test (place == k) refl where
    came : Visit
    came = record { begun = record { config = config; now = now }; past = [] }

    by_test : (b : Bool) → (place == k) ≡ b → IsVisit (if b then Some came else visit) (client_at e.slots k) (if b then [] else so_far)
    by_test true here =
        let slot : client_at e.slots k ≡ Some (new_snapshot_client config now) =
        ap (λ x. client_at x.slots k) same ∙ this_place d.slots place (Some (new_snapshot_client config now)) here free.0 in
        along (Some came) (Some (new_snapshot_client config now)) (client_at e.slots k) [] slot (refl, refl)
    by_test false elsewhere =
        unmoved visit d e so_far (ap (λ x. client_at x.slots k) same ∙ other_place d.slots place (Some (new_snapshot_client config now)) elsewhere) is

  heard : (visit : Option Visit) (d : LiveServer) (s : Slots) (so_far : List ℕ) (place : ℕ) (piece : List ℕ) (now count : ℕ) (slot : Option SnapshotClient) (b : Bool) → client_at d.slots place ≡ slot
      → (place == k) ≡ b → HearsBy slot d.slots place piece now count s → Stands visit d so_far
      → IsVisit (if b then with (stories.Hears piece now count) visit else visit) (client_at s k) so_far
  heard visit d s so_far place piece now count None false there here (all, same) is = along visit _ _ so_far (ap (λ x. client_at x k) same) is
  heard visit d s so_far place piece now count (Some g) false there here (h, hears, same) is =
      along visit _ _ so_far (ap (λ x. client_at x k) same ∙ other_place d.slots place (Some h) here) is
  heard visit d s so_far place piece now count None true there here (all, same) is =
      let none : client_at d.slots k ≡ None = ap (λ i. client_at d.slots i) (sym (eqb-true place k here)) ∙ there in
      let empty = along visit (client_at d.slots k) None so_far (sym none) is in
      along (with (stories.Hears piece now count) visit) None (client_at s k) so_far (ap (λ x. client_at x k) same ∙ none) (nobody visit empty) where
        nobody : (visit : Option Visit) → IsVisit visit None so_far → IsVisit (with (stories.Hears piece now count) visit) None so_far
        nobody None is = is
        nobody (Some v) is = absurd is
  heard visit d s so_far place piece now count (Some g) true there here (h, hears, same) is =
      let some : client_at d.slots k ≡ Some g = ap (λ i. client_at d.slots i) (sym (eqb-true place k here)) ∙ there in
      along (with (stories.Hears piece now count) visit) (Some h) (client_at s k) so_far
      (ap (λ x. client_at x k) same ∙ this_place d.slots place (Some h) here (within d.slots place g there))
      (more visit g h so_far so_far (stories.Hears piece now count) (along visit (client_at d.slots k) (Some g) so_far (sym some) is) (λ config. hears) (sym (append-nil so_far)))

  taken : (visit : Option Visit) (d : LiveServer) (so_far : List ℕ) (place count now : ℕ) (slot : Option SnapshotClient) (b : Bool) → client_at d.slots place ≡ slot
      → (place == k) ≡ b → count ≤ length (pending_of slot) → Stands visit d so_far
      → IsVisit (if b then with (stories.Takes count now) visit else visit) (client_at (took_by slot d.slots place count now) k)
      (if b then so_far ++ take count (pending_of slot) else so_far)
  taken visit d so_far place count now None false there here fits is = is
  taken visit d so_far place count now (Some g) false there here fits is =
      along visit _ _ so_far (other_place d.slots place (Some (clients.took g count now)) here) is
  taken visit d so_far place count now None true there here fits is =
      let none : client_at d.slots k ≡ None = ap (λ i. client_at d.slots i) (sym (eqb-true place k here)) ∙ there in
      let empty = along visit (client_at d.slots k) None so_far (sym none) is in
      along (with (stories.Takes count now) visit) None (client_at d.slots k) _ none (nobody visit empty) where
        nobody : (visit : Option Visit) → IsVisit visit None so_far → IsVisit (with (stories.Takes count now) visit) None (so_far ++ take count [])
        nobody None is = ap (λ bytes. bytes ++ take count []) is ∙ take-nil {A = ℕ} count
        nobody (Some v) is = absurd is
  taken visit d so_far place count now (Some g) true there here fits is =
      let some : client_at d.slots k ≡ Some g = ap (λ i. client_at d.slots i) (sym (eqb-true place k here)) ∙ there in
      along (with (stories.Takes count now) visit) (Some (clients.took g count now)) _ _
      (this_place d.slots place (Some (clients.took g count now)) here (within d.slots place g there))
      (more visit g (clients.took g count now) so_far _ (stories.Takes count now) (along visit (client_at d.slots k) (Some g) so_far (sym some) is) (λ config. (fits, refl)) refl)

  -- an answer contains the snapshot of the current market
  abbrev IsRight : LiveServer → Type 0
  IsRight d = (limit : ℕ) (j : Position) → d.following.joining.state.joined ≡ Some j → (bytes : List ℕ) → encoded_for limit d.slots j.market j.next ≡ Some bytes → bytes ≡ session_bytes j.market j.next

  -- an answer, if there is a market
  handed : (visit : Option Visit) (d : LiveServer) (so_far : List ℕ) (limit now count : ℕ) (joined : Option Position) → d.following.joining.state.joined ≡ joined → IsRight d
      → Stands visit d so_far → IsVisit (answers joined d limit (nat_lt k count) now visit) (client_at (answered_with joined d limit count now).slots k) so_far
  handed visit d so_far limit now count None there right is = is
  handed visit d so_far limit now count (Some j) there right is = by_encoded (encoded_for limit d.slots j.market j.next) refl where
    by_test : (bytes : List ℕ) (b : Bool) → bytes ≡ session_bytes j.market j.next
        → client_at (with_encoded (Some bytes) d j.next count now).slots k ≡ cond b (answered_slot bytes j.next now (client_at d.slots k)) (client_at d.slots k)
        → IsVisit (if b then with (stories.Answers j.market j.next now) visit else visit) (client_at (with_encoded (Some bytes) d j.next count now).slots k) so_far
    by_test bytes false whole_is at = along visit _ _ so_far at is
    by_test bytes true whole_is at =
        along (with (stories.Answers j.market j.next now) visit) _ _ so_far at
        (happens visit (client_at d.slots k) (clients.answered_if bytes j.next now) so_far (stories.Answers j.market j.next now) is
        (λ config g. ap (λ b. clients.answered_if b j.next now g) whole_is) (λ g. refl))

    by_encoded : (encoded : Option (List ℕ)) → encoded_for limit d.slots j.market j.next ≡ encoded
        → IsVisit (if is_some encoded && nat_lt k count then with (stories.Answers j.market j.next now) visit else visit) (client_at (with_encoded encoded d j.next count now).slots k) so_far
    by_encoded None none = is
    by_encoded (Some bytes) some = by_test bytes (nat_lt k count) (right limit j there bytes some) (at_first (answered_slot bytes j.next now) d.slots count k refl)

  left : (visit : Option Visit) (d : LiveServer) (so_far : List ℕ) (place : ℕ) (b : Bool) → (place == k) ≡ b → Stands visit d so_far
      → IsVisit (if b then None else visit) (client_at (set d.slots place None) k) (if b then [] else so_far)
  left visit d so_far place false here is = along visit _ _ so_far (other_place d.slots place None here) is
  left visit d so_far place true here is = along None None _ [] (gone (nat_lt place (length d.slots)) refl) refl where
    gone : (b : Bool) → nat_lt place (length d.slots) ≡ b → client_at (set d.slots place None) k ≡ None
    gone true h = this_place d.slots place None here (ltb-true place (length d.slots) h)
    gone false h =
        let past = ltb-false place (length d.slots) h in
        get_or_past (set d.slots place None) k None
        (subst (λ n. n ≤ k) (sym (length-set d.slots place None)) (subst (λ i. length d.slots ≤ i) (eqb-true place k here) past))

  step : (visit : Option Visit) (d e : LiveServer) (so_far : List ℕ) (call : Call W) → IsRight d → Step contents failures d call e → Stands visit d so_far
      → Stands (visit_by call d k visit) e (sent_by call d k so_far)
  step visit d e so_far (Feeds did) right (f, does, same) is = unmoved visit d e so_far (ap (λ x. client_at x.slots k) same) is
  step visit d e so_far (Admits config now result) right accepts is = admitted visit d e so_far config now result accepts is
  step visit d e so_far (Hears place piece now count) right (s, hears, same) is =
      along _ (client_at s k) (client_at e.slots k) so_far (ap (λ x. client_at x.slots k) same)
      (heard visit d s so_far place piece now count (client_at d.slots place) (place == k) refl refl hears is)
  step visit d e so_far (Answers limit now count) right same is =
      along _ _ (client_at e.slots k) so_far (ap (λ x. client_at x.slots k) same) (handed visit d so_far limit now count d.following.joining.state.joined refl right is)
  step visit d e so_far (Takes place count now) right (fits, same) is =
      along _ _ (client_at e.slots k) _ (ap (λ x. client_at x.slots k) same)
      (here (place == k) refl) where
        here : (b : Bool) → (place == k) ≡ b → IsVisit (if b then with (stories.Takes count now) visit else visit) (client_at (took_at d.slots place count now) k)
            (if b then so_far ++ take count (pending_of (client_at d.slots k)) else so_far)
        here true h = subst (λ i. IsVisit (with (stories.Takes count now) visit) (client_at (took_at d.slots place count now) k) (so_far ++ take count (pending_of (client_at d.slots i))))
            (eqb-true place k h) (taken visit d so_far place count now (client_at d.slots place) true refl h fits is)
        here false h = taken visit d so_far place count now (client_at d.slots place) false refl h fits is
  step visit d e so_far (Ticks now) right same is =
      along _ _ (client_at e.slots k) so_far (ap (λ x. client_at x.slots k) same ∙ at_mapped (ticked_slot now) d.slots k refl)
      (happens visit (client_at d.slots k) (λ g. clients.ticked g now) so_far (stories.Ticks now) is (λ config g. refl) (λ g. refl))
  step visit d e so_far (Leaves place) right same is =
      along _ _ (client_at e.slots k) _ (ap (λ x. client_at x.slots k) same) (left visit d so_far place (place == k) refl is)

  pub visits : (begun : Following) (past : List (Event W)) (d : LiveServer) → History contents failures begun past d → IsVisit (visit_at k past) (client_at d.slots k) (sent_at k past)
  visits begun [] d (places, is) = along None None (client_at d.slots k) [] (ap (λ x. client_at x.slots k) is ∙ none_seated places k) refl
  visits begun (x ∷ past) d (took, before) =
      step (visit_at k past) x.before d (sent_at k past) x.call
      (λ limit j there bytes is. right_encoded limit x.before.slots j bytes
      (subst (λ o. AreFitting o x.before.slots) there (all_fit contents failures begun past x.before before)) is) took (visits begun past x.before before)
