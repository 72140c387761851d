-- A snapshot that is kept under the number of the current market is the snapshot of that market.
use Rattle.std.proofs.Common.{◌≡◌, ℕ, ◌≤◌, Bool, true, false, if◌then◌else◌, List, [], ◌∷◌, ◌++◌, map, take, drop, Option, None, Some, Ok, Err, refl, sym, ap, ◌∙◌, subst, arith, suc}
use Rattle.std.specs.Option.{option_or}
use Rattle.std.proofs.lemmas.Bool.{eqb-true}
use Rattle.itch_frame.specs.declared.tally.Failures.{Failures}
use Rattle.itch_join.specs.Positions.{Position}
use Rattle.itch_live.specs.SnapshotClients.{SnapshotClient, session_bytes, new_snapshot_client, is_at, encoded_in}
use Rattle.itch_live.specs.Slots.{Slots, client_at, answered_slot}
use Rattle.itch_live.specs.Kept.{has_room, kept_bytes}
use Rattle.itch_live.specs.Follows.{Following}
use Rattle.itch_live.specs.LiveServers.{LiveServer, encoded_for, with_encoded, answered_with, Call, Feeds, Admits, Hears, Answers, Takes, Ticks, Leaves, Event, Step, History}
use Rattle.itch_live.proofs.Places.{none_seated, no_client}
use Rattle.itch_live.proofs.Rising.{Advances, does}
use Rattle.itch_live.proofs.InSlots.{Holds, one_client, set_holds, all_tick, all_answer, all_hear, all_take}

no_bytes : {bytes : List ℕ} → None ≡ Some bytes → ⊥
no_bytes {bytes} h = cc

-- the snapshot with this number is not of a later market than the current one, and is of the current one if the numbers are equal
pub record IsOf (o : Option Position) (told : Option (List ℕ)) (number : ℕ) : Type 0 where
  pub position : Position
  pub is : o ≡ Some position
  pub below : number ≤ position.next
  pub same : number ≡ position.next → told ≡ Some (session_bytes position.market position.next)

abbrev pub Fits : Option Position → Option ℕ → Option (List ℕ) → Type 0
Fits o snapshot told = (number : ℕ) → snapshot ≡ Some number → IsOf o told number

abbrev pub ClientFits : Option Position → SnapshotClient → Type 0
ClientFits o g = Fits o g.snapshot g.told

abbrev pub AreFitting : Option Position → Slots → Type 0
AreFitting o slots = (k : ℕ) (g : SnapshotClient) → client_at slots k ≡ Some g → ClientFits o g

none_fits : (o : Option Position) (told : Option (List ℕ)) → Fits o None told
none_fits o told number there = absurd (cc)

-- a later market
later : (o p : Option Position) → Advances o p → (g : SnapshotClient) → ClientFits o g → ClientFits p g
later o p advances g fits number there =
    let f = fits number there in
    let a = advances f.position f.is in
    record { position = a.position; is = a.is; below = omega (arith, f.below, a.up); same = same } where
      same : number ≡ (advances (fits number there).position (fits number there).is).position.next
          → g.told ≡ Some (session_bytes (advances (fits number there).position (fits number there).is).position.market (advances (fits number there).position (fits number there).is).position.next)
      same h =
          let f = fits number there in
          let a = advances f.position f.is in
          let at : number ≡ f.position.next = omega (arith, f.below, a.up, h) in
          let still : a.position ≡ f.position = a.still (sym at ∙ h) in
          f.same at ∙ ap (λ (i : Position). Some (session_bytes i.market i.next)) (sym still)

-- the position of the kept bytes with a number
pub record KeptFor (slots : Slots) (number : ℕ) (bytes : List ℕ) : Type 0 where
  pub place : ℕ
  pub client : SnapshotClient
  pub there : client_at slots place ≡ Some client
  pub number_is : client.snapshot ≡ Some number
  pub told_is : client.told ≡ Some bytes

is_at_some : (snapshot : Option ℕ) (number : ℕ) → is_at snapshot number ≡ true → snapshot ≡ Some number
is_at_some None number h = absurd (cc)
is_at_some (Some next) number h = ap Some (eqb-true next number h)

encoded_is : (snapshot : Option ℕ) (told : Option (List ℕ)) (number : ℕ) (bytes : List ℕ) (b : Bool) → is_at snapshot number ≡ b → (if b then told else None) ≡ Some bytes
    → (snapshot ≡ Some number) × (told ≡ Some bytes)
encoded_is snapshot told number bytes true at there = (is_at_some snapshot number at, there)
encoded_is snapshot told number bytes false at there = absurd (no_bytes there)

pub kept_for : (slots : Slots) (number : ℕ) (bytes : List ℕ) → kept_bytes slots number ≡ Some bytes → KeptFor slots number bytes
kept_for [] number bytes there = absurd (no_bytes there)
kept_for (None ∷ slots) number bytes there =
    let r = kept_for slots number bytes there in
    record { place = suc r.place; client = r.client; there = r.there; number_is = r.number_is; told_is = r.told_is }
kept_for (Some g ∷ slots) number bytes there = by_encoded (λ found. kept_for slots number bytes found) (encoded_in g.snapshot g.told number) refl there where
  by_encoded : (kept_bytes slots number ≡ Some bytes → KeptFor slots number bytes) → (encoded : Option (List ℕ)) → encoded_in g.snapshot g.told number ≡ encoded
      → option_or encoded (kept_bytes slots number) ≡ Some bytes → KeptFor (Some g ∷ slots) number bytes
  by_encoded rest None is found =
      let r = rest found in
      record { place = suc r.place; client = r.client; there = r.there; number_is = r.number_is; told_is = r.told_is }
  by_encoded rest (Some encoded) is found =
      let both = encoded_is g.snapshot g.told number encoded (is_at g.snapshot number) refl is in
      record { place = 0; client = g; there = refl; number_is = both.0; told_is = both.1 ∙ found }

-- an answer contains the snapshot of the current market
pub right_encoded : (limit : ℕ) (slots : Slots) (j : Position) (bytes : List ℕ) → AreFitting (Some j) slots → encoded_for limit slots j.market j.next ≡ Some bytes
    → bytes ≡ session_bytes j.market j.next
right_encoded limit slots j bytes all is = by_kept (kept_bytes slots j.next) refl is where
  one_bytes : {xs ys : List ℕ} → Some xs ≡ Some ys → xs ≡ ys
  one_bytes {xs} {ys} same = cc

  fresh : (b : Bool) → (if b then Some (session_bytes j.market j.next) else None) ≡ Some bytes → bytes ≡ session_bytes j.market j.next
  fresh true h = sym (one_bytes h)
  fresh false h = absurd (no_bytes h)

  by_kept : (o : Option (List ℕ)) → kept_bytes slots j.next ≡ o
      → option_or o (if has_room limit slots j.market then Some (session_bytes j.market j.next) else None) ≡ Some bytes → bytes ≡ session_bytes j.market j.next
  by_kept None none h = fresh (has_room limit slots j.market) h
  by_kept (Some old) found h =
      let r = kept_for slots j.next old found in
      let f = all r.place r.client r.there j.next r.number_is in
      let position : j ≡ f.position = one_position f.is in
      let told : r.client.told ≡ Some (session_bytes f.position.market f.position.next) = f.same (ap (λ (i : Position). i.next) position) in
      sym (one_bytes h) ∙ one_bytes (sym r.told_is ∙ told) ∙ ap (λ (i : Position). session_bytes i.market i.next) (sym position) where
        one_position : {i : Position} → Some j ≡ Some i → j ≡ i
        one_position {i} same = cc

module _ {W : Type 0} (contents : W → Option (List ℕ)) (failures : W → Failures) where
  -- each kept snapshot fits the current market
  abbrev pub ServerFits : LiveServer → Type 0
  ServerFits d = AreFitting d.following.joining.state.joined d.slots

  answered : (d : LiveServer) (limit count now : ℕ) (o : Option Position) → d.following.joining.state.joined ≡ o → ServerFits d → ServerFits (answered_with o d limit count now)
  answered d limit count now None there fits = fits
  answered d limit count now (Some j) there fits = by_encoded (encoded_for limit d.slots j.market j.next) refl where
    all : AreFitting (Some j) d.slots
    all = subst (λ o. AreFitting o d.slots) there fits

    handed : (bytes : List ℕ) → bytes ≡ session_bytes j.market j.next → Fits (Some j) (Some j.next) (Some bytes)
    handed bytes is number there = let at : j.next ≡ number = cc in record { position = j; is = refl; below = omega (arith, at); same = λ h. ap Some is }

    by_encoded : (encoded : Option (List ℕ)) → encoded_for limit d.slots j.market j.next ≡ encoded → ServerFits (with_encoded encoded d j.next count now)
    by_encoded None none = fits
    by_encoded (Some bytes) is =
        subst (λ o. AreFitting o (map (answered_slot bytes j.next now) (take count d.slots) ++ drop count d.slots)) (sym there)
        (all_answer (Fits (Some j)) (none_fits (Some j)) bytes j.next now count d.slots (handed bytes (right_encoded limit d.slots j bytes all is)) all)

  step : (d e : LiveServer) (call : Call W) → Step contents failures d call e → ServerFits d → ServerFits e
  step d e call took fits = by_call call took where
    P : Option ℕ → Option (List ℕ) → Type 0
    P = Fits d.following.joining.state.joined

    none : (told : Option (List ℕ)) → P None told
    none = none_fits d.following.joining.state.joined

    by_call : (call : Call W) → Step contents failures d call e → ServerFits e
    by_call (Feeds did) (f, doing, same) =
        subst ServerFits (sym same) (λ k g there. later d.following.joining.state.joined f.joining.state.joined (does contents failures d.following f did doing) g (fits k g there))
    by_call (Admits config now (Ok (Some place))) (free, same) =
        subst ServerFits (sym same) (set_holds P none d.slots place (Some (new_snapshot_client config now)) (λ g is. subst (λ x. Holds P x) (one_client is) (none None)) fits)
    by_call (Admits config now (Ok None)) (taken, same) = subst ServerFits (sym same) fits
    by_call (Admits config now (Err error)) same = subst ServerFits (sym same) fits
    by_call (Hears place piece now count) (s, hearing, same) =
        subst ServerFits (sym same) (all_hear P none d.slots s place piece now count (client_at d.slots place) refl hearing fits)
    by_call (Answers limit now count) same = subst ServerFits (sym same) (answered d limit count now d.following.joining.state.joined refl fits)
    by_call (Takes place count now) (within, same) = subst ServerFits (sym same) (all_take P none d.slots place count now (client_at d.slots place) refl fits)
    by_call (Ticks now) same = subst ServerFits (sym same) (all_tick P none now d.slots fits)
    by_call (Leaves place) same = subst ServerFits (sym same) (set_holds P none d.slots place None (λ g is. absurd (no_client is)) fits)

  pub all_fit : (begun : Following) (past : List (Event W)) (d : LiveServer) → History contents failures begun past d → ServerFits d
  all_fit begun [] d (places, is) = subst ServerFits (sym is) (λ k g there. absurd (no_client (sym (none_seated places k) ∙ there)))
  all_fit begun (x ∷ past) d (took, before) = step x.before d x.call took (all_fit begun past x.before before)

  pub kept_right : (begun : Following) (past : List (Event W)) (d : LiveServer) (j : Position) (bytes : List ℕ) → History contents failures begun past d
      → d.following.joining.state.joined ≡ Some j → kept_bytes d.slots j.next ≡ Some bytes → bytes ≡ session_bytes j.market j.next
  kept_right begun past d j bytes history there is =
      right_encoded 0 d.slots j bytes (subst (λ o. AreFitting o d.slots) there (all_fit begun past d history))
      (ap (λ k. option_or k (if has_room 0 d.slots j.market then Some (session_bytes j.market j.next) else None)) is)
