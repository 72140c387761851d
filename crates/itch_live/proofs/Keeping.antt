-- The size of the kept snapshots in bytes.
use Rattle.std.proofs.Common.{◌≡◌, ◌⊎◌, inl, inr, ℕ, ◌+◌, ◌-◌, ◌≤◌, ◌||◌, ◌&&◌, ◌==◌, nat_lt, nat_le, max, Bool, true, false, not, if◌then◌else◌, List, [], ◌∷◌, ◌++◌, length, map, take, drop, Option, None, Some, Ok, Err, refl, sym, ap, ◌∙◌, subst, arith, set, replicate, zero, suc}
use Rattle.std.specs.List.{sum_by}
use Rattle.std.specs.Option.{option_or}
use Rattle.std.proofs.lemmas.Bool.{eqb-true, leb-true}
use Rattle.std.proofs.lemmas.List.Sums.{sum_by-cons}
use Rattle.itch_frame.specs.declared.tally.Failures.{Failures}
use Rattle.itch_codec.specs.Widths.{IsSequence}
use Rattle.itch_market.specs.Content.{Content}
use Rattle.itch_market.specs.GoodMarkets.{IsGood}
use Rattle.itch_join.specs.Positions.{Position}
use Rattle.itch_soup.specs.declared.packet.LoginRequest.{LoginRequest}
use Rattle.itch_soup.specs.declared.server.ServerAct.{ServerAct}
use Rattle.itch_soup.specs.declared.server.ServerAct.TheVariants as act
use Rattle.itch_soup.specs.Servers.{server_answer}
use Rattle.itch_live.specs.declared.disconnect_cause.DisconnectCause.TheVariants as reason
use Rattle.itch_live.specs.SnapshotClients as clients
use Rattle.itch_live.specs.SnapshotClients.{SnapshotClient, session_bytes, new_snapshot_client, is_waiting, login_in, after_act, is_at}
use Rattle.itch_live.specs.Slots.{Slots, client_at, HearsBy, took_by, answered_slot, ticked_slot}
use Rattle.itch_live.specs.Kept.{number_of, is_kept, keeps_alone, with_number, kept, kept_bytes, length_or, snapshot_bytes, most_bytes_of, has_room}
use Rattle.itch_live.specs.Follows.{Following}
use Rattle.itch_live.specs.LiveServers.{LiveServer, with_encoded, answered_with, Call, Feeds, Admits, Hears, Answers, Takes, Ticks, Leaves, Event, Step, History}
use Rattle.itch_live.specs.Memory.{handed_at, handed_by, limit_by, largest_limit, longest, IsOfMarket, AreOfMarkets}
use Rattle.itch_live.proofs.Places.{none_seated, no_client}
use Rattle.itch_live.proofs.InSlots.{Holds, AllHold, one_client, set_holds, all_tick, all_answer, all_hear, all_take}
use Rattle.itch_live.proofs.Present.{kept_for}
use Rattle.itch_live.proofs.Lengths.{session_within}
use Rattle.itch_live.proofs.Totals.{is_at_true, at_number, is_in, in_rest, in_first, own, total, total_same, without, without_itself, one_more, none_more}

-- the numbers of the clients' snapshots
abbrev pub numbers : Slots → List (Option ℕ)
numbers slots = map number_of slots

-- a client with the snapshot of a number receives the bytes that belong to the number
abbrev pub Agrees : (ℕ → List ℕ) → Option ℕ → Option (List ℕ) → Type 0
Agrees bytes snapshot told = (n : ℕ) → snapshot ≡ Some n → told ≡ Some (bytes n)

unsent : (bytes : ℕ → List ℕ) (told : Option (List ℕ)) → Agrees bytes None told
unsent bytes told n there = absurd (cc)

-- the kept bytes -----------------------------------------------------------------

kept_is_in : (slots : Slots) (n : ℕ) → is_kept slots n ≡ is_in (numbers slots) n
kept_is_in [] n = refl
kept_is_in (slot ∷ slots) n = ap (λ b. is_at (number_of slot) n || b) (kept_is_in slots n)

first_sum : (f : ℕ → ℕ) (o : Option ℕ) (slots : Slots) → sum_by f (kept slots) ≡ total f (numbers slots)
    → sum_by f (if keeps_alone o slots then with_number o (kept slots) else kept slots) ≡ own f o (numbers slots) + total f (numbers slots)
first_sum f None slots rest = omega (arith, rest)
first_sum f (Some n) slots rest = by_test (is_kept slots n) refl where
  by_test : (b : Bool) → is_kept slots n ≡ b → sum_by f (if not b then n ∷ kept slots else kept slots) ≡ own f (Some n) (numbers slots) + total f (numbers slots)
  by_test true at =
      let none : own f (Some n) (numbers slots) ≡ 0 = ap (λ b. if b then 0 else f n) (sym (kept_is_in slots n) ∙ at) in
      omega (arith, none, rest)
  by_test false at =
      let one : own f (Some n) (numbers slots) ≡ f n = ap (λ b. if b then 0 else f n) (sym (kept_is_in slots n) ∙ at) in
      let first = sum_by-cons f n (kept slots) in
      omega (arith, one, first, rest)

sum_is : (f : ℕ → ℕ) (slots : Slots) → sum_by f (kept slots) ≡ total f (numbers slots)
sum_is f [] = refl
sum_is f (slot ∷ slots) = first_sum f (number_of slot) slots (sum_is f slots)

kept_under : (bytes : ℕ → List ℕ) (slots : Slots) → AllHold (Agrees bytes) slots → (n : ℕ) → is_in (numbers slots) n ≡ true → kept_bytes slots n ≡ Some (bytes n)
kept_under bytes [] all n there = absurd (cc)
kept_under bytes (None ∷ slots) all n there = kept_under bytes slots (λ k g at. all (suc k) g at) n there
kept_under bytes (Some g ∷ slots) all n there = by_test (is_at g.snapshot n) refl there (λ later. kept_under bytes slots (λ k h at. all (suc k) h at) n later) where
  by_test : (b : Bool) → is_at g.snapshot n ≡ b → (b || is_in (numbers slots) n) ≡ true → (is_in (numbers slots) n ≡ true → kept_bytes slots n ≡ Some (bytes n))
      → option_or (if b then g.told else None) (kept_bytes slots n) ≡ Some (bytes n)
  by_test true at here rest = ap (λ o. option_or o (kept_bytes slots n)) (all 0 g refl n (at_number g.snapshot n at))
  by_test false at later rest = rest later

-- each kept number counts its bytes once
pub bytes_are : (bytes : ℕ → List ℕ) (slots : Slots) → AllHold (Agrees bytes) slots → snapshot_bytes slots ≡ total (λ n. length (bytes n)) (numbers slots)
bytes_are bytes slots all =
    sum_is (λ n. length_or (kept_bytes slots n)) slots
    ∙ total_same (λ n. length_or (kept_bytes slots n)) (λ n. length (bytes n)) (numbers slots) (λ n there. ap length_or (kept_under bytes slots all n there))

-- numbers that do not change -------------------------------------------------------

in_at : (slots : Slots) (place n : ℕ) → number_of (client_at slots place) ≡ Some n → is_in (numbers slots) n ≡ true
in_at [] place n at = absurd (cc)
in_at (slot ∷ slots) zero n at = ap (λ o. is_at o n || is_in (numbers slots) n) at ∙ in_first n (numbers slots)
in_at (slot ∷ slots) (suc place) n at = in_rest (number_of slot) (numbers slots) n (in_at slots place n at)

set_same : (h : Option SnapshotClient → Option ℕ) (slots : Slots) (place : ℕ) (slot : Option SnapshotClient) → h slot ≡ h (client_at slots place) → map h (set slots place slot) ≡ map h slots
set_same h [] place slot same = refl
set_same h (other ∷ slots) zero slot same = ap (λ o. o ∷ map h slots) same
set_same h (other ∷ slots) (suc place) slot same = ap (λ os. h other ∷ os) (set_same h slots place slot same)

map_same : (h : Option SnapshotClient → Option ℕ) (f : Option SnapshotClient → Option SnapshotClient) (slots : Slots) → ((slot : Option SnapshotClient) → h (f slot) ≡ h slot) → map h (map f slots) ≡ map h slots
map_same h f [] same = refl
map_same h f (slot ∷ slots) same = ap (λ o. o ∷ map h (map f slots)) (same slot) ∙ ap (λ os. h slot ∷ os) (map_same h f slots same)

first_same : (h : Option SnapshotClient → Option ℕ) (f : Option SnapshotClient → Option SnapshotClient) (count : ℕ) (slots : Slots) → ((k : ℕ) → h (f (client_at slots k)) ≡ h (client_at slots k))
    → map h (map f (take count slots) ++ drop count slots) ≡ map h slots
first_same h f zero slots same = refl
first_same h f (suc count) [] same = refl
first_same h f (suc count) (slot ∷ slots) same =
    ap (λ o. o ∷ map h (map f (take count slots) ++ drop count slots)) (same 0) ∙ ap (λ os. h slot ∷ os) (first_same h f count slots (λ k. same (suc k)))

others_of : (n : ℕ) (slots : Slots) → map (without n) (numbers slots) ≡ map (λ slot. without n (number_of slot)) slots
others_of n [] = refl
others_of n (slot ∷ slots) = ap (λ os. without n (number_of slot) ∷ os) (others_of n slots)

by_act : (a : ServerAct) (login : Option LoginRequest) (now : ℕ) (g : SnapshotClient) → (after_act a login now g).snapshot ≡ g.snapshot
by_act (act.Accept n) login now g = refl
by_act (act.Reject code) login now g = refl
by_act act.Nothing login now g = refl
by_act act.Close login now g = refl
by_act (act.Fault fault) login now g = refl

hears : (g h : SnapshotClient) (piece : List ℕ) (now n : ℕ) → clients.Hears g piece now n h → h.snapshot ≡ g.snapshot
hears g h piece now n (inl (deaf, all, same)) = ap (λ (x : SnapshotClient). x.snapshot) same
hears g h piece now n (inr (listens, (held, took, inl (payload, block, inl (packet, spelled, is))))) =
    ap (λ (x : SnapshotClient). x.snapshot) is ∙ by_act (server_answer g.session packet) (login_in packet) now _
hears g h piece now n (inr (listens, (held, took, inl (payload, block, inr (fault, at, is))))) = ap (λ (x : SnapshotClient). x.snapshot) is
hears g h piece now n (inr (listens, (held, took, inr (none, is)))) = ap (λ (x : SnapshotClient). x.snapshot) is

takes : (notes : List ℕ) (g : SnapshotClient) (count now : ℕ) → (clients.took_of notes g count now).snapshot ≡ g.snapshot
takes [] g count now = by_test (nat_lt 0 count && (nat_le 65536 (g.taken + count - g.marked) || g.taken + count == length (clients.bytes_of g.told))) where
  by_test : (b : Bool) → (if b then record g { taken = g.taken + count; moved = now; marked = g.taken + count } else record g { taken = g.taken + count }).snapshot ≡ g.snapshot
  by_test true = refl
  by_test false = refl
takes (b ∷ notes) g count now = refl

ticks : (now : ℕ) (slot : Option SnapshotClient) → number_of (ticked_slot now slot) ≡ number_of slot
ticks now None = refl
ticks now (Some g) = by_tests (clients.is_silent g now) (clients.is_idle g now) where
  by_tests : (a b : Bool) → (if a then clients.gone_for reason.Silent g else (if b then clients.with_heartbeat g now else g)).snapshot ≡ g.snapshot
  by_tests true b = refl
  by_tests false true = refl
  by_tests false false = refl

heard_same : (slots new : Slots) (place : ℕ) (piece : List ℕ) (now count : ℕ) (slot : Option SnapshotClient) → client_at slots place ≡ slot → HearsBy slot slots place piece now count new
    → numbers new ≡ numbers slots
heard_same slots new place piece now count None there (all, same) = ap numbers same
heard_same slots new place piece now count (Some g) there (h, hearing, same) =
    ap numbers same ∙ set_same number_of slots place (Some h) (hears g h piece now count hearing ∙ ap number_of (sym there))

took_same : (slots : Slots) (place count now : ℕ) (slot : Option SnapshotClient) → client_at slots place ≡ slot → numbers (took_by slot slots place count now) ≡ numbers slots
took_same slots place count now None there = refl
took_same slots place count now (Some g) there = set_same number_of slots place (Some (clients.took g count now)) (takes g.notes g count now ∙ ap number_of (sym there))

-- a place that becomes free does not increase the total
freed : (f : ℕ → ℕ) (slots : Slots) (place : ℕ) (o : Option ℕ) → number_of (client_at slots place) ≡ o → total f (numbers (set slots place None)) ≤ total f (numbers slots)
freed f slots place None there = let same = ap (total f) (set_same number_of slots place None (sym there)) in omega (arith, same)
freed f slots place (Some n) there =
    none_more f n (numbers slots) (numbers (set slots place None))
    (others_of n (set slots place None) ∙ set_same (λ slot. without n (number_of slot)) slots place None (sym (ap (without n) there ∙ without_itself n)) ∙ sym (others_of n slots))
    (in_at slots place n there)

-- a waiting client has no number yet, and gets this one
handed_same : (bytes : ℕ → List ℕ) (encoded : List ℕ) (next now : ℕ) (slot : Option SnapshotClient) → ((g : SnapshotClient) → slot ≡ Some g → Agrees bytes g.snapshot g.told)
    → without next (number_of (answered_slot encoded next now slot)) ≡ without next (number_of slot)
handed_same bytes encoded next now None agrees = refl
handed_same bytes encoded next now (Some g) agrees = by_wait (is_waiting g) refl where
  told_none : is_waiting g ≡ true → g.told ≡ None
  told_none waits = grind arith

  by_number : (o : Option ℕ) → g.snapshot ≡ o → g.told ≡ None → without next (Some next) ≡ without next o
  by_number None is none = without_itself next
  by_number (Some n) is none = absurd (never (sym none ∙ agrees g refl n is)) where
    never : {w : List ℕ} → None ≡ Some w → ⊥
    never {w} h = cc

  by_wait : (b : Bool) → is_waiting g ≡ b → without next (if b then clients.answered g encoded next now else g).snapshot ≡ without next g.snapshot
  by_wait true waits = by_number g.snapshot refl (told_none waits)
  by_wait false waits = refl

all_handed : (bytes : ℕ → List ℕ) (encoded : List ℕ) (next now count : ℕ) (slots : Slots) → AllHold (Agrees bytes) slots
    → map (without next) (numbers (map (answered_slot encoded next now) (take count slots) ++ drop count slots)) ≡ map (without next) (numbers slots)
all_handed bytes encoded next now count slots all =
    others_of next (map (answered_slot encoded next now) (take count slots) ++ drop count slots)
    ∙ first_same (λ slot. without next (number_of slot)) (answered_slot encoded next now) count slots (λ k. handed_same bytes encoded next now (client_at slots k) (λ g at. all k g at))
    ∙ sym (others_of next slots)

-- calls -----------------------------------------------------------------------

-- the bytes of each number, which all its clients receive: the total is at most `most`
record Bounded (most : ℕ) (slots : Slots) : Type 0 where
  pub bytes : ℕ → List ℕ
  pub agree : AllHold (Agrees bytes) slots
  pub within : total (λ n. length (bytes n)) (numbers slots) ≤ most

none_bounded : (most places : ℕ) → Bounded most (replicate places None)
none_bounded most places = record { bytes = λ n. []; agree = λ k g there. absurd (no_client (sym (none_seated places k) ∙ there)); within = none places } where
  none : (places : ℕ) → total (λ n. length {A = ℕ} []) (numbers (replicate places None)) ≤ most
  none zero = omega arith
  none (suc places) = let rest = none places in omega (arith, rest)

moved : (most : ℕ) (old new : Slots) → (b : Bounded most old) → AllHold (Agrees b.bytes) new → numbers new ≡ numbers old → Bounded most new
moved most old new b agree same = let is = ap (total (λ n. length (b.bytes n))) same in record { bytes = b.bytes; agree = agree; within = omega (arith, is, b.within) }

fewer : (most : ℕ) (slots : Slots) (place : ℕ) → Bounded most slots → Bounded most (set slots place None)
fewer most slots place b =
    let less = freed (λ n. length (b.bytes n)) slots place (number_of (client_at slots place)) refl in
    record {
      bytes = b.bytes;
      agree = set_holds (Agrees b.bytes) (unsent b.bytes) slots place None (λ g is. absurd (no_client is)) b.agree;
      within = omega (arith, less, b.within);
    }

-- a client receives a snapshot that is kept already
again : (most : ℕ) (slots : Slots) (encoded : List ℕ) (next now count : ℕ) → kept_bytes slots next ≡ Some encoded → Bounded most slots
    → Bounded most (map (answered_slot encoded next now) (take count slots) ++ drop count slots)
again most slots encoded next now count found b =
    let r = kept_for slots next encoded found in
    let is : Some encoded ≡ Some (b.bytes next) = sym r.told_is ∙ b.agree r.place r.client r.there next r.number_is in
    let there : is_in (numbers slots) next ≡ true = in_at slots r.place next (ap number_of r.there ∙ r.number_is) in
    let less = none_more (λ n. length (b.bytes n)) next (numbers slots) (numbers (map (answered_slot encoded next now) (take count slots) ++ drop count slots))
    (all_handed b.bytes encoded next now count slots b.agree) there in
    record {
      bytes = b.bytes;
      agree = all_answer (Agrees b.bytes) (unsent b.bytes) encoded next now count slots (λ n at. is ∙ ap (λ m. Some (b.bytes m)) (one_number at)) b.agree;
      within = omega (arith, less, b.within);
    } where
      one_number : {m n : ℕ} → Some m ≡ Some n → m ≡ n
      one_number {m} {n} h = cc

-- the bytes of one number are these, and the bytes of the others do not change
abbrev pub with_bytes : ℕ → List ℕ → (ℕ → List ℕ) → ℕ → List ℕ
with_bytes next encoded bytes n = if n == next then encoded else bytes n

-- a client receives a new snapshot
fresh : (most : ℕ) (slots : Slots) (encoded : List ℕ) (next now count : ℕ) → kept_bytes slots next ≡ None → (b : Bounded most slots) → snapshot_bytes slots + length encoded ≤ most
    → Bounded most (map (answered_slot encoded next now) (take count slots) ++ drop count slots)
fresh most slots encoded next now count none b room = record {
  bytes = bytes;
  agree = all_answer (Agrees bytes) (unsent bytes) encoded next now count slots handed agree;
  within = within;
} where
  bytes : ℕ → List ℕ
  bytes = with_bytes next encoded b.bytes

  absent : is_in (numbers slots) next ≡ true → ⊥
  absent there = never (sym none ∙ kept_under b.bytes slots b.agree next there) where
    never : {w : List ℕ} → None ≡ Some w → ⊥
    never {w} h = cc

  others : (n : ℕ) → is_in (numbers slots) n ≡ true → b.bytes n ≡ bytes n
  others n there = by_test (n == next) refl where
    by_test : (c : Bool) → (n == next) ≡ c → b.bytes n ≡ (if c then encoded else b.bytes n)
    by_test true same = absurd (absent (subst (λ m. is_in (numbers slots) m ≡ true) (eqb-true n next same) there))
    by_test false other = refl

  agree : AllHold (Agrees bytes) slots
  agree k g there n at = b.agree k g there n at ∙ ap Some (others n (in_at slots k n (ap number_of there ∙ at)))

  handed : Agrees bytes (Some next) (Some encoded)
  handed n at = ap Some (sym (ap (λ c. if c then encoded else b.bytes n) (ap (λ o. is_at (Some n) o) (one_number at) ∙ is_at_true n))) where
    one_number : {m n : ℕ} → Some m ≡ Some n → m ≡ n
    one_number {m} {n} h = cc

  within : total (λ n. length (bytes n)) (numbers (map (answered_slot encoded next now) (take count slots) ++ drop count slots)) ≤ most
  within =
      let same = total_same (λ n. length (b.bytes n)) (λ n. length (bytes n)) (numbers slots) (λ n there. ap length (others n there)) in
      let more = one_more (λ n. length (bytes n)) next (numbers slots) (numbers (map (answered_slot encoded next now) (take count slots) ++ drop count slots))
      (all_handed bytes encoded next now count slots agree) in
      let own = ap length (ap (λ c. if c then encoded else b.bytes next) (is_at_true next)) in
      let is = bytes_are b.bytes slots b.agree in
      omega (arith, same, more, own, is, room)

module _ {W : Type 0} (contents : W → Option (List ℕ)) (failures : W → Failures) (most : ℕ) where
  abbrev IsBounded : LiveServer → Type 0
  IsBounded d = Bounded most d.slots

  either_true : (a b : Bool) → (a || b) ≡ true → (a ≡ true) ⊎ (b ≡ true)
  either_true true b h = inl refl
  either_true false b h = inr h

  -- there is room for a new snapshot
  room_for : (limit : ℕ) (slots : Slots) (m : Content) (encoded : List ℕ) → has_room limit slots m ≡ true → limit ≤ most → length encoded ≤ most → length encoded ≤ most_bytes_of m
      → snapshot_bytes slots + length encoded ≤ most
  room_for limit slots m encoded room within whole short = by_case (either_true (snapshot_bytes slots == 0) (nat_le (snapshot_bytes slots + most_bytes_of m) limit) room) where
    by_case : ((snapshot_bytes slots == 0) ≡ true) ⊎ (nat_le (snapshot_bytes slots + most_bytes_of m) limit ≡ true) → snapshot_bytes slots + length encoded ≤ most
    by_case (inl empty) = let none = eqb-true (snapshot_bytes slots) 0 empty in omega (arith, none, whole)
    by_case (inr fits) = let sum = leb-true (snapshot_bytes slots + most_bytes_of m) limit fits in omega (arith, sum, within, short)

  answered : (d : LiveServer) (limit count now : ℕ) (o : Option Position) → ((j : Position) → o ≡ Some j → IsGood j.market × IsSequence j.next) → limit ≤ most → handed_at o limit d ≤ most
      → IsBounded d → IsBounded (answered_with o d limit count now)
  answered d limit count now None markets within whole b = b
  answered d limit count now (Some j) markets within whole b = by_kept (kept_bytes d.slots j.next) refl whole where
    by_room : (c : Bool) → kept_bytes d.slots j.next ≡ None → has_room limit d.slots j.market ≡ c → length_or (if c then Some (session_bytes j.market j.next) else None) ≤ most
        → IsBounded (with_encoded (if c then Some (session_bytes j.market j.next) else None) d j.next count now)
    by_room true none room short =
        let of_market = markets j refl in
        fresh most d.slots (session_bytes j.market j.next) j.next now count none b
        (room_for limit d.slots j.market (session_bytes j.market j.next) room within short (session_within j.market j.next of_market.0 of_market.1))
    by_room false none room short = b

    by_kept : (k : Option (List ℕ)) → kept_bytes d.slots j.next ≡ k
        → length_or (option_or k (if has_room limit d.slots j.market then Some (session_bytes j.market j.next) else None)) ≤ most
        → IsBounded (with_encoded (option_or k (if has_room limit d.slots j.market then Some (session_bytes j.market j.next) else None)) d j.next count now)
    by_kept None none short = by_room (has_room limit d.slots j.market) none refl short
    by_kept (Some encoded) found short = again most d.slots encoded j.next now count found b

  step : (d e : LiveServer) (call : Call W) → Step contents failures d call e → IsOfMarket d call → limit_by call ≤ most → handed_by d call ≤ most → IsBounded d → IsBounded e
  step d e (Feeds did) (f, doing, same) market within whole b = subst IsBounded (sym same) b
  step d e (Admits config now (Ok (Some place))) ((inside, free), same) market within whole b =
      subst IsBounded (sym same)
      (moved most d.slots (set d.slots place (Some (new_snapshot_client config now))) b
      (set_holds (Agrees b.bytes) (unsent b.bytes) d.slots place (Some (new_snapshot_client config now)) (λ g is. subst (λ x. Holds (Agrees b.bytes) x) (one_client is) (unsent b.bytes None)) b.agree)
      (set_same number_of d.slots place (Some (new_snapshot_client config now)) (sym (ap number_of free))))
  step d e (Admits config now (Ok None)) (taken, same) market within whole b = subst IsBounded (sym same) b
  step d e (Admits config now (Err error)) same market within whole b = subst IsBounded (sym same) b
  step d e (Hears place piece now count) (s, hearing, same) market within whole b =
      subst IsBounded (sym same)
      (moved most d.slots s b (all_hear (Agrees b.bytes) (unsent b.bytes) d.slots s place piece now count (client_at d.slots place) refl hearing b.agree)
      (heard_same d.slots s place piece now count (client_at d.slots place) refl hearing))
  step d e (Answers limit now count) same market within whole b =
      subst IsBounded (sym same) (answered d limit count now d.following.joining.state.joined market within whole b)
  step d e (Takes place count now) (fits, same) market within whole b =
      subst IsBounded (sym same)
      (moved most d.slots (took_by (client_at d.slots place) d.slots place count now) b
      (all_take (Agrees b.bytes) (unsent b.bytes) d.slots place count now (client_at d.slots place) refl b.agree) (took_same d.slots place count now (client_at d.slots place) refl))
  step d e (Ticks now) same market within whole b =
      subst IsBounded (sym same)
      (moved most d.slots (map (ticked_slot now) d.slots) b (all_tick (Agrees b.bytes) (unsent b.bytes) now d.slots b.agree) (map_same number_of (ticked_slot now) d.slots (ticks now)))
  step d e (Leaves place) same market within whole b = subst IsBounded (sym same) (fewer most d.slots place b)

  bounded : (begun : Following) (past : List (Event W)) (d : LiveServer) → AreOfMarkets past → History contents failures begun past d
      → largest_limit past ≤ most → longest past ≤ most → IsBounded d
  bounded begun [] d markets (places, is) within whole = subst IsBounded (sym is) (none_bounded most places)
  bounded begun (x ∷ past) d (market, markets) (took, before) within whole =
      let limits = both (limit_by x.call) (largest_limit past) within in
      let lengths = both (handed_by x.before x.call) (longest past) whole in
      step x.before d x.call took market limits.0 lengths.0 (bounded begun past x.before markets before limits.1 lengths.1) where
        both : (a b : ℕ) → max a b ≤ most → (a ≤ most) × (b ≤ most)
        both a b h = (omega arith, omega arith)

  pub bytes_within : (begun : Following) (past : List (Event W)) (d : LiveServer) → AreOfMarkets past → History contents failures begun past d
      → largest_limit past ≤ most → longest past ≤ most → snapshot_bytes d.slots ≤ most
  bytes_within begun past d markets history within whole =
      let b = bounded begun past d markets history within whole in
      let is = bytes_are b.bytes d.slots b.agree in
      omega (arith, is, b.within)
