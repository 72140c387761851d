-- The invariant of each client and its snapshot, over every call of a server.
use Rattle.std.proofs.Common.{◌≡◌, ℕ, ◌==◌, nat_lt, nat_le, ◌&&◌, ◌||◌, ◌-◌, ◌+◌, Bool, true, false, cond, if◌then◌else◌, List, [], ◌∷◌, ◌++◌, length, map, take, drop, Option, None, Some, option_map, refl, sym, ◌∙◌, subst, ◌⊎◌, inl, inr, set}
use Rattle.itch_soup.specs.declared.packet.LoginRequest.{LoginRequest}
use Rattle.itch_soup.specs.declared.server.ServerAct.{ServerAct}
use Rattle.itch_soup.specs.declared.server.ServerAct.TheVariants as act
use Rattle.itch_soup.specs.Servers.{server_answer, server_after_packet}
use Rattle.itch_live.specs.declared.disconnect_cause.DisconnectCause.TheVariants as reason
use Rattle.itch_live.specs.SnapshotClients as clients
use Rattle.itch_live.specs.SnapshotClients.{SnapshotClient, is_waiting, login_in, after_act, moved_by_words, answered_if}
use Rattle.itch_live.specs.Slots.{Slots, client_at, HearsBy, took_by, answered_slot, ticked_slot}
use Rattle.itch_live.proofs.Places.{at_mapped, at_first, no_client, set_cases}

-- P holds of the snapshot's number and bytes of a client
abbrev pub Holds : (P : Option ℕ → Option (List ℕ) → Type 0) → SnapshotClient → Type 0
Holds P g = P g.snapshot g.told

abbrev pub AllHold : (P : Option ℕ → Option (List ℕ) → Type 0) → Slots → Type 0
AllHold P slots = (k : ℕ) (g : SnapshotClient) → client_at slots k ≡ Some g → Holds P g

pub one_client : {g h : SnapshotClient} → Some g ≡ Some h → g ≡ h
one_client {g} {h} same = cc

-- if P holds of clients without a snapshot, it continues to hold
module _ (P : Option ℕ → Option (List ℕ) → Type 0) (none : (told : Option (List ℕ)) → P None told) where
  by_act : (a : ServerAct) (login : Option LoginRequest) (now : ℕ) (g : SnapshotClient) → Holds P g → Holds P (after_act a login now g)
  by_act (act.Accept n) login now g holds = holds
  by_act (act.Reject code) login now g holds = holds
  by_act act.Nothing login now g holds = holds
  by_act act.Close login now g holds = holds
  by_act (act.Fault fault) login now g holds = holds

  either : (b : Bool) (g h : SnapshotClient) → Holds P g → Holds P h → Holds P (if b then g else h)
  either true g h one other = one
  either false g h one other = other

  hears : (g h : SnapshotClient) (piece : List ℕ) (now n : ℕ) → clients.Hears g piece now n h → Holds P g → Holds P h
  hears g h piece now n (inl (deaf, all, same)) holds = subst (λ x. Holds P x) (sym same) holds
  hears g h piece now n (inr (listens, (held, took, inl (payload, block, inl (packet, spelled, is))))) holds =
      subst (λ x. Holds P x) (sym is)
      (by_act (server_answer g.session packet) (login_in packet) now (record g { held = []; session = server_after_packet g.session packet now; moved = moved_by_words g now }) holds)
  hears g h piece now n (inr (listens, (held, took, inl (payload, block, inr (fault, at, is))))) holds = subst (λ x. Holds P x) (sym is) holds
  hears g h piece now n (inr (listens, (held, took, inr (empty, is)))) holds = subst (λ x. Holds P x) (sym is) holds

  takes_of : (notes : List ℕ) (g : SnapshotClient) (count now : ℕ) → Holds P g → Holds P (clients.took_of notes g count now)
  takes_of [] g count now holds =
      either (nat_lt 0 count && (nat_le 65536 (g.taken + count - g.marked) || g.taken + count == length (clients.bytes_of g.told)))
      (record g { taken = g.taken + count; moved = now; marked = g.taken + count }) (record g { taken = g.taken + count }) holds holds
  takes_of (b ∷ notes) g count now holds = holds

  takes : (g : SnapshotClient) (count now : ℕ) → Holds P g → Holds P (clients.took g count now)
  takes g count now holds = takes_of g.notes g count now holds

  ticks : (now : ℕ) (g : SnapshotClient) → Holds P g → Holds P (clients.ticked g now)
  ticks now g holds =
      either (clients.is_silent g now) (clients.gone_for reason.Silent g) (if clients.is_idle g now then clients.with_heartbeat g now else g) holds
      (either (clients.is_idle g now) (clients.with_heartbeat g now) g holds holds)

  answers : (bytes : List ℕ) (next now : ℕ) → P (Some next) (Some bytes) → (g : SnapshotClient) → Holds P g → Holds P (answered_if bytes next now g)
  answers bytes next now right g holds = either (is_waiting g) (clients.answered g bytes next now) g right holds

  pub set_holds : (slots : Slots) (place : ℕ) (slot : Option SnapshotClient) → ((g : SnapshotClient) → slot ≡ Some g → Holds P g) → AllHold P slots → AllHold P (set slots place slot)
  set_holds slots place slot one all k g there = by_case (set_cases slots place k slot g there) where
    by_case : (slot ≡ Some g) ⊎ (client_at slots k ≡ Some g) → Holds P g
    by_case (inl here) = one g here
    by_case (inr elsewhere) = all k g elsewhere

  mapped_slot : (f : SnapshotClient → SnapshotClient) → ((g : SnapshotClient) → Holds P g → Holds P (f g)) → (slot : Option SnapshotClient) → ((g : SnapshotClient) → slot ≡ Some g → Holds P g) → (h : SnapshotClient) → option_map f slot ≡ Some h
      → Holds P h
  mapped_slot f keeps None all h there = absurd (no_client there)
  mapped_slot f keeps (Some g) all h there = subst (λ x. Holds P x) (one_client there) (keeps g (all g refl))

  pub all_tick : (now : ℕ) (slots : Slots) → AllHold P slots → AllHold P (map (ticked_slot now) slots)
  all_tick now slots all k h there =
      mapped_slot (λ g. clients.ticked g now) (ticks now) (client_at slots k) (λ g at. all k g at) h (sym (at_mapped (ticked_slot now) slots k refl) ∙ there)

  pub all_answer : (bytes : List ℕ) (next now count : ℕ) (slots : Slots) → P (Some next) (Some bytes) → AllHold P slots
      → AllHold P (map (answered_slot bytes next now) (take count slots) ++ drop count slots)
  all_answer bytes next now count slots right all k h there = by_test (nat_lt k count) (sym (at_first (answered_slot bytes next now) slots count k refl) ∙ there) where
    by_test : (b : Bool) → cond b (answered_slot bytes next now (client_at slots k)) (client_at slots k) ≡ Some h → Holds P h
    by_test true at = mapped_slot (answered_if bytes next now) (answers bytes next now right) (client_at slots k) (λ g is. all k g is) h at
    by_test false at = all k h at

  pub all_hear : (slots new : Slots) (place : ℕ) (piece : List ℕ) (now count : ℕ) (slot : Option SnapshotClient) → client_at slots place ≡ slot → HearsBy slot slots place piece now count new
      → AllHold P slots → AllHold P new
  all_hear slots new place piece now count None there (every, same) all = subst (AllHold P) (sym same) all
  all_hear slots new place piece now count (Some g) there (h, hearing, same) all =
      subst (AllHold P) (sym same)
      (set_holds slots place (Some h) (λ x is. subst (λ y. Holds P y) (one_client is) (hears g h piece now count hearing (all place g there))) all)

  pub all_take : (slots : Slots) (place count now : ℕ) (slot : Option SnapshotClient) → client_at slots place ≡ slot → AllHold P slots → AllHold P (took_by slot slots place count now)
  all_take slots place count now None there all = all
  all_take slots place count now (Some g) there all =
      set_holds slots place (Some (clients.took g count now)) (λ x is. subst (λ y. Holds P y) (one_client is) (takes g count now (all place g there))) all
