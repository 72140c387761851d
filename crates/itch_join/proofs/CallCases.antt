-- The properties of each case of a delivery, and of a message of a snapshot.
use Rattle.std.proofs.Common.{◌≡◌, ℕ, ◌==◌, ◌-◌, ◌^◌, ◌<◌, ◌≤◌, nat_lt, Bool, true, false, cond, List, Option, Some, None, is_some, refl, subst, arith, bytes_eq}
use Rattle.std.specs.FinMap as map
use Rattle.std.proofs.lemmas.Bool.Decides.{nat_tests}
use Rattle.itch_market.specs.Content.{Content}
use Rattle.itch_join.specs.declared.fault.Cause.{Cause}
use Rattle.itch_join.specs.declared.fault.Cause.TheVariants.{TooMany}
use Rattle.itch_join.specs.declared.state.Halt.{Halt}
use Rattle.itch_join.specs.declared.state.LiveCase.{LiveCase}
use Rattle.itch_join.specs.declared.state.LiveCase.TheVariants as live
use Rattle.itch_join.specs.Positions.{Position}
use Rattle.itch_join.specs.Rules.{Rules}
use Rattle.itch_join.specs.States.{State, HalfRead, Reading, Broken, is_number}
use Rattle.itch_join.specs.Steps.{halted_case, old_case, conflict_case, next_case, live_case, SnapshotCase, SnapHalted, SnapJoined, SnapBroken, SnapFails, SnapEnds, SnapTakes, message_case, payload_case, half_case, unjoined_case, unhalted_case, snapshot_case}

-- a position at or below a number
abbrev pub IsAbove : State → ℕ → Type 0
IsAbove s number = (j : Position) → s.joined ≡ Some j → j.next < number

abbrev pub IsLiveCase : ℕ → State → ℕ → List ℕ → LiveCase → Type 0
IsLiveCase cap s number payload (live.Halted h) = s.halt ≡ Some h
IsLiveCase cap s number payload live.BadNumber = (s.halt ≡ None) × (is_number number ≡ false)
IsLiveCase cap s number payload live.Old = (s.halt ≡ None) × (j : Position) × (s.joined ≡ Some j) × (number < j.next)
IsLiveCase cap s number payload live.Conflict = (s.halt ≡ None) × (w : List ℕ) × (map.get s.wait number ≡ Some w) × (bytes_eq w payload ≡ false)
IsLiveCase cap s number payload live.Next = (s.halt ≡ None) × (is_number number ≡ true) × (j : Position) × (s.joined ≡ Some j) × (number ≡ j.next)
IsLiveCase cap s number payload live.Kept = (s.halt ≡ None) × (is_some (map.get s.wait number) ≡ true) × IsAbove s number
IsLiveCase cap s number payload live.Full = (s.halt ≡ None) × (cap ≤ map.len s.wait) × IsAbove s number
IsLiveCase cap s number payload live.Stored = (s.halt ≡ None) × (is_number number ≡ true) × (map.len s.wait < cap) × (is_some (map.get s.wait number) ≡ false) × IsAbove s number

module _ (cap : ℕ) (s : State) (number : ℕ) (payload : List ℕ) where
  abbrev stored : LiveCase
  stored = cond (nat_lt (map.len s.wait) cap) live.Stored live.Full

  abbrev kept : LiveCase
  kept = cond (is_some (map.get s.wait number)) live.Kept stored

  abbrev from_next : LiveCase
  from_next = next_case s.joined number kept

  abbrev conflict : LiveCase
  conflict = conflict_case (map.get s.wait number) payload from_next

  abbrev old : LiveCase
  old = old_case s.joined number conflict

  by_room : s.halt ≡ None → is_number number ≡ true → is_some (map.get s.wait number) ≡ false → IsAbove s number → (b : Bool) → nat_lt (map.len s.wait) cap ≡ b → IsLiveCase cap s number payload (cond b live.Stored live.Full)
  by_room none num free above true e = (none, num, grind (arith, nat_tests), free, above)
  by_room none num free above false e = (none, grind (arith, nat_tests), above)

  by_kept : s.halt ≡ None → is_number number ≡ true → IsAbove s number → (b : Bool) → is_some (map.get s.wait number) ≡ b → IsLiveCase cap s number payload (cond b live.Kept stored)
  by_kept none num above true e = (none, e, above)
  by_kept none num above false e = by_room none num e above (nat_lt (map.len s.wait) cap) refl

  by_same : s.halt ≡ None → is_number number ≡ true → (j : Position) → s.joined ≡ Some j → j.next ≤ number → (b : Bool) → (number == j.next) ≡ b → IsLiveCase cap s number payload (cond b live.Next kept)
  by_same none num j there low true e = (none, num, j, there, grind (arith, nat_tests))
  by_same none num j there low false e =
      let less : j.next < number = grind (arith, nat_tests) in
      by_kept none num (λ k is. let same : j ≡ k = cc in subst (λ (p : Position). p.next < number) same less) (is_some (map.get s.wait number)) refl

  by_next : s.halt ≡ None → is_number number ≡ true → (o : Option Position) → s.joined ≡ o → ((j : Position) → s.joined ≡ Some j → j.next ≤ number) → IsLiveCase cap s number payload (next_case o number kept)
  by_next none num None e low = by_kept none num (λ k is. absurd (cc)) (is_some (map.get s.wait number)) refl
  by_next none num (Some j) e low = by_same none num j e (low j e) (number == j.next) refl

  by_bytes : s.halt ≡ None → IsLiveCase cap s number payload from_next → (w : List ℕ) → map.get s.wait number ≡ Some w → (b : Bool) → bytes_eq w payload ≡ b → IsLiveCase cap s number payload (cond b from_next live.Conflict)
  by_bytes none rest w there true e = rest
  by_bytes none rest w there false e = (none, w, there, e)

  by_conflict : s.halt ≡ None → IsLiveCase cap s number payload from_next → (o : Option (List ℕ)) → map.get s.wait number ≡ o → IsLiveCase cap s number payload (conflict_case o payload from_next)
  by_conflict none rest None there = rest
  by_conflict none rest (Some w) there = by_bytes none rest w there (bytes_eq w payload) refl

  from_conflict : s.halt ≡ None → is_number number ≡ true → ((j : Position) → s.joined ≡ Some j → j.next ≤ number) → IsLiveCase cap s number payload conflict
  from_conflict none num low = by_conflict none (by_next none num s.joined refl low) (map.get s.wait number) refl

  by_below : s.halt ≡ None → is_number number ≡ true → (j : Position) → s.joined ≡ Some j → (b : Bool) → nat_lt number j.next ≡ b → IsLiveCase cap s number payload (cond b live.Old conflict)
  by_below none num j there true e = (none, j, there, grind (arith, nat_tests))
  by_below none num j there false e =
      let high : j.next ≤ number = grind (arith, nat_tests) in
      from_conflict none num (λ k is. let same : j ≡ k = cc in subst (λ (p : Position). p.next ≤ number) same high)

  by_old : s.halt ≡ None → is_number number ≡ true → (o : Option Position) → s.joined ≡ o → IsLiveCase cap s number payload (old_case o number conflict)
  by_old none num None e = from_conflict none num (λ k is. absurd (cc))
  by_old none num (Some j) e = by_below none num j e (nat_lt number j.next) refl

  by_number : s.halt ≡ None → (b : Bool) → is_number number ≡ b → IsLiveCase cap s number payload (cond b old live.BadNumber)
  by_number none true e = by_old none e s.joined refl
  by_number none false e = (none, e)

  by_halt : (o : Option Halt) → s.halt ≡ o → IsLiveCase cap s number payload (halted_case o (cond (is_number number) old live.BadNumber))
  by_halt None e = by_number e (is_number number) refl
  by_halt (Some h) e = e

  pub live_case_is : IsLiveCase cap s number payload (live_case cap s number payload)
  live_case_is = by_halt s.halt refl

-- the properties of each case of a message of the snapshot
abbrev pub IsSnapshotCase : Rules → State → List ℕ → SnapshotCase → Type 0
IsSnapshotCase R s payload (SnapHalted h) = s.halt ≡ Some h
IsSnapshotCase R s payload SnapJoined = Unit {0}
IsSnapshotCase R s payload (SnapBroken place cause) = Unit {0}
IsSnapshotCase R s payload (SnapFails place cause) = Unit {0}
IsSnapshotCase R s payload (SnapEnds next m) = (s.halt ≡ None) × (s.joined ≡ None) × (taken : ℕ) × (s.half ≡ Reading taken m)
IsSnapshotCase R s payload (SnapTakes taken m) = (s.half ≡ Reading taken m) × (R.refused m payload ≡ None)

module _ (R : Rules) (s : State) (payload : List ℕ) where
  by_refused : (taken : ℕ) (m : Content) → s.half ≡ Reading taken m → (o : Option Cause) → R.refused m payload ≡ o → IsSnapshotCase R s payload (message_case taken m o)
  by_refused taken m half None e = (half, e)
  by_refused taken m half (Some c) e = tt

  by_many : (taken : ℕ) (m : Content) (l k : SnapshotCase) → IsSnapshotCase R s payload l → IsSnapshotCase R s payload k → (b : Bool) → IsSnapshotCase R s payload (cond b l k)
  by_many taken m l k one two true = one
  by_many taken m l k one two false = two

  by_end : s.halt ≡ None → s.joined ≡ None → (taken : ℕ) (m : Content) → s.half ≡ Reading taken m → (o : Option ℕ) → IsSnapshotCase R s payload (payload_case taken m o (R.refused m payload))
  by_end none apart taken m half (Some next) = (none, apart, taken, half)
  by_end none apart taken m half None = by_many taken m (SnapFails (10 ^ 19) TooMany) (message_case taken m (R.refused m payload)) tt (by_refused taken m half (R.refused m payload) refl) (taken == 10 ^ 19 - 1)

  by_half : s.halt ≡ None → s.joined ≡ None → (h : HalfRead) → s.half ≡ h → IsSnapshotCase R s payload (half_case R h payload)
  by_half none apart (Reading taken m) e = by_end none apart taken m e (R.end_number payload)
  by_half none apart (Broken place cause) e = tt

  by_joined : s.halt ≡ None → (o : Option Position) → s.joined ≡ o → IsSnapshotCase R s payload (unjoined_case o (half_case R s.half payload))
  by_joined none None e = by_half none e s.half refl
  by_joined none (Some j) e = tt

  by_unhalted : (o : Option Halt) → s.halt ≡ o → IsSnapshotCase R s payload (unhalted_case o (unjoined_case s.joined (half_case R s.half payload)))
  by_unhalted None e = by_joined e s.joined refl
  by_unhalted (Some h) e = e

  pub snapshot_case_is : IsSnapshotCase R s payload (snapshot_case R s payload)
  snapshot_case_is = by_unhalted s.halt refl
