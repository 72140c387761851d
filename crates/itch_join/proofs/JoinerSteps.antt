-- Each call preserves the properties of a joiner, and so its state is the one in `Stands`.
use Rattle.std.proofs.Common.{◌≡◌, ℕ, ◌+◌, ◌-◌, ◌==◌, ◌<◌, ◌≤◌, nat_le, Bool, true, false, ◌&&◌, cond, List, [], ◌∷◌, Option, Some, None, is_some, slice_get, Result, Ok, Err, refl, sym, ap, ◌∙◌, subst, arith}
use Rattle.std.specs.List.{AllByRecursion}
use Rattle.std.specs.FinMap as map
use Rattle.std.specs.Ordering.{nat_cmp}
use Rattle.std.proofs.lemmas.Bool.Decides.{nat_tests}
use Rattle.itch_codec.specs.Fields.{AreBytes}
use Rattle.itch_market.specs.Content.{laid}
use Rattle.itch_market.proofs.GoodMarkets.{laid_good, empty_good}
use Rattle.itch_join.specs.declared.outcome.Live.{Live}
use Rattle.itch_join.specs.declared.outcome.Live.TheVariants.{Kept, Old}
use Rattle.itch_join.specs.declared.outcome.Snap.{Snap}
use Rattle.itch_join.specs.declared.outcome.Snap.TheVariants as snap
use Rattle.itch_join.specs.declared.fault.JoinFault.{JoinFault}
use Rattle.itch_join.specs.declared.fault.JoinFault.TheVariants.{Full, Conflict, BadNumber, Halted, OutOfMemory, Joined, BadSnapshot}
use Rattle.itch_join.specs.declared.state.Halt.{Halt}
use Rattle.itch_join.specs.declared.state.LiveCase.{LiveCase}
use Rattle.itch_join.specs.declared.state.LiveCase.TheVariants as live
use Rattle.itch_join.specs.Positions.{Position}
use Rattle.itch_join.specs.Rules.{Rules, AreLawful}
use Rattle.itch_join.specs.States.{Wait, State, HalfRead, Reading, Broken, unread, new, is_number}
use Rattle.itch_join.specs.Steps.{live_case, LiveBy, NextBy, SnapshotCase, SnapHalted, SnapJoined, SnapBroken, SnapFails, SnapEnds, SnapTakes, snapshot_case, SnapshotBy, restarted, ResumeBy, Resumes, Call, CallLive, CallSnapshot, CallRestart, CallResume, Step}
use Rattle.itch_join.specs.Deliveries.{Event, IsOfFeed, Fits, History, accepted, start_by, by_live_fault, settled}
use Rattle.itch_join.specs.Stands.{is_from, Stands}
use Rattle.itch_join.proofs.Fronts.{some_is}
use Rattle.itch_join.proofs.Caps.{at_most, leads}
use Rattle.itch_join.proofs.CallCases.{IsLiveCase, live_case_is, IsSnapshotCase, snapshot_case_is}
use Rattle.itch_join.proofs.JoinerInvariant.{and_first, and_second, unheard, HalfIsGood, IsKeptUp, then_call, stay, refuse_live, next_at, store_at, end_at, resume_at}

module _ (R : Rules) (lawful : AreLawful R) (cap : ℕ) (feed : List (List ℕ)) (bytes : AllByRecursion AreBytes feed) where
  abbrev Keeps : List Event → State → Type 0
  Keeps past s = IsKeptUp R feed past s

  along : {T : Type 0} (call : T → Call) (past : List Event) (s : State) (result r : T) (now n : State) → result ≡ r → now ≡ n → Keeps (then_call s (call r) past) n → Keeps (then_call s (call result) past) now
  along call past s result r now n one two k = subst (λ x. Keeps (then_call s (call x) past) now) (sym one) (subst (Keeps (then_call s (call r) past)) (sym two) k)

  pub live_by : (past : List Event) (s : State) (number : ℕ) (payload : List ℕ) (kind : LiveCase) (result : Result Live JoinFault) (now : State) → Keeps past s
      → (is_number number ≡ true → slice_get feed (number - 1) ≡ Some payload) → IsLiveCase cap s number payload kind → LiveBy R cap s number payload kind result now
      → Keeps (then_call s (CallLive number payload result) past) now
  live_by past s number payload (live.Halted h) result now k fits is (answer, same) =
      along (CallLive number payload) past s result _ now s answer same (refuse_live R lawful feed bytes past s number payload (Halted h.number h.cause) k refl (λ none. absurd (cc)))
  live_by past s number payload live.BadNumber result now k fits is (answer, same) =
      along (CallLive number payload) past s result _ now s answer same (refuse_live R lawful feed bytes past s number payload BadNumber k refl (λ none. unheard s.joined number BadNumber refl))
  live_by past s number payload live.Old result now k fits (none, j, there, below) (answer, same) =
      along (CallLive number payload) past s result _ now s answer same
      (stay R lawful feed bytes past s (CallLive number payload (Ok Old)) s.half k k.half refl
      (λ i acc from. let e = and_first (number == i) true acc in let at : number ≡ i = grind (arith, nat_tests) in
      let up : nat_le j.next i ≡ true = sym (ap (λ o. is_from o i) there) ∙ from in let over : j.next ≤ i = grind (arith, nat_tests) in absurd (omega arith))
      (λ halts set. set))
  live_by past s number payload live.Conflict result now k fits is (answer, same) =
      along (CallLive number payload) past s result _ now s answer same (refuse_live R lawful feed bytes past s number payload (Conflict number) k refl (λ none. unheard s.joined number (Conflict number) refl))
  live_by past s number payload live.Next result now k fits (none, num, j, there, at) h =
      let goes = subst (λ o. NextBy R s number payload o result now) there h in
      along (CallLive number payload) past s result _ now _ goes.returned goes.left
      (next_at R lawful feed bytes past s j number payload goes.payloads goes.ending goes.front k none there at (fits num) goes.applies)
  live_by past s number payload live.Kept result now k fits (none, waits, above) (answer, same) =
      along (CallLive number payload) past s result _ now s answer same
      (stay R lawful feed bytes past s (CallLive number payload (Ok Kept)) s.half k k.half refl
      (λ i acc from. let e = and_first (number == i) true acc in let at : number ≡ i = grind (arith, nat_tests) in
      let x = some_is (map.get s.wait number) waits in subst (λ n. accepted n past ≡ true) at (k.was_taken number x.0 x.1))
      (λ halts set. set))
  live_by past s number payload live.Full result now k fits is (answer, same) =
      along (CallLive number payload) past s result _ now s answer same (refuse_live R lawful feed bytes past s number payload (Full cap) k refl (λ none. unheard s.joined number (Full cap) refl))
  live_by past s number payload live.Stored (Ok answer) now k fits (none, num, room, free, above) (is, same) =
      along (λ r. CallLive number payload (Ok r)) past s answer Kept now _ is same (store_at R lawful feed bytes past s number payload k none (fits num) above)
  live_by past s number payload live.Stored (Err fault) now k fits (none, num, room, free, above) (is, same) =
      along (λ r. CallLive number payload (Err r)) past s fault (OutOfMemory false) now s is same
      (refuse_live R lawful feed bytes past s number payload (OutOfMemory false) k refl (λ halts. apart_live s.joined above))
    where
      apart_live : (o : Option Position) → ((j : Position) → o ≡ Some j → j.next < number) → by_live_fault o number (OutOfMemory false) ≡ None
      apart_live None over = refl
      apart_live (Some j) over = let less = over j refl in let off : (number == j.next) ≡ false = grind (arith, nat_tests) in ap (λ t. cond t (Some false) None) off

  -- a message of a snapshot that applies no waiting messages
  quiet : (past : List Event) (s : State) (payload : List ℕ) (result : Result Snap JoinFault) (h : HalfRead) → Keeps past s → HalfIsGood h → start_by (snapshot_case R s payload) ≡ None
      → (s.halt ≡ None → settled (then_call s (CallSnapshot payload result) past) ≡ true → settled past ≡ true) → Keeps (then_call s (CallSnapshot payload result) past) (record s { half = h })
  quiet past s payload result h k fine starts calm = stay R lawful feed bytes past s (CallSnapshot payload result) h k fine starts (λ i acc. absurd (cc)) calm

  pub snapshot_by : (past : List Event) (s : State) (payload : List ℕ) (kind : SnapshotCase) (result : Result Snap JoinFault) (now : State) → Keeps past s → AreBytes payload
      → snapshot_case R s payload ≡ kind → IsSnapshotCase R s payload kind → IsOfFeed R feed kind → SnapshotBy R s payload kind result now
      → Keeps (then_call s (CallSnapshot payload result) past) now
  snapshot_by past s payload (SnapHalted h) result now k are kind is fits (answer, same) =
      along (CallSnapshot payload) past s result _ now s answer same (quiet past s payload (Err (Halted h.number h.cause)) s.half k k.half (ap start_by kind) (λ halts set. set))
  snapshot_by past s payload SnapJoined result now k are kind is fits (answer, same) =
      along (CallSnapshot payload) past s result _ now s answer same (quiet past s payload (Err Joined) s.half k k.half (ap start_by kind) (λ halts set. set))
  snapshot_by past s payload (SnapBroken place cause) result now k are kind is fits (answer, same) =
      along (CallSnapshot payload) past s result _ now s answer same (quiet past s payload (Err (BadSnapshot place cause)) s.half k k.half (ap start_by kind) (λ halts set. set))
  snapshot_by past s payload (SnapFails place cause) result now k are kind is fits (answer, same) =
      along (CallSnapshot payload) past s result _ now _ answer same (quiet past s payload (Err (BadSnapshot place cause)) (Broken place cause) k tt (ap start_by kind) (λ halts set. set))
  snapshot_by past s payload (SnapEnds next m) result now k are kind (none, apart, taken, half) (some, low, is_same) goes =
      along (CallSnapshot payload) past s result _ now _ goes.returned goes.left
      (end_at R lawful feed bytes past s payload next taken m goes.payloads goes.ending goes.front k none apart half kind some low is_same goes.applies)
  snapshot_by past s payload (SnapTakes taken m) (Ok answer) now k are kind (half, none) fits (is, same) =
      along (λ r. CallSnapshot payload (Ok r)) past s answer snap.More now _ is same
      (quiet past s payload (Ok snap.More) (Reading (taken + 1) (laid (R.effect m payload))) k
      (laid_good (R.effect m payload) (lawful.effect_good m payload (subst HalfIsGood half k.half) are none)) (ap start_by kind) (λ halts set. set))
  snapshot_by past s payload (SnapTakes taken m) (Err fault) now k are kind (half, none) fits (is, takes, same) =
      along (λ r. CallSnapshot payload (Err r)) past s fault (OutOfMemory false) now s is same
      (quiet past s payload (Err (OutOfMemory false)) s.half k k.half (ap start_by kind) (λ halts set. absurd (cc)))

  restart_by : (past : List Event) (s now : State) (o : Option Position) → Keeps past s → now ≡ restarted o s → Keeps (then_call s CallRestart past) now
  restart_by past s now None k same =
      subst (Keeps (then_call s CallRestart past)) (sym same) (stay R lawful feed bytes past s CallRestart unread k empty_good refl (λ i acc. absurd (cc)) (λ halts set. set))
  restart_by past s now (Some j) k same =
      subst (Keeps (then_call s CallRestart past)) (sym same) (stay R lawful feed bytes past s CallRestart s.half k k.half refl (λ i acc. absurd (cc)) (λ halts set. set))

  resume_by : (past : List Event) (s : State) (result : Result (Option ℕ) JoinFault) (now : State) (o : Option Halt) → Keeps past s → s.halt ≡ o → ResumeBy R s o result now
      → Keeps (then_call s (CallResume result) past) now
  resume_by past s result now (Some h) k is (answer, same) =
      along CallResume past s result _ now s answer same (stay R lawful feed bytes past s (CallResume (Err (Halted h.number h.cause))) s.half k k.half refl (λ i acc. absurd (cc)) (λ halts set. set))
  resume_by past s result now None k is h = by_joined s.joined refl h where
    by_joined : (o : Option Position) → s.joined ≡ o → Resumes R s o result now → Keeps (then_call s (CallResume result) past) now
    by_joined None there (answer, same) =
        along CallResume past s result _ now s answer same (stay R lawful feed bytes past s (CallResume (Ok None)) s.half k k.half refl (λ i acc. absurd (cc)) (λ halts set. set))
    by_joined (Some j) there goes =
        along CallResume past s result _ now _ goes.returned goes.left (resume_at R lawful feed bytes past s j goes.payloads goes.ending goes.front k is there goes.applies)

  keeps : (past : List Event) (s : State) (call : Call) (now : State) → Keeps past s → Step R cap s call now → Fits R feed s call → Keeps (then_call s call past) now
  keeps past s (CallLive number payload result) now k step fits = live_by past s number payload (live_case cap s number payload) result now k fits (live_case_is cap s number payload) step
  keeps past s (CallSnapshot payload result) now k step fits =
      snapshot_by past s payload (snapshot_case R s payload) result now k fits.0 refl (snapshot_case_is R s payload) fits.1 step
  keeps past s CallRestart now k step fits = restart_by past s now s.joined k step
  keeps past s (CallResume result) now k step fits = resume_by past s result now s.halt k refl step

  at_first : Keeps [] new
  at_first = record {
    bytes = λ i p has. none_there map.empty i p refl has;
    was_taken = λ i p has. none_there map.empty i p refl has;
    kept = λ halts i acc. absurd (cc);
    placed = λ j is. absurd (cc);
    halted = λ h is. absurd (cc);
    half = empty_good;
  } where
    none_there : {P : Type 0} (w : Wait) (i : ℕ) (p : List ℕ) → w ≡ map.empty → map.get w i ≡ Some p → P
    none_there w i p is has = let e = sym (map.get-empty nat_cmp i) ∙ ap (λ (v : Wait). map.get v i) (sym is) ∙ has in absurd (cc)

  pub always : (past : List Event) (now : State) → History R cap feed past now → Keeps past now
  always [] now is = subst (Keeps []) (sym is) at_first
  always (x ∷ past) now (step, fits, before) = keeps past x.before x.call now (always past x.before before) step fits

  -- the state of a joiner ---------------------------------------------------------

  alike : (a b : Bool) → (a ≡ true → b ≡ true) → (b ≡ true → a ≡ true) → a ≡ b
  alike true b one other = sym (one refl)
  alike false true one other = other refl
  alike false false one other = refl

  not_true : (a : Bool) → (a ≡ true → ⊥) → a ≡ false
  not_true true none = absurd (none refl)
  not_true false none = refl

  pub stands : (past : List Event) (now : State) → History R cap feed past now → Stands R cap feed past now
  stands past now h =
      let k = always past now h in
      record {
        right = λ j is. let q = k.placed j is in record { first = q.first; is_start = q.is_start; from_start = q.from_first; to_bad = q.to_bad; market = q.market };
        least = λ j is none set. let q = k.placed j is in record {
          missing = not_true (accepted j.next past) (λ acc.
              let up : nat_le j.next j.next ≡ true = grind (arith, nat_tests) in
              let has = k.kept none j.next acc (ap (λ o. is_from o j.next) is ∙ up) in
              let gone = q.gap none set in
              let off = ap is_some gone in cc);
          before = λ first i starts lo hi. let same : q.first ≡ first = let e = sym q.is_start ∙ starts in cc in q.before none i (omega arith) hi;
        };
        waiting = λ none i. alike (is_some (map.get now.wait i)) (accepted i past && is_from now.joined i)
            (λ has. let x = some_is (map.get now.wait i) has in both (accepted i past) (is_from now.joined i) (k.was_taken i x.0 x.1) (from now.joined i (λ j is. (k.placed j is).low i x.0 x.1)))
            (λ are. k.kept none i (and_first (accepted i past) (is_from now.joined i) are) (and_second (accepted i past) (is_from now.joined i) are));
        within = at_most R cap past now (leads R cap feed past now h);
        halted = k.halted;
      }
    where
      both : (a b : Bool) → a ≡ true → b ≡ true → (a && b) ≡ true
      both a b one two = ap (λ t. t && b) one ∙ two

      from : (o : Option Position) (i : ℕ) → ((j : Position) → o ≡ Some j → j.next ≤ i) → is_from o i ≡ true
      from None i low = refl
      from (Some j) i low = let under = low j refl in let up : nat_le j.next i ≡ true = grind (arith, nat_tests) in up
