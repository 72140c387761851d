-- The result of the last call.
use Rattle.std.proofs.Common.{◌≡◌, ◌≢◌, ℕ, ◌-◌, ◌^◌, ◌<◌, ◌≤◌, nat_lt, Bool, true, false, not, ◌&&◌, ◌||◌, List, [], ◌∷◌, length, Option, Some, None, is_some, slice_get, Result, Ok, Err, refl, sym, ap, ◌∙◌, subst, arith, bytes_eq}
use Rattle.std.specs.List.{AllByRecursion}
use Rattle.std.specs.FinMap as map
use Rattle.std.proofs.lemmas.Bool.Decides.{nat_tests}
use Rattle.itch_codec.specs.Fields.{AreBytes}
use Rattle.itch_join.specs.declared.fault.Cause.{Cause}
use Rattle.itch_join.specs.declared.outcome.Live.{Live}
use Rattle.itch_join.specs.declared.outcome.Live.TheVariants.{Kept, Applied, Old}
use Rattle.itch_join.specs.declared.outcome.Snap.{Snap}
use Rattle.itch_join.specs.declared.outcome.Snap.TheVariants as snap
use Rattle.itch_join.specs.declared.fault.JoinFault.{JoinFault}
use Rattle.itch_join.specs.declared.fault.JoinFault.TheVariants.{Full, Conflict, BadNumber, Halted, OutOfMemory, Joined, BadSnapshot}
use Rattle.itch_join.specs.declared.state.Halt.{Halt}
use Rattle.itch_join.specs.declared.state.Stopped.{Stopped}
use Rattle.itch_join.specs.declared.state.Stopped.TheVariants.{Refused, NoMemory}
use Rattle.itch_join.specs.declared.state.LiveCase.{LiveCase}
use Rattle.itch_join.specs.declared.state.LiveCase.TheVariants as live
use Rattle.itch_join.specs.Positions.{Position}
use Rattle.itch_join.specs.Rules.{Rules, AreLawful, bad}
use Rattle.itch_join.specs.States.{State, HalfRead, unread, is_number}
use Rattle.itch_join.specs.Applying.{Front, front_of, Applies, standing, result_by, is_empty}
use Rattle.itch_join.specs.Steps.{live_case, LiveBy, NextBy, SnapshotCase, SnapHalted, SnapJoined, SnapBroken, SnapFails, SnapEnds, SnapTakes, snapshot_case, SnapshotBy, ResumeBy, Resumes, Call, CallLive, CallSnapshot, CallRestart, CallResume, Step}
use Rattle.itch_join.specs.Deliveries.{Event, Fits, History, halt_in, halt_returned}
use Rattle.itch_join.specs.Stands.{IsBadAt, IsResultRight, LastIsRight}
use Rattle.itch_join.proofs.CallCases.{IsLiveCase, live_case_is, IsSnapshotCase, snapshot_case_is}
use Rattle.itch_join.proofs.Caps.{at_most, leads}
use Rattle.itch_join.proofs.Feeds.{market_at, market_good, bad_next}
use Rattle.itch_join.proofs.JoinerInvariant.{IsKeptUp, at_bad}
use Rattle.itch_join.proofs.JoinerSteps.{always}
use Rattle.std.proofs.lemmas.Slice.Eq.{bytes_eq-Decides}

abbrev HaltStays : {T : Type 0} → Result T JoinFault → State → Type 0
HaltStays result now = (h : Halt) → halt_in result ≡ Some h → now.halt ≡ Some h

-- at the end of applying, a halt that is returned remains
went_halts : {T : Type 0} (done : ℕ → T) (taken : Bool) (half : HalfRead) (ending : Result (Unit {0}) Stopped) (b : Front) → HaltStays (result_by done taken ending b.next) (standing half ending b)
went_halts done taken half (Ok ended) b h is = absurd (cc)
went_halts done taken half (Err (Refused cause)) b h is = is
went_halts done taken half (Err NoMemory) b h is = absurd (cc)

module _ {T : Type 0} where
  halts_along : (result r : Result T JoinFault) (now n : State) → result ≡ r → now ≡ n → HaltStays r n → HaltStays result now
  halts_along result r now n one two h = subst (λ (x : Result T JoinFault). HaltStays x now) (sym one) (subst (HaltStays r) (sym two) h)

ok_halts : {T : Type 0} (x : T) (now : State) → HaltStays (Ok x) now
ok_halts x now k is = absurd (cc)

memory_none : (now : State) (k : Halt) → ◌≡◌ {A = Option Halt} None (Some k) → now.halt ≡ Some k
memory_none now k e = absurd (cc)

memory_halts : (T : Type 0) (fault : JoinFault) (now : State) → fault ≡ OutOfMemory false → HaltStays {T = T} (Err fault) now
memory_halts T fault now is = subst (λ f. HaltStays {T = T} (Err f) now) (sym is) (memory_none now)

live_halts : (R : Rules) (cap : ℕ) (s : State) (number : ℕ) (payload : List ℕ) (kind : LiveCase) (result : Result Live JoinFault) (now : State) → IsLiveCase cap s number payload kind → LiveBy R cap s number payload kind result now → HaltStays result now
live_halts R cap s number payload (live.Halted h) result now there (answer, same) = halts_along result (Err (Halted h.number h.cause)) now s answer same (λ k is. there ∙ is)
live_halts R cap s number payload live.BadNumber result now there (answer, same) = halts_along result (Err BadNumber) now s answer same (λ k is. absurd (cc))
live_halts R cap s number payload live.Old result now there (answer, same) = halts_along result (Ok Old) now s answer same (λ k is. absurd (cc))
live_halts R cap s number payload live.Conflict result now there (answer, same) = halts_along result (Err (Conflict number)) now s answer same (λ k is. absurd (cc))
live_halts R cap s number payload live.Next result now (none, num, j, there, at) h =
    let goes = subst (λ o. NextBy R s number payload o result now) there h in
    halts_along result _ now _ goes.returned goes.left (went_halts Applied (is_some (map.get s.wait j.next) || not (is_empty goes.payloads)) s.half goes.ending goes.front)
live_halts R cap s number payload live.Kept result now there (answer, same) = halts_along result (Ok Kept) now s answer same (λ k is. absurd (cc))
live_halts R cap s number payload live.Full result now there (answer, same) = halts_along result (Err (Full cap)) now s answer same (λ k is. absurd (cc))
live_halts R cap s number payload live.Stored (Ok answer) now there (is, same) = ok_halts answer now
live_halts R cap s number payload live.Stored (Err fault) now there (is, same) = memory_halts Live fault now is

snap_halts : (R : Rules) (s : State) (payload : List ℕ) (kind : SnapshotCase) (result : Result Snap JoinFault) (now : State) → IsSnapshotCase R s payload kind → SnapshotBy R s payload kind result now → HaltStays result now
snap_halts R s payload (SnapHalted h) result now there (answer, same) = halts_along result (Err (Halted h.number h.cause)) now s answer same (λ k is. there ∙ is)
snap_halts R s payload SnapJoined result now there (answer, same) = halts_along result (Err Joined) now s answer same (λ k is. absurd (cc))
snap_halts R s payload (SnapBroken place cause) result now there (answer, same) = halts_along result (Err (BadSnapshot place cause)) now s answer same (λ k is. absurd (cc))
snap_halts R s payload (SnapFails place cause) result now there (answer, same) = halts_along result (Err (BadSnapshot place cause)) now now answer refl (λ k is. absurd (cc))
snap_halts R s payload (SnapEnds next m) result now there goes = halts_along result _ now _ goes.returned goes.left (went_halts snap.Joined true unread goes.ending goes.front)
snap_halts R s payload (SnapTakes taken m) (Ok answer) now there (is, same) = ok_halts answer now
snap_halts R s payload (SnapTakes taken m) (Err fault) now there (is, takes, same) = memory_halts Snap fault now is

resume_halts : (R : Rules) (s : State) (result : Result (Option ℕ) JoinFault) (now : State) (o : Option Halt) → s.halt ≡ o → ResumeBy R s o result now → HaltStays result now
resume_halts R s result now (Some h) there (answer, same) = halts_along result (Err (Halted h.number h.cause)) now s answer same (λ k is. there ∙ is)
resume_halts R s result now None there h = by_joined s.joined h where
  by_joined : (o : Option Position) → Resumes R s o result now → HaltStays result now
  by_joined None (answer, same) = halts_along result (Ok None) now s answer same (λ k is. absurd (cc))
  by_joined (Some j) goes = halts_along result (result_by Some false goes.ending goes.front.next) now (standing s.half goes.ending goes.front) goes.returned goes.left (went_halts Some false s.half goes.ending goes.front)

pub halt_stays : (R : Rules) (cap : ℕ) (s : State) (call : Call) (now : State) → Step R cap s call now → (h : Halt) → halt_returned call ≡ Some h → now.halt ≡ Some h
halt_stays R cap s (CallLive number payload result) now step = live_halts R cap s number payload (live_case cap s number payload) result now (live_case_is cap s number payload) step
halt_stays R cap s (CallSnapshot payload result) now step = snap_halts R s payload (snapshot_case R s payload) result now (snapshot_case_is R s payload) step
halt_stays R cap s CallRestart now step = λ h is. absurd (cc)
halt_stays R cap s (CallResume result) now step = resume_halts R s result now s.halt refl step

-- Full ------------------------------------------------------------------------

not_full : (taken : Bool) (ending : Result (Unit {0}) Stopped) (next n : ℕ) → result_by Applied taken ending next ≢ Err (Full n)
not_full taken (Ok done) next n e = cc
not_full taken (Err (Refused cause)) next n e = cc
not_full taken (Err NoMemory) next n e = cc

full_by : (R : Rules) (cap : ℕ) (s : State) (number : ℕ) (payload : List ℕ) (kind : LiveCase) (result : Result Live JoinFault) (now : State) → map.len s.wait ≤ cap → IsLiveCase cap s number payload kind → LiveBy R cap s number payload kind result now
    → (n : ℕ) → result ≡ Err (Full n) → (n ≡ cap) × (map.len s.wait ≡ cap) × ((j : Position) → s.joined ≡ Some j → number ≡ j.next → ⊥)
full_by R cap s number payload (live.Halted h) result now within there (answer, same) n e = absurd (let f = sym answer ∙ e in cc)
full_by R cap s number payload live.BadNumber result now within there (answer, same) n e = absurd (let f = sym answer ∙ e in cc)
full_by R cap s number payload live.Old result now within there (answer, same) n e = absurd (let f = sym answer ∙ e in cc)
full_by R cap s number payload live.Conflict result now within there (answer, same) n e = absurd (let f = sym answer ∙ e in cc)
full_by R cap s number payload live.Next result now within (none, num, j, there, at) h n e =
    let goes = subst (λ o. NextBy R s number payload o result now) there h in
    absurd (not_full (is_some (map.get s.wait j.next) || not (is_empty goes.payloads)) goes.ending goes.front.next n (sym goes.returned ∙ e))
full_by R cap s number payload live.Kept result now within there (answer, same) n e = absurd (let f = sym answer ∙ e in cc)
full_by R cap s number payload live.Full result now within (none, many, above) (answer, same) n e =
    ((let f = sym answer ∙ e in cc), omega arith, λ j there at. let over = above j there in omega arith)
full_by R cap s number payload live.Stored (Ok answer) now within there (is, same) n e = absurd (cc)
full_by R cap s number payload live.Stored (Err fault) now within there (is, same) n e = absurd (let f = is in cc)

-- the feed's bad message --------------------------------------------------------

module _ (R : Rules) (lawful : AreLawful R) (cap : ℕ) (feed : List (List ℕ)) (bytes : AllByRecursion AreBytes feed) where
  abbrev Bad : ℕ → Result Live JoinFault → Type 0
  Bad number result = (cause : Cause) × (result ≡ Err (Halted number cause)) × IsBadAt R feed number cause

  -- an applied message is not the bad one
  fine : (past : List Event) (s : State) (j : Position) (p : List ℕ) → IsKeptUp R feed past s → s.joined ≡ Some j → j.next ≡ bad R feed → slice_get feed (j.next - 1) ≡ Some p → R.refused j.market p ≡ None → ⊥
  fine past s j p k there at deliver none =
      let q = k.placed j there in
      let some : 0 < j.next = omega (arith, q.positive, q.from_first) in
      let none_too : R.refused (market_at R feed j.next) p ≡ None =
      sym (lawful.refused_same j.market (market_at R feed j.next) p q.good (market_good R lawful feed j.next bytes some q.to_bad) q.market) ∙ none in
      let more = bad_next R feed j.next p some q.to_bad deliver none_too in
      omega arith

  next_bad : (past : List Event) (s : State) (j : Position) (number : ℕ) (payload : List ℕ) (taken : Bool) (ps : List (List ℕ)) (ending : Result (Unit {0}) Stopped) (b : Front)
      → IsKeptUp R feed past s → s.joined ≡ Some j → number ≡ j.next → j.next ≡ bad R feed → slice_get feed (j.next - 1) ≡ Some payload
      → Applies R (front_of s j) (Some payload) ps ending b → Bad number (result_by Applied taken ending b.next)
  next_bad past s j number payload taken [] (Ok done) b k there is at deliver (ends, same) = absurd ends
  next_bad past s j number payload taken [] (Err (Refused cause)) b k there is at deliver (ends, same) =
      let q = k.placed j there in
      let found = at_bad R lawful feed bytes j.next j.market payload cause (omega (arith, q.positive, q.from_first)) q.to_bad q.good q.market deliver ends in
      (cause, ap (λ n. Err (Halted n cause)) (ap (λ (f : Front). f.next) same ∙ sym is), subst (λ n. IsBadAt R feed n cause) (sym is) found)
  next_bad past s j number payload taken [] (Err NoMemory) b k there is at deliver (ends, same) = absurd (fine past s j payload k there at deliver ends.0)
  next_bad past s j number payload taken (p ∷ ps) ending b k there is at deliver (first, none, rest) =
      let same : payload ≡ p = cc in absurd (fine past s j p k there at (deliver ∙ ap Some same) none)

  bad_by : (past : List Event) (s : State) (number : ℕ) (payload : List ℕ) (kind : LiveCase) (result : Result Live JoinFault) (now : State) (j : Position)
      → IsKeptUp R feed past s → IsLiveCase cap s number payload kind → LiveBy R cap s number payload kind result now
      → is_number number ≡ true → slice_get feed (number - 1) ≡ Some payload → s.joined ≡ Some j → number ≡ j.next → j.next ≡ bad R feed → Bad number result
  bad_by past s number payload (live.Halted h) result now j k there (answer, same) num deliver joined is at =
      let x = k.halted h there in
      let same : x.position ≡ j = let e = sym x.joined ∙ joined in cc in
      let here : h.number ≡ number = x.number ∙ ap (λ (p : Position). p.next) same ∙ sym is in
      (h.cause, answer ∙ ap (λ n. Err (Halted n h.cause)) here, subst (λ n. IsBadAt R feed n h.cause) here x.at_bad)
  bad_by past s number payload live.BadNumber result now j k (none, off) h num deliver joined is at = absurd (cc)
  bad_by past s number payload live.Old result now j k (none, l, there, below) h num deliver joined is at =
      let same : l ≡ j = let e = sym there ∙ joined in cc in let e = ap (λ (p : Position). p.next) same in absurd (omega arith)
  bad_by past s number payload live.Conflict result now j k (none, w, there, differ) h num deliver joined is at =
      let same : w ≡ payload = let e = sym (k.bytes number w there) ∙ deliver in cc in
      let equal : bytes_eq w payload ≡ true = (bytes_eq-Decides w payload).1 same in absurd (cc)
  bad_by past s number payload live.Next result now j k (none, fit, l, there, here) h num deliver joined is at =
      let goes = subst (λ o. NextBy R s number payload o result now) joined h in
      let b = next_bad past s j number payload (is_some (map.get s.wait j.next) || not (is_empty goes.payloads)) goes.payloads goes.ending goes.front k joined is at
      (subst (λ n. slice_get feed (n - 1) ≡ Some payload) is deliver) goes.applies in
      (b.0, goes.returned ∙ b.1, b.2)
  bad_by past s number payload live.Kept result now j k (none, waits, above) h num deliver joined is at = let over = above j joined in absurd (omega arith)
  bad_by past s number payload live.Full result now j k (none, many, above) h num deliver joined is at = let over = above j joined in absurd (omega arith)
  bad_by past s number payload live.Stored result now j k (none, fit, room, free, above) h num deliver joined is at = let over = above j joined in absurd (omega arith)

  number_is : (n : ℕ) → 0 < n → n < 10 ^ 19 → is_number n ≡ true
  number_is n low high = let one : nat_lt 0 n ≡ true = grind (arith, nat_tests) in let two : nat_lt n (10 ^ 19) ≡ true = grind (arith, nat_tests) in ap (λ b. b && nat_lt n (10 ^ 19)) one ∙ two

  call_right : (past : List Event) (s : State) (call : Call) (now : State) → length feed < 10 ^ 19 → map.len s.wait ≤ cap → IsKeptUp R feed past s → Step R cap s call now → Fits R feed s call
      → IsResultRight R cap feed (record { before = s; call = call }) now
  call_right past s (CallLive number payload result) now short low k step fits = record {
    full = full_by R cap s number payload (live_case cap s number payload) result now low (live_case_is cap s number payload) step;
    bad_halts = λ j joined is at inside.
        let q = k.placed j joined in
        let num = number_is number (omega (arith, q.positive, q.from_first)) (omega arith) in
        bad_by past s number payload (live_case cap s number payload) result now j k (live_case_is cap s number payload) step num (fits num) joined is at;
    halt_stays = halt_stays R cap s (CallLive number payload result) now step;
  }
  call_right past s (CallSnapshot payload result) now short low k step fits = record { full = tt; bad_halts = tt; halt_stays = halt_stays R cap s (CallSnapshot payload result) now step }
  call_right past s CallRestart now short low k step fits = record { full = tt; bad_halts = tt; halt_stays = halt_stays R cap s CallRestart now step }
  call_right past s (CallResume result) now short low k step fits = record { full = tt; bad_halts = tt; halt_stays = halt_stays R cap s (CallResume result) now step }

  pub last_right : (past : List Event) (now : State) → length feed < 10 ^ 19 → History R cap feed past now → LastIsRight R cap feed past now
  last_right [] now short is = tt
  last_right (x ∷ past) now short (step, fits, before) = call_right past x.before x.call now short (at_most R cap past x.before (leads R cap feed past x.before before)) (always R lawful cap feed bytes past x.before before) step fits
