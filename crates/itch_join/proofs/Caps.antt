-- At most `cap` messages are waiting, for any deliveries.
use Rattle.std.proofs.Common.{◌≡◌, ℕ, ◌+◌, ◌≤◌, Bool, true, false, ◌||◌, cond, List, [], ◌∷◌, Option, Some, None, is_some, Result, Ok, Err, ap, ◌∙◌, arith}
use Rattle.std.specs.FinMap as map
use Rattle.std.specs.Ordering.{nat_cmp}
use Rattle.std.specs.Cmp.{nat_cmp_total}
use Rattle.itch_join.specs.declared.fault.JoinFault.{JoinFault}
use Rattle.itch_join.specs.declared.outcome.Live.{Live}
use Rattle.itch_join.specs.declared.outcome.Live.TheVariants.{Applied}
use Rattle.itch_join.specs.declared.outcome.Snap.{Snap}
use Rattle.itch_join.specs.declared.outcome.Snap.TheVariants as snap
use Rattle.itch_join.specs.declared.state.Halt.{Halt}
use Rattle.itch_join.specs.declared.state.LiveCase.{LiveCase}
use Rattle.itch_join.specs.declared.state.LiveCase.TheVariants as live
use Rattle.itch_join.specs.declared.state.Stopped.{Stopped}
use Rattle.itch_join.specs.Positions.{Position}
use Rattle.itch_join.specs.Rules.{Rules}
use Rattle.itch_join.specs.States.{HalfRead, State, unread}
use Rattle.itch_join.specs.Applying.{Front, front_of, advanced, at_hand, Applies, CatchesUp}
use Rattle.itch_join.specs.Steps.{live_case, LiveBy, NextBy, SnapshotCase, SnapHalted, SnapJoined, SnapBroken, SnapFails, SnapEnds, SnapTakes, snapshot_case, SnapshotBy, started, restarted, ResumeBy, Resumes, Call, CallLive, CallSnapshot, CallRestart, CallResume, Step}
use Rattle.itch_join.specs.Deliveries.{Event, LeadsTo, History}
use Rattle.itch_join.proofs.CallCases.{IsLiveCase, live_case_is}
use Rattle.itch_join.proofs.Maps.{len_removed, len_from}

-- an applied message is no longer waiting, and none is added
applied_len : (R : Rules) (a b : Front) (hand : Option (List ℕ)) (ps : List (List ℕ)) (ending : Result (Unit {0}) Stopped) → Applies R a hand ps ending b → map.len b.wait ≤ map.len a.wait
applied_len R a b hand [] ending (ends, is) = let e = ap (λ (f : Front). map.len f.wait) is in omega arith
applied_len R a b hand (p ∷ ps) ending (there, none, rest) =
    let h = applied_len R (advanced R a p) b (at_hand (advanced R a p)) ps ending rest in
    let less = len_removed a.wait a.next in
    omega arith

module _ (R : Rules) (cap : ℕ) where
  -- at most `cap` messages are waiting
  abbrev Has : State → Type 0
  Has s = map.len s.wait ≤ cap

  same_len : (s now : State) → Has s → now ≡ s → Has now
  same_len s now low same = let e = ap (λ (t : State). map.len t.wait) same in omega arith

  caught_len : {T : Type 0} (half : HalfRead) (a : Front) (hand : Option (List ℕ)) (done : ℕ → T) (taken : Bool → Bool) (result : Result T JoinFault) (now : State)
      → map.len a.wait ≤ cap → CatchesUp R half a hand done taken result now → Has now
  caught_len half a hand done taken result now low goes =
      let less = applied_len R a goes.front hand goes.payloads goes.ending goes.applies in
      let e = ap (λ (t : State). map.len t.wait) goes.left in
      omega arith

  next_len : (s : State) (number : ℕ) (payload : List ℕ) (o : Option Position) (result : Result Live JoinFault) (now : State) → Has s → NextBy R s number payload o result now → Has now
  next_len s number payload None result now low h = absurd h
  next_len s number payload (Some j) result now low goes = caught_len s.half (front_of s j) (Some payload) Applied (λ any. is_some (map.get s.wait j.next) || any) result now low goes

  live_len : (s : State) (number : ℕ) (payload : List ℕ) (kind : LiveCase) (result : Result Live JoinFault) (now : State) → Has s → IsLiveCase cap s number payload kind
      → LiveBy R cap s number payload kind result now → Has now
  live_len s number payload (live.Halted h) result now low is (answer, same) = same_len s now low same
  live_len s number payload live.BadNumber result now low is (answer, same) = same_len s now low same
  live_len s number payload live.Old result now low is (answer, same) = same_len s now low same
  live_len s number payload live.Conflict result now low is (answer, same) = same_len s now low same
  live_len s number payload live.Next result now low is h = next_len s number payload s.joined result now low h
  live_len s number payload live.Kept result now low is (answer, same) = same_len s now low same
  live_len s number payload live.Full result now low is (answer, same) = same_len s now low same
  live_len s number payload live.Stored (Ok answer) now low (none, num, room, free, above) (kept, same) =
      let longer : map.len (map.insert s.wait number payload) ≡ map.len s.wait + 1 =
      map.len-insert nat_cmp_total s.wait number payload ∙ ap (λ b. cond b (map.len s.wait) (map.len s.wait + 1)) free in
      let e = ap (λ (t : State). map.len t.wait) same in
      omega arith
  live_len s number payload live.Stored (Err fault) now low is (answer, same) = same_len s now low same

  snapshot_len : (s : State) (payload : List ℕ) (kind : SnapshotCase) (result : Result Snap JoinFault) (now : State) → Has s → SnapshotBy R s payload kind result now → Has now
  snapshot_len s payload (SnapHalted h) result now low (answer, same) = same_len s now low same
  snapshot_len s payload SnapJoined result now low (answer, same) = same_len s now low same
  snapshot_len s payload (SnapBroken place cause) result now low (answer, same) = same_len s now low same
  snapshot_len s payload (SnapFails place cause) result now low (answer, same) = let e = ap (λ (t : State). map.len t.wait) same in omega arith
  snapshot_len s payload (SnapEnds next m) result now low goes =
      let less = len_from s.wait next in
      caught_len unread (started s next m) (at_hand (started s next m)) snap.Joined (λ any. true) result now (omega arith) goes
  snapshot_len s payload (SnapTakes taken m) (Ok answer) now low (more, same) = let e = ap (λ (t : State). map.len t.wait) same in omega arith
  snapshot_len s payload (SnapTakes taken m) (Err fault) now low (memory, takes, same) = same_len s now low same

  restart_len : (s now : State) (o : Option Position) → Has s → now ≡ restarted o s → Has now
  restart_len s now None low same = let e = ap (λ (t : State). map.len t.wait) same in omega arith
  restart_len s now (Some j) low same = same_len s now low same

  resumes_len : (s : State) (o : Option Position) (result : Result (Option ℕ) JoinFault) (now : State) → Has s → Resumes R s o result now → Has now
  resumes_len s None result now low (answer, same) = same_len s now low same
  resumes_len s (Some j) result now low goes = caught_len s.half (front_of s j) (at_hand (front_of s j)) Some (λ any. false) result now low goes

  resume_len : (s : State) (o : Option Halt) (result : Result (Option ℕ) JoinFault) (now : State) → Has s → ResumeBy R s o result now → Has now
  resume_len s (Some h) result now low (answer, same) = same_len s now low same
  resume_len s None result now low h = resumes_len s s.joined result now low h

  step_len : (s : State) (call : Call) (now : State) → Has s → Step R cap s call now → Has now
  step_len s (CallLive number payload result) now low step = live_len s number payload (live_case cap s number payload) result now low (live_case_is cap s number payload) step
  step_len s (CallSnapshot payload result) now low step = snapshot_len s payload (snapshot_case R s payload) result now low step
  step_len s CallRestart now low step = restart_len s now s.joined low step
  step_len s (CallResume result) now low step = resume_len s s.halt result now low step

  pub at_most : (past : List Event) (now : State) → LeadsTo R cap past now → map.len now.wait ≤ cap
  at_most [] now is = let e = ap (λ (t : State). map.len t.wait) is in omega (arith, e, map.len-empty nat_cmp (List ℕ))
  at_most (x ∷ past) now (step, before) = step_len x.before x.call now (at_most past x.before before) step

  -- deliveries of one feed are deliveries
  pub leads : (feed : List (List ℕ)) (past : List Event) (now : State) → History R cap feed past now → LeadsTo R cap past now
  leads feed [] now is = is
  leads feed (x ∷ past) now (step, fits, before) = (step, leads feed past x.before before)
