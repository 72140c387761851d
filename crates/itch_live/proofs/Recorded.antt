-- The record of a feed.
use Rattle.std.proofs.Common.{◌≡◌, ℕ, ◌+◌, ◌-◌, ◌<◌, ◌≤◌, Bool, true, false, cond, List, [], ◌∷◌, ◌++◌, length, take, drop, Option, None, Some, Result, Ok, Err, refl, sym, ap, subst, ◌∙◌, inl, inr, ◌⊎◌, arith, append-nil, slice_get, get_or, length-drop, not, nat_lt, eqb}
use Rattle.std.specs.List.{AllByRecursion}
use Rattle.std.specs.Ordering.{nat_cmp}
use Rattle.std.specs.FinMap as map
use Rattle.std.specs.Io.KnownBytes.{Appends}
use Rattle.std.proofs.lemmas.List.{take_more, get_or-drop}
use Rattle.std.proofs.lemmas.Option.{slice_get_within, get_or_from_slice_get}
use Rattle.itch_codec.specs.Fields.{AreBytes}
use Rattle.itch_frame.specs.Blocks.{block, blocks}
use Rattle.itch_frame.specs.declared.tally.Failures.{Failures}
use Rattle.itch_frame.proofs.Writes.{Appends-same, Appends-block}
use Rattle.itch_market.specs.Content.{Content}
use Rattle.itch_market.specs.Wanted.{Wanted, has}
use Rattle.itch_join.specs.declared.outcome.Live.{Live}
use Rattle.itch_join.specs.declared.outcome.Live.TheVariants as live
use Rattle.itch_join.specs.declared.outcome.Snap.{Snap}
use Rattle.itch_join.specs.declared.outcome.Snap.TheVariants as snap
use Rattle.itch_join.specs.declared.fault.JoinFault.{JoinFault}
use Rattle.itch_join.specs.declared.state.LiveCase.{LiveCase}
use Rattle.itch_join.specs.declared.state.LiveCase.TheVariants as kind
use Rattle.itch_join.specs.declared.state.Stopped.{Stopped}
use Rattle.itch_join.specs.Positions.{Position}
use Rattle.itch_join.specs.Rules.{Rules, rules_of}
use Rattle.itch_join.specs.States.{Wait, State, Joining, is_number, unread}
use Rattle.itch_join.specs.Applying.{Front, front_of, advanced, at_hand, EndsBy, Applies, standing, result_by}
use Rattle.itch_join.specs.Steps.{live_case, LiveBy, NextBy, SnapshotCase, SnapHalted, SnapJoined, SnapBroken, SnapFails, SnapEnds, SnapTakes, snapshot_case, SnapshotBy, started, restarted, Call, CallLive, CallSnapshot, Step}
use Rattle.itch_join.specs.Deliveries.{IsOfFeed, or_else}
use Rattle.itch_join.proofs.CallCases.{IsLiveCase, live_case_is, IsSnapshotCase, snapshot_case_is}
use Rattle.itch_join.proofs.Maps.{get-remove, get-from}
use Rattle.itch_soup.specs.declared.client.ClientAct.{ClientAct}
use Rattle.itch_soup.specs.declared.client.ClientAct.TheVariants as act
use Rattle.itch_live.specs.declared.news.ServerKind.{ServerKind}
use Rattle.itch_live.specs.declared.news.ServerKind.TheVariants as source
use Rattle.itch_live.specs.declared.sessions.Sessions.{Sessions}
use Rattle.itch_live.specs.declared.news.News.{News}
use Rattle.itch_live.specs.Follows.{Following, Calls, Records, ActsOn, HearsFeed, snapshot_news}
use Rattle.itch_live.specs.Feeds.{Did, Connects, Ticks, Replays, Hears, FitsAct, IsHonest, IsJoining, Followed}
use Rattle.itch_live.specs.Records.{IsWritten, IsOneRecord, joined_in, joined_by, first_recorded, between, RecordsUpTo, IsRecord}
use Rattle.itch_live.proofs.Feeds.{joining, stands_joined, positive_next}

-- if nothing waits, no waiting message has this number
no_wait : (w : Wait) (i : ℕ) → map.len w ≤ 0 → map.get w i ≡ None
no_wait w i low =
    let none : map.len w ≡ 0 = omega arith in
    ap (λ (v : Wait). map.get v i) (map.empty_of_len w none) ∙ map.get-empty nat_cmp i

either_none : {X : Type 0} (b : Bool) (o : Option X) → o ≡ None → cond b None o ≡ None
either_none true o h = refl
either_none false o h = h

or_none : {X : Type 0} (b : Bool) (o : Option X) → o ≡ None → cond b o None ≡ None
or_none true o h = h
or_none false o h = refl

none_after : (R : Rules) (a : Front) (p : List ℕ) → map.len a.wait ≤ 0 → at_hand (advanced R a p) ≡ None
none_after R a p low = get-remove a.wait a.next (a.next + 1) ∙ either_none (eqb (a.next + 1) a.next) (map.get a.wait (a.next + 1)) (no_wait a.wait (a.next + 1) low)

none_started : (s : State) (next : ℕ) (m : Content) → map.len s.wait ≤ 0 → at_hand (started s next m) ≡ None
none_started s next m low = get-from s.wait next next ∙ or_none (not (nat_lt next next)) (map.get s.wait next) (no_wait s.wait next low)

abbrev pub IsApplied : Result Live JoinFault → Type 0
IsApplied (Ok (live.Applied next)) = Unit {0}
IsApplied other = ⊥

-- a delivery that does not change the market, and was not applied
pub record Stays (o o' : Option Position) (result : Result Live JoinFault) : Type 0 where
  pub same : o' ≡ o
  pub unapplied : IsApplied result → ⊥

-- a delivery of the next message, the only one that was applied
pub record Moves (o o' : Option Position) (number : ℕ) (result : Result Live JoinFault) : Type 0 where
  pub was : Position
  pub was_is : o ≡ Some was
  pub numbered : number ≡ was.next
  pub is_message : is_number number ≡ true
  pub now : Position
  pub now_is : o' ≡ Some now
  pub next : now.next ≡ was.next + 1
  pub applied : result ≡ Ok (live.Applied now.next)

-- a message of a snapshot that is the End of Snapshot, at whose number the joiner joins
pub record Joins (o o' : Option Position) (result : Result Snap JoinFault) : Type 0 where
  pub apart : o ≡ None
  pub now : Position
  pub now_is : o' ≡ Some now
  pub positive : 0 < now.next
  pub joined : result ≡ Ok (snap.Joined now.next)

abbrev pub IsJoined : Result Snap JoinFault → Type 0
IsJoined (Ok (snap.Joined next)) = Unit {0}
IsJoined other = ⊥

-- a message of a snapshot that does not change the position
pub record Rests (o o' : Option Position) (result : Result Snap JoinFault) : Type 0 where
  pub same : o' ≡ o
  pub unjoined : IsJoined result → ⊥

abbrev pub position_of : Front → Option Position
position_of a = Some (record { next = a.next; market = a.market })

module _ (R : Rules) where
  stays : (s now : State) {result : Result Live JoinFault} {fault : JoinFault} → result ≡ Err fault → now ≡ s → Stays s.joined now.joined result
  stays s now answer same = record { same = ap (λ (t : State). t.joined) same; unapplied = λ is. subst IsApplied answer is }

  by_shape : (s now : State) (number : ℕ) (payload : List ℕ) (result : Result Live JoinFault) (j : Position) (taken : Bool) → map.len s.wait ≤ 0 → s.joined ≡ Some j → number ≡ j.next
      → is_number number ≡ true → (ps : List (List ℕ)) (ending : Result (Unit {0}) Stopped) (b : Front) → Applies R (front_of s j) (Some payload) ps ending b
      → result ≡ result_by live.Applied taken ending b.next → now ≡ standing s.half ending b → Stays s.joined now.joined result ⊎ Moves s.joined now.joined number result
  by_shape s now number payload result j taken low there numbered is [] (Ok done) b (ends, same) returned left = absurd ends
  by_shape s now number payload result j taken low there numbered is [] (Err stopped) b (ends, same) returned left = inl (record {
    same = ap (λ (t : State). t.joined) left ∙ ap (λ (a : Front). position_of a) same ∙ sym there;
    unapplied = λ applied. subst IsApplied returned applied;
  })
  by_shape s now number payload result j taken low there numbered is (q ∷ []) (Ok done) b (hand, none, (ends, same)) returned left = inr (record {
    was = j;
    was_is = there;
    numbered = numbered;
    is_message = is;
    now = record { next = b.next; market = b.market };
    now_is = ap (λ (t : State). t.joined) left;
    next = ap (λ (a : Front). a.next) same;
    applied = returned;
  })
  by_shape s now number payload result j taken low there numbered is (q ∷ []) (Err stopped) b (hand, none, (ends, same)) returned left =
      absurd (subst (λ o. EndsBy R (advanced R (front_of s j) q).market o (Err stopped)) (none_after R (front_of s j) q low) ends)
  by_shape s now number payload result j taken low there numbered is (q ∷ r ∷ ps) ending b (hand, none, (next, more, rest)) returned left =
      let nothing = sym (none_after R (front_of s j) q low) ∙ next in absurd (cc)

  next_moves : (s now : State) (number : ℕ) (payload : List ℕ) (result : Result Live JoinFault) (o : Option Position) → map.len s.wait ≤ 0 → s.joined ≡ o
      → ((j : Position) → s.joined ≡ Some j → number ≡ j.next) → is_number number ≡ true → NextBy R s number payload o result now → Stays s.joined now.joined result ⊎ Moves s.joined now.joined number result
  next_moves s now number payload result None low there numbered is goes = absurd goes
  next_moves s now number payload result (Some j) low there numbered is goes =
      by_shape s now number payload result j _ low there (numbered j there) is goes.payloads goes.ending goes.front goes.applies goes.returned goes.left

  live_moves : (s now : State) (number : ℕ) (payload : List ℕ) (result : Result Live JoinFault) (case : LiveCase) → map.len s.wait ≤ 0 → IsLiveCase 0 s number payload case
      → LiveBy R 0 s number payload case result now → Stays s.joined now.joined result ⊎ Moves s.joined now.joined number result
  live_moves s now number payload result (kind.Halted h) low is (answer, same) = inl (stays s now answer same)
  live_moves s now number payload result kind.BadNumber low is (answer, same) = inl (stays s now answer same)
  live_moves s now number payload result kind.Old low is (answer, same) = inl (record { same = ap (λ (t : State). t.joined) same; unapplied = λ applied. subst IsApplied answer applied })
  live_moves s now number payload result kind.Conflict low is (answer, same) = inl (stays s now answer same)
  live_moves s now number payload result kind.Next low (none, message, j, there, numbered) goes =
      next_moves s now number payload result s.joined low refl (λ i is. let same : j ≡ i = cc in numbered ∙ ap (λ (p : Position). p.next) same) message goes
  live_moves s now number payload result kind.Kept low is (answer, same) = inl (record { same = ap (λ (t : State). t.joined) same; unapplied = λ applied. subst IsApplied answer applied })
  live_moves s now number payload result kind.Full low is (answer, same) = inl (stays s now answer same)
  live_moves s now number payload (Ok outcome) kind.Stored low is (kept, same) = inl (record { same = ap (λ (t : State). t.joined) same; unapplied = λ applied. unkept outcome kept applied }) where
    unkept : (outcome : Live) → outcome ≡ live.Kept → IsApplied (Ok outcome) → ⊥
    unkept outcome kept applied = subst (λ x. IsApplied (Ok x)) kept applied
  live_moves s now number payload (Err fault) kind.Stored low is (refused, same) = inl (record { same = ap (λ (t : State). t.joined) same; unapplied = λ applied. applied })

  ends_so : (s now : State) (result : Result Snap JoinFault) (next : ℕ) (m : Content) (taken : Bool) → map.len s.wait ≤ 0 → s.joined ≡ None → 0 < next → (ps : List (List ℕ)) (ending : Result (Unit {0}) Stopped)
      (b : Front) → Applies R (started s next m) (at_hand (started s next m)) ps ending b → result ≡ result_by snap.Joined taken ending b.next → now ≡ standing unread ending b
      → Joins s.joined now.joined result
  ends_so s now result next m taken low apart some [] (Ok done) b (ends, same) returned left = record {
    apart = apart;
    now = record { next = b.next; market = b.market };
    now_is = ap (λ (t : State). t.joined) left;
    positive = let e = ap (λ (a : Front). a.next) same in omega arith;
    joined = returned;
  }
  ends_so s now result next m taken low apart some [] (Err stopped) b (ends, same) returned left =
      absurd (subst (λ o. EndsBy R m o (Err stopped)) (none_started s next m low) ends)
  ends_so s now result next m taken low apart some (q ∷ ps) ending b (hand, none, rest) returned left =
      let nothing = sym (none_started s next m low) ∙ hand in absurd (cc)

  rests : (s now : State) {result : Result Snap JoinFault} {fault : JoinFault} → result ≡ Err fault → now.joined ≡ s.joined → Rests s.joined now.joined result
  rests s now answer same = record { same = same; unjoined = λ is. subst IsJoined answer is }

  snapshot_moves : (feed : List (List ℕ)) (s now : State) (payload : List ℕ) (result : Result Snap JoinFault) (case : SnapshotCase) → map.len s.wait ≤ 0 → IsSnapshotCase R s payload case
      → IsOfFeed R feed case → SnapshotBy R s payload case result now → Rests s.joined now.joined result ⊎ Joins s.joined now.joined result
  snapshot_moves feed s now payload result (SnapHalted h) low is fits (answer, same) = inl (rests s now answer (ap (λ (t : State). t.joined) same))
  snapshot_moves feed s now payload result SnapJoined low is fits (answer, same) = inl (rests s now answer (ap (λ (t : State). t.joined) same))
  snapshot_moves feed s now payload result (SnapBroken place cause) low is fits (answer, same) = inl (rests s now answer (ap (λ (t : State). t.joined) same))
  snapshot_moves feed s now payload result (SnapFails place cause) low is fits (answer, same) = inl (rests s now answer (ap (λ (t : State). t.joined) same))
  snapshot_moves feed s now payload result (SnapEnds next m) low (none, apart, taken, half) (some, below, rest) goes =
      inr (ends_so s now result next m _ low apart some goes.payloads goes.ending goes.front goes.applies goes.returned goes.left)
  snapshot_moves feed s now payload (Ok outcome) (SnapTakes taken m) low is fits (more, same) =
      inl (record { same = ap (λ (t : State). t.joined) same; unjoined = λ joined. subst (λ x. IsJoined (Ok x)) more joined })
  snapshot_moves feed s now payload (Err fault) (SnapTakes taken m) low is fits (memory, takes, same) =
      inl (record { same = ap (λ (t : State). t.joined) same; unjoined = λ joined. joined })

-- the first recorded message -------------------------------------------------------

or_else_none : (o r : Option ℕ) → r ≡ None → or_else o r ≡ o
or_else_none None r h = h
or_else_none (Some n) r h = refl

module _ {W : Type 0} where
  first_same : (o : Option Position) (did : Did W) (past : List (Did W)) → joined_by did ≡ None → first_recorded o (did ∷ past) ≡ first_recorded o past
  first_same None did past h = or_else_none (first_recorded None past) (joined_by did) h
  first_same (Some j) did past h = refl

  first_kept : (o : Option Position) (did : Did W) (past : List (Did W)) (n : ℕ) → first_recorded o past ≡ Some n → first_recorded o (did ∷ past) ≡ Some n
  first_kept None did past n h = ap (λ x. or_else x (joined_by did)) h
  first_kept (Some j) did past n h = h

  first_joined : (o : Option Position) (did : Did W) (past : List (Did W)) (n : ℕ) → first_recorded o past ≡ None → joined_by did ≡ Some n → first_recorded o (did ∷ past) ≡ Some n
  first_joined None did past n h joins = ap (λ x. or_else x (joined_by did)) h ∙ joins
  first_joined (Some j) did past n h joins = absurd (cc)

-- one more message
pub between_more : (number next : ℕ) (feed : List (List ℕ)) (p : List ℕ) → 0 < number → number ≤ next → slice_get feed (next - 1) ≡ Some p → between number (next + 1) feed ≡ between number next feed ++ p ∷ []
between_more number next feed p some low there =
    let within = slice_get_within feed (next - 1) p there in
    let inside : next - number < length (drop (number - 1) feed) = omega (arith, length-drop (number - 1) feed) in
    let one : next + 1 - number ≡ next - number + 1 = omega arith in
    let at : number - 1 + (next - number) ≡ next - 1 = omega arith in
    ap (λ n. take n (drop (number - 1) feed)) one ∙ take_more (drop (number - 1) feed) (next - number) p inside
    ∙ ap (λ x. take (next - number) (drop (number - 1) feed) ++ x ∷ [])
    (get_or-drop (number - 1) feed (next - number) p ∙ ap (λ n. get_or feed n p) at ∙ get_or_from_slice_get feed (next - 1) p p there)

pub between_none : (n : ℕ) (feed : List (List ℕ)) → between n n feed ≡ []
between_none n feed = let none : n - n ≡ 0 = omega arith in ap (λ k. take k (drop (n - 1) feed)) none

appends_nothing : (o : Option (List ℕ)) → Appends o o []
appends_nothing None = tt
appends_nothing (Some xs) = sym (append-nil xs)

-- a message that was not applied is not recorded
unrecorded : {W : Type 0} (contents : W → Option (List ℕ)) (failures : W → Failures) (payload : List ℕ) (result : Result Live JoinFault) (old new : W) (told : News) → (IsApplied result → ⊥)
    → Records contents failures payload result old told new → (joined_in told ≡ None) × (new ≡ old)
unrecorded contents failures payload (Ok (live.Applied next)) old new told none records = absurd (none tt)
unrecorded contents failures payload (Ok live.Kept) old new told none (is, same) = (ap joined_in is, same)
unrecorded contents failures payload (Ok live.Old) old new told none (is, same) = (ap joined_in is, same)
unrecorded contents failures payload (Err fault) old new told none (is, same) = (ap joined_in is, same)

-- a message that was applied is recorded
recorded : {W : Type 0} (contents : W → Option (List ℕ)) (failures : W → Failures) (payload : List ℕ) (result : Result Live JoinFault) (next : ℕ) (old new : W) (told : News) → result ≡ Ok (live.Applied next)
    → Records contents failures payload result old told new → IsWritten told → (joined_in told ≡ None) × Appends (contents old) (contents new) (block payload)
recorded contents failures payload result next old new told is records written =
    by_case (subst (λ r. Records contents failures payload r old told new) is records) where
      by_case : Records contents failures payload (Ok (live.Applied next)) old told new → (joined_in told ≡ None) × Appends (contents old) (contents new) (block payload)
      by_case (inl (wrote, says)) = (ap joined_in says, wrote.1.0)
      by_case (inr (fault, wrote, says)) = absurd (subst IsWritten says written)

not_joined : (result : Result Snap JoinFault) → (IsJoined result → ⊥) → joined_in (snapshot_news result) ≡ None
not_joined (Ok snap.More) none = refl
not_joined (Ok (snap.Joined next)) none = absurd (none tt)
not_joined (Err fault) none = refl

module _ {W : Type 0} (contents : W → Option (List ℕ)) (failures : W → Failures) (set : Wanted) (feed : List (List ℕ)) (bytes : AllByRecursion AreBytes feed) (begun : Following) (first_record : W) where
  abbrev R : Rules
  R = rules_of (has set)

  abbrev Kept : List (Did W) → Following → W → Type 0
  Kept past f w = IsRecord contents feed begun past first_record f w

  low : (f : Following) → IsJoining set 0 feed f → map.len f.joining.state.wait ≤ 0
  low f j = (stands_joined set 0 feed f bytes j).2.within

  step_of : (f : Following) (joining : Joining) (call : Call) → Calls f.joining call joining → IsJoining set 0 feed f → Step R 0 f.joining.state call joining.state
  step_of f joining call calls j =
      subst (λ c. Step R c f.joining.state call joining.state) j.cap_is (subst (λ s. Step (rules_of (has s)) f.joining.cap f.joining.state call joining.state) j.set_is calls.0)

  -- nothing is recorded, and the position does not change
  unchanged : (past : List (Did W)) (did : Did W) (f g : Following) (old new : W) → joined_by did ≡ None → new ≡ old → g.joining.state.joined ≡ f.joining.state.joined → Kept past f old → Kept (did ∷ past) g new
  unchanged past did f g old new none same stays k =
      subst (λ o. RecordsUpTo contents feed (first_recorded begun.joining.state.joined (did ∷ past)) first_record new o) (sym stays)
      (subst (λ w. RecordsUpTo contents feed (first_recorded begun.joining.state.joined (did ∷ past)) first_record w f.joining.state.joined) (sym same)
      (subst (λ n. RecordsUpTo contents feed n first_record old f.joining.state.joined) (sym (first_same begun.joining.state.joined did past none)) k))

  -- the joiner joins
  joins : (past : List (Did W)) (did : Did W) (f g : Following) (old new : W) (now : Position) → joined_by did ≡ Some now.next → new ≡ old → f.joining.state.joined ≡ None → g.joining.state.joined ≡ Some now
      → 0 < now.next → Kept past f old → Kept (did ∷ past) g new
  joins past did f g old new now says same apart there some k =
      let before = subst (λ o. RecordsUpTo contents feed (first_recorded begun.joining.state.joined past) first_record old o) apart k in
      subst (λ o. RecordsUpTo contents feed (first_recorded begun.joining.state.joined (did ∷ past)) first_record new o) (sym there) (
        now.next,
        first_joined begun.joining.state.joined did past now.next before.0 says,
        some,
        omega arith,
        subst (λ w. Appends (contents first_record) (contents w) (blocks (between now.next now.next feed))) (sym same)
            (Appends-same (contents first_record) (contents old) [] (blocks (between now.next now.next feed)) (ap blocks (sym (between_none now.next feed))) before.1),
      )

  -- the next message is applied and recorded
  moves : (past : List (Did W)) (did : Did W) (f g : Following) (old new : W) (payload : List ℕ) (was now : Position) → joined_by did ≡ None → f.joining.state.joined ≡ Some was
      → g.joining.state.joined ≡ Some now → now.next ≡ was.next + 1 → slice_get feed (was.next - 1) ≡ Some payload → Appends (contents old) (contents new) (block payload) → Kept past f old
      → Kept (did ∷ past) g new
  moves past did f g old new payload was now none there then next is wrote k =
      let before = subst (λ o. RecordsUpTo contents feed (first_recorded begun.joining.state.joined past) first_record old o) there k in
      let number = before.0 in
      subst (λ o. RecordsUpTo contents feed (first_recorded begun.joining.state.joined (did ∷ past)) first_record new o) (sym then) (
        number,
        first_same begun.joining.state.joined did past none ∙ before.1,
        before.2,
        (let within = before.3 in omega arith),
        Appends-same (contents first_record) (contents new) (blocks (between number was.next feed ++ payload ∷ [])) (blocks (between number now.next feed))
            (ap blocks (sym (ap (λ n. between number n feed) next ∙ between_more number was.next feed payload before.2 before.3 is)))
            (Appends-block (contents first_record) (contents old) (contents new) (between number was.next feed) payload before.4 wrote),
      )

  took_snapshot : (past : List (Did W)) (piece : List ℕ) (now : ℕ) (result : ℕ × News) (old new : W) (f g : Following) (payload : List ℕ) (r : Result Snap JoinFault)
      → Step R 0 f.joining.state (CallSnapshot payload r) g.joining.state → AreBytes payload × IsOfFeed R feed (snapshot_case R f.joining.state payload) → IsJoining set 0 feed f
      → result.1 ≡ snapshot_news r → new ≡ old → Kept past f old → Kept (Hears piece now result old new ∷ past) g new
  took_snapshot past piece now result old new f g payload r stepped fits j said same k =
      by_move (snapshot_moves R feed f.joining.state g.joining.state payload r (snapshot_case R f.joining.state payload) (low f j) (snapshot_case_is R f.joining.state payload) fits.1 stepped) where
        by_move : Rests f.joining.state.joined g.joining.state.joined r ⊎ Joins f.joining.state.joined g.joining.state.joined r → Kept (Hears piece now result old new ∷ past) g new
        by_move (inl rest) = unchanged past (Hears piece now result old new) f g old new (ap joined_in said ∙ not_joined r rest.unjoined) same rest.same k
        by_move (inr join) = joins past (Hears piece now result old new) f g old new join.now (ap joined_in said ∙ ap (λ x. joined_in (snapshot_news x)) join.joined) same join.apart join.now_is join.positive k

  took_live : (past : List (Did W)) (piece : List ℕ) (now : ℕ) (result : ℕ × News) (old new : W) (f g : Following) (number : ℕ) (payload : List ℕ) (r : Result Live JoinFault)
      → Step R 0 f.joining.state (CallLive number payload r) g.joining.state → (is_number number ≡ true → slice_get feed (number - 1) ≡ Some payload) → IsJoining set 0 feed f
      → Records contents failures payload r old result.1 new → IsWritten result.1 → Kept past f old → Kept (Hears piece now result old new ∷ past) g new
  took_live past piece now result old new f g number payload r stepped fits j records written k =
      by_move (live_moves R f.joining.state g.joining.state number payload r (live_case 0 f.joining.state number payload) (low f j) (live_case_is 0 f.joining.state number payload) stepped) where
        by_move : Stays f.joining.state.joined g.joining.state.joined r ⊎ Moves f.joining.state.joined g.joining.state.joined number r → Kept (Hears piece now result old new ∷ past) g new
        by_move (inl stay) =
            let u = unrecorded contents failures payload r old new result.1 stay.unapplied records in
            unchanged past (Hears piece now result old new) f g old new u.0 u.1 stay.same k
        by_move (inr move) =
            let w = recorded contents failures payload r move.now.next old new result.1 move.applied records written in
            moves past (Hears piece now result old new) f g old new payload move.was move.now w.0 move.was_is move.now_is move.next
            (subst (λ n. slice_get feed (n - 1) ≡ Some payload) move.numbered (fits move.is_message)) w.1 k

  acted : (past : List (Did W)) (piece : List ℕ) (now : ℕ) (result : ℕ × News) (old new : W) (f g : Following) (from : ServerKind) (answer : ClientAct) → from ≡ f.source
      → ActsOn contents failures from answer f.joining old result.1 new g.joining → FitsAct R feed (record f { source = from }) answer → IsJoining set 0 feed f → IsWritten result.1
      → Kept past f old → Kept (Hears piece now result old new ∷ past) g new
  acted past piece now result old new f g from (act.Accepted next) is (said, same, stays) fits j written k = unchanged past (Hears piece now result old new) f g old new (ap joined_in said) same (ap (λ x. x.state.joined) stays) k
  acted past piece now result old new f g from (act.Rejected code) is (said, same, stays) fits j written k = unchanged past (Hears piece now result old new) f g old new (ap joined_in said) same (ap (λ x. x.state.joined) stays) k
  acted past piece now result old new f g source.Glimpse (act.Data number payload) is ((r, calls, said), same) fits j written k =
      took_snapshot past piece now result old new f g payload r (step_of f g.joining (CallSnapshot payload r) calls j) fits j said same k
  acted past piece now result old new f g source.Live (act.Data number payload) is (r, calls, records) fits j written k =
      took_live past piece now result old new f g number payload r (step_of f g.joining (CallLive number payload r) calls j) fits j records written k
  acted past piece now result old new f g from act.Nothing is (said, same, stays) fits j written k = unchanged past (Hears piece now result old new) f g old new (ap joined_in said) same (ap (λ x. x.state.joined) stays) k
  acted past piece now result old new f g from act.Ended is (said, same, stays) fits j written k = unchanged past (Hears piece now result old new) f g old new (ap joined_in said) same (ap (λ x. x.state.joined) stays) k
  acted past piece now result old new f g from (act.Fault fault) is (said, same, stays) fits j written k = unchanged past (Hears piece now result old new) f g old new (ap joined_in said) same (ap (λ x. x.state.joined) stays) k

  heard : (past : List (Did W)) (piece : List ℕ) (now : ℕ) (result : ℕ × News) (old new : W) (f g : Following) → HearsFeed contents failures f piece now old result new g
      → IsHonest {W = W} R feed f (Hears piece now result old new) → IsJoining set 0 feed f → IsWritten result.1 → Kept past f old → Kept (Hears piece now result old new ∷ past) g new
  heard past piece now result old new f g (held, took, inl (payload, block, (answer, named, t, means, inl (other, is, (says, shut, same, still))), from, none)) honest j written k =
      unchanged past (Hears piece now result old new) f g old new (ap (λ (x : News × Sessions). joined_in x.0) says) same (ap (λ x. x.state.joined) still) k
  heard past piece now result old new f g (held, took, inl (payload, block, (answer, named, t, means, inr (own, goes, (acts, pins))), from, none)) honest j written k =
      acted past piece now result old new f g f.source answer refl acts (honest held payload answer named t took block means) j written k
  heard past piece now result old new f g (held, took, inr (none, said, same, is)) honest j written k =
      unchanged past (Hears piece now result old new) f g old new (ap joined_in said) same (ap (λ x. x.joining.state.joined) is) k

  -- the record when the calls began
  began : (o : Option Position) → ((j : Position) → o ≡ Some j → 0 < j.next) → RecordsUpTo contents feed (first_recorded {W = W} o []) first_record first_record o
  began None positive = (refl, appends_nothing (contents first_record))
  began (Some j) positive =
      (j.next, refl, positive j refl, omega arith, Appends-same (contents first_record) (contents first_record) [] (blocks (between j.next j.next feed)) (ap blocks (sym (between_none j.next feed))) (appends_nothing (contents first_record)))

  restarted_joined : (o : Option Position) (s : State) → (restarted o s).joined ≡ s.joined
  restarted_joined None s = refl
  restarted_joined (Some j) s = refl

  pub all_recorded : IsJoining set 0 feed begun → (past : List (Did W)) (f : Following) (w : W) → Followed contents failures R feed begun past f → IsOneRecord first_record past w → Kept past f w
  all_recorded j [] f w is one =
      subst (λ w. Kept [] f w) (sym one) (subst (λ x. Kept [] x first_record) (sym is)
      (began begun.joining.state.joined (λ p there. positive_next set 0 feed begun bytes j p there)))
  all_recorded j (Connects credentials now ∷ past) f w (e, is, honest, before) one =
      unchanged past (Connects credentials now) e f w w refl refl (ap (λ x. x.joining.state.joined) is ∙ restarted_joined e.joining.state.joined e.joining.state) (all_recorded j past e w before one)
  all_recorded j (Ticks now ∷ past) f w (e, is, honest, before) one =
      unchanged past (Ticks now) e f w w refl refl (ap (λ x. x.joining.state.joined) is) (all_recorded j past e w before one)
  all_recorded j (Replays number payload result ∷ past) f w (e, step, honest, before) one = absurd one
  all_recorded j (Hears piece now result old new ∷ past) f w (e, hears, honest, before) (is, written, one) =
      subst (λ w. Kept (Hears piece now result old new ∷ past) f w) (sym is)
      (heard past piece now result old new e f hears honest (joining contents failures set 0 feed begun past e j before) written (all_recorded j past e old before one))
