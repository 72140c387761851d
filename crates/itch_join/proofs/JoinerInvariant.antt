-- The properties of a joiner that each call preserves.
use Rattle.std.proofs.Common.{◌≡◌, ℕ, ◌+◌, ◌-◌, ◌==◌, ◌<◌, ◌≤◌, nat_lt, nat_le, Bool, true, false, not, ◌&&◌, ◌||◌, cond, List, [], ◌∷◌, Option, Some, None, is_some, slice_get, Result, Ok, Err, refl, sym, ap, ◌∙◌, subst, arith, eqb, ◌⊎◌, inl, inr}
use Rattle.std.specs.List.{AllByRecursion}
use Rattle.std.specs.FinMap as map
use Rattle.std.proofs.lemmas.Bool.Decides.{nat_tests}
use Rattle.itch_codec.specs.Fields.{AreBytes}
use Rattle.itch_market.specs.Content.{Content}
use Rattle.itch_market.specs.GoodMarkets.{IsGood}
use Rattle.itch_market.specs.SameMarkets.{Same}
use Rattle.itch_market.proofs.GoodMarkets.{empty_good}
use Rattle.itch_join.specs.declared.fault.Cause.{Cause}
use Rattle.itch_join.specs.declared.outcome.Live.{Live}
use Rattle.itch_join.specs.declared.outcome.Live.TheVariants.{Kept, Applied}
use Rattle.itch_join.specs.declared.outcome.Snap.TheVariants as snap
use Rattle.itch_join.specs.declared.fault.JoinFault.{JoinFault}
use Rattle.itch_join.specs.declared.fault.JoinFault.TheVariants.{Halted, OutOfMemory}
use Rattle.itch_join.specs.declared.state.Halt.{Halt}
use Rattle.itch_join.specs.declared.state.Stopped.{Stopped}
use Rattle.itch_join.specs.declared.state.Stopped.TheVariants.{Refused, NoMemory}
use Rattle.itch_join.specs.Positions.{Position}
use Rattle.itch_join.specs.Rules.{Rules, AreLawful, bad}
use Rattle.itch_join.specs.States.{Wait, State, HalfRead, Reading, Broken, unread}
use Rattle.itch_join.specs.Applying.{Front, front_of, advanced, at_hand, EndsBy, Applies, halt_of, standing, result_by, is_empty}
use Rattle.itch_join.specs.Steps.{started, SnapEnds, snapshot_case, Call, CallLive, CallSnapshot, CallResume}
use Rattle.itch_join.specs.Deliveries.{Event, is_taken, accepts, accepted, start_by, start_of, or_else, start, settling, by_fault, by_live_fault, or_last, settled}
use Rattle.itch_join.specs.Stands.{is_from, IsBadAt, IsHaltedAt}
use Rattle.itch_join.proofs.Maps.{get-from}
use Rattle.itch_market.proofs.Maps.{get-insert}
use Rattle.itch_join.proofs.AppliedMessages.{counted}
use Rattle.itch_join.proofs.Feeds.{market_at, market_good, bad_here}
use Rattle.itch_join.proofs.Fronts.{Going, Ended, move, go_on, some_is}
use Rattle.itch_join.proofs.CallCases.{IsAbove}

pub or_right : (a b : Bool) → b ≡ true → (a || b) ≡ true
or_right true b h = refl
or_right false b h = h

pub or_cases : (a b : Bool) → (a || b) ≡ true → (a ≡ true) ⊎ (b ≡ true)
or_cases true b h = inl refl
or_cases false b h = inr h

pub and_first : (a b : Bool) → (a && b) ≡ true → a ≡ true
and_first true b h = refl
and_first false b h = cc

pub and_second : (a b : Bool) → (a && b) ≡ true → b ≡ true
and_second true b h = h
and_second false b h = cc

-- a fault that does not determine whether any message could be applied
pub unheard : (o : Option Position) (number : ℕ) (fault : JoinFault) → by_fault fault ≡ None → by_live_fault o number fault ≡ None
unheard None number fault none = refl
unheard (Some j) number fault none = by_test (number == j.next) where
  by_test : (b : Bool) → cond b (by_fault fault) None ≡ None
  by_test true = none
  by_test false = refl

abbrev pub HalfIsGood : HalfRead → Type 0
HalfIsGood (Reading taken m) = IsGood m
HalfIsGood (Broken place cause) = Unit {0}

pub record IsPositioned (R : Rules) (feed : List (List ℕ)) (past : List Event) (s : State) (j : Position) : Type 0 where
  pub first : ℕ
  pub is_start : start R past ≡ Some first
  pub positive : 0 < first
  pub from_first : first ≤ j.next
  pub to_bad : j.next ≤ bad R feed
  pub good : IsGood j.market
  pub market : Same j.market (market_at R feed j.next)
  pub low : (i : ℕ) (p : List ℕ) → map.get s.wait i ≡ Some p → j.next ≤ i
  pub before : s.halt ≡ None → (i : ℕ) → first ≤ i → i < j.next → accepted i past ≡ true
  pub gap : s.halt ≡ None → settled past ≡ true → map.get s.wait j.next ≡ None

pub record IsKeptUp (R : Rules) (feed : List (List ℕ)) (past : List Event) (s : State) : Type 0 where
  pub bytes : (i : ℕ) (p : List ℕ) → map.get s.wait i ≡ Some p → slice_get feed (i - 1) ≡ Some p
  pub was_taken : (i : ℕ) (p : List ℕ) → map.get s.wait i ≡ Some p → accepted i past ≡ true
  pub kept : s.halt ≡ None → (i : ℕ) → accepted i past ≡ true → is_from s.joined i ≡ true → is_some (map.get s.wait i) ≡ true
  pub placed : (j : Position) → s.joined ≡ Some j → IsPositioned R feed past s j
  pub halted : (h : Halt) → s.halt ≡ Some h → IsHaltedAt R feed s h
  pub half : HalfIsGood s.half

-- the history with one more call
abbrev pub then_call : State → Call → List Event → List Event
then_call s call past = let x : Event = record { before = s; call = call } in x ∷ past

module _ (R : Rules) (lawful : AreLawful R) (feed : List (List ℕ)) (bytes : AllByRecursion AreBytes feed) where
  abbrev Keeps : List Event → State → Type 0
  Keeps past s = IsKeptUp R feed past s

  -- a call that does not change the waiting messages or the next number
  pub stay : (past : List Event) (s : State) (call : Call) (h : HalfRead) → Keeps past s → HalfIsGood h → start_of R s call ≡ None
      → ((i : ℕ) → accepts i call ≡ true → is_from s.joined i ≡ true → accepted i past ≡ true)
      → (s.halt ≡ None → settled (then_call s call past) ≡ true → settled past ≡ true)
      → Keeps (then_call s call past) (record s { half = h })
  stay past s call h k fine starts accepting calm = record {
    bytes = k.bytes;
    was_taken = λ i p there. or_right (accepts i call) (accepted i past) (k.was_taken i p there);
    kept = λ none i acc from. elim (or_cases (accepts i call) (accepted i past) acc) [
      | inl now ↦ k.kept none i (accepting i now from) from
      | inr then ↦ k.kept none i then from
    ];
    placed = λ j is. let q = k.placed j is in record {
      first = q.first;
      is_start = ap (λ o. or_else o (start R past)) starts ∙ q.is_start;
      positive = q.positive;
      from_first = q.from_first;
      to_bad = q.to_bad;
      good = q.good;
      market = q.market;
      low = q.low;
      before = λ none i lo hi. or_right (accepts i call) (accepted i past) (q.before none i lo hi);
      gap = λ none set. q.gap none (calm none set);
    };
    halted = λ x is. let q = k.halted x is in record { position = q.position; joined = q.joined; number = q.number; at_bad = q.at_bad };
    half = fine;
  }

  -- a next message that is refused is the feed's first bad one
  pub at_bad : (n : ℕ) (m : Content) (p : List ℕ) (cause : Cause) → 0 < n → n ≤ bad R feed → IsGood m → Same m (market_at R feed n) → slice_get feed (n - 1) ≡ Some p
      → R.refused m p ≡ Some cause → IsBadAt R feed n cause
  at_bad n m p cause some low good same there is =
      let fine = market_good R lawful feed n bytes some low in
      let too : R.refused (market_at R feed n) p ≡ Some cause = sym (lawful.refused_same m (market_at R feed n) p good fine same) ∙ is in
      record { is_bad = bad_here R feed n p cause some low there too; payload = p; there = there; refused = too }

  -- the end of applying
  pub finish : (past : List Event) (s : State) (call : Call) (half : HalfRead) (taken : ℕ → Bool) (first : ℕ) (ending : Result (Unit {0}) Stopped) (b : Front)
      → Ended R lawful feed bytes taken first ending b → HalfIsGood half → start R (then_call s call past) ≡ Some first
      → ((i : ℕ) → b.next ≤ i → taken i ≡ true → accepted i (then_call s call past) ≡ true)
      → (halt_of ending b.next ≡ None → (i : ℕ) → taken i ≡ true → accepted i (then_call s call past) ≡ true)
      → ((i : ℕ) → accepted i (then_call s call past) ≡ true → taken i ≡ true)
      → (ending ≡ Err NoMemory → settled (then_call s call past) ≡ false)
      → Keeps (then_call s call past) (standing half ending b)
  finish past s call half taken first ending b e fine starts up all_up down unsettled =
      let g = e.going in
      let here : Position = record { next = b.next; market = b.market } in
      let placed_here : IsPositioned R feed (then_call s call past) (standing half ending b) here = record {
        first = first;
        is_start = starts;
        positive = g.positive;
        from_first = g.from_first;
        to_bad = g.to_bad;
        good = g.good;
        market = g.market;
        low = g.low;
        before = λ none i lo hi. all_up none i (g.before i lo hi);
        gap = λ none set. gap_here ending e.ends none (λ is. let off = unsettled is in cc);
      } in
      record {
        bytes = g.bytes;
        was_taken = λ i p there. up i (g.low i p there) (g.was_taken i p there);
        kept = λ none i acc from. let low : b.next ≤ i = grind (arith, nat_tests) in g.kept i low (down i acc);
        placed = λ j is. let same : here ≡ j = cc in subst (IsPositioned R feed (then_call s call past) (standing half ending b)) same placed_here;
        halted = λ h is. halted_here ending (at_hand b) refl e.ends h is;
        half = fine;
      }
    where
      gap_here : (ending : Result (Unit {0}) Stopped) → EndsBy R b.market (at_hand b) ending → halt_of ending b.next ≡ None → (ending ≡ Err NoMemory → ⊥) → at_hand b ≡ None
      gap_here (Ok done) ends none other = by_hand (at_hand b) refl ends where
        by_hand : (hand : Option (List ℕ)) → at_hand b ≡ hand → EndsBy R b.market hand (Ok done) → at_hand b ≡ None
        by_hand None is ends = is
        by_hand (Some p) is ends = absurd ends
      gap_here (Err (Refused cause)) ends none other = absurd (cc)
      gap_here (Err NoMemory) ends none other = absurd (other refl)

      halted_here : (end : Result (Unit {0}) Stopped) (hand : Option (List ℕ)) → at_hand b ≡ hand → EndsBy R b.market hand end → (h : Halt) → halt_of end b.next ≡ Some h
          → IsHaltedAt R feed (standing half ending b) h
      halted_here (Ok done) hand is ends h stops = absurd (cc)
      halted_here (Err NoMemory) hand is ends h stops = absurd (cc)
      halted_here (Err (Refused cause)) None is ends h stops = absurd ends
      halted_here (Err (Refused cause)) (Some p) is ends h stops =
          let g = e.going in
          let x : Halt = record { number = b.next; cause = cause } in
          let same : x ≡ h = cc in
          subst (IsHaltedAt R feed (standing half ending b)) same
          (record {
            position = record { next = b.next; market = b.market };
            joined = refl;
            number = refl;
            at_bad = at_bad b.next b.market p cause (omega (arith, g.positive, g.from_first)) g.to_bad g.good g.market (g.bytes b.next p is) ends;
          })

  -- no delivery counts as taken by the result
  pub untaken : (number i : ℕ) (taken : Bool) (b : Bool) → taken ≡ false → ((number == i) && taken) ≡ true → b ≡ true
  untaken number i taken b off h = let is = and_second (number == i) taken h in absurd (cc)

  -- a delivery that is not taken and that changes nothing
  pub refuse_live : (past : List Event) (s : State) (number : ℕ) (payload : List ℕ) (fault : JoinFault) → Keeps past s → is_taken (Err fault) ≡ false
      → (s.halt ≡ None → settling s (CallLive number payload (Err fault)) ≡ None) → Keeps (then_call s (CallLive number payload (Err fault)) past) s
  refuse_live past s number payload fault k off silent =
      stay past s (CallLive number payload (Err fault)) s.half k k.half refl (λ i h from. untaken number i (is_taken (Err fault)) (accepted i past) off h)
      (λ none set. subst (λ o. or_last o (settled past) ≡ true) (silent none) set)

  -- the delivered message is the next, and applying ends with this result
  pub next_at : (past : List Event) (s : State) (j : Position) (number : ℕ) (payload : List ℕ) (ps : List (List ℕ)) (ending : Result (Unit {0}) Stopped) (b : Front)
      → Keeps past s → s.halt ≡ None → s.joined ≡ Some j → number ≡ j.next → slice_get feed (number - 1) ≡ Some payload
      → Applies R (front_of s j) (Some payload) ps ending b
      → Keeps (then_call s (CallLive number payload (result_by Applied (is_some (map.get s.wait j.next) || not (is_empty ps)) ending b.next)) past) (standing s.half ending b)
  next_at past s j number payload [] (Ok done) b k none there is deliver (ends, same) = absurd ends
  next_at past s j number payload [] (Err (Refused cause)) b k none there is deliver (ends, same) =
      let q = k.placed j there in
      let result : Result Live JoinFault = Err (Halted b.next cause) in
      let call = CallLive number payload result in
      let here : slice_get feed (j.next - 1) ≡ Some payload = subst (λ n. slice_get feed (n - 1) ≡ Some payload) is deliver in
      let bad_here = at_bad j.next j.market payload cause (omega (arith, q.positive, q.from_first)) q.to_bad q.good q.market here ends in
      let x : Halt = record { number = j.next; cause = cause } in
      let now : State = standing s.half (Err (Refused cause)) (front_of s j) in
      let placed_here : IsPositioned R feed (then_call s call past) now j = record {
        first = q.first;
        is_start = q.is_start;
        positive = q.positive;
        from_first = q.from_first;
        to_bad = q.to_bad;
        good = q.good;
        market = q.market;
        low = q.low;
        before = λ halts. absurd (cc);
        gap = λ halts. absurd (cc);
      } in
      subst (λ (f : Front). Keeps (then_call s call past) (standing s.half (Err (Refused cause)) f)) (sym same)
      (record {
        bytes = k.bytes;
        was_taken = λ i p has. or_right (accepts i call) (accepted i past) (k.was_taken i p has);
        kept = λ halts. absurd (cc);
        placed = λ l at. let e : j ≡ l = cc in subst (IsPositioned R feed (then_call s call past) now) e placed_here;
        halted = λ h at. let e : x ≡ h = cc in subst (IsHaltedAt R feed now) e (record { position = j; joined = refl; number = refl; at_bad = bad_here });
        half = k.half;
      })
  next_at past s j number payload [] (Err NoMemory) b k none there is deliver (ends, same) =
      let had = is_some (map.get s.wait j.next) in
      let call = CallLive number payload (Err (OutOfMemory (had || false))) in
      let back : s ≡ standing s.half (Err NoMemory) b =
      (λ i. record { wait = s.wait; half = s.half; joined = there i; halt = none i }) ∙ ap (standing s.half (Err NoMemory)) (sym same) in
      subst (Keeps (then_call s call past)) back
      (stay past s call s.half k k.half refl
      (λ i h from.
      let at : number ≡ i = let e = and_first (number == i) (had || false) h in grind (arith, nat_tests) in
      elim (or_cases had false (and_second (number == i) (had || false) h)) [
        | inl has ↦ let x = some_is (map.get s.wait j.next) has in subst (λ n. accepted n past ≡ true) (sym is ∙ at) (k.was_taken j.next x.0 x.1)
        | inr off ↦ absurd (cc)
      ])
      (λ halts set. absurd (let off = unsettled_live s j number (had || false) (settled past) there is in cc)))
    where
      unsettled_live : (s : State) (j : Position) (number : ℕ) (taken rest : Bool) → s.joined ≡ Some j → number ≡ j.next
          → or_last (by_live_fault s.joined number (OutOfMemory taken)) rest ≡ false
      unsettled_live s j number taken rest there is =
          let same : (number == j.next) ≡ true = grind (arith, nat_tests) in
          ap (λ o. or_last (by_live_fault o number (OutOfMemory taken)) rest) there ∙ ap (λ t. or_last (cond t (Some false) None) rest) same
  next_at past s j number payload (p ∷ ps) ending b k none there is deliver (first, fine, rest) =
      let q = k.placed j there in
      let taken : ℕ → Bool = λ i. (number == i) || accepted i past in
      let has : Bool = is_some (map.get s.wait j.next) in
      let result : Result Live JoinFault = result_by Applied (has || true) ending b.next in
      let call = CallLive number payload result in
      let same : payload ≡ p = cc in
      let here : slice_get feed (j.next - 1) ≡ Some p = subst (λ n. slice_get feed (n - 1) ≡ Some payload) is deliver ∙ ap Some same in
      let itself : (number == j.next) ≡ true = grind (arith, nat_tests) in
      let start_front : Going R feed taken q.first (j.next + 1) (front_of s j) = record {
        bytes = k.bytes;
        low = q.low;
        was_taken = λ i x at. or_right (number == i) (accepted i past) (k.was_taken i x at);
        before = λ i lo hi. or_right (number == i) (accepted i past) (q.before none i lo hi);
        kept = λ i lo was. elim (or_cases (number == i) (accepted i past) was) [
          | inl eq ↦ let e : number ≡ i = grind (arith, nat_tests) in absurd (omega arith)
          | inr old ↦ k.kept none i old (ap (λ o. is_from o i) there ∙ (let up : nat_le j.next i ≡ true = grind (arith, nat_tests) in up))
        ];
        positive = q.positive;
        from_first = q.from_first;
        to_bad = q.to_bad;
        good = q.good;
        market = q.market;
      } in
      let moved_on = move R lawful feed bytes taken q.first (j.next + 1) (front_of s j) p start_front (omega arith) here (ap (λ t. t || accepted j.next past) itself) fine in
      let ended = go_on R lawful feed bytes taken q.first (advanced R (front_of s j) p) b ps ending moved_on rest in
      let far = counted R (advanced R (front_of s j) p) b (at_hand (advanced R (front_of s j) p)) ps ending rest in
      finish past s call s.half taken q.first ending b ended k.half q.is_start
      (λ i lo was. elim (or_cases (number == i) (accepted i past) was) [
        | inl eq ↦ let e : number ≡ i = grind (arith, nat_tests) in absurd (omega arith)
        | inr old ↦ or_right (accepts i call) (accepted i past) old
      ])
      (λ running i was. elim (or_cases (number == i) (accepted i past) was) [
        | inl eq ↦ let ok : is_taken result ≡ true = answered has ending b.next running in
            ap (λ t. (t && is_taken result) || accepted i past) eq ∙ ap (λ t. t || accepted i past) ok
        | inr old ↦ or_right (accepts i call) (accepted i past) old
      ])
      (λ i acc. elim (or_cases (accepts i call) (accepted i past) acc) [
        | inl now ↦ ap (λ t. t || accepted i past) (and_first (number == i) (is_taken result) now)
        | inr old ↦ or_right (number == i) (accepted i past) old
      ])
      (λ memory. ap (λ e. settled (then_call s (CallLive number payload (result_by Applied (has || true) e b.next)) past)) memory
      ∙ ap (λ o. or_last (by_live_fault o number (OutOfMemory (has || true))) (settled past)) there ∙ ap (λ t. or_last (cond t (Some false) None) (settled past)) itself)
    where
      answered : (has : Bool) (ending : Result (Unit {0}) Stopped) (next : ℕ) → halt_of ending next ≡ None → is_taken (result_by Applied (has || true) ending next) ≡ true
      answered has (Ok done) next running = refl
      answered has (Err (Refused cause)) next running = absurd (cc)
      answered has (Err NoMemory) next running = or_right has true refl

  -- the delivered message is stored
  pub store_at : (past : List Event) (s : State) (number : ℕ) (payload : List ℕ) → Keeps past s → s.halt ≡ None → slice_get feed (number - 1) ≡ Some payload → IsAbove s number
      → Keeps (then_call s (CallLive number payload (Ok Kept)) past) (record s { wait = map.insert s.wait number payload })
  store_at past s number payload k none deliver above =
      let call = CallLive number payload (Ok Kept) in
      let w : Wait = map.insert s.wait number payload in
      let now : State = record s { wait = w } in
      let at = get-insert s.wait number payload in
      record {
        bytes = λ i p has. by_key i p (eqb i number) refl (sym (at i) ∙ has) (λ e same. subst (λ n. slice_get feed (n - 1) ≡ Some p) (sym e) (deliver ∙ ap Some same)) (k.bytes i p);
        was_taken = λ i p has. by_key i p (eqb i number) refl (sym (at i) ∙ has)
            (λ e same. let is : (number == i) ≡ true = grind (arith, nat_tests) in ap (λ t. (t && true) || accepted i past) is)
            (λ old. or_right (accepts i call) (accepted i past) (k.was_taken i p old));
        kept = λ halts i acc from. elim (or_cases (accepts i call) (accepted i past) acc) [
          | inl now ↦ let e = and_first (number == i) true now in let is : eqb i number ≡ true = grind (arith, nat_tests) in ap is_some (at i ∙ ap (λ b. cond b (Some payload) (map.get s.wait i)) is)
          | inr old ↦ ap is_some (at i) ∙ still (eqb i number) payload (map.get s.wait i) (k.kept none i old from)
        ];
        placed = λ j is. let q = k.placed j is in let over = above j is in record {
          first = q.first;
          is_start = q.is_start;
          positive = q.positive;
          from_first = q.from_first;
          to_bad = q.to_bad;
          good = q.good;
          market = q.market;
          low = λ i p has. by_key i p (eqb i number) refl (sym (at i) ∙ has) (λ e same. omega arith) (q.low i p);
          before = λ halts i lo hi. or_right (accepts i call) (accepted i past) (q.before none i lo hi);
          gap = λ halts set. let off : eqb j.next number ≡ false = grind (arith, nat_tests) in at j.next ∙ ap (λ b. cond b (Some payload) (map.get s.wait j.next)) off ∙ q.gap none set;
        };
        halted = λ h is. absurd (cc);
        half = k.half;
      }
    where
      by_key : {P : Type 0} (i : ℕ) (p : List ℕ) (b : Bool) → eqb i number ≡ b → cond b (Some payload) (map.get s.wait i) ≡ Some p → (i ≡ number → payload ≡ p → P) → (map.get s.wait i ≡ Some p → P) → P
      by_key i p true e has one other = one (grind (arith, nat_tests)) (cc)
      by_key i p false e has one other = other has

      still : (b : Bool) (p : List ℕ) (o : Option (List ℕ)) → is_some o ≡ true → is_some (cond b (Some p) o) ≡ true
      still true p o is = refl
      still false p o is = is

  -- End of Snapshot is taken, and applying ends with this result
  pub end_at : (past : List Event) (s : State) (payload : List ℕ) (next taken : ℕ) (m : Content) (ps : List (List ℕ)) (ending : Result (Unit {0}) Stopped) (b : Front)
      → Keeps past s → s.halt ≡ None → s.joined ≡ None → s.half ≡ Reading taken m → snapshot_case R s payload ≡ SnapEnds next m
      → 0 < next → next ≤ bad R feed → Same m (market_at R feed next)
      → Applies R (started s next m) (at_hand (started s next m)) ps ending b
      → Keeps (then_call s (CallSnapshot payload (result_by snap.Joined true ending b.next)) past) (standing unread ending b)
  end_at past s payload next count m ps ending b k none apart half kind some low same applies =
      let at = get-from s.wait next in
      let call = CallSnapshot payload (result_by snap.Joined true ending b.next) in
      let g : Going R feed (λ i. accepted i past) next next (started s next m) = record {
        bytes = λ i p has. k.bytes i p (by_key i p (nat_lt i next) refl (sym (at i) ∙ has)).0;
        low = λ i p has. (by_key i p (nat_lt i next) refl (sym (at i) ∙ has)).1;
        was_taken = λ i p has. k.was_taken i p (by_key i p (nat_lt i next) refl (sym (at i) ∙ has)).0;
        before = λ i lo hi. absurd (omega arith);
        kept = λ i lo was. let off : nat_lt i next ≡ false = grind (arith, nat_tests) in
            ap is_some (at i ∙ ap (λ t. cond (not t) (map.get s.wait i) None) off) ∙ k.kept none i was (ap (λ o. is_from o i) apart);
        positive = some;
        from_first = omega arith;
        to_bad = low;
        good = subst HalfIsGood half k.half;
        market = same;
      } in
      finish past s call unread (λ i. accepted i past) next ending b
      (go_on R lawful feed bytes (λ i. accepted i past) next (started s next m) b ps ending g applies)
      empty_good
      (ap (λ l. or_else (start_by l) (start R past)) kind)
      (λ i lo was. was)
      (λ running i was. was)
      (λ i acc. acc)
      (λ memory. ap (λ e. settled (then_call s (CallSnapshot payload (result_by snap.Joined true e b.next)) past)) memory)
    where
      by_key : (i : ℕ) (p : List ℕ) (t : Bool) → nat_lt i next ≡ t → cond (not t) (map.get s.wait i) None ≡ Some p → (map.get s.wait i ≡ Some p) × (next ≤ i)
      by_key i p true e has = absurd (cc)
      by_key i p false e has = (has, grind (arith, nat_tests))

  -- the waiting messages are applied
  pub resume_at : (past : List Event) (s : State) (j : Position) (ps : List (List ℕ)) (ending : Result (Unit {0}) Stopped) (b : Front)
      → Keeps past s → s.halt ≡ None → s.joined ≡ Some j → Applies R (front_of s j) (at_hand (front_of s j)) ps ending b
      → Keeps (then_call s (CallResume (result_by Some false ending b.next)) past) (standing s.half ending b)
  resume_at past s j ps ending b k none there applies =
      let q = k.placed j there in
      let g : Going R feed (λ i. accepted i past) q.first j.next (front_of s j) = record {
        bytes = k.bytes;
        low = q.low;
        was_taken = k.was_taken;
        before = q.before none;
        kept = λ i lo was. k.kept none i was (ap (λ o. is_from o i) there ∙ (let up : nat_le j.next i ≡ true = grind (arith, nat_tests) in up));
        positive = q.positive;
        from_first = q.from_first;
        to_bad = q.to_bad;
        good = q.good;
        market = q.market;
      } in
      finish past s (CallResume (result_by Some false ending b.next)) s.half (λ i. accepted i past) q.first ending b
      (go_on R lawful feed bytes (λ i. accepted i past) q.first (front_of s j) b ps ending g applies)
      k.half q.is_start
      (λ i lo was. was)
      (λ running i was. was)
      (λ i acc. acc)
      (λ memory. ap (λ e. settled (then_call s (CallResume (result_by Some false e b.next)) past)) memory)
