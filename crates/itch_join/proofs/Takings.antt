-- The effect of a message of the feed on a joiner that has joined and has no waiting messages.
use Rattle.std.proofs.Common.{◌≡◌, ℕ, ◌+◌, ◌^◌, ◌<◌, ◌≤◌, ◌==◌, Bool, true, false, cond, nat_le, List, [], ◌∷◌, Option, Some, None, is_some, Result, Ok, Err, refl, sym, ap, ◌∙◌, subst, inl, inr, arith}
use Rattle.std.proofs.lemmas.Bool.Decides.{nat_tests}
use Rattle.std.specs.Option.{option_map}
use Rattle.std.specs.FinMap as map
use Rattle.std.specs.Ordering.{nat_cmp}
use Rattle.itch_codec.specs.declared.fault.CodecFault.{CodecFault}
use Rattle.itch_codec.specs.Messages.{fault, message_of}
use Rattle.itch_book.proofs.Lists.{by_test}
use Rattle.itch_market.specs.declared.refusal.Refusal.{Refusal}
use Rattle.itch_market.specs.Content.{Content}
use Rattle.itch_market.specs.Reasons.{reason}
use Rattle.itch_snapshot.specs.TakenMessages.{is_skipped}
use Rattle.itch_join.specs.declared.fault.Cause.{Cause}
use Rattle.itch_join.specs.declared.fault.Cause.TheVariants as cause
use Rattle.itch_join.specs.declared.fault.JoinFault.{JoinFault}
use Rattle.itch_join.specs.declared.fault.JoinFault.TheVariants as join
use Rattle.itch_join.specs.declared.outcome.Live.{Live}
use Rattle.itch_join.specs.declared.outcome.Live.TheVariants as hears
use Rattle.itch_join.specs.declared.state.Halt.{Halt}
use Rattle.itch_join.specs.declared.state.LiveCase.{LiveCase}
use Rattle.itch_join.specs.declared.state.LiveCase.TheVariants as live
use Rattle.itch_join.specs.declared.state.Stopped.{Stopped}
use Rattle.itch_join.specs.declared.state.Stopped.TheVariants.{Refused, NoMemory}
use Rattle.itch_join.specs.Positions.{Position}
use Rattle.itch_join.specs.Rules.{Rules, refused_by as cause_by, rules_of}
use Rattle.itch_join.specs.States.{Joining, State, is_number}
use Rattle.itch_join.specs.Applying.{Front, front_of, advanced, at_hand, Applies, standing, result_by}
use Rattle.itch_join.specs.Steps.{live_case, LiveBy, NextBy}
use Rattle.itch_join.specs.Takings.{position_by, position_of, IsJoined, MayTake, Passes, IsRefusedFor, IsOfNext, refused_by}
use Rattle.itch_join.proofs.CallCases.{IsLiveCase, live_case_is}
use Rattle.itch_join.proofs.Maps.{get-remove}
use Rattle.itch_join.proofs.SkippedMessages.{refused_here, refused_skipped}

-- no message of a feed is one too many
never_many : (m : Content) (p : List ℕ) (f : Option CodecFault) → cause_by f m p ≡ Some cause.TooMany → ⊥
never_many m p (Some f) h = cc
never_many m p None h = by_reason (reason m (message_of p)) h where
  by_reason : (o : Option Refusal) → option_map cause.Rule o ≡ Some cause.TooMany → ⊥
  by_reason None h = cc
  by_reason (Some q) h = cc

module _ (wanted : ℕ → Bool) (m : Content) (p : List ℕ) where
  -- a message that is refused is not skipped
  pub stays : (c : Cause) → Rules.refused (rules_of wanted) m p ≡ Some c → is_skipped wanted p ≡ false
  stays c some =
      by_test (is_skipped wanted p) (λ skip. absurd (let none : None ≡ Some c = sym (refused_skipped wanted m p skip) ∙ some in let no_one : ⊥ = cc in no_one)) (λ wants. wants)

  pub never_as : Rules.refused (rules_of wanted) m p ≡ Some cause.TooMany → ⊥
  never_as some = never_many m p (fault p) (sym (refused_here wanted m p (stays cause.TooMany some)) ∙ some)

none_left : (b : Bool) (o : Option (List ℕ)) → o ≡ None → cond b None o ≡ None
none_left true o none = refl
none_left false o none = none

module _ (wanted : ℕ → Bool) (cap number : ℕ) (s : State) (p : List ℕ) (is : IsJoined s) (low : 0 < number) (high : number < 10 ^ 19) (within : number ≤ Position.next (position_of s)) where
  abbrev R : Rules
  R = rules_of wanted

  abbrev j : Position
  j = position_of s

  -- the effect on the joiner when it takes the message
  abbrev pub Heard : Result Live JoinFault → State → Type 0
  Heard (Ok outcome) now = Passes (rules_of wanted) (position_of s) number p (position_of now) × IsJoined now
  Heard (Err f) now =
      IsOfNext f × (Position.next (position_of s) ≡ number) × IsRefusedFor (rules_of wanted) (Position.market (position_of s)) p (refused_by f) × (position_of now ≡ position_of s)

  heard_by : (result r : Result Live JoinFault) (now n : State) → result ≡ r → now ≡ n → Heard r n → Heard result now
  heard_by result r now n one two g = subst (λ x. Heard x now) (sym one) (subst (Heard r) (sym two) g)

  refused_one : (c : Cause) (next : ℕ) (now : State) → j.next ≡ number → R.refused j.market p ≡ Some c → position_of now ≡ j → Heard (Err (join.Halted next c)) now
  refused_one (cause.Codec f) next now here some stands = (tt, here, some, stands)
  refused_one (cause.Rule r) next now here some stands = (tt, here, inl some, stands)
  refused_one cause.TooMany next now here some stands = absurd (never_as wanted j.market p some)

  after_one : (taken : Bool) (qs : List (List ℕ)) (ending : Result (Unit {0}) Stopped) (b : Front) (result : Result Live JoinFault) (now : State) → j.next ≡ number
      → R.refused j.market p ≡ None → Applies R (advanced R (front_of s j) p) None qs ending b
      → result ≡ result_by hears.Applied taken ending b.next → now ≡ standing s.half ending b → Heard result now
  after_one taken [] (Ok done) b result now here none (ends, same) answer left =
      heard_by result (Ok (hears.Applied b.next)) now (standing s.half (Ok done) b) answer left
      (subst (λ (f : Front). Heard (Ok (hears.Applied f.next)) (standing s.half (Ok done) f)) (sym same) (
        inr (here, (none, refl), ap (λ n. n + 1) here),
        record { waits = λ i. get-remove s.wait j.next i ∙ none_left (i == j.next) (map.get s.wait i) (is.waits i); joined = refl; running = refl },
      ))
  after_one taken [] (Err stopped) b result now here none (ends, same) answer left = absurd ends
  after_one taken (r ∷ qs) ending b result now here none (hand, clean, rest) answer left = absurd (let no_one : ⊥ = cc in no_one)

  stands_at : (ending : Result (Unit {0}) Stopped) (b : Front) (now : State) → b ≡ front_of s j → now ≡ standing s.half ending b → position_of now ≡ j
  stands_at ending b now same left =
      ap position_of left ∙ ap (λ (f : Front). let k : Position = record { next = f.next; market = f.market } in k) same

  applied : (taken : Bool) (ps : List (List ℕ)) (ending : Result (Unit {0}) Stopped) (b : Front) (result : Result Live JoinFault) (now : State) → j.next ≡ number
      → Applies R (front_of s j) (Some p) ps ending b
      → result ≡ result_by hears.Applied taken ending b.next → now ≡ standing s.half ending b → Heard result now
  applied taken [] (Ok done) b result now here (ends, same) answer left = absurd ends
  applied taken [] (Err (Refused c)) b result now here (ends, same) answer left =
      subst (λ r. Heard r now) (sym answer) (refused_one c b.next now here ends (stands_at (Err (Refused c)) b now same left))
  applied taken [] (Err NoMemory) b result now here (ends, same) answer left =
      subst (λ r. Heard r now) (sym answer) (tt, here, inr (refl, ends.0, ends.1), stands_at (Err NoMemory) b now same left)
  applied taken (q ∷ ps) ending b result now here (hand, none, rest) answer left =
      let this : q ≡ p = cc in
      let clean : R.refused j.market p ≡ None = subst (λ x. R.refused j.market x ≡ None) this none in
      let on : Applies R (advanced R (front_of s j) p) (at_hand (advanced R (front_of s j) p)) ps ending b =
      subst (λ x. Applies R (advanced R (front_of s j) x) (at_hand (advanced R (front_of s j) x)) ps ending b) this rest in
      let gone : at_hand (advanced R (front_of s j) p) ≡ None =
      get-remove s.wait j.next (j.next + 1) ∙ none_left (j.next + 1 == j.next) (map.get s.wait (j.next + 1)) (is.waits (j.next + 1)) in
      after_one taken ps ending b result now here clean (subst (λ o. Applies R (advanced R (front_of s j) p) o ps ending b) gone on) answer left

  numbered : is_number number ≡ true
  numbered = grind (arith, nat_tests)

  by_kind : (kind : LiveCase) (result : Result Live JoinFault) (now : State) → IsLiveCase cap s number p kind → LiveBy R cap s number p kind result now → Heard result now
  by_kind (live.Halted h) result now halted by = absurd (let no : None ≡ Some h = sym is.running ∙ halted in let no_one : ⊥ = cc in no_one)
  by_kind live.BadNumber result now (none, bad) by = absurd (let no : true ≡ false = sym numbered ∙ bad in let no_one : ⊥ = cc in no_one)
  by_kind live.Old result now (none, k, there, below) (answer, left) =
      let same : k ≡ j = let e : Some k ≡ Some j = sym there ∙ is.joined in cc in
      heard_by result (Ok hears.Old) now s answer left (inl (subst (λ (i : Position). number < i.next) same below, refl), is)
  by_kind live.Conflict result now (none, w, there, other) by = absurd (let no : None ≡ Some w = sym (is.waits number) ∙ there in let no_one : ⊥ = cc in no_one)
  by_kind live.Next result now (none, num, k, there, at) by =
      let same : k ≡ j = let e : Some k ≡ Some j = sym there ∙ is.joined in cc in
      let here : j.next ≡ number = ap (λ (i : Position). i.next) (sym same) ∙ sym at in
      let goes = subst (λ o. NextBy R s number p o result now) is.joined by in
      applied _ goes.payloads goes.ending goes.front result now here goes.applies goes.returned goes.left
  by_kind live.Kept result now (none, waits, above) by = absurd (let less : j.next < number = above j is.joined in omega arith)
  by_kind live.Full result now (none, full, above) by = absurd (let less : j.next < number = above j is.joined in omega arith)
  by_kind live.Stored result now (none, num, room, free, above) by = absurd (let less : j.next < number = above j is.joined in omega arith)

  pub heard : (result : Result Live JoinFault) (now : State) → LiveBy R cap s number p (live_case cap s number p) result now → Heard result now
  heard result now h = by_kind (live_case cap s number p) result now (live_case_is cap s number p) h

-- then it can take the message after that one
pub may_go_on : (wanted : ℕ → Bool) (number : ℕ) (old : Position) (p : List ℕ) (new : Joining) → Passes (rules_of wanted) old number p (position_of new.state) → IsJoined new.state → MayTake new (number + 1)
may_go_on wanted number old p new (inl (below, same)) joined =
    let next : Position.next (position_of new.state) ≡ old.next = ap (λ (j : Position). j.next) same in (joined, omega (arith, below, next))
may_go_on wanted number old p new (inr (at, applies, onto)) joined = (joined, omega (arith, onto))

position_there : (o : Option Position) (next : ℕ) → option_map (λ (j : Position). j.next) o ≡ Some next → (o ≡ Some (position_by o)) × (Position.next (position_by o) ≡ next)
position_there None next there = absurd (let no_one : ⊥ = cc in no_one)
position_there (Some j) next there = (refl, cc)

-- a joiner can take the messages from a number on that is not above its next one
pub may_begin : (j : Joining) (number next waiting : ℕ) → is_some j.state.halt ≡ false → waiting ≡ map.len j.state.wait → waiting ≤ 0
    → option_map (λ (k : Position). k.next) j.state.joined ≡ Some next → nat_le number next ≡ true → MayTake j number
may_begin j number next waiting running counted none there within =
    let (at_one, here) = position_there j.state.joined next there in
    let low : number ≤ next = grind (arith, nat_tests) in
    let empty : map.len j.state.wait ≡ 0 = omega (arith, counted, none) in (
      record {
        waits = λ i. ap (λ w. map.get w i) (map.empty_of_len j.state.wait empty) ∙ map.get-empty nat_cmp i;
        joined = at_one;
        running = unhalted j.state.halt running;
      },
      omega (arith, low, here),
    ) where
      unhalted : (o : Option Halt) → is_some o ≡ false → o ≡ None
      unhalted None none = refl
      unhalted (Some h) none = absurd (let no_one : ⊥ = cc in no_one)
