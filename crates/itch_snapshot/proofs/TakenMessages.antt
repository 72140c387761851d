-- The effect of a message of a snapshot, if all locates are wanted, or those of a set.
use Rattle.std.proofs.Common.{◌≡◌, ℕ, ◌+◌, ◌-◌, ◌^◌, ◌<◌, ◌≤◌, ◌==◌, Bool, true, false, List, Option, Some, None, Result, Ok, Err, IfSome, IfNone, IfOk, IfErr, OnOk, IsOkUnless, IsTrue, refl, sym, ap, subst, ◌∙◌, arith}
use Rattle.std.proofs.lemmas.Bool.{ne_eqb}
use Rattle.std.proofs.lemmas.Bool.Decides.{nat_tests}
use Rattle.itch_codec.specs.declared.fault.CodecFault.{CodecFault}
use Rattle.itch_codec.specs.declared.message.Message.{Message}
use Rattle.itch_codec.specs.Messages.{fault, message_of}
use Rattle.itch_codec.specs.Widths.{IsMessage}
use Rattle.itch_day.specs.Sinks.{Decodes}
use Rattle.itch_market.specs.declared.refusal.Refusal.{Refusal}
use Rattle.itch_market.specs.declared.refusal.Refusal.TheVariants.{OutOfMemory}
use Rattle.itch_market.specs.Content.{Content}
use Rattle.itch_market.specs.Effects.{takes_memory}
use Rattle.itch_market.specs.Partial.{skips}
use Rattle.itch_market.specs.Reasons.{reason}
use Rattle.itch_market.specs.Replays.{IsRefusal}
use Rattle.itch_snapshot.specs.declared.fault.SnapFault.{SnapFault}
use Rattle.itch_snapshot.specs.declared.fault.SnapFault.TheVariants.{NoEnd, Frame, Codec, Rule, AfterEnd, TooManyMessages}
use Rattle.itch_snapshot.specs.TakenMessages.{AppliesUnless, TakesNext, TakesNextOnly, is_full, is_skipped, number_in, number_by, skipped_by}

-- the reason why a message was not applied, from the clauses of a market
pub refusal_of : (r : Option Refusal) (takes : Bool) (why : Refusal) (answer : Result (Unit {0}) Refusal) → answer ≡ Err why → IfSome r (λ x. answer ≡ Err x)
    → IfNone r (IsOkUnless answer OutOfMemory) → (answer ≡ Err OutOfMemory → IsTrue takes) → IsRefusal r takes why
refusal_of (Some r) takes why answer is refused accepted memory = cc
refusal_of None takes why answer is refused accepted memory =
    let out : why ≡ OutOfMemory = subst (λ a. IsOkUnless a OutOfMemory) is accepted in
    (out, memory (is ∙ ap Err out))

-- a message that a rule refuses
pub refused_so : (taken : ℕ) (m n : Content) (payload : List ℕ) (x : Message) (why : Refusal) → Decodes payload (Ok x) → is_full taken ≡ false → number_in x ≡ None → n ≡ m
    → IsRefusal (reason m x) (takes_memory m x) why → TakesNext taken m payload (Err (Rule (taken + 1) why)) n
refused_so taken m n payload x why (clean, is, fits) room no_end same refusal = (
  room,
  refl,
  ap (λ f. number_by f payload) clean ∙ ap number_in (sym is) ∙ no_end,
  (same, (clean, subst (λ y. IsRefusal (reason m y) (takes_memory m y) why) is refusal)),
)

-- the decoded form of a payload
pub decodes : (p : List ℕ) (r : Result Message CodecFault) → IfErr r (λ e. fault p ≡ Some e) → OnOk r (fault p ≡ None) → IfOk r (λ m. m ≡ message_of p) → IfOk r (λ m. IsMessage m) → Decodes p r
decodes p (Ok m) faulty clean same fits = (clean, same, fits)
decodes p (Err e) faulty clean same fits = faulty

-- a message can be taken only below the maximum number
fewer : (taken : ℕ) → taken ≤ 10 ^ 19 - 1 → (taken == 10 ^ 19 - 1) ≡ false → taken < 10 ^ 19 - 1
fewer taken few room = grind (arith, nat_tests)

pub room_left : (taken : ℕ) (m n : Content) (p : List ℕ) (r : Result (Option ℕ) SnapFault) → taken ≤ 10 ^ 19 - 1 → TakesNext taken m p r n → IfOk r (λ next. IfNone next (taken < 10 ^ 19 - 1))
room_left taken m n p (Ok None) few (room, took) = fewer taken few room
room_left taken m n p (Ok (Some next)) few took = tt
room_left taken m n p (Err fault) few took = tt

pub room_left_only : (wanted : ℕ → Bool) (taken : ℕ) (m n : Content) (p : List ℕ) (r : Result (Option ℕ) SnapFault) → taken ≤ 10 ^ 19 - 1 → TakesNextOnly wanted taken m p r n
    → IfOk r (λ next. IfNone next (taken < 10 ^ 19 - 1))
room_left_only wanted taken m n p (Ok None) few (room, took) = fewer taken few room
room_left_only wanted taken m n p (Ok (Some next)) few took = tt
room_left_only wanted taken m n p (Err fault) few took = tt

-- a message that is skipped changes nothing
pub skipped_so : (wanted : ℕ → Bool) (taken : ℕ) (m : Content) (p : List ℕ) → (taken == 10 ^ 19 - 1) ≡ false → is_skipped wanted p ≡ true → TakesNextOnly wanted taken m p (Ok None) m
skipped_so wanted taken m p room skip = (room, subst (λ b. AppliesUnless b m p m) (sym skip) refl)

-- any other message is taken as if all locates were wanted
pub taken_so : (wanted : ℕ → Bool) (taken : ℕ) (m n : Content) (p : List ℕ) (r : Result (Option ℕ) SnapFault) → is_skipped wanted p ≡ false → TakesNext taken m p r n → TakesNextOnly wanted taken m p r n
taken_so wanted taken m n p (Ok None) stays (room, took) = (room, subst (λ b. AppliesUnless b m p n) (sym stays) took)
taken_so wanted taken m n p (Ok (Some next)) stays took = took
taken_so wanted taken m n p (Err NoEnd) stays took = took
taken_so wanted taken m n p (Err (Frame f)) stays took = took
taken_so wanted taken m n p (Err (Codec place f)) stays took = took
taken_so wanted taken m n p (Err (Rule place why)) stays took = (stays, took)
taken_so wanted taken m n p (Err AfterEnd) stays took = took
taken_so wanted taken m n p (Err TooManyMessages) stays took = took

-- and so is each message after the maximum number
pub taken_full : (wanted : ℕ → Bool) (taken : ℕ) (m n : Content) (p : List ℕ) (r : Result (Option ℕ) SnapFault) → (taken == 10 ^ 19 - 1) ≡ true → TakesNext taken m p r n → TakesNextOnly wanted taken m p r n
taken_full wanted taken m n p (Ok None) full (room, took) = absurd (let never : true ≡ false = sym full ∙ room in cc)
taken_full wanted taken m n p (Ok (Some next)) full took = took
taken_full wanted taken m n p (Err NoEnd) full took = took
taken_full wanted taken m n p (Err (Frame f)) full took = took
taken_full wanted taken m n p (Err (Codec place f)) full took = took
taken_full wanted taken m n p (Err (Rule place why)) full (room, here, no_end, took) = absurd (let never : true ≡ false = sym full ∙ room in cc)
taken_full wanted taken m n p (Err AfterEnd) full took = took
taken_full wanted taken m n p (Err TooManyMessages) full took = took
