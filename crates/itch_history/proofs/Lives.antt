-- The numbers of an order in a day whose order reference numbers are unique.
use Rattle.std.proofs.Common.{◌≡◌, ℕ, ◌==◌, ◌||◌, Bool, true, false, List, [], ◌∷◌, ◌++◌, Option, None, Some, if◌then◌else◌, refl, sym, ap, subst, ◌∙◌, append-nil, eq-eqb, ne_eqb, eqb-true}
use Rattle.std.specs.List.{AllByRecursion}
use Rattle.itch_codec.specs.declared.message.Message.{Message}
use Rattle.itch_codec.specs.declared.message.Message.TheVariants as is
use Rattle.itch_history.specs.Histories.{after_replacement, before_replacement, first_number, gives, is_about, last_number, names, number_after, number_before, replacement_of}
use Rattle.itch_history.specs.Lives.{AreDone, IsAlone, IsDone, StaysAlone}
use Rattle.itch_history.specs.declared.chain.Replacement.{Replacement}

true_not_false : true ≡ false → ⊥
true_not_false is = absurd (cc)

or_false : (b : Bool) → (b || false) ≡ true → b ≡ true
or_false true is = refl
or_false false is = absurd (cc)

or_true : (a b : Bool) → a ≡ true → (a || b) ≡ true
or_true true b is = refl
or_true false b is = absurd (cc)

or_other : (a b : Bool) → (a || b) ≡ true → b ≡ false → a ≡ true
or_other true b either other = refl
or_other false true either other = absurd (cc)
or_other false false either other = absurd (cc)

-- a replacement names the order that it ends
names_original : (message : Message) (r : Replacement) → replacement_of message ≡ Some r → names r.original message ≡ true
names_original (is.OrderReplace m) r is =
    let same : m.original ≡ r.original = cc in or_true (m.original == r.original) (m.reference == r.original) (eq-eqb m.original r.original same)
names_original (is.SystemEvent m) r is = absurd (cc)
names_original (is.StockDirectory m) r is = absurd (cc)
names_original (is.TradingAction m) r is = absurd (cc)
names_original (is.RegSho m) r is = absurd (cc)
names_original (is.Halt m) r is = absurd (cc)
names_original (is.Position m) r is = absurd (cc)
names_original (is.AddOrder m) r is = absurd (cc)
names_original (is.AttributedAddOrder m) r is = absurd (cc)
names_original (is.OrderExecuted m) r is = absurd (cc)
names_original (is.OrderExecutedWithPrice m) r is = absurd (cc)
names_original (is.OrderCancel m) r is = absurd (cc)
names_original (is.OrderDelete m) r is = absurd (cc)
names_original (is.Trade m) r is = absurd (cc)
names_original (is.CrossTrade m) r is = absurd (cc)
names_original (is.BrokenTrade m) r is = absurd (cc)
names_original (is.End next) r is = absurd (cc)
names_original (is.Other bytes) r is = absurd (cc)

-- the message that names an order is about the number that the order had before it
replace_about : (original reference number : ℕ) → (original == number || reference == number) ≡ true → (original == (if reference == number then original else number)) ≡ true
replace_about original reference number named = by_test (reference == number) refl where
  by_test : (gives : Bool) → (reference == number) ≡ gives → (original == (if reference == number then original else number)) ≡ true
  by_test true is = rw is (eq-eqb original original refl)
  by_test false is = rw is (or_other (original == number) (reference == number) named is)

pub about : (message : Message) (number : ℕ) → names number message ≡ true → is_about (number_before message number) message ≡ true
about (is.OrderReplace m) number named = replace_about m.original m.reference number named
about (is.SystemEvent m) number named = or_false false named
about (is.StockDirectory m) number named = or_false false named
about (is.TradingAction m) number named = or_false false named
about (is.RegSho m) number named = or_false false named
about (is.Halt m) number named = or_false false named
about (is.Position m) number named = or_false false named
about (is.AddOrder m) number named = or_false (m.reference == number) named
about (is.AttributedAddOrder m) number named = or_false (m.order.reference == number) named
about (is.OrderExecuted m) number named = or_false (m.reference == number) named
about (is.OrderExecutedWithPrice m) number named = or_false (m.execution.reference == number) named
about (is.OrderCancel m) number named = or_false (m.reference == number) named
about (is.OrderDelete m) number named = or_false (m.reference == number) named
about (is.Trade m) number named = or_false false named
about (is.CrossTrade m) number named = or_false false named
about (is.BrokenTrade m) number named = or_false false named
about (is.End next) number named = or_false false named
about (is.Other bytes) number named = or_false false named

-- a number that messages do not name is no number of an order that the last of them is about
unnamed_before : (message : Message) (r : Option Replacement) (original now : ℕ) → replacement_of message ≡ r → names original message ≡ false → (now ≡ original → ⊥)
    → before_replacement r now ≡ original → ⊥
unnamed_before message None original now is unnamed other same = other same
unnamed_before message (Some r) original now is unnamed other same = by_test (r.reference == now) refl where
  by_test : (gives : Bool) → (r.reference == now) ≡ gives → ⊥
  by_test true given =
      let first : r.original ≡ original = sym (rw given refl) ∙ same in
      true_not_false (sym (subst (λ n. names n message ≡ true) first (names_original message r is)) ∙ unnamed)
  by_test false given = let kept : now ≡ original = sym (rw given refl) ∙ same in other kept

unnamed : (original number : ℕ) (messages : List Message) (last : Message) → AllByRecursion (λ later. names original later ≡ false) (messages ++ last ∷ [])
    → is_about number last ≡ true → first_number messages number ≡ original → ⊥
unfolding first_number
unnamed original number [] last others about same =
    true_not_false (sym (or_true (is_about original last) (gives original (replacement_of last)) (subst (λ n. is_about n last ≡ true) same about)) ∙ others.0)
unnamed original number (message ∷ messages) last others about same =
    unnamed_before message (replacement_of message) original (first_number messages number) refl others.0 (unnamed original number messages last others.1 about) same

-- an order that a message does not replace has its number back after it
forth : (r : Option Replacement) (number : ℕ) → ((one : Replacement) → r ≡ Some one → one.original ≡ number → ⊥) → after_replacement r (before_replacement r number) ≡ number
forth None number other = refl
forth (Some r) number other = by_test (r.reference == number) refl where
  by_test : (gives : Bool) → (r.reference == number) ≡ gives → after_replacement (Some r) (before_replacement (Some r) number) ≡ number
  by_test true given = rw given (rw (eq-eqb r.original r.original refl) (eqb-true r.reference number given))
  by_test false given = rw given (rw (ne_eqb r.original number (other r refl)) refl)

-- a message gives an order the same number by its number before the message
onward_one : (r : Option Replacement) (number : ℕ) → after_replacement r (before_replacement r number) ≡ after_replacement r number
onward_one None number = refl
onward_one (Some r) number = by_test (r.reference == number) refl where
  by_original : (ends : Bool) → (r.original == number) ≡ ends → r.reference ≡ number → r.reference ≡ (if r.original == number then r.reference else number)
  by_original true ended same = rw ended refl
  by_original false ended same = rw ended same

  by_test : (gives : Bool) → (r.reference == number) ≡ gives → after_replacement (Some r) (before_replacement (Some r) number) ≡ after_replacement (Some r) number
  by_test true given = rw given (rw (eq-eqb r.original r.original refl) (by_original (r.original == number) refl (eqb-true r.reference number given)))
  by_test false given = rw given refl

pub onward : (message : Message) (number : ℕ) → number_after message (number_before message number) ≡ number_after message number
onward message number = onward_one (replacement_of message) number

done_by : (r : Option Replacement) (one : Replacement) (messages : List Message) → r ≡ Some one → AllByRecursion (IsDone r) messages → AllByRecursion (λ later. names one.original later ≡ false) messages
done_by r one messages is done = subst (λ (x : Option Replacement). AllByRecursion (IsDone x) messages) is done

pub leads_by : (before between : List Message) (message : Message) (number : ℕ) → AreDone ((before ++ between) ++ message ∷ []) → is_about number message ≡ true
    → last_number before (first_number (before ++ between) number) ≡ first_number between number
unfolding AreDone first_number last_number
leads_by [] between message number done about = refl
leads_by (x ∷ before) between message number done about =
    let now : ℕ = first_number (before ++ between) number in
    let other : (one : Replacement) → replacement_of x ≡ Some one → one.original ≡ now → ⊥ =
    λ one is same. unnamed one.original number (before ++ between) message (done_by (replacement_of x) one ((before ++ between) ++ message ∷ []) is done.0) about (sym same) in
    ap (last_number before) (forth (replacement_of x) now other) ∙ leads_by before between message number done.1 about

pub leads : (before between : List Message) (message : Message) (number : ℕ) → AreDone ((before ++ between) ++ message ∷ []) → names number message ≡ true
    → last_number before (first_number (before ++ between) (number_before message number)) ≡ first_number between (number_before message number)
leads before between message number done named = leads_by before between message (number_before message number) done (about message number named)

none_between : (number : ℕ) → first_number [] number ≡ number
unfolding first_number
none_between number = refl

-- the messages of orders with the same first number are about the number that the followed order then has
pub same : (before : List Message) (message : Message) (first number : ℕ) → AreDone (before ++ message ∷ []) → is_about number message ≡ true
    → first_number before number ≡ first → last_number before first ≡ number
same before message first number done about is =
    let whole : before ++ [] ≡ before = append-nil before in
    ap (last_number before) (sym is ∙ ap (λ ms. first_number ms number) (sym whole))
    ∙ leads_by before [] message number (subst (λ ms. AreDone (ms ++ message ∷ [])) (sym whole) done) about ∙ none_between number

back_one : (r : Option Replacement) (number : ℕ) → IsAlone number r → before_replacement r (after_replacement r number) ≡ number
back_one None number alone = refl
back_one (Some r) number alone = by_test (r.original == number) refl where
  by_test : (ends : Bool) → (r.original == number) ≡ ends → before_replacement (Some r) (after_replacement (Some r) number) ≡ number
  by_test true ended = rw ended (rw (eq-eqb r.reference r.reference refl) (eqb-true r.original number ended))
  by_test false ended = rw ended (rw (ne_eqb r.reference number (alone (λ is. true_not_false (sym (eq-eqb r.original number is) ∙ ended)))) refl)

pub back : (before : List Message) (first : ℕ) → StaysAlone first before → first_number before (last_number before first) ≡ first
unfolding StaysAlone first_number last_number
back [] first alone = refl
back (x ∷ before) first alone =
    ap (before_replacement (replacement_of x)) (back before (number_after x first) alone.1) ∙ back_one (replacement_of x) first alone.0
