-- A message of a market, and of the market of some of its locates, before a time.
use Rattle.std.proofs.Common.{◌≡◌, ℕ, nat_le, nat_lt, Bool, true, false, List, length, Option, None, Some, Result, Ok, Err, is_ok, OnOk, option_map, if◌then◌else◌, inl, inr, refl, sym, ap, ◌∙◌, subst}
use Rattle.itch_codec.specs.Headers.{time_of}
use Rattle.itch_codec.specs.Messages.{Spells, fault, message_of}
use Rattle.itch_codec.specs.Numbers.{number_at}
use Rattle.itch_codec.specs.Widths.{IsMessage}
use Rattle.itch_codec.specs.declared.fault.CodecFault.{CodecFault}
use Rattle.itch_codec.specs.declared.header.Header.{Header}
use Rattle.itch_codec.specs.declared.message.Message.{Message}
use Rattle.itch_codec.specs.declared.message.Message.TheVariants as is
use Rattle.itch_codec.proofs.Spelling.{Spells-message_of}
use Rattle.itch_day.specs.Limits.{IsNotLate, is_from, is_late}
use Rattle.itch_day.specs.Sinks.{Decodes}
use Rattle.itch_market.specs.Content.{Content, empty, laid}
use Rattle.itch_market.specs.Effects.{effect, takes_memory}
use Rattle.itch_market.specs.GoodMarkets.{IsGood}
use Rattle.itch_market.specs.Reasons.{reason}
use Rattle.itch_market.specs.Replays.{IsRefusal}
use Rattle.itch_market.specs.Stops.{cause_by}
use Rattle.itch_market.specs.Takings.{TakesMessage}
use Rattle.itch_market.specs.declared.refused.Refused.TheVariants as refused
use Rattle.itch_market.specs.declared.stop.Stop.TheVariants as stop
use Rattle.itch_market.proofs.Causes.{no_fault, no_reason}
use Rattle.itch_commands.specs.declared.selection.Selection.{Selection}
use Rattle.itch_market.specs.Wanted.{Wanted}
use Rattle.itch_depth.specs.Own.{Apart, Fits, IsApart, IsApartBy, IsOwn, Keeps, PassesTimed, Untakes, are_none, before_time, concerns, is_from_or_unknown, is_own, may_be_late, may_concern}
use Rattle.itch_depth.specs.declared.pass.markets.Untaken.{Untaken}
use Rattle.itch_depth.specs.declared.pass.markets.Untaken.TheVariants as untaken
use Rattle.itch_depth.proofs.OtherPayloads.{other_message}
use Rattle.itch_depth.proofs.OwnMarkets.{empty_own, far_message, near_message}

-- ---- times

module _ (until : ℕ) (payload : List ℕ) (early : nat_le until (number_at 5 6 payload) ≡ false) where
  stamped : (h : Header) → h.stamp ≡ number_at 5 6 payload → is_from until (Some h.stamp) ≡ false
  stamped h here = ap (nat_le until) here ∙ early

  -- the time of a message is that of its payload
  by_message : (x : Message) → Spells x payload → is_from until (time_of x) ≡ false
  by_message (is.SystemEvent x) spelled = stamped x.header spelled.fields.1.1.0
  by_message (is.StockDirectory x) spelled = stamped x.header spelled.fields.1.1.0
  by_message (is.TradingAction x) spelled = stamped x.header spelled.fields.1.1.0
  by_message (is.RegSho x) spelled = stamped x.header spelled.fields.1.1.0
  by_message (is.Halt x) spelled = stamped x.header spelled.fields.1.1.0
  by_message (is.Position x) spelled = stamped x.header spelled.fields.1.1.0
  by_message (is.AddOrder x) spelled = stamped x.header spelled.fields.1.1.0
  by_message (is.AttributedAddOrder x) spelled = stamped x.order.header spelled.fields.1.1.0
  by_message (is.OrderExecuted x) spelled = stamped x.header spelled.fields.1.1.0
  by_message (is.OrderExecutedWithPrice x) spelled = stamped x.execution.header spelled.fields.1.1.0
  by_message (is.OrderCancel x) spelled = stamped x.header spelled.fields.1.1.0
  by_message (is.OrderDelete x) spelled = stamped x.header spelled.fields.1.1.0
  by_message (is.OrderReplace x) spelled = stamped x.header spelled.fields.1.1.0
  by_message (is.Trade x) spelled = stamped x.header spelled.fields.1.1.0
  by_message (is.CrossTrade x) spelled = stamped x.header spelled.fields.1.1.0
  by_message (is.BrokenTrade x) spelled = stamped x.header spelled.fields.1.1.0
  by_message (is.End next) spelled = refl
  by_message (is.Other bytes) spelled = refl

-- a payload that cannot be late is not late
pub not_late : (until : Option ℕ) (payload : List ℕ) → may_be_late until payload ≡ false → IsNotLate (before_time until) payload
not_late None payload early = λ late. absurd (cc late.1)
not_late (Some until) payload early = λ late. absurd (cc (sym (by_message until payload (stamp (nat_lt (length payload) 11) early) (message_of payload) (Spells-message_of payload late.0)) ∙ late.1)) where
  stamp : (short : Bool) → is_from_or_unknown until (if short then None else Some (number_at 5 6 payload)) ≡ false → nat_le until (number_at 5 6 payload) ≡ false
  stamp true is = absurd (cc is)
  stamp false is = is

-- ---- messages

module _ (until : Option ℕ) (x : Message) (m : Content) (number : ℕ) (payload : List ℕ) (decodes : Decodes payload (Ok x)) where
  took : (n : Content) → reason m x ≡ None → n ≡ laid (effect m x) → TakesMessage m number payload n
  took n none left = (
    ap (λ f. cause_by f m payload) decodes.0 ∙ ap (option_map stop.Rule) (ap (reason m) (sym decodes.1) ∙ none),
    subst IsMessage decodes.1 decodes.2,
    left ∙ ap (λ y. laid (effect m y)) decodes.1,
  )

  still_early : is_late until x ≡ false → IsNotLate (before_time until) payload
  still_early early late = absurd (cc (sym early ∙ ap (is_late until) decodes.1 ∙ late.1))

  pub timed_taken : (n : Content) → PassesTimed until x m (Ok tt) n → TakesMessage m number payload n × IsNotLate (before_time until) payload
  timed_taken n (early, none, left) = (took n none left, still_early early)

  pub timed_untaken : (why : Untaken) (n : Content) → PassesTimed until x m (Err why) n → Untakes until m number payload why
  timed_untaken untaken.Late n late = (decodes.0, ap (is_late until) (sym decodes.1) ∙ late)
  timed_untaken (untaken.Refused (refused.Rule why)) n (early, refusal) =
      ((refl, (decodes.0, subst (λ y. IsRefusal (reason m y) (takes_memory m y) why) decodes.1 refusal)), still_early early)
  timed_untaken (untaken.Refused (refused.Codec f)) n never = absurd never

-- a payload that is not a valid message
pub faulty_untaken : (until : Option ℕ) (m : Content) (number : ℕ) (payload : List ℕ) (f : CodecFault) → fault payload ≡ Some f → Untakes until m number payload (untaken.Refused (refused.Codec f))
faulty_untaken until m number payload f faulty = ((refl, faulty), λ late. absurd (cc (sym late.0 ∙ faulty)))

-- ---- the market of the locates

module _ (apart : Apart) (m own : Content) (is_apart : IsApart apart m own) (good : IsGood m) (in_order : laid m ≡ m) where
  -- after a message about other locates
  pub far_apart : (x : Message) (n : Content) → reason m x ≡ None → n ≡ laid (effect m x) → concerns (is_own apart) own x ≡ false → IsApart apart n own
  far_apart x n none left far = by_none (are_none apart) is_apart where
    by_none : (b : Bool) → IsApartBy b apart m own → IsApartBy b apart n own
    by_none true _ = tt
    by_none false is_own_now = subst (λ k. IsOwn (is_own apart) k own) (sym left) (far_message (is_own apart) m own is_own_now good in_order x none far)

  -- after a message about one of them
  pub near_apart : (x : Message) (n now : Content) → reason m x ≡ None → n ≡ laid (effect m x) → now ≡ laid (effect own x) → concerns (is_own apart) own x ≡ true → IsApart apart n now
  near_apart x n now none left own_left near = by_none (are_none apart) is_apart where
    by_none : (b : Bool) → IsApartBy b apart m own → IsApartBy b apart n now
    by_none true _ = tt
    by_none false is_own_now =
        subst (λ k. IsOwn (is_own apart) n k) (sym own_left)
        (subst (λ k. IsOwn (is_own apart) k (laid (effect own x))) (sym left) (near_message (is_own apart) m own is_own_now good in_order x none near))

  -- after a payload that cannot concern them
  pub passed_apart : (number : ℕ) (payload : List ℕ) (n : Content) → may_concern own payload ≡ false → TakesMessage m number payload n → IsApart apart n own
  passed_apart number payload n far (clean, fits, after) =
      far_apart (message_of payload) n (no_reason m payload clean) after (other_message own (is_own apart) payload far (no_fault m payload clean))

-- locates that are kept apart still fit what is selected
pub still_fits : (old new : Apart) (selection : Selection) (only : Option Wanted) → Keeps old new → Fits old selection only → Fits new selection only
still_fits old new selection only (inl same) fits = subst (λ a. Fits a selection only) (sym same) fits
still_fits old new selection only (inr none) fits = subst (λ a. Fits a selection only) (sym none) tt

-- the effect of what succeeded
pub ok_so : {X E P : Type 0} (r : Result X E) → is_ok r ≡ true → OnOk r P → P
ok_so (Ok x) fine h = h
ok_so (Err e) fine h = absurd (cc fine)

-- before any message
pub empty_apart : (apart : Apart) (m own : Content) → m ≡ empty → own ≡ empty → IsApart apart m own
empty_apart apart m own none own_none = subst (λ n. IsApart apart n own) (sym none) (subst (IsApart apart empty) (sym own_none) (by_none (are_none apart))) where
  by_none : (b : Bool) → IsApartBy b apart empty empty
  by_none true = tt
  by_none false = empty_own (is_own apart)
