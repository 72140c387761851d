-- Messages that are skipped if only some locates are wanted.
use Rattle.std.proofs.Common.{◌≡◌, ℕ, Bool, true, false, List, Option, Some, None, refl, sym, ap, ◌∙◌}
use Rattle.itch_codec.specs.declared.fault.CodecFault.{CodecFault}
use Rattle.itch_codec.specs.declared.message.Message.{Message}
use Rattle.itch_codec.specs.declared.message.Message.TheVariants as is
use Rattle.itch_codec.specs.Messages.{fault, message_of}
use Rattle.itch_market.specs.Partial.{locate_of, skips}
use Rattle.itch_market.proofs.Partials.{none_out}
use Rattle.itch_snapshot.specs.TakenMessages.{number_in, number_by, closing_number, skipped_by, is_skipped}

-- End of Snapshot is not skipped
number_of_skipped : (wanted : ℕ → Bool) (x : Message) → skips wanted x ≡ true → number_in x ≡ None
number_of_skipped wanted (is.SystemEvent x) h = refl
number_of_skipped wanted (is.StockDirectory x) h = refl
number_of_skipped wanted (is.TradingAction x) h = refl
number_of_skipped wanted (is.RegSho x) h = refl
number_of_skipped wanted (is.Halt x) h = refl
number_of_skipped wanted (is.Position x) h = refl
number_of_skipped wanted (is.AddOrder x) h = refl
number_of_skipped wanted (is.AttributedAddOrder x) h = refl
number_of_skipped wanted (is.OrderExecuted x) h = refl
number_of_skipped wanted (is.OrderExecutedWithPrice x) h = refl
number_of_skipped wanted (is.OrderCancel x) h = refl
number_of_skipped wanted (is.OrderDelete x) h = refl
number_of_skipped wanted (is.OrderReplace x) h = refl
number_of_skipped wanted (is.Trade x) h = refl
number_of_skipped wanted (is.CrossTrade x) h = refl
number_of_skipped wanted (is.BrokenTrade x) h = refl
number_of_skipped wanted (is.End next) h = cc
number_of_skipped wanted (is.Other payload) h = refl

module _ (wanted : ℕ → Bool) where
  -- a skipped message has no fault
  pub skipped_faultless : (p : List ℕ) → is_skipped wanted p ≡ true → fault p ≡ None
  skipped_faultless p = by_fault (fault p) where
    by_fault : (f : Option CodecFault) → skipped_by wanted f p ≡ true → f ≡ None
    by_fault None h = refl
    by_fault (Some f) h = cc

  pub faultless_skips : (p : List ℕ) → fault p ≡ None → is_skipped wanted p ≡ skips wanted (message_of p)
  faultless_skips p clean = ap (λ f. skipped_by wanted f p) clean

  pub faulty_stays : (p : List ℕ) (f : CodecFault) → fault p ≡ Some f → is_skipped wanted p ≡ false
  faulty_stays p f is = ap (λ o. skipped_by wanted o p) is

  pub skipped_number : (p : List ℕ) → is_skipped wanted p ≡ true → closing_number p ≡ None
  skipped_number p skip =
      let clean = skipped_faultless p skip in
      ap (λ f. number_by f p) clean ∙ number_of_skipped wanted (message_of p) (sym (faultless_skips p clean) ∙ skip)

  -- if all locates are wanted, no message is skipped
  pub none_skipped : ((l : ℕ) → wanted l ≡ true) → (p : List ℕ) → is_skipped wanted p ≡ false
  none_skipped all p = by_fault (fault p) where
    by_fault : (f : Option CodecFault) → skipped_by wanted f p ≡ false
    by_fault None = none_out wanted all (locate_of (message_of p))
    by_fault (Some f) = refl
