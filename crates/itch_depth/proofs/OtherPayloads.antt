-- A payload whose locate is not kept apart.
use Rattle.std.proofs.Common.{◌≡◌, ℕ, ◌+◌, ◌*◌, ◌≤◌, ◌==◌, ◌||◌, Bool, true, false, not, List, [], ◌∷◌, length, Option, None, is_some, if◌then◌else◌, refl, sym, ap, ◌∙◌, subst, arith}
use Rattle.std.specs.FinMap as finite
use Rattle.std.proofs.lemmas.Bool.Decides.{nat_tests}
use Rattle.itch_codec.specs.Headers.{time_of}
use Rattle.itch_codec.specs.Messages.{Spells, fault, message_of}
use Rattle.itch_codec.specs.Numbers.{byte_at, number_at}
use Rattle.itch_codec.specs.declared.header.Header.{Header}
use Rattle.itch_codec.specs.declared.message.Message.{Message}
use Rattle.itch_codec.specs.declared.message.Message.TheVariants as is
use Rattle.itch_codec.proofs.Spelling.{Spells-message_of}
use Rattle.itch_market.specs.Content.{Content, laid}
use Rattle.itch_market.specs.Effects.{effect}
use Rattle.itch_market.specs.GoodMarkets.{IsGood}
use Rattle.itch_market.specs.Takings.{TakesMessage}
use Rattle.itch_market.proofs.Causes.{no_fault, no_reason}
use Rattle.itch_depth.specs.Changes.{Sides, best, change, lines_of, same_sides, time_or_midnight}
use Rattle.itch_depth.specs.Following.{IsFollowing, wants}
use Rattle.itch_depth.specs.Own.{concerns, may_concern}
use Rattle.itch_depth.specs.declared.changes.request.ChangesRequest.{ChangesRequest}
use Rattle.itch_depth.proofs.Followings.{nothing_told}
use Rattle.itch_depth.proofs.OwnMarkets.{far_message}

two_bytes : (k h l : ℕ) (rest : List ℕ) → number_at 1 2 (k ∷ h ∷ l ∷ rest) ≡ 256 * h + l
unfolding number_at
two_bytes k h l rest = omega arith

neither : (a b : Bool) → (a || b) ≡ false → (a ≡ false) × (b ≡ false)
neither true b none = absurd (cc none)
neither false b none = (refl, none)

module _ (own : Content) where
  -- it is no entry of the directory, and its locate is not in the market of some locates
  elsewhere : (payload : List ℕ) → 3 ≤ length payload → may_concern own payload ≡ false
      → ((byte_at 0 payload == 82) ≡ false) × (is_some (finite.get own.securities (number_at 1 2 payload)) ≡ false)
  elsewhere [] long far = absurd (omega arith)
  elsewhere (k ∷ []) long far = absurd (omega arith)
  elsewhere (k ∷ h ∷ []) long far = absurd (omega arith)
  elsewhere (k ∷ h ∷ l ∷ rest) long far =
      let both = neither (k == 82) (is_some (finite.get own.securities (256 * h + l))) far in
      (both.0, ap (λ q. is_some (finite.get own.securities q)) (two_bytes k h l rest) ∙ both.1)

  module _ (w : ℕ → Option (List ℕ) → Bool) (payload : List ℕ) (far : may_concern own payload ≡ false) where
    headed : (h : Header) (size : ℕ) → h.locate ≡ number_at 1 2 payload → length payload ≡ size → 3 ≤ size → is_some (finite.get own.securities h.locate) ≡ false
    headed h size here long some = ap (λ q. is_some (finite.get own.securities q)) here ∙ (elsewhere payload (omega (arith, long, some)) far).1

    -- so its message is about another locate, or about none
    by_message : (x : Message) → Spells x payload → concerns w own x ≡ false
    by_message (is.SystemEvent x) spelled = headed x.header 12 spelled.fields.0 spelled.size (omega arith)
    by_message (is.StockDirectory x) spelled =
        let long : 3 ≤ length payload = (let size = spelled.size in omega (arith, size)) in
        let other = (elsewhere payload long far).0 in
        let is_entry : byte_at 0 payload ≡ 82 = spelled.first in
        absurd (grind (arith, nat_tests, other, is_entry))
    by_message (is.TradingAction x) spelled = headed x.header 25 spelled.fields.0 spelled.size (omega arith)
    by_message (is.RegSho x) spelled = headed x.header 20 spelled.fields.0 spelled.size (omega arith)
    by_message (is.Halt x) spelled = headed x.header 21 spelled.fields.0 spelled.size (omega arith)
    by_message (is.Position x) spelled = headed x.header 26 spelled.fields.0 spelled.size (omega arith)
    by_message (is.AddOrder x) spelled = headed x.header 36 spelled.fields.0 spelled.size (omega arith)
    by_message (is.AttributedAddOrder x) spelled = headed x.order.header 40 spelled.fields.0 spelled.size (omega arith)
    by_message (is.OrderExecuted x) spelled = headed x.header 31 spelled.fields.0 spelled.size (omega arith)
    by_message (is.OrderExecutedWithPrice x) spelled = headed x.execution.header 36 spelled.fields.0 spelled.size (omega arith)
    by_message (is.OrderCancel x) spelled = headed x.header 23 spelled.fields.0 spelled.size (omega arith)
    by_message (is.OrderDelete x) spelled = headed x.header 19 spelled.fields.0 spelled.size (omega arith)
    by_message (is.OrderReplace x) spelled = headed x.header 35 spelled.fields.0 spelled.size (omega arith)
    by_message (is.Trade x) spelled = headed x.header 44 spelled.fields.0 spelled.size (omega arith)
    by_message (is.CrossTrade x) spelled = headed x.header 40 spelled.fields.0 spelled.size (omega arith)
    by_message (is.BrokenTrade x) spelled = headed x.header 19 spelled.fields.0 spelled.size (omega arith)
    by_message (is.End next) spelled = refl
    by_message (is.Other bytes) spelled = refl

    pub other_message : fault payload ≡ None → concerns w own (message_of payload) ≡ false
    other_message clean = by_message (message_of payload) (Spells-message_of payload clean)

-- a market that takes it changes no best price of the stock
pub passed_over : (R : ChangesRequest) (number : ℕ) (payload : List ℕ) (m n own : Content) (locate : Option ℕ) (shown : Sides) → IsFollowing R m own locate shown → IsGood m → laid m ≡ m
    → may_concern own payload ≡ false → TakesMessage m number payload n
    → IsFollowing R n own locate shown × (change R number (message_of payload) m n ≡ [])
passed_over R number payload m n own locate shown follow good in_order far (clean, fits, after) =
    let x = message_of payload in
    let other = other_message own (wants R.stock) payload far (no_fault m payload clean) in
    let told = nothing_told R m own locate shown follow (laid (effect m x)) (far_message (wants R.stock) m own follow.own_market good in_order x (no_reason m payload clean) other) in
    let still : IsFollowing R n own locate shown × (false ≡ not (same_sides (best R.depth R.stock m) (best R.depth R.stock n))) =
    subst (λ k. IsFollowing R k own locate shown × (false ≡ not (same_sides (best R.depth R.stock m) (best R.depth R.stock k)))) (sym after) told in
    (still.0, by_same (same_sides (best R.depth R.stock m) (best R.depth R.stock n)) still.1) where
      by_same : (b : Bool) → false ≡ not b → (if b then [] else lines_of R number (time_or_midnight (time_of (message_of payload))) n) ≡ []
      by_same true is = refl
      by_same false is = absurd (cc is)
