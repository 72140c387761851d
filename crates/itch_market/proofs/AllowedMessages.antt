-- The properties of a market in which a message is not refused.
use Rattle.std.proofs.Common.{◌≡◌, ℕ, ◌<◌, Bool, true, false, List, Option, Some, None, IsSome, IsSomeAnd, is_some, ◌==◌, refl, arith}
use Rattle.std.proofs.lemmas.Bool.Decides.{nat_tests}
use Rattle.std.specs.FinMap as map
use Rattle.itch_book.specs.declared.order.Order.{Order}
use Rattle.itch_book.specs.Orders as book
use Rattle.itch_codec.specs.declared.orders.AddOrder.{AddOrder}
use Rattle.itch_codec.specs.declared.orders.OrderReplace.{OrderReplace}
use Rattle.itch_codec.specs.declared.message.Message.TheVariants as is
use Rattle.itch_market.specs.declared.refusal.Refusal.{Refusal}
use Rattle.itch_market.specs.declared.refusal.Refusal.TheVariants.{StockMismatch, LocateMismatch, ZeroShares, DuplicateRef}
use Rattle.itch_market.specs.Content.{Content, Listing}
use Rattle.itch_market.specs.Reasons.{refuse, is_other_stock, is_live, security_reason, order_reason, add_reason, reason}

-- a check without a reason did not fail, and neither did the later ones
pub passed : (fails : Bool) (why : Refusal) (later : Option Refusal) → refuse fails why later ≡ None → (fails ≡ false) × (later ≡ None)
passed true why later none = cc
passed false why later none = (refl, none)

listed_passed : (o : Option Listing) (stock : List ℕ) (later : Option Refusal) → security_reason o stock later ≡ None → IsSome o × (later ≡ None)
listed_passed None stock later none = cc
listed_passed (Some s) stock later none = (refl, (passed (is_other_stock s stock) StockMismatch later none).1)

live_passed : (o : Option Order) (locate : ℕ) (later : Order → Option Refusal) → order_reason o locate later ≡ None → IsSomeAnd o (λ x. later x ≡ None)
live_passed None locate later none = cc
live_passed (Some x) locate later none = (passed _ LocateMismatch (later x) none).1

is_none : {A : Type 0} (o : Option A) → is_some o ≡ false → o ≡ None
is_none None none = refl
is_none (Some x) none = cc

-- a new order has a locate of the directory, shares, and a reference that no live order has
pub record IsAllowedAdd (m : Content) (x : AddOrder) : Type 0 where
  pub listed : IsSome (map.get m.securities x.header.locate)
  pub some_shares : 0 < x.shares
  pub new_reference : book.get m.orders x.reference ≡ None

some_shares : (n : ℕ) → (n == 0) ≡ false → 0 < n
some_shares n test = grind (arith, nat_tests)

pub allowed_add : (m : Content) (x : AddOrder) → add_reason m x ≡ None → IsAllowedAdd m x
allowed_add m x none =
    let listed = listed_passed (map.get m.securities x.header.locate) x.stock _ none in
    let shares = passed (x.shares == 0) _ _ listed.1 in
    let fresh = passed _ _ _ shares.1 in
    record { listed = listed.0; some_shares = some_shares x.shares shares.0; new_reference = is_none (book.get m.orders x.reference) fresh.0 }

-- a replacement has shares, and a reference that no live order has
pub record IsAllowedReplace (m : Content) (x : OrderReplace) : Type 0 where
  pub some_shares : 0 < x.shares
  pub new_reference : book.get m.orders x.reference ≡ None

allowed_after : (m : Content) (x : OrderReplace) (o : Option Order)
    → IsSomeAnd o (λ _. refuse (x.shares == 0) ZeroShares (refuse (is_live m x.reference) DuplicateRef None) ≡ None) → IsAllowedReplace m x
allowed_after m x None following = absurd following
allowed_after m x (Some o) following =
    let shares = passed (x.shares == 0) _ _ following in
    let fresh = passed _ _ _ shares.1 in
    record { some_shares = some_shares x.shares shares.0; new_reference = is_none (book.get m.orders x.reference) fresh.0 }

pub allowed_replace : (m : Content) (x : OrderReplace) → reason m (is.OrderReplace x) ≡ None → IsAllowedReplace m x
allowed_replace m x none =
    allowed_after m x (book.get m.orders x.original) (live_passed (book.get m.orders x.original) x.header.locate _ none)
