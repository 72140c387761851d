-- Both sides of the prices, as queues by place.
use Rattle.std.proofs.Common.{◌≡◌, ℕ, cond, List, Option, sym, ap, ◌∙◌, subst}
use Rattle.std.specs.BTreeMap.{is_at}
use Rattle.itch_codec.specs.declared.orders.Side.{Side}
use Rattle.itch_codec.specs.declared.orders.Side.TheVariants.{Buy, Sell}
use Rattle.itch_book.specs.declared.level_lines.Level.{Level}
use Rattle.itch_book.specs.Indexed.{Place, place_cmp, queue_at, queue_of_side, is_there, IsNextOr}
use Rattle.itch_book.specs.SideLevels.{levels_in, queue_among}
use Rattle.itch_book.proofs.SideLevelLemmas.{on_levels}

-- the queues of either side
module _ (ls : List (List Level)) (overflow bids asks : List (Place × ℕ)) (s : Side) where
  pub on_bids : s ≡ Buy → levels_in ls overflow ≡ bids → (l p : ℕ) → queue_of_side s bids asks l p ≡ queue_among ls overflow l p
  on_bids is seen l p = ap (λ (t : Side). queue_of_side t bids asks l p) is ∙ ap (λ (es : List (Place × ℕ)). queue_at es l p) (sym seen) ∙ on_levels ls overflow l p

  pub on_asks : s ≡ Sell → levels_in ls overflow ≡ asks → (l p : ℕ) → queue_of_side s bids asks l p ≡ queue_among ls overflow l p
  on_asks is seen l p = ap (λ (t : Side). queue_of_side t bids asks l p) is ∙ ap (λ (es : List (Place × ℕ)). queue_at es l p) (sym seen) ∙ on_levels ls overflow l p

  pub next_bid : s ≡ Buy → levels_in ls overflow ≡ bids → (l : ℕ) (last : Option ℕ) (o : Option (ℕ × ℕ)) → IsNextOr (queue_among ls overflow l) Buy last o → IsNextOr (queue_of_side s bids asks l) s last o
  next_bid is seen l last o next =
      subst (λ (f : ℕ → Option ℕ). IsNextOr f s last o) (λ i p. sym (on_bids is seen l p) i) (subst (λ (t : Side). IsNextOr (queue_among ls overflow l) t last o) (sym is) next)

  pub next_ask : s ≡ Sell → levels_in ls overflow ≡ asks → (l : ℕ) (last : Option ℕ) (o : Option (ℕ × ℕ)) → IsNextOr (queue_among ls overflow l) Sell last o → IsNextOr (queue_of_side s bids asks l) s last o
  next_ask is seen l last o next =
      subst (λ (f : ℕ → Option ℕ). IsNextOr f s last o) (λ i p. sym (on_asks is seen l p) i) (subst (λ (t : Side). IsNextOr (queue_among ls overflow l) t last o) (sym is) next)

-- a change of one place of one side
module _ (ls ls' : List (List Level)) (overflow overflow' : List (Place × ℕ)) (es : List (Place × ℕ)) (seen : levels_in ls overflow ≡ es) (l0 p0 : ℕ) (o : Option ℕ)
    (changed : (l p : ℕ) → queue_among ls' overflow' l p ≡ cond (is_at (place_cmp (l0, p0)) (l, p)) o (queue_among ls overflow l p)) where
  one_side : (l p : ℕ) → queue_at (levels_in ls' overflow') l p ≡ cond (is_at (place_cmp (l0, p0)) (l, p)) o (queue_at es l p)
  one_side l p =
      on_levels ls' overflow' l p ∙ changed l p
      ∙ ap (cond (is_at (place_cmp (l0, p0)) (l, p)) o) (sym (on_levels ls overflow l p) ∙ ap (λ (xs : List (Place × ℕ)). queue_at xs l p) seen)

  pub bids_placed : (s0 : Side) (asks asks' : List (Place × ℕ)) → s0 ≡ Buy → asks' ≡ asks → (s : Side) (l p : ℕ)
      → queue_of_side s (levels_in ls' overflow') asks' l p ≡ cond (is_there s0 l0 p0 s l p) o (queue_of_side s es asks l p)
  bids_placed s0 asks asks' is kept s l p =
      subst (λ (t : Side). queue_of_side s (levels_in ls' overflow') asks' l p ≡ cond (is_there t l0 p0 s l p) o (queue_of_side s es asks l p)) (sym is) (by s)
    where
      by : (s : Side) → queue_of_side s (levels_in ls' overflow') asks' l p ≡ cond (is_there Buy l0 p0 s l p) o (queue_of_side s es asks l p)
      by Buy = one_side l p
      by Sell = ap (λ (xs : List (Place × ℕ)). queue_at xs l p) kept

  pub asks_placed : (s0 : Side) (bids bids' : List (Place × ℕ)) → s0 ≡ Sell → bids' ≡ bids → (s : Side) (l p : ℕ)
      → queue_of_side s bids' (levels_in ls' overflow') l p ≡ cond (is_there s0 l0 p0 s l p) o (queue_of_side s bids es l p)
  asks_placed s0 bids bids' is kept s l p =
      subst (λ (t : Side). queue_of_side s bids' (levels_in ls' overflow') l p ≡ cond (is_there t l0 p0 s l p) o (queue_of_side s bids es l p)) (sym is) (by s)
    where
      by : (s : Side) → queue_of_side s bids' (levels_in ls' overflow') l p ≡ cond (is_there Sell l0 p0 s l p) o (queue_of_side s bids es l p)
      by Sell = one_side l p
      by Buy = ap (λ (xs : List (Place × ℕ)). queue_at xs l p) kept
