-- Comparing ranks is comparing positions in snapshot order.
use Rattle.std.proofs.Common.{◌≡◌, ℕ, ◌<◌, ◌+◌, ◌*◌, nat_lt, Bool, not, ◌&&◌, ◌||◌, ap, ◌∙◌, arith}
use Rattle.std.proofs.lemmas.Bool.Decides.{nat_tests}
use Rattle.itch_codec.specs.declared.orders.Side.{Side}
use Rattle.itch_codec.specs.declared.orders.Side.TheVariants.{Buy, Sell}
use Rattle.itch_book.specs.declared.arrived.Arrived.{Arrived}
use Rattle.itch_book.specs.Orders.{place_before, stands_before}
use Rattle.itch_book.specs.Settled.{comes_before, price_rank, rank, HasRank}

place_order : (l : ℕ) (s : Side) (p m : ℕ) (t : Side) (q : ℕ) → p < 4294967296 → q < 4294967296
    → nat_lt (l * 8589934592 + price_rank s p) (m * 8589934592 + price_rank t q) ≡ place_before l s p m t q
place_order l Buy p m Buy q h k = grind (arith, nat_tests)
place_order l Buy p m Sell q h k = grind (arith, nat_tests)
place_order l Sell p m Buy q h k = grind (arith, nat_tests)
place_order l Sell p m Sell q h k = grind (arith, nat_tests)

-- comparison by the first number, and then by the second
pair_order : (a b i j : ℕ) → i < 18446744073709551616 → j < 18446744073709551616
    → nat_lt (a * 18446744073709551616 + i) (b * 18446744073709551616 + j) ≡ (nat_lt a b || (not (nat_lt b a) && nat_lt i j))
pair_order a b i j h k = grind (arith, nat_tests)

pub rank_order : (x y : Arrived) → HasRank x → HasRank y → nat_lt (rank x) (rank y) ≡ comes_before x y
rank_order x y h k =
    let a = place_order x.order.locate x.order.side x.order.price y.order.locate y.order.side y.order.price h.price k.price in
    let b = place_order y.order.locate y.order.side y.order.price x.order.locate x.order.side x.order.price k.price h.price in
    pair_order _ _ x.arrival y.arrival h.arrival k.arrival
    ∙ ap (λ (t : Bool). t || (not (nat_lt (y.order.locate * 8589934592 + price_rank y.order.side y.order.price) (x.order.locate * 8589934592 + price_rank x.order.side x.order.price)) && nat_lt x.arrival y.arrival)) a
    ∙ ap (λ (t : Bool). stands_before x.order y.order || (not t && nat_lt x.arrival y.arrival)) b
