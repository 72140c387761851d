use Rattle.std.proofs.Common.{sym, rules}
use Rattle.itch_market.specs.Effects.{with_action, action_of}
use Rattle.itch_market.proofs.Bytes.{bytes_by_place}
use Rattle.itch_market.proofs.GoodMarkets.{changed_good, new_action}
use Rattle.itch_market.proofs.LaidMarkets.{laid_already}
use Rattle.itch_market.proofs.market.Market.set_action.Goals as goal

pub invariant_of-self : goal.invariant_of-self
invariant_of-self g c =
    rw c.set_action.ensures
    (changed_good _ (with_action (action_of c.args.x)) c.args.x.header.locate (new_action (action_of c.args.x) (record { state = search rules; reason = bytes_by_place 4 _ (search rules) (λ k low. search rules) })) c.self.invariant)

pub returns : goal.returns
returns g c = rw (c.set_action.ensures, ← c.self.view_is) (sym (laid_already _ (g.met.B.OrderBook.is_book c.self.inside.book)))
