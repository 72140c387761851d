use Rattle.std.proofs.Common.{◌≡◌, None, Some, Ok, false, true, not, is_err, refl, sym, ap, subst, ◌∙◌}
use Rattle.std.specs.FinMap as finite
use Rattle.itch_market.specs.Content.{Content, laid}
use Rattle.itch_market.specs.Effects.{effect}
use Rattle.itch_market.specs.Reasons.{reason}
use Rattle.itch_depth.specs.Changes.{best, best_at, same_sides}
use Rattle.itch_depth.specs.ChangedPrices.{AreSameElsewhere, changed_price}
use Rattle.itch_depth.specs.Following.{FollowsOne, IsFollowing, Renews, wants}
use Rattle.itch_depth.specs.Own.{IsOwn, concerns}
use Rattle.itch_depth.proofs.ChangedOrders.{DifferAt, orders_differ}
use Rattle.itch_depth.proofs.FollowedStocks.{first_of, followed_own}
use Rattle.itch_depth.proofs.Followings.{accepted, follows_on, is_book, locate_stays, next_first, none_shown, not_entry, nothing_told, shown_own, some_locate, unchanged, when_ok}
use Rattle.itch_depth.proofs.OwnMarkets.{far_message, near_message}
use Rattle.itch_depth.proofs.changes.book.Followed.follow.Goals as goal

pub returns-then-not-concerns-clause-follows : goal.returns-then-not-concerns-clause-follows
returns-then-not-concerns-clause-follows g c = λ before follows good in_order none after.
    let R = c.args.request in
    let it = c.args.self.now in
    let x = c.args.message.now in
    let far : concerns (wants R.stock) it.own x ≡ false = sym c.concerns.ensures ∙ c.if-not-concerns.true in
    subst (λ n. IsFollowing R n it.own it.locate it.best × (false ≡ not (same_sides (best R.depth R.stock before) (best R.depth R.stock n)))) (sym after)
    (nothing_told R before it.own it.locate it.best follows (laid (effect before x)) (far_message (wants R.stock) before it.own follows.own_market good in_order x none far))

pub returns-in-StockDirectory-clause-follows : goal.returns-in-StockDirectory-clause-follows
returns-in-StockDirectory-clause-follows g c = λ before follows good in_order none after.
    let R = c.args.request in
    let it = c.args.self.now in
    let x = c.args.message.now in
    let near : concerns (wants R.stock) it.own x ≡ true = sym c.concerns.ensures ∙ c.if-not-concerns.false in
    let fine : is_err c.apply.result ≡ false = sym c.is_err.ensures.value ∙ c.if-is_err.false in
    let now_is : c.apply.new.self ≡ laid (effect it.own x) = when_ok c.apply.result fine c.apply.ensures.ok in
    let n : Content = laid (effect before x) in
    let now : Content = laid (effect it.own x) in
    let is_own : IsOwn (wants R.stock) n now = near_message (wants R.stock) before it.own follows.own_market good in_order x none near in
    let first : c.next-self.result ≡ first_of (finite.keys c.apply.new.self.securities) = next_first _ _ c.next-self.result c.next-self.ensures.steps ∙ ap first_of c.locates.ensures in
    let place : c.next-self.result ≡ first_of (finite.keys now.securities) = first ∙ ap (λ (o : Content). first_of (finite.keys o.securities)) now_is in
    let renews : Renews R.depth now c.next-self.result it.best c.renew.result c.renew.new.self.best = subst (λ o. Renews R.depth o c.next-self.result it.best c.renew.result c.renew.new.self.best) now_is c.renew.ensures.renewed in
    let done = follows_on R before it.own it.locate it.best follows n now c.next-self.result c.renew.result c.renew.new.self.best is_own (place ∙ sym (followed_own R.stock n now is_own))
    (λ gone. absurd (some_locate it.own c.in-StockDirectory.field-0 (ap (λ y. first_of (finite.keys (effect it.own y).securities)) (sym c.in-StockDirectory.is) ∙ sym place ∙ gone))) renews in
    let kept = c.renew.ensures.kept in
    subst (λ to. FollowsOne R before to c.renew.result c.renew.new.self.own c.renew.new.self.locate c.renew.new.self.best) (sym after)
    (subst (λ o. FollowsOne R before n c.renew.result o c.renew.new.self.locate c.renew.new.self.best) (sym (kept.0 ∙ now_is))
    (subst (λ l. FollowsOne R before n c.renew.result now l c.renew.new.self.best) (sym kept.1) done))

pub returns-in-Some : goal.returns-in-Some
returns-in-Some g c = record {
  follows = λ before follows good in_order none after.
      let R = c.args.request in
      let it = c.args.self.now in
      let x = c.args.message.now in
      let near : concerns (wants R.stock) it.own x ≡ true = sym c.concerns.ensures ∙ c.if-not-concerns.false in
      let fine : is_err c.apply.result ≡ false = sym c.is_err.ensures.value ∙ c.if-is_err.false in
      let now_is : c.apply.new.self ≡ laid (effect it.own x) = when_ok c.apply.result fine c.apply.ensures.ok in
      let n : Content = laid (effect before x) in
      let now : Content = laid (effect it.own x) in
      let is_own : IsOwn (wants R.stock) n now = near_message (wants R.stock) before it.own follows.own_market good in_order x none near in
      let taken : reason it.own x ≡ None = accepted (reason it.own x) c.apply.result fine c.apply.ensures.refused in
      let at : changed_price it.own.orders x ≡ Some c.in-Some.changed = ap (λ os. changed_price os x) (sym c.book.ensures.orders) ∙ sym c.in-Some.ensures in
      let differ : AreSameElsewhere c.in-Some.changed it.own.orders now.orders = subst (λ o. DifferAt o it.own.orders now.orders) at (orders_differ it.own c.book.ensures.good c.book.ensures.in_order x taken) in
      let same : AreSameElsewhere c.in-Some.changed it.own.orders c.apply.new.self.orders = subst (λ (o : Content). AreSameElsewhere c.in-Some.changed it.own.orders o.orders) (sym now_is) differ in
      let renewed = c.renew_at.ensures.renewed it.own.orders (is_book it.own c.book.ensures.good c.book.ensures.in_order) same (shown_own R before it.own it.locate it.best follows) in
      let renews : Renews R.depth now it.locate it.best c.renew_at.result c.renew_at.new.self.best = subst (λ o. Renews R.depth o it.locate it.best c.renew_at.result c.renew_at.new.self.best) now_is renewed in
      let done = follows_on R before it.own it.locate it.best follows n now it.locate c.renew_at.result c.renew_at.new.self.best is_own
      (locate_stays R before it.own it.locate it.best follows x n (not_entry x c.in_default.not-StockDirectory) is_own) (none_shown R before it.own it.locate it.best follows) renews in
      let kept = c.renew_at.ensures.kept in
      subst (λ to. FollowsOne R before to c.renew_at.result c.renew_at.new.self.own c.renew_at.new.self.locate c.renew_at.new.self.best) (sym after)
      (subst (λ o. FollowsOne R before n c.renew_at.result o c.renew_at.new.self.locate c.renew_at.new.self.best) (sym (kept.0 ∙ now_is))
      (subst (λ l. FollowsOne R before n c.renew_at.result now l c.renew_at.new.self.best) (sym kept.1) done));
  market = c.renew_at.ensures.market;
}

pub returns-in-None : goal.returns-in-None
returns-in-None g c = record {
  follows = λ before follows good in_order none after.
      let R = c.args.request in
      let it = c.args.self.now in
      let x = c.args.message.now in
      let near : concerns (wants R.stock) it.own x ≡ true = sym c.concerns.ensures ∙ c.if-not-concerns.false in
      let fine : is_err c.apply.result ≡ false = sym c.is_err.ensures.value ∙ c.if-is_err.false in
      let now_is : c.apply.new.self ≡ laid (effect it.own x) = when_ok c.apply.result fine c.apply.ensures.ok in
      let n : Content = laid (effect before x) in
      let now : Content = laid (effect it.own x) in
      let is_own : IsOwn (wants R.stock) n now = near_message (wants R.stock) before it.own follows.own_market good in_order x none near in
      let taken : reason it.own x ≡ None = accepted (reason it.own x) c.apply.result fine c.apply.ensures.refused in
      let at : changed_price it.own.orders x ≡ None = ap (λ os. changed_price os x) (sym c.book.ensures.orders) ∙ sym c.changed_price-changed.ensures ∙ c.in-None.is in
      let same : now.orders ≡ it.own.orders = subst (λ o. DifferAt o it.own.orders now.orders) at (orders_differ it.own c.book.ensures.good c.book.ensures.in_order x taken) in
      let done = follows_on R before it.own it.locate it.best follows n now it.locate (Ok false) it.best is_own
      (locate_stays R before it.own it.locate it.best follows x n (not_entry x c.in_default.not-StockDirectory) is_own) (none_shown R before it.own it.locate it.best follows)
      (unchanged R.depth now it.locate it.best (shown_own R before it.own it.locate it.best follows ∙ ap (λ os. best_at R.depth os it.locate) (sym same))) in
      subst (λ to. FollowsOne R before to (Ok false) c.apply.new.self it.locate it.best) (sym after)
      (subst (λ o. FollowsOne R before n (Ok false) o it.locate it.best) (sym now_is) done);
  market = refl;
}
