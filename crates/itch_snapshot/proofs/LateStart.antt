-- A snapshot can replace the messages before it.
use Rattle.std.proofs.Common.{List, ◌++◌, sym, subst}
use Rattle.itch_codec.specs.declared.message.Message.{Message}
use Rattle.itch_book.proofs.Lists.{All-left_rec, All-right_rec}
use Rattle.itch_market.specs.Content.{Content, empty}
use Rattle.itch_market.specs.GoodMarkets.{IsGood}
use Rattle.itch_codec.specs.Widths.{IsMessage}
use Rattle.itch_market.specs.Runs.{AreMessages, run, after, Follows, FollowsFrom}
use Rattle.itch_market.specs.SameMarkets.{Same}
use Rattle.itch_market.proofs.GoodMarkets.{run_good, laid_good}
use Rattle.itch_market.proofs.Runs.{after-append, follows_first, follows_rest}
use Rattle.itch_market.proofs.SameMarkets.{same_back, follows_same, after_same}
use Rattle.itch_snapshot.specs.Snapshot.{snap}
use Rattle.itch_snapshot.proofs.OneSnapshot.{run-snap, replayed_same}

-- a market, and the market after its snapshot list
record IsReplaced (m n : Content) : Type 0 where
  before : IsGood m
  following : IsGood n
  same : Same n m

replaced : (m : Content) → IsGood m → IsReplaced m (run (snap m))
replaced m good = record {
  before = good;
  following = subst IsGood (sym (run-snap m good)) (laid_good m good);
  same = replayed_same m good;
}

run_replaced : (xs ys : List Message) → AreMessages (xs ++ ys) → Follows (xs ++ ys) → IsReplaced (run xs) (run (snap (run xs)))
run_replaced xs ys fit follows = replaced (run xs) (run_good xs (All-left_rec IsMessage xs ys fit) (follows_first empty xs ys follows))

pub late_follows : (xs ys : List Message) → AreMessages (xs ++ ys) → Follows (xs ++ ys) → FollowsFrom (run (snap (run xs))) ys
late_follows xs ys fit follows =
    let r = run_replaced xs ys fit follows in
    follows_same (run xs) (run (snap (run xs))) ys r.before r.following (All-right_rec IsMessage xs ys fit) (same_back (run (snap (run xs))) (run xs) r.same) (follows_rest empty xs ys follows)

pub late_same : (xs ys : List Message) → AreMessages (xs ++ ys) → Follows (xs ++ ys) → Same (after (run (snap (run xs))) ys) (run (xs ++ ys))
late_same xs ys fit follows =
    let r = run_replaced xs ys fit follows in
    subst (Same (after (run (snap (run xs))) ys)) (sym (after-append empty xs ys))
    (after_same (run (snap (run xs))) (run xs) ys r.following r.before (All-right_rec IsMessage xs ys fit) r.same (late_follows xs ys fit follows))
