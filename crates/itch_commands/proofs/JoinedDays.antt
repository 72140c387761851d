-- The market after a snapshot of a day's first messages, and then a feed of its later ones.
use Rattle.std.proofs.Common.{◌≡◌, ℕ, ◌+◌, ◌-◌, ◌≤◌, max, List, ◌++◌, map, length, drop, sym, ap, ◌∙◌, subst, arith, length-append, length-drop}
use Rattle.std.proofs.Math.Seq.{drop-append_seam}
use Rattle.std.proofs.lemmas.List.{drop-append-le, map-append}
use Rattle.itch_book.proofs.Lists.{All-left_rec, All-right_rec}
use Rattle.itch_codec.specs.Messages.{message_of}
use Rattle.itch_codec.specs.Widths.{IsMessage}
use Rattle.itch_codec.specs.declared.message.Message.{Message}
use Rattle.itch_market.specs.Content.{Content, empty}
use Rattle.itch_market.specs.GoodMarkets.{IsGood}
use Rattle.itch_market.specs.Runs.{AreMessages, run, after, Follows}
use Rattle.itch_market.specs.SameMarkets.{Same}
use Rattle.itch_market.proofs.GoodMarkets.{run_good}
use Rattle.itch_market.proofs.Runs.{after-append, follows_first, follows_rest}
use Rattle.itch_market.proofs.SameMarkets.{same_back, follows_same, after_same}
use Rattle.itch_commands.specs.Joining.{from_number, joined_market, joined_next}

seam : (n : ℕ) (xs ys : List (List ℕ)) → n ≡ length xs → drop n (xs ++ ys) ≡ ys
seam n xs ys is = ap (λ k. drop k (xs ++ ys)) is ∙ drop-append_seam xs ys

-- the messages of a feed that the snapshot lacks
rest_of_day : (before : ℕ) (ps qs : List (List ℕ)) → before ≤ length ps → from_number before (length ps + 1) (drop before (ps ++ qs)) ≡ qs
rest_of_day before ps qs low =
    ap (drop (length ps + 1 - 1 - before)) (drop-append-le before ps qs low)
    ∙ seam (length ps + 1 - 1 - before) (drop before ps) qs (omega (arith, length-drop before ps))

-- messages have the same effect on markets that are the same
day_leaves : (m : Content) (xs ys : List Message) → IsGood m → Same m (run xs) → AreMessages (xs ++ ys) → Follows (xs ++ ys) → Same (after m ys) (run (xs ++ ys))
day_leaves m xs ys good same fit follows =
    let good_run = run_good xs (All-left_rec IsMessage xs ys fit) (follows_first empty xs ys follows) in
    let rest = All-right_rec IsMessage xs ys fit in
    subst (Same (after m ys)) (sym (after-append empty xs ys))
    (after_same m (run xs) ys good good_run rest same (follows_same (run xs) m ys good_run good rest (same_back m (run xs) same) (follows_rest empty xs ys follows)))

pub day_joined : (m : Content) (before : ℕ) (ps qs : List (List ℕ)) → IsGood m → Same m (run (map message_of ps)) → before ≤ length ps → AreMessages (map message_of (ps ++ qs))
    → Follows (map message_of (ps ++ qs)) → Same (joined_market before (m, length ps + 1) (drop before (ps ++ qs))) (run (map message_of (ps ++ qs)))
day_joined m before ps qs good same low fit follows =
    let parts : map message_of (ps ++ qs) ≡ map message_of ps ++ map message_of qs = map-append message_of ps qs in
    subst (λ rs. Same (after m (map message_of rs)) (run (map message_of (ps ++ qs)))) (sym (rest_of_day before ps qs low))
    (subst (λ ms. Same (after m (map message_of qs)) (run ms)) (sym parts)
    (day_leaves m (map message_of ps) (map message_of qs) good same (subst AreMessages parts fit) (subst Follows parts follows)))

pub day_counted : (m : Content) (before : ℕ) (ps qs : List (List ℕ)) → before ≤ length ps → joined_next before (m, length ps + 1) (drop before (ps ++ qs)) ≡ length (ps ++ qs) + 1
day_counted m before ps qs low = count (length ps) (length qs) (length (ps ++ qs)) (length (drop before (ps ++ qs))) low (length-append ps qs) (length-drop before (ps ++ qs)) where
  count : (p q all rest : ℕ) → before ≤ p → all ≡ p + q → rest ≡ all - before → max (p + 1) (before + rest + 1) ≡ all + 1
  count p q all rest begins one two = omega (arith, begins, one, two)
