-- A day file that is cut at any message: a snapshot can replace the messages before the cut.
use Rattle.std.proofs.Common.{◌≡◌, ℕ, List, ◌++◌, map, length, None, sym, subst, arith, length-append}
use Rattle.std.proofs.lemmas.List.{map-append}
use Rattle.itch_codec.specs.Fields.{AreBytes}
use Rattle.itch_codec.specs.Messages.{fault, message_of}
use Rattle.itch_book.proofs.Lists.{All-right_rec}
use Rattle.itch_frame.specs.Blocks.{Day}
use Rattle.itch_market.specs.Content.{empty}
use Rattle.itch_market.specs.Runs.{AreMessages, run, after, Follows, FollowsFrom}
use Rattle.itch_market.specs.SameMarkets.{Same}
use Rattle.itch_market.specs.Stops.{Stops}
use Rattle.itch_market.specs.declared.stop.Stop.TheVariants.{End}
use Rattle.itch_market.proofs.DayFiles.{day_few, day_ends, day_clean, day_follows, day_messages, clean_stops}
use Rattle.itch_snapshot.specs.Snapshot.{snap}
use Rattle.itch_snapshot.proofs.LateStart.{late_follows, late_same}

module _ (b : List ℕ) (ps qs : List (List ℕ)) (rest : List ℕ) (k : ℕ) (wide : AreBytes b) (day : Day b (ps ++ qs) rest) (stops : Stops empty b k End) where
  fit : AreMessages (map message_of ps ++ map message_of qs)
  fit = subst AreMessages (map-append message_of ps qs) (day_messages empty b (ps ++ qs) rest k day stops wide)

  follows : Follows (map message_of ps ++ map message_of qs)
  follows = subst Follows (map-append message_of ps qs) (day_follows empty b (ps ++ qs) rest k day stops)

  pub cut_follows : FollowsFrom (run (snap (run (map message_of ps)))) (map message_of qs)
  cut_follows = late_follows (map message_of ps) (map message_of qs) fit follows

  pub cut_same : Same (after (run (snap (run (map message_of ps)))) (map message_of qs)) (run (map message_of (ps ++ qs)))
  cut_same =
      subst (λ ms. Same (after (run (snap (run (map message_of ps)))) (map message_of qs)) (run ms)) (sym (map-append message_of ps qs))
      (late_same (map message_of ps) (map message_of qs) fit follows)

  pub cut_stops : (c : List ℕ) → Day c qs rest → Stops (run (snap (run (map message_of ps)))) c (length qs) End
  cut_stops c later =
      clean_stops (run (snap (run (map message_of ps)))) c qs rest later (day_ends empty b (ps ++ qs) rest k day stops)
      (omega (arith, day_few empty b (ps ++ qs) rest k day stops, length-append ps qs))
      (All-right_rec (λ payload. fault payload ≡ None) ps qs (day_clean empty b (ps ++ qs) rest k day stops)) cut_follows
