-- Two day files whose replays reach the end result in the same market if and only if the canonical bytes of their markets are equal.
use Rattle.std.proofs.Common.{◌≡◌, ℕ, List, map}
use Rattle.itch_codec.specs.Fields.{AreBytes}
use Rattle.itch_codec.specs.Messages.{message_of}
use Rattle.itch_frame.specs.Blocks.{Day}
use Rattle.itch_market.specs.Content.{empty}
use Rattle.itch_market.specs.Runs.{run}
use Rattle.itch_market.specs.SameMarkets.{Same}
use Rattle.itch_market.specs.Stops.{Stops}
use Rattle.itch_market.specs.declared.stop.Stop.TheVariants.{End}
use Rattle.itch_market.proofs.DayFiles.{day_follows, day_messages}
use Rattle.itch_snapshot.specs.Bytes.{canon}
use Rattle.itch_snapshot.proofs.CanonicalBytes.{canon_same, runs_same}

module _ (b c : List ℕ) (ps qs : List (List ℕ)) (r s : List ℕ) (j k : ℕ) (wide : AreBytes b) (wide_too : AreBytes c) (day : Day b ps r) (other : Day c qs s)
    (ends : Stops empty b j End) (ends_too : Stops empty c k End) where
  pub files_canon : Same (run (map message_of ps)) (run (map message_of qs)) → canon (run (map message_of ps)) ≡ canon (run (map message_of qs))
  files_canon same = canon_same (run (map message_of ps)) (run (map message_of qs)) same

  pub files_same : canon (run (map message_of ps)) ≡ canon (run (map message_of qs)) → Same (run (map message_of ps)) (run (map message_of qs))
  files_same equal =
      runs_same (map message_of ps) (map message_of qs) (day_messages empty b ps r j day ends wide) (day_messages empty c qs s k other ends_too wide_too)
      (day_follows empty b ps r j day ends) (day_follows empty c qs s k other ends_too) equal
