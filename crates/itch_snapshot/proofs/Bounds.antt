-- The snapshot list of a market that was replayed, or read from a snapshot file, is short enough to be written.
use Rattle.std.proofs.Common.{◌≡◌, ℕ, ◌<◌, ◌^◌, List, map, take, length, ap, ◌∙◌, arith}
use Rattle.std.proofs.lemmas.List.{length-map, length-take-le}
use Rattle.itch_codec.specs.Fields.{AreBytes}
use Rattle.itch_codec.specs.Messages.{message_of}
use Rattle.itch_frame.specs.Blocks.{Day}
use Rattle.itch_market.specs.Content.{Content, empty}
use Rattle.itch_market.specs.Runs.{run}
use Rattle.itch_market.specs.Stops.{Stops}
use Rattle.itch_market.specs.declared.stop.Stop.{Stop}
use Rattle.itch_market.proofs.DayFiles.{stopped_within, stopped_few, stopped_messages, stopped_follows}
use Rattle.itch_market.proofs.GoodMarkets.{run_good}
use Rattle.itch_snapshot.specs.Snapshot.{snap}
use Rattle.itch_snapshot.specs.Files.{IsMarketOf}
use Rattle.itch_snapshot.proofs.OneSnapshot.{snap-laid}
use Rattle.itch_snapshot.proofs.Sizes.{short_snap}

pub replayed_short : (bytes : List ℕ) → (ps : List (List ℕ)) → (rest : List ℕ) → (k : ℕ) → (why : Stop) → AreBytes bytes → Day bytes ps rest → Stops empty bytes k why
    → length (snap (run (map message_of (take k ps)))) < 10 ^ 19
replayed_short bytes ps rest k why wide day stops =
    let short =
    short_snap (map message_of (take k ps)) (stopped_messages empty bytes ps rest k why day stops wide) (stopped_follows empty bytes ps rest k why day stops) in
    omega (
      arith,
      short,
      length-map (take k ps) message_of,
      length-take-le k ps (stopped_within empty bytes ps rest k why day stops),
      stopped_few empty bytes ps rest k why day stops,
    )

pub read_short : (bytes : List ℕ) → (done : Content × ℕ) → IsMarketOf bytes done → length (snap done.0) < 10 ^ 19
read_short bytes done (ms, (rest, file, ends), fit, left) =
    let count : length (snap done.0) ≡ length (snap (run ms)) = ap length (ap snap left ∙ snap-laid (run ms) (run_good ms fit file.follows)) in
    omega (arith, count, short_snap ms fit file.follows, file.few)
