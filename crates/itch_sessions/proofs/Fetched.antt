-- A market that was fetched can be written.
use Rattle.std.proofs.Common.{◌≡◌, ℕ, ◌<◌, ◌^◌, List, length, Option, Result, Ok, Err, ap, ◌∙◌, arith}
use Rattle.itch_frame.specs.Reading.{Reading}
use Rattle.itch_frame.specs.declared.fault.FrameFault.{FrameFault}
use Rattle.itch_frame.specs.declared.tally.Failures.{Failures}
use Rattle.itch_market.specs.Content.{Content, laid}
use Rattle.itch_market.specs.Runs.{run}
use Rattle.itch_market.proofs.GoodMarkets.{run_good}
use Rattle.itch_market.proofs.SameMarkets.{laid_is_same}
use Rattle.itch_snapshot.specs.Snapshot.{snap}
use Rattle.itch_snapshot.proofs.OneSnapshot.{snap_same}
use Rattle.itch_snapshot.proofs.Sizes.{short_snap}
use Rattle.itch_soup.specs.Clients.{Client}
use Rattle.itch_soup.specs.declared.login.Credentials.{Credentials}
use Rattle.itch_soup.specs.Fetching.{Fetched, FetchesAfterLogin, Fetches}

received_short : (c : Client) (old new : Option (List ℕ)) (done : Content × ℕ) → Fetched c old new done → length (snap done.0) < 10 ^ 19
received_short c old new done (payloads, heard, (ms, snapshot, fit, is, last)) =
    let good = run_good ms fit snapshot.follows in
    let same : snap done.0 ≡ snap (run ms) = ap snap is ∙ snap_same (laid (run ms)) (run ms) (laid_is_same (run ms) good) in
    omega (arith, ap length same, short_snap ms fit snapshot.follows, snapshot.few)

module _ {R V : Type 0} (remaining : R → Option (List ℕ)) (reads : R → Failures) (contents : V → Option (List ℕ)) (writes : V → Failures) (credentials : Credentials) where
  -- it has no more messages than were received before its End of Snapshot
  pub fetched_short : (reader after : Reading R) (writer writer_after : V) (done : Content × ℕ)
      → Fetches remaining reads contents writes credentials reader writer (Ok done) after writer_after → length (snap done.0) < 10 ^ 19
  fetched_short reader after writer writer_after done (sent, wrote, rest) = by_login sent rest where
    by_login : (login : Result (Unit {0}) FrameFault) → FetchesAfterLogin remaining reads credentials login reader (Ok done) after → length (snap done.0) < 10 ^ 19
    by_login (Ok written) (received, counts, held) = received_short _ _ _ done received
    by_login (Err fault) (other, same) = absurd (let no_one : ⊥ = cc in no_one)
