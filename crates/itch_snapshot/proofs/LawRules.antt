-- The lemmas of the laws, in the form of the laws.
use Rattle.itch_market.proofs.SameMarkets.{laid_same, same_laid}
use Rattle.itch_snapshot.proofs.OneSnapshot.{snap_follows, run-snap, replayed_same, snap_same, snap-laid, same_snap}
use Rattle.itch_snapshot.proofs.LateStart.{late_follows, late_same}
use Rattle.itch_snapshot.proofs.Sizes.{snap_step, short_snap}
use Rattle.itch_snapshot.proofs.SpelledMessages.{snap_messages}
use Rattle.itch_snapshot.proofs.CanonicalBytes.{canon_same, same_canon, canon_again, canon-laid, runs_same}
use Rattle.itch_snapshot.proofs.WholeSnapshots.{closed_market, closed_number}

pub ruleset replay_laws = (snap_messages, snap_follows, run-snap, replayed_same)

pub ruleset late_laws = (late_follows, late_same)

pub ruleset one_laws = (snap_same, same_snap, snap-laid, laid_same, same_laid)

pub ruleset size_laws = (snap_step, short_snap)

pub ruleset canon_laws = (canon_same, same_canon, canon_again, canon-laid)

pub ruleset closed_laws = (closed_market, closed_number)

pub ruleset headline_laws = (canon_same, runs_same)
