-- The unfinished snapshot after some messages, if memory does not run out.
use Rattle.std.specs.Prelude.{ℕ, ◌+◌, List, [], ◌∷◌, map}
use Rattle.itch_codec.specs.Messages.{spelling}
use Rattle.itch_market.specs.Content.{Content, laid}
use Rattle.itch_snapshot.specs.Snapshot.{snap}
use Rattle.itch_join.specs.Rules.{Rules}
use Rattle.itch_join.specs.States.{HalfRead, Reading, Broken, unread}
use Rattle.itch_join.specs.Steps.{SnapshotCase, SnapHalted, SnapJoined, SnapBroken, SnapFails, SnapEnds, SnapTakes, half_case}

-- the unfinished snapshot after a message of this case
abbrev pub half_next : Rules → HalfRead → List ℕ → SnapshotCase → HalfRead
half_next R half payload (SnapTakes taken m) = Reading (taken + 1) (laid (R.effect m payload))
half_next R half payload (SnapFails place cause) = Broken place cause
half_next R half payload (SnapEnds next m) = unread
half_next R half payload (SnapBroken place cause) = half
half_next R half payload (SnapHalted h) = half
half_next R half payload SnapJoined = half

-- the unfinished snapshot after these payloads
abbrev pub half_after : Rules → HalfRead → List (List ℕ) → HalfRead
half_after R half [] = half
half_after R half (p ∷ ps) = half_after R (half_next R half p (half_case R half p)) ps

-- the unfinished snapshot after the snapshot list of a market, before its End of Snapshot
abbrev pub half_of_snapshot : Rules → Content → HalfRead
half_of_snapshot R m = half_after R unread (map spelling (snap m))
