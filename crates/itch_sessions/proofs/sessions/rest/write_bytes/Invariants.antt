use Rattle.std.proofs.Common.{length, ◌-◌, ◌≤◌, ◌≡◌, take}
use Rattle.std.specs.Io.KnownBytes.{Appends}
use Rattle.itch_sessions.proofs.sessions.rest.write_bytes.Given as goal

abbrev pub invariant-loop-sent : goal.invariant-loop-sent
invariant-loop-sent g l =
    (l.sent ≤ length l.bytes)
    × Appends (g.W.CountedWrite.contents l.initial.out) (g.W.CountedWrite.contents l.out) (take l.sent l.bytes)
    × (g.W.CountedWrite.failures l.out ≡ g.W.CountedWrite.failures l.initial.out)

abbrev pub decreases-loop-sent : goal.decreases-loop-sent
decreases-loop-sent g l = length l.bytes - l.sent
