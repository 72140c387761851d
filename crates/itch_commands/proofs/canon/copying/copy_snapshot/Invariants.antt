use Rattle.std.proofs.Common.{◌≡◌}
use Rattle.itch_frame.specs.Reading.{bytes_left}
use Rattle.itch_commands.proofs.CopiedSnapshots.{CopiedSoFar}
use Rattle.itch_commands.proofs.canon.copying.copy_snapshot.Given as goal

abbrev pub invariant-loop-taken : goal.invariant-loop-taken
invariant-loop-taken g l =
    let remaining = g.R.CountedRead.remaining in
    record {
      so_far : CopiedSoFar (bytes_left remaining l.initial.reader) (bytes_left remaining l.reader) l.loader l.taken l.copy.items;
      uncounted : g.R.CountedRead.failures l.reader.reader ≡ g.R.CountedRead.failures l.initial.reader.reader;
    }
