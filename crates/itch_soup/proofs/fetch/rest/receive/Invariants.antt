use Rattle.std.proofs.Common.{◌≡◌}
use Rattle.itch_frame.specs.Reading.{bytes_left}
use Rattle.itch_soup.proofs.RestSteps.{Keeping}
use Rattle.itch_soup.proofs.fetch.rest.receive.Given as goal

abbrev pub invariant-loop-count : goal.invariant-loop-count
invariant-loop-count g l =
    let remaining = g.R.CountedRead.remaining in
    record {
      keeping : Keeping l.from l.fn.session (bytes_left remaining l.initial.reader) (bytes_left remaining l.reader) l.count l.session l.rest;
      uncounted : g.R.CountedRead.failures l.reader.reader ≡ g.R.CountedRead.failures l.initial.reader.reader;
    }
