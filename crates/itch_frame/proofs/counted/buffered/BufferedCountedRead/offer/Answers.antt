use Rattle.std.proofs.Common.{◌≤◌, take, length, inr, arith}
use Rattle.std.specs.Io.Buffered.{reader_buffer}
use Rattle.std.proofs.lemmas.List.{length-take-le}
use Rattle.itch_frame.proofs.BufferedBytes.{passed_over}
use Rattle.itch_frame.proofs.counted.buffered.BufferedCountedRead.offer.Goals as goal

pub returns-then-used-gt0-clause-offers : goal.returns-then-used-gt0-clause-offers
returns-then-used-gt0-clause-offers g c =
    let reader = c.args.self.now.counted.inner in
    let used = c.consume-used.result in
    let within : used ≤ length (reader_buffer reader) = rw c.buffer.ensures at c.consume-used.ensures.within in
    record {
      bytes = take used (reader_buffer reader);
      counted = length-take-le used (reader_buffer reader) within;
      read = passed_over g.T.Read.remaining reader c.consume.new.self used c.consume.ensures.buffer c.consume.ensures.inner c.consume.ensures.capacity;
      unread = λ none. absurd (omega (arith, none));
      used = inr (rw c.buffer.ensures at c.consume-used.ensures.uses);
    }
