use Rattle.std.proofs.Common.{◌≡◌, List, ℕ, take, sym, ap, subst, ◌∙◌}
use Rattle.std.specs.Io.Buffered.{reader_buffer, reader_remaining}
use Rattle.std.specs.Io.KnownBytes.{Consumes}
use Rattle.itch_frame.proofs.BufferedBytes.{passed_over}
use Rattle.itch_frame.proofs.counted.buffered.BufferedCountedRead.take_block.Goals as goal

pub returns-clause-bytes : goal.returns-clause-bytes
returns-clause-bytes g c =
    let size = c.in_ok-size.size in
    let reader = c.args.self.now.counted.inner in
    let moved : take size c.copy_first_block.new.buf ≡ take size (reader_buffer reader) = c.in_ok-size.ensures.bytes ∙ ap (take size) c.buffer-ahead.ensures in
    subst (λ (got : List ℕ). Consumes (reader_remaining g.T.Read.remaining reader) (reader_remaining g.T.Read.remaining c.consume.new.self) got)
    (sym moved)
    (passed_over g.T.Read.remaining reader c.consume.new.self size c.consume.ensures.buffer c.consume.ensures.inner c.consume.ensures.capacity)
