use Rattle.std.proofs.Common.{◌≡◌, List, ℕ, take, length, sym, subst, IfSome, ◌==◌}
use Rattle.std.specs.Io.Buffered.{reader_buffer, reader_capacity, reader_remaining}
use Rattle.itch_frame.proofs.BufferedBytes.{come_next}
use Rattle.itch_frame.proofs.counted.buffered.BufferedCountedRead.at_hand.Goals as goal

pub returns : goal.returns
returns g c =
    let reader = c.args.self.now.counted.inner in
    subst (λ (got : List ℕ). IfSome (reader_remaining g.T.Read.remaining reader) (λ rest. take (length got) rest ≡ got)) (sym c.buffer.ensures)
    (come_next (reader_capacity reader == 0) (reader_buffer reader) (g.T.Read.remaining reader.inner))
