use Rattle.itch_sessions.proofs.Endings.{ends_over}
use Rattle.itch_sessions.proofs.sessions.connection.serve_sides.Goals as goal

pub returns : goal.returns
returns g c =
    ends_over g.R.CountedRead.remaining g.R.CountedRead.failures (λ w. g.W.Write.contents w.inner) (λ w. w.failures) c.args.market.now c.args.next c.args.config.now
    c.args.reader.now c.serve_peer.new.reader c.args.writer.now c.serve_peer.new.writer c.serve_peer.result c.serve_peer.ensures
