use Rattle.itch_sessions.proofs.Endings.{ends_as}
use Rattle.itch_sessions.proofs.sessions.connection.serve_stream.Goals as goal

pub returns : goal.returns
returns g c =
    ends_as c.args.market.now c.args.next c.args.config.now _ _ c.serve_sides-ending.result _ _ c.in_ok-reader.ensures c.in_ok-writer.ensures c.serve_sides-ending.ensures
