use Rattle.itch_live.proofs.InSession.{changed_in_session}
use Rattle.itch_live.proofs.laws.taken_in_session.Goals as goal

pub returns : goal.returns
returns g c = λ begun past f h piece now result old new fresh led hears differs.
    changed_in_session g.W.CountedWrite.contents g.W.CountedWrite.failures begun fresh past f h piece now result old new led hears differs
