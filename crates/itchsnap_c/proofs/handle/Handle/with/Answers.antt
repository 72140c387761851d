use Rattle.std.proofs.Common.{refl}
use Rattle.itchsnap_c.proofs.handle.Handle.with.Goals as goal

pub returns : goal.returns
returns g c =
    rw (c.in-Some.ensures.taken, c.put.ensures)
    (record { shown = c.deref_mut.result; shows = c.deref_mut.ensures.value; left = _; met = c.call-answer.ensures; leaves = refl })
