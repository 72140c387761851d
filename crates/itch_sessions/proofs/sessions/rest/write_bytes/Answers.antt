use Rattle.std.proofs.Common.{refl, ◌∙◌, arith}
use Rattle.itch_frame.proofs.Writes.{Appends-on}
use Rattle.itch_sessions.proofs.sessions.rest.write_bytes.Goals as goal

pub loop-sent-preserved : goal.loop-sent-preserved
loop-sent-preserved g c =
    let so_far = c.loop-sent.invariant in (
      omega (arith, c.in-Ok.ensures.bound),
      Appends-on _ _ _ c.args.bytes.now _ c.loop-sent.sent c.in-Ok.count refl (omega (arith, c.in-Ok.ensures.bound)) so_far.1 c.in-Ok.ensures.bytes.0,
      c.in-Ok.ensures.count ∙ so_far.2,
    )
