use Rattle.itch_snapshot.proofs.ReadSteps.{none_more}
use Rattle.itch_snapshot.proofs.TakenMessages.{decodes}
use Rattle.itch_snapshot.proofs.read.read_last.Goals as goal

pub unreachable-requires : goal.unreachable-requires
unreachable-requires g c =
    let d = c.decode.ensures in
    let p = c.payload.result.now in
    none_more _ _ _ p _ c.in-None.is (c.in_ok-next.ensures.takes p (decodes p c.decode.result d.fault d.no_fault d.message d.fits))
