use Rattle.itchsnap_c.proofs.Days.{cut_spelled}
use Rattle.itchsnap_c.proofs.snapshots.partial_bytes.Goals as goal

pub returns : goal.returns
returns g c =
    cut_spelled c.in-Some.set c.args.locates.now c.args.market.now c.args.next c.in_ok-next.next c.cut_bytes.result
    c.in_ok-next.ensures c.in-Some.ensures c.cut_bytes.ensures.bytes c.cut_bytes.ensures.memory
