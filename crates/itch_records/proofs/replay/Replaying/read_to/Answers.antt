use Rattle.std.proofs.Common.{rules, refl, sym}
use Rattle.itch_records.proofs.ReplayedParts.{if_ok, keeps_name, replays}
use Rattle.itch_records.specs.declared.replay.RecordSink.{RecordSink}
use Rattle.itch_records.proofs.replay.Replaying.read_to.Goals as goal

pub returns : goal.returns
returns g c =
    let S = RecordSink g.row.B.Denot g.row.B-Alloc.Denot in
    let reads = c.read_part-stop.ensures.reads in
    let named = sym (keeps_name (λ (t : S). t.follower.now) (λ (t : S). t.follower.ghost_name) (λ (t : S). t.cursor) g.S.CountedRead.remaining g.S.CountedRead.failures c.counted-limit.result _ _ _ _ _ _ _ reads) in
    let some = if_ok c.is_more.result c.is_more.ensures (λ is.
    (replays (λ (t : S). t.follower.now) (λ (t : S). t.follower.ghost_name) (λ (t : S). t.cursor) g.S.CountedRead.remaining g.S.CountedRead.failures _ c.counted-limit.result _ _ _ _ _ _ _ reads refl is).1) in
    search rules
