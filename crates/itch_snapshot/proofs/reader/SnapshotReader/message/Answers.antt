use Rattle.itch_snapshot.proofs.TakenMessages.{decodes, room_left}
use Rattle.itch_snapshot.proofs.reader.SnapshotReader.message.Goals as goal

pub settle-requires-clause-room : goal.settle-requires-clause-room
settle-requires-clause-room g c =
    let d = c.decode.ensures in
    room_left _ _ _ c.args.payload.now c.take-taken.result c.self.invariant (c.take-taken.ensures c.args.payload.now (decodes c.args.payload.now c.decode.result d.fault d.no_fault d.message d.fits))
