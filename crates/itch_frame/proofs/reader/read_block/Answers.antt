use Rattle.std.proofs.Common.{◌≡◌, ◌≤◌, length, take, ◌∙◌, arith}
use Rattle.std.proofs.lemmas.List.{length-take-le}
use Rattle.itch_frame.proofs.SplitterLemmas.{front_whole}
use Rattle.itch_frame.proofs.Filling.{filled_begun, filled_keeps, filled_front}
use Rattle.itch_frame.proofs.reader.read_block.Goals as goal

pub returns-then-lacks-eq0-clause-whole : goal.returns-then-lacks-eq0-clause-whole
returns-then-lacks-eq0-clause-whole g c =
    let lacks = c.lacking-lacks.ensures in
    let within : c.loop-lacks.len ≤ length c.loop-lacks.buffer = omega arith in
    let front : length (take c.loop-lacks.len c.loop-lacks.buffer) ≡ c.loop-lacks.len = length-take-le c.loop-lacks.len c.loop-lacks.buffer within in
    λ _. front_whole c.loop-lacks.buffer c.loop-lacks.len within (omega arith) (omega (arith, front)) (lacks.bytes 0) (lacks.bytes 1)

pub loop-lacks-preserved : goal.loop-lacks-preserved
loop-lacks-preserved g c =
    let so_far = c.loop-lacks.invariant in
    let read = c.in_ok-count.ensures in
    let within : c.loop-lacks.len ≤ length c.loop-lacks.buffer = omega arith in
    let front : length (take c.loop-lacks.len c.loop-lacks.buffer) ≡ c.loop-lacks.len = length-take-le c.loop-lacks.len c.loop-lacks.buffer within in (
      filled_begun c.loop-lacks.buffer c.read_some.new.buf c.loop-lacks.len _ c.in_ok-count.count within read.bound.0 (omega (arith, front, read.bound.0)),
      omega (arith, front, read.bound.0),
      filled_keeps _ _ _ c.loop-lacks.buffer c.read_some.new.buf c.loop-lacks.len _ c.in_ok-count.count within read.bound.0 so_far.2 read.bytes.0,
      read.count ∙ so_far.3,
      filled_front c.loop-lacks.buffer c.read_some.new.buf _ c.loop-lacks.len _ c.in_ok-count.count within read.bound.0 so_far.4,
    )
