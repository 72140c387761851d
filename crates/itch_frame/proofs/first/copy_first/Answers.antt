use Rattle.std.proofs.Common.{◌≡◌, length, take, drop, ap, ◌∙◌, arith}
use Rattle.std.proofs.lemmas.List.{take-append-le, take-take, length-take-le}
use Rattle.itch_frame.proofs.first.copy_first.Goals as goal

pub returns-then-to-ge-SHORT-clause-bytes : goal.returns-then-to-ge-SHORT-clause-bytes
returns-then-to-ge-SHORT-clause-bytes c =
    let copied = c.copy_from_slice.new.self in
    let same : copied ≡ take 64 c.args.from.now = c.copy_from_slice.ensures.after in
    let all : length copied ≡ 64 = ap length same ∙ length-take-le 64 c.args.from.now (omega arith) in
    take-append-le c.args.size copied (drop 64 c.args.to.now) (omega (arith, all)) ∙ ap (take c.args.size) same
    ∙ take-take c.args.size 64 c.args.from.now (omega arith)
