use Rattle.std.proofs.Common.{◌<◌, None, length, sym, subst, arith}
use Rattle.itch_book.specs.SideLevels.{IsRising}
use Rattle.itch_book.proofs.SideLevelLemmas.{vec_line, vec_rising, vec_queues}
use Rattle.itch_book.proofs.level_lines.cut_from_line.Goals as goal

pub cut_from-requires : goal.cut_from-requires
cut_from-requires g c =
    let within : c.args.locate < length c.args.lines.now.items = let a = c.if-locate-len.true in let b = c.len.ensures in omega (arith, a, b) in
    subst (IsRising c.args.side) (sym (vec_line c.args.lines.now.items c.args.locate c.index_mut.result.now c.index_mut.result.now within c.index_mut.ensures.value)) (c.requires c.args.locate)

pub returns-then-locate-len-clause-rising : goal.returns-then-locate-len-clause-rising
returns-then-locate-len-clause-rising g c =
    let within : c.args.locate < length c.args.lines.now.items = let a = c.if-locate-len.true in let b = c.len.ensures in omega (arith, a, b) in
    vec_rising c.args.lines.now.items c.args.locate c.index_mut.result.now c.cut_from.new.levels within c.index_mut.ensures.value c.args.side c.requires c.cut_from.ensures.rising

pub returns-then-locate-len-clause-cut : goal.returns-then-locate-len-clause-cut
returns-then-locate-len-clause-cut g c =
    let within : c.args.locate < length c.args.lines.now.items = let a = c.if-locate-len.true in let b = c.len.ensures in omega (arith, a, b) in
    vec_queues c.args.lines.now.items c.args.locate c.index_mut.result.now c.cut_from.new.levels within c.index_mut.ensures.value c.args.price None c.cut_from.ensures.cut
