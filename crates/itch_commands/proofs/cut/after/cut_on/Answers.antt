use Rattle.std.proofs.Common.{rules, sym}
use Rattle.itch_commands.specs.declared.cut.sink.KeptBlocks.{KeptBlocks}
use Rattle.itch_day.proofs.PassedBlocks.{stop_held}
use Rattle.itch_commands.proofs.CutBlocks.{Held}
use Rattle.itch_commands.proofs.FurtherParts.{cut_on}
use Rattle.itch_commands.proofs.cut.after.cut_on.Goals as goal

pub pass_stop-requires : goal.pass_stop-requires
pass_stop-requires g c =
    let reads = c.read_part-stop.ensures.reads in
    let Kept = KeptBlocks g.row.A.Denot g.row.W.Denot in
    let refuses = Held g.W.CountedWrite.contents g.W.CountedWrite.failures (λ (s : Kept). s.out.now) (λ (s : Kept). s.out.ghost_name) (λ (s : Kept). s.choice.ghost_name) (λ (s : Kept). s.choice.now) in
    stop_held g.R.CountedRead.remaining refuses c.args.limit c.read_part-stop.new.reader c.read_part-stop.new.count reads.last c.read_part-stop.new.sink c.read_part-stop.result reads.stops

pub returns : goal.returns
returns g c =
    let Kept = KeptBlocks g.row.A.Denot g.row.W.Denot in
    let cut = cut_on g.W.CountedWrite.contents g.W.CountedWrite.failures g.R.CountedRead.remaining g.R.CountedRead.failures c.args.limit c.args.before
    (λ (s : Kept). s.out.now) (λ (s : Kept). s.out.ghost_name) (λ (s : Kept). s.choice.ghost_name) (λ (s : Kept). s.choice.now)
    c.args.reader.now c.read_part-stop.new.reader c.read_part-stop.new.count _ c.read_part-stop.new.sink c.read_part-stop.result
    c.read_part-stop.ensures.reads c.read_part-stop.ensures.few in
    let named = sym cut.0.0 in
    let choice_named = sym cut.0.1 in
    let part = cut.1 in
    rw (c.answer.ensures, c.pass_stop.ensures, c.has_found_all.ensures) (search rules)
