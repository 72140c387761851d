use Rattle.std.proofs.Common.{rules, sym}
use Rattle.itch_commands.specs.declared.show.sink.ShownLines.{ShownLines}
use Rattle.itch_day.proofs.PassedBlocks.{stop_held}
use Rattle.itch_commands.proofs.FurtherParts.{shown_on}
use Rattle.itch_commands.proofs.ShownLines.{Unshown}
use Rattle.itch_commands.proofs.show.after.show_on.Goals as goal

pub pass_stop-requires : goal.pass_stop-requires
pass_stop-requires g c =
    let reads = c.read_part-stop.ensures.reads in
    let Lines = ShownLines g.row.A.Denot g.row.W.Denot in
    let refuses = Unshown g.W.CountedWrite.contents g.W.CountedWrite.failures (λ (s : Lines). s.out.now) (λ (s : Lines). s.out.ghost_name) (λ (s : Lines). s.choice.ghost_name) (λ (s : Lines). s.form) (λ (s : Lines). s.choice.now) in
    stop_held g.R.CountedRead.remaining refuses c.args.limit c.read_part-stop.new.reader c.read_part-stop.new.count reads.last c.read_part-stop.new.sink c.read_part-stop.result reads.stops

pub returns : goal.returns
returns g c =
    let Lines = ShownLines g.row.A.Denot g.row.W.Denot in
    let shown = shown_on g.W.CountedWrite.contents g.W.CountedWrite.failures g.R.CountedRead.remaining g.R.CountedRead.failures c.args.limit c.args.before
    (λ (s : Lines). s.out.now) (λ (s : Lines). s.out.ghost_name) (λ (s : Lines). s.choice.ghost_name) (λ (s : Lines). s.choice.now)
    c.args.reader.now c.read_part-stop.new.reader c.read_part-stop.new.count _ c.read_part-stop.new.sink c.read_part-stop.result (λ (s : Lines). s.form)
    c.read_part-stop.ensures.reads c.read_part-stop.ensures.few in
    let named = sym shown.0.0 in
    let choice_named = sym shown.0.1 in
    let part = shown.1 in
    rw (c.answer.ensures, c.pass_stop.ensures, c.has_found_all.ensures) (search rules)
