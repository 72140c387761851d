use Rattle.std.proofs.Common.{rules, sym}
use Rattle.itch_commands.specs.declared.show.orders.sink.OrderLines.{OrderLines}
use Rattle.itch_day.proofs.PassedBlocks.{stop_held}
use Rattle.itch_commands.proofs.ListedLines.{Left, listed_part}
use Rattle.itch_commands.proofs.show.orders.list_part.Goals as goal

pub pass_stop-requires : goal.pass_stop-requires
pass_stop-requires g c =
    let reads = c.read_part-stop.ensures.reads in
    let Lines = OrderLines g.row.B.Denot g.row.W.Denot g.row.B-Alloc.Denot in
    let refuses = Left g.W.CountedWrite.contents g.W.CountedWrite.failures (λ (s : Lines). s.out.now) (λ (s : Lines). s.out.ghost_name) (λ (s : Lines). s.chosen.ghost_name) (λ (s : Lines). s.form) (λ (s : Lines). s.chosen.now.market) (λ (s : Lines). s.chosen.now.choice) in
    stop_held g.R.CountedRead.remaining refuses c.args.limit c.read_part-stop.new.reader c.read_part-stop.new.count reads.last c.read_part-stop.new.sink c.read_part-stop.result reads.stops

pub returns : goal.returns
returns g c =
    let Lines = OrderLines g.row.B.Denot g.row.W.Denot g.row.B-Alloc.Denot in
    let listed = listed_part g.W.CountedWrite.contents g.W.CountedWrite.failures (λ (s : Lines). s.out.now) (λ (s : Lines). s.out.ghost_name) (λ (s : Lines). s.chosen.ghost_name) (λ (s : Lines). s.form) (λ (s : Lines). s.chosen.now.market) (λ (s : Lines). s.chosen.now.choice)
    g.R.CountedRead.remaining g.R.CountedRead.failures c.args.limit c.args.reader.now c.read_part-stop.new.reader c.read_part-stop.new.count _ c.read_part-stop.new.sink c.read_part-stop.result
    c.new-market.ensures c.read_part-stop.ensures.reads c.read_part-stop.ensures.few in
    let named = sym listed.0.0 in
    let choice_named = sym listed.0.1 in
    let part = listed.1 in
    rw (c.answer.ensures, c.pass_stop.ensures, c.has_found_all.ensures) (search rules)
