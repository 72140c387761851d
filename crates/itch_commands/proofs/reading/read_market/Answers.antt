use Rattle.std.proofs.Common.{ℕ, Result, sym, subst}
use Rattle.itch_frame.specs.Reading.{bytes_left}
use Rattle.itch_commands.specs.declared.fault.ToolFault.{ToolFault}
use Rattle.itch_commands.specs.Readings.{ReadsMarket, CountsRead, LeavesDay}
use Rattle.itch_commands.proofs.PartReadings.{part_leaves, stop_leaves, stopped_counts, stopped_so}
use Rattle.itch_commands.proofs.reading.read_market.Goals as goal

pub returns-in-None-clause-reader : goal.returns-in-None-clause-reader
returns-in-None-clause-reader g c = part_leaves c.args.limit _ _ _ (rw c.in-None.is at c.replay_part-count.ensures.reader)

pub returns-in-Some : goal.returns-in-Some
returns-in-Some g c =
    let remaining = g.R.CountedRead.remaining in
    let failures = g.R.CountedRead.failures in
    let limit = c.args.limit in
    let file = c.args.file in
    let old = c.args.reader.now in
    let new = c.replay_part-count.new.reader in
    let count = c.replay_part-count.result.0 in
    let stop = c.in-Some.stop in
    let is = sym c.stopped.ensures in
    record {
      reads = subst (λ (r : Result ℕ ToolFault). ReadsMarket file limit c.args.market.now (bytes_left remaining old) (bytes_left remaining new) r c.replay_part-count.new.market) is
          (stopped_so file limit _ _ _ count _ stop (rw c.in-Some.is at c.replay_part-count.ensures.part));
      failures = subst (λ (r : Result ℕ ToolFault). CountsRead r (failures old.reader) (failures new.reader)) is
          (stopped_counts file limit c.args.market.now (bytes_left remaining old) (bytes_left remaining new) count c.args.market.now stop _ _
          (rw c.in-Some.is at c.replay_part-count.ensures.failures));
      reader = subst (λ (r : Result ℕ ToolFault). LeavesDay r limit old new) is
          (stop_leaves file limit count old new stop (rw c.in-Some.is at c.replay_part-count.ensures.reader));
    }
