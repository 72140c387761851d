use Rattle.std.proofs.Common.{◌≡◌, ◌+◌, ◌≤◌, ◌++◌, List, ℕ}
use Rattle.itch_day.specs.Batches.{TakesBlocks}
use Rattle.itch_day.proofs.batch.BatchConsumer.consume.Given as goal

abbrev pub invariant-loop-at : goal.invariant-loop-at
invariant-loop-at g l =
    record {
      counted : l.self.count ≡ l.at;
      most : l.self.most ≡ l.fn.self.most;
      few : l.self.count ≤ l.fn.self.most;
      sink : l.self.sink.ghost_name ≡ l.fn.self.sink.ghost_name;
      ready : g.T.Sink.is_ready l.self.sink.now (l.self.count + 1);
      taken : (front : List ℕ) × ((l.bytes ≡ front ++ l.rest) × TakesBlocks g.T.Sink.takes l.fn.self.count l.self.count l.fn.self.sink.now l.self.sink.now front);
    }
