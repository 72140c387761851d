use Rattle.std.proofs.Common.{◌≡◌, ◌≤◌, ◌-◌, ◌^◌, min, None, rules, sym, ap, ◌∙◌, arith}
use Rattle.itch_day.specs.declared.batch.Batch.{Batch}
use Rattle.itch_day.specs.Limits.{most_of}
use Rattle.itch_day.proofs.Progress.{going_first}
use Rattle.itch_day.proofs.Batches.{below_bound, offered}
use Rattle.itch_day.proofs.reading.take_at_hand.Goals as goal

pub returns-then-is_some-clause-takes : goal.returns-then-is_some-clause-takes
returns-then-is_some-clause-takes g c = rw c.look_ahead.ensures (going_first g.R.CountedRead.remaining g.R.CountedRead.failures g.T.Sink.takes g.T.Sink.refuses c.args.limit c.args.reader.now c.args.count.now c.args.sink.now)

pub returns-clause-takes : goal.returns-clause-takes
returns-clause-takes g c =
    let B = Batch g.row.T.Denot in
    let never : c.args.limit.until ≡ None = search rules in
    let few : c.args.count.now ≤ c.min-most.result =
    below_bound c.args.limit.after c.args.count.now c.min-most.result c.requires.before c.requires.few (c.min-most.ensures ∙ ap (λ m. min m (10 ^ 19 - 1)) c.most.ensures) in
    let within : c.min-most.result ≤ most_of c.args.limit.after = omega (arith, c.min-most.ensures, c.most.ensures) in
    let all = offered g.R.CountedRead.remaining g.R.CountedRead.failures g.T.Sink.takes g.T.Sink.is_ready c.args.limit
    (λ (b : B). b.sink.now) (λ (b : B). b.sink.ghost_name) (λ (b : B). b.count) (λ (b : B). b.most)
    c.args.reader.now c.offer-used.new.self c.offer-used.result _ c.offer-used.new.consumer c.offer-used.ensures.offers
    never c.offer-used.ensures.between c.offer-used.ensures.count c.requires.ready few within in
    let named = sym all.0 in
    let some = all.1 in
    search rules
