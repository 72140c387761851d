use Rattle.std.proofs.Common.{refl, ◌∙◌}
use Rattle.std.proofs.lemmas.Result.{err_from_is_err_and}
use Rattle.itch_frame.specs.Reading.{bytes_left}
use Rattle.itch_soup.proofs.RestSteps.{keeping_first, keeping_on, keeping_ends, keeping_closed}
use Rattle.itch_soup.proofs.fetch.rest.receive.Goals as goal

pub loop-count-init : goal.loop-count-init
loop-count-init g c = record {
  keeping = keeping_first c.args.from c.args.session (bytes_left g.R.CountedRead.remaining c.args.reader.now) c.new-rest.result c.requires c.new-rest.ensures;
  uncounted = refl;
}

pub returns-in_err-take_packet-clause-received : goal.returns-in_err-take_packet-clause-received
returns-in_err-take_packet-clause-received g c =
    let p = err_from_is_err_and c.from_residual.result c.from_residual.ensures.1 in
    rw (p.1, p.2) (keeping_ends _ _ _ _ _ _ _ c.take_packet.new.session _ c.take_packet.new.rest _ c.loop-count.invariant.keeping c.in_err-take_packet.ensures.step)

pub loop-count-preserved : goal.loop-count-preserved
loop-count-preserved g c = record {
  keeping = keeping_on _ _ _ _ _ _ _ _ _ _ c.loop-count.invariant.keeping (rw c.if-branch.false at c.in_ok-take_packet.ensures.step);
  uncounted = c.in_ok-take_packet.ensures.failures ∙ c.loop-count.invariant.uncounted;
}

pub returns-then-branch-clause-received : goal.returns-then-branch-clause-received
returns-then-branch-clause-received g c =
    keeping_closed _ _ _ _ _ _ _ _ _ _ c.loop-count.invariant.keeping (rw c.if-branch.true at c.in_ok-take_packet.ensures.step)
