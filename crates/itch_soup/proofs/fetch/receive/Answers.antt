use Rattle.std.proofs.Common.{◌≡◌, refl, ◌∙◌, subst}
use Rattle.std.proofs.lemmas.Result.{err_from_is_err_and}
use Rattle.itch_frame.specs.Reading.{bytes_left}
use Rattle.itch_market.specs.Content.{laid}
use Rattle.itch_market.specs.GoodMarkets.{IsGood}
use Rattle.itch_soup.proofs.FetchSteps.{hearing_first, hearing_on, hearing_ends, hearing_closed, hearing_finishes}
use Rattle.itch_soup.proofs.fetch.receive.Goals as goal

pub loop-count-init : goal.loop-count-init
loop-count-init g c = record {
  hearing =
      hearing_first c.args.session (bytes_left g.R.CountedRead.remaining c.args.reader.now) c.new-snapshot.result c.requires c.new-snapshot.ensures
      (subst IsGood c.market.ensures c.recall_invariant.ensures.good) (subst (λ m. laid m ≡ m) c.market.ensures c.recall_invariant.ensures.in_order);
  uncounted = refl;
}

pub returns-in_err-take_packet-clause-received : goal.returns-in_err-take_packet-clause-received
returns-in_err-take_packet-clause-received g c =
    let p = err_from_is_err_and c.from_residual.result c.from_residual.ensures.1 in
    rw (p.1, p.2) (hearing_ends _ _ _ _ _ _ c.take_packet.new.session _ c.take_packet.new.snapshot _ c.loop-count.invariant.hearing c.in_err-take_packet.ensures.step)

pub loop-count-preserved : goal.loop-count-preserved
loop-count-preserved g c = record {
  hearing = hearing_on _ _ _ _ _ _ _ _ _ c.loop-count.invariant.hearing (rw c.if-branch.false at c.in_ok-take_packet.ensures.step);
  uncounted = c.in_ok-take_packet.ensures.failures ∙ c.loop-count.invariant.uncounted;
}

pub returns-then-branch-clause-received : goal.returns-then-branch-clause-received
returns-then-branch-clause-received g c =
    hearing_closed _ _ _ _ _ _ _ _ _ c.loop-count.invariant.hearing (rw c.if-branch.true at c.in_ok-take_packet.ensures.step) c.unwrap.result
    (rw c.unwrap.ensures at c.finish.ensures)

pub unwrap-requires : goal.unwrap-requires
unwrap-requires g c =
    hearing_finishes _ _ _ _ _ _ _ _ _ c.loop-count.invariant.hearing (rw c.if-branch.true at c.in_ok-take_packet.ensures.step) _ c.finish.ensures
