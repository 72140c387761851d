use Rattle.std.proofs.Common.{refl, arith}
use Rattle.itch_book.proofs.SideLevelLemmas.{reach_more, reach_same}
use Rattle.itch_book.proofs.level_lines.reach.Goals as goal

pub loop-more-init : goal.loop-more-init
loop-more-init g c = (record { lines = λ l. refl; places = refl }, (let e = c.len-more.ensures in omega (arith, e)))

pub loop-more-preserved : goal.loop-more-preserved
loop-more-preserved g c = (
  reach_more _ c.loop-more.lines.items c.push.new.self.items c.new.result c.in_ok-push.ensures.items c.new.ensures.items c.loop-more.invariant.0,
  (let e = c.in_ok-push.ensures.len in let f = c.loop-more.invariant.1 in omega (arith, e, f)),
)

pub returns-in_err-push-clause-lines : goal.returns-in_err-push-clause-lines
returns-in_err-push-clause-lines g c = (reach_same _ c.loop-more.lines.items c.push.new.self.items c.in_err-push.ensures.items c.loop-more.invariant.0).lines

pub returns-in_err-push-clause-places : goal.returns-in_err-push-clause-places
returns-in_err-push-clause-places g c = (reach_same _ c.loop-more.lines.items c.push.new.self.items c.in_err-push.ensures.items c.loop-more.invariant.0).places

pub returns-clause-lines : goal.returns-clause-lines
returns-clause-lines g c = c.loop-more.invariant.0.lines

pub returns-clause-places : goal.returns-clause-places
returns-clause-places g c = c.loop-more.invariant.0.places
