use Rattle.std.proofs.Common.{refl, ◌∙◌, arith}
use Rattle.std.proofs.lemmas.Result.{err_from_is_err_and}
use Rattle.itch_commands.proofs.CopiedSnapshots.{copied_first, copied_on, copied_end, copied_refused, counts_more}
use Rattle.itch_commands.proofs.canon.copying.copy_snapshot.Goals as goal

pub loop-taken-init : goal.loop-taken-init
loop-taken-init g c = record {
  so_far = copied_first _ _ _ _ c.recall_invariant.ensures.good c.recall_invariant.ensures.in_order c.market.ensures c.requires.first c.requires.none;
  uncounted = refl;
}

pub copy_next-requires : goal.copy_next-requires
copy_next-requires g c = c.loop-taken.invariant.so_far.ready

pub returns-in_err-next-clause-steps : goal.returns-in_err-next-clause-steps
returns-in_err-next-clause-steps g c =
    let p = err_from_is_err_and c.from_residual.result c.from_residual.ensures.1 in
    rw (p.1, p.2) (copied_refused _ _ _ _ _ _ c.loop-taken.invariant.so_far _ _ _ c.in_err-next.ensures.step)

pub returns-in_err-next-clause-failures : goal.returns-in_err-next-clause-failures
returns-in_err-next-clause-failures g c =
    let p = err_from_is_err_and c.from_residual.result c.from_residual.ensures.1 in
    rw (p.1, p.2) (counts_more _ _ _ _ c.loop-taken.invariant.uncounted c.in_err-next.ensures.failures)

pub returns-in-Some-clause-steps : goal.returns-in-Some-clause-steps
returns-in-Some-clause-steps g c =
    copied_end _ _ _ _ _ _ c.loop-taken.invariant.so_far c.in-Some.next _ _ (rw c.in-Some.is at c.in_ok-next.ensures.step)

pub returns-in-Some-clause-failures : goal.returns-in-Some-clause-failures
returns-in-Some-clause-failures g c = c.in_ok-next.ensures.failures ∙ c.loop-taken.invariant.uncounted

pub loop-taken-preserved : goal.loop-taken-preserved
loop-taken-preserved g c =
    let loader = rw c.in_default.is at c.in_ok-next.ensures.loader in
    record {
      so_far = copied_on _ _ _ _ _ _ c.loop-taken.invariant.so_far c.copy_next.new.loader _ (rw c.in_default.is at c.in_ok-next.ensures.step) loader.0 loader.1;
      uncounted = c.in_ok-next.ensures.failures ∙ c.loop-taken.invariant.uncounted;
    }

pub unreachable-requires : goal.unreachable-requires
unreachable-requires g c =
    let few = c.loop-taken.invariant.so_far.going.few in
    let counted = c.loop-taken.invariant.so_far.counted in
    omega (arith, few, counted, c.loop-taken-test.false)
