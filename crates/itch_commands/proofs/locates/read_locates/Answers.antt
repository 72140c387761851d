-- answers
use Rattle.std.proofs.Common.{arith, rules}
use Rattle.std.proofs.lemmas.Result.{err_from_is_err_and}
use Rattle.std.proofs.lemmas.Str.Pattern.{split_parts}
use Rattle.itch_commands.proofs.LocateLists.{gathered_first, gathered_on, gathered_last, part_refused, last_refused}
use Rattle.itch_commands.proofs.locates.read_locates.Goals as goal

pub loop-first-init : goal.loop-first-init
loop-first-init g c = record { so_far = gathered_first _ _ c.new-set.ensures; utf8 = c.utf8.text }

pub loop-first-preserved : goal.loop-first-preserved
loop-first-preserved g c =
    let cut = rw c.in-Some.is at (split_parts 44 c.loop-first.rest.now c.split_once.result c.split_once.ensures.cases (omega arith)) in record {
      so_far = gathered_on _ _ _ c.loop-first.invariant.so_far _ _ _ cut.0 cut.1 c.in_ok-insert_locates.ensures.inserted;
      utf8 = search rules;
    }

pub returns-in_err-insert_locates : goal.returns-in_err-insert_locates
returns-in_err-insert_locates g c =
    let cut = rw c.in-Some.is at (split_parts 44 c.loop-first.rest.now c.split_once.result c.split_once.ensures.cases (omega arith)) in
    let p = err_from_is_err_and c.from_residual.result c.from_residual.ensures.1 in
    rw (p.1, p.2) (part_refused _ _ _ c.loop-first.invariant.so_far _ _ _ cut.0 cut.1 c.in_err-insert_locates.ensures.refused)

pub returns-in_err-insert_locates-2 : goal.returns-in_err-insert_locates-2
returns-in_err-insert_locates-2 g c =
    let whole = rw c.in_default.is at (split_parts 44 c.loop-first.rest.now c.split_once.result c.split_once.ensures.cases (omega arith)) in
    let p = err_from_is_err_and c.from_residual-in_err-insert_locates-2.result c.from_residual-in_err-insert_locates-2.ensures.1 in
    rw (p.1, p.2) (last_refused _ _ _ c.loop-first.invariant.so_far _ whole c.in_err-insert_locates-2.ensures.refused)

pub returns : goal.returns
returns g c =
    gathered_last _ _ _ c.loop-first.invariant.so_far _ c.in_ok-insert_locates-2.ensures.inserted
