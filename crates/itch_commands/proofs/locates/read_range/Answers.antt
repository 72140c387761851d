-- answers
use Rattle.std.proofs.Common.{refl, arith}
use Rattle.std.proofs.lemmas.Result.{err_from_is_err_and}
use Rattle.std.proofs.lemmas.Str.Pattern.{split_parts}
use Rattle.itch_commands.proofs.LocateLists.{range_cut, range_whole, falls_refused}
use Rattle.itch_commands.proofs.locates.read_range.Goals as goal

pub returns-in_err-locate : goal.returns-in_err-locate
returns-in_err-locate c =
    let whole = rw c.in_default.is at (split_parts 45 c.args.text.now c.split_once.result c.split_once.ensures.cases (omega arith)) in
    let p = err_from_is_err_and c.from_residual.result c.from_residual.ensures.1 in
    rw (p.1, p.2) (c.in_err-locate.ensures.0, λ range is. c.in_err-locate.ensures.1 range.0 (range_whole _ range whole is).0)

pub returns-in_err-first : goal.returns-in_err-first
returns-in_err-first c =
    let cut = rw c.in-Some.is at (split_parts 45 c.args.text.now c.split_once.result c.split_once.ensures.cases (omega arith)) in
    let p = err_from_is_err_and c.from_residual-in_err-first.result c.from_residual-in_err-first.ensures.1 in
    rw (p.1, p.2) (c.in_err-first.ensures.0, λ range is. c.in_err-first.ensures.1 range.0 (range_cut _ _ _ range cut.0 cut.1 is).0)

pub returns-in_err-last : goal.returns-in_err-last
returns-in_err-last c =
    let cut = rw c.in-Some.is at (split_parts 45 c.args.text.now c.split_once.result c.split_once.ensures.cases (omega arith)) in
    let p = err_from_is_err_and c.from_residual-in_err-last.result c.from_residual-in_err-last.ensures.1 in
    rw (p.1, p.2) (c.in_err-last.ensures.0, λ range is. c.in_err-last.ensures.1 range.1 (range_cut _ _ _ range cut.0 cut.1 is).1)

pub returns-then-first-last : goal.returns-then-first-last
returns-then-first-last c =
    let cut = rw c.in-Some.is at (split_parts 45 c.args.text.now c.split_once.result c.split_once.ensures.cases (omega arith)) in
    (refl, falls_refused _ _ _ _ _ cut.0 cut.1 c.in_ok-first.ensures c.in_ok-last.ensures (omega arith))
