use Rattle.std.proofs.Common.{◌++◌, drop, take, ap₂, ◌∙◌, arith}
use Rattle.itch_checkpoints.proofs.PassedBytes.{fingerprint_by, place_found}
use Rattle.itch_checkpoints.proofs.passed.Passed.fingerprint.Goals as goal

pub returns : goal.returns
returns g c = λ bytes passed.
    let old = c.args.self.now in
    let behind = c.in_ok-behind.behind in
    let last = c.in_ok-end.end in
    let begin = c.in_ok-begin.begin in
    c.of.ensures
    ∙ ap₂ fingerprint_by (ap₂ take c.min-kept.ensures c.deref-3.ensures.value)
    (c.part.ensures ∙ ap₂ (λ xs ys. drop begin (take last (xs ++ ys))) c.deref.ensures.value c.deref-2.ensures.value)
    ∙ place_found old.first.items old.older.items old.newer.items old.count c.args.place behind last begin bytes passed
    (omega (arith, passed.total)) (omega (arith, c.in_ok-behind.ensures)) (omega (arith, c.in_ok-recent.ensures, c.in_ok-end.ensures)) (omega (arith, c.in_ok-begin.ensures)) (omega arith)
