use Rattle.std.proofs.Common.{◌≡◌, ◌+◌, ◌<◌, ℕ, List, None, Some, sym, subst, ◌∙◌, arith}
use Rattle.std.specs.String.{string_bytes}
use Rattle.itch_commands.specs.Runs.{IsWritten}
use Rattle.itch_commands.proofs.WrittenLocates.{passed_over, run_begins, run_ends, run_goes_on}
use Rattle.itch_commands.proofs.runs.Runs.pass.Goals as goal

pub returns-in-None-true : goal.returns-in-None-true
returns-in-None-true g c = λ set so_far within.
    let old = c.args.self.now in
    run_begins set (string_bytes old.list) old.is_first c.args.locate
    (subst (λ begun. IsWritten set (string_bytes old.list) old.is_first begun c.args.locate) c.in-None-true.is-0 so_far) (sym c.in-None-true.is-1 ∙ within)

pub returns-in-None-false : goal.returns-in-None-false
returns-in-None-false g c = λ set so_far within.
    let old = c.args.self.now in
    subst (λ begun. IsWritten set (string_bytes old.list) old.is_first begun (c.args.locate + 1)) (sym c.in-None-false.is-0)
    (passed_over set (string_bytes old.list) old.is_first c.args.locate
    (subst (λ begun. IsWritten set (string_bytes old.list) old.is_first begun c.args.locate) c.in-None-false.is-0 so_far) (sym c.in-None-false.is-1 ∙ within))

pub returns-in-Some-true : goal.returns-in-Some-true
returns-in-Some-true g c = λ set so_far within.
    let old = c.args.self.now in
    subst (λ begun. IsWritten set (string_bytes old.list) old.is_first begun (c.args.locate + 1)) (sym c.in-Some-true.is-0)
    (run_goes_on set (string_bytes old.list) old.is_first c.args.locate c.in-Some-true.field-0-0
    (subst (λ begun. IsWritten set (string_bytes old.list) old.is_first begun c.args.locate) c.in-Some-true.is-0 so_far) (sym c.in-Some-true.is-1 ∙ within))

pub returns-in_ok-push-in-Some-false : goal.returns-in_ok-push-in-Some-false
returns-in_ok-push-in-Some-false g c = λ set so_far within.
    let old = c.args.self.now in
    let begin : ℕ = c.in-Some-false.begin in
    let last : ℕ = c.saturating_sub.result in
    let new : List ℕ = string_bytes c.push.new.self.list in
    let here : IsWritten set (string_bytes old.list) old.is_first (Some begin) c.args.locate =
    subst (λ begun. IsWritten set (string_bytes old.list) old.is_first begun c.args.locate) c.in-Some-false.is-0 so_far in
    let after : begin < c.args.locate = here.start in
    let ends : last + 1 ≡ c.args.locate = omega (arith, c.saturating_sub.ensures) in
    subst (λ is_first. IsWritten set new is_first None (c.args.locate + 1)) (sym c.in_ok-push-in-Some-false.ensures.is_first)
    (run_ends set (string_bytes old.list) old.is_first c.args.locate begin last here ends new c.in_ok-push-in-Some-false.ensures.text (sym c.in-Some-false.is-1 ∙ within))
