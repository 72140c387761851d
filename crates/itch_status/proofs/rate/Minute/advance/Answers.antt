use Rattle.std.proofs.Common.{◌≡◌, ℕ, ◌-◌, ◌∙◌, ap, arith, min}
use Rattle.itch_status.specs.Rates.{in_second, passed_by}
use Rattle.itch_status.proofs.rate.Minute.advance.Goals as goal

pub returns : goal.returns
returns c =
    let later = c.loop-second.self in
    let count : c.loop-second._second ≡ min (c.args.second - c.args.self.now.second) 61 =
    omega (arith, c.min-passed.ensures, c.saturating_sub.ensures, c.loop-second-test.false, c.loop-second.auto._second-end) in
    ap (λ s. record { before = later.before; present = later.present; second = s }) c.max-self.ensures
    ∙ ap (λ m. in_second m c.args.second) (c.loop-second.invariant ∙ ap (λ k. passed_by k c.args.self.now) count)
