use Rattle.std.proofs.Common.{◌≡◌, Option, Some, None, MatchOption, Bor, refl, ap, ◌∙◌, subst}
use Rattle.std.specs.Fn.{Once, FnOnceReturnsAt}
use Rattle.std.specs.Option.{option_copied}
use Rattle.itchsnap_c.specs.Objects.{market_of}
use Rattle.itchsnap_c.proofs.handle.Handle.look_up.Goals as goal

-- a call with the referenced value, if there is one
call_at : {F T R : Type 0} (g : Once F (Bor T × Unit {0}) R) (f : F) (shown : Option (Bor T)) (wrong answer : R)
    → MatchOption shown (answer ≡ wrong) (λ p. g.post f (p, tt) answer) → MatchOption (option_copied shown) (answer ≡ wrong) (λ x. FnOnceReturnsAt g f x answer)
call_at g f None wrong answer same = same
call_at g f (Some p) wrong answer called = (p, called, refl)

pub returns-clause-answer : goal.returns-clause-answer
returns-clause-answer g c =
    let answer = c.map_or-answer.result in
    rw c.in-Some.ensures.taken
    (subst (λ held. MatchOption held (answer ≡ c.args.wrong) (λ market. FnOnceReturnsAt g.F.FnOnce c.args.call market answer)) (c.market.ensures ∙ ap market_of c.deref.ensures)
    (call_at g.F.FnOnce c.args.call c.market.result c.args.wrong answer c.map_or-answer.ensures))
