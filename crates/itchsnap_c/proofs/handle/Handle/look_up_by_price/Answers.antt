use Rattle.std.proofs.Common.{◌≡◌, MatchOption, subst}
use Rattle.std.specs.Fn.{FnOnceReturnsAt}
use Rattle.itchsnap_c.specs.Objects.{held_market}
use Rattle.itchsnap_c.proofs.handle.Handle.look_up_by_price.Goals as goal

pub returns-clause-answer : goal.returns-clause-answer
returns-clause-answer g c =
    subst (λ held. MatchOption (held_market held) (c.look_up.result ≡ c.args.wrong) (λ market. FnOnceReturnsAt g.F.FnOnce c.args.call market c.look_up.result))
    c.settle.ensures c.look_up.ensures.answer
