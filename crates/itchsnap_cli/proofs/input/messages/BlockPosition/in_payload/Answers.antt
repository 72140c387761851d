use Rattle.std.proofs.Common.{◌≡◌, subst, arith}
use Rattle.itchsnap_cli.specs.Tallies.{IsWholeAfter}
use Rattle.itchsnap_cli.proofs.Tallying.{lacks_nothing}
use Rattle.itchsnap_cli.proofs.input.messages.BlockPosition.in_payload.Goals as goal

pub returns-else-count-gt0 : goal.returns-else-count-gt0
returns-else-count-gt0 c bytes whole =
    let none : c.args.count ≡ 0 = omega arith in
    lacks_nothing bytes (subst (λ count. IsWholeAfter count bytes) none whole)
