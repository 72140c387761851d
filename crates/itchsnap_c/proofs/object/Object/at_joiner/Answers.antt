use Rattle.std.proofs.Common.{refl, sym, subst}
use Rattle.std.specs.Fn.{FnOnceReturnsAtMut}
use Rattle.itchsnap_c.specs.declared.object.Object.TheVariants.{Joiner}
use Rattle.itchsnap_c.specs.Objects.{AtJoiner}
use Rattle.itchsnap_c.proofs.object.Object.at_joiner.Goals as goal

pub returns-in-Joiner : goal.returns-in-Joiner
returns-in-Joiner g c =
    subst (λ old. AtJoiner c.args.wrong (FnOnceReturnsAtMut g.F.FnOnce c.args.call) old c.call.result (Joiner c.call.new.arg2)) (sym c.in-Joiner.is)
    (c.call.new.arg2, record { shown = _; shows = refl; left = _; met = c.call.ensures; leaves = refl }, refl)
