use Rattle.std.proofs.Common.{Some, inl, ap, ◌∙◌}
use Rattle.itchsnap_c.specs.Markets.{read_to}
use Rattle.itchsnap_c.proofs.market.load.Goals as goal

pub returns-in-Ok : goal.returns-in-Ok
returns-in-Ok c =
    let read = c.in-Ok.ensures.market in
    inl ((read.0, c.in-Ok.next), read.1, ap read_to c.value.ensures.value, c.put.ensures ∙ ap Some read.2)
