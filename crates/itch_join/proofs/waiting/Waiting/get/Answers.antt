use Rattle.std.proofs.Common.{ap, sym, ◌∙◌, Some}
use Rattle.std.specs.Option.{option_map}
use Rattle.std.specs.FinMap as map
use Rattle.itch_join.proofs.Waits.{get_waits, bytes_of}
use Rattle.itch_join.proofs.waiting.Waiting.get.Goals as goal

pub returns-in_err-payload-clause-found : goal.returns-in_err-payload-clause-found
returns-in_err-payload-clause-found g c =
    rw c.from_residual.ensures
    (ap (λ w. map.get w c.args.number) (sym c.self.view_is) ∙ get_waits c.self.inside.messages c.args.number
    ∙ ap (option_map bytes_of) (sym c.in_err-payload.ensures.value))

pub returns-clause-found : goal.returns-clause-found
returns-clause-found g c =
    ap (λ w. map.get w c.args.number) (sym c.self.view_is) ∙ get_waits c.self.inside.messages c.args.number
    ∙ ap (option_map bytes_of) (sym c.in_ok-payload.ensures.value) ∙ ap Some (sym c.as_slice.ensures.value)
