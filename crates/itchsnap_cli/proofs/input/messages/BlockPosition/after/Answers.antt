use Rattle.std.proofs.Common.{[], ◌∷◌, ◌++◌, ◌-◌, subst, sym}
use Rattle.itchsnap_cli.specs.Tallies.{IsWholeAfter, IsAt}
use Rattle.itchsnap_cli.specs.declared.input.messages.BlockPosition.TheVariants.{Payload}
use Rattle.itchsnap_cli.proofs.Tallying.{payload_byte}
use Rattle.itchsnap_cli.proofs.input.messages.BlockPosition.after.Goals as goal

pub returns-in-Payload : goal.returns-in-Payload
returns-in-Payload c bytes is =
    let count = c.in-Payload.count in
    let more = bytes ++ c.args.byte ∷ [] in
    let at : IsAt (Payload count) bytes = subst (λ place. IsAt place bytes) c.in-Payload.is is in
    let whole : IsWholeAfter (count - 1) more = payload_byte bytes c.args.byte count at.0 at.1 in
    c.in_payload-in-Payload.ensures more (subst (λ left. IsWholeAfter left more) (sym c.saturating_sub.ensures) whole)
