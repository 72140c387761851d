use Rattle.std.proofs.Common.{◌≡◌, false, None, arith}
use Rattle.std.proofs.lemmas.Grind.{common_steps}
use Rattle.itch_snapshot.specs.TakenMessages.{is_full, number_in}
use Rattle.itch_snapshot.proofs.TakenMessages.{refusal_of, refused_so}
use Rattle.itch_snapshot.proofs.reader.take.Goals as goal

pub returns-in-Err-apply : goal.returns-in-Err-apply
returns-in-Err-apply g c = λ payload decodes.
    let no_end : number_in c.in-Ok.message ≡ None = grind (arith, common_steps) in
    let room : is_full c.args.taken ≡ false = grind (arith, common_steps) in
    let said = c.apply.ensures in
    refused_so _ _ _ payload c.in-Ok.message c.in-Err-apply.reason (rw (c.in-Ok.is) at decodes) room no_end c.in-Err-apply.ensures.err
    (refusal_of _ _ _ c.apply.result c.in-Err-apply.is said.refused said.accepted said.memory)
