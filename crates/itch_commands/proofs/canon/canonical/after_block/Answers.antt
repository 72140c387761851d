use Rattle.std.proofs.Common.{◌≡◌, ◌++◌, length, sym, ap, ◌∙◌, rules}
use Rattle.std.specs.Int.{bytes_high_first}
use Rattle.itch_commands.proofs.canon.canonical.after_block.Goals as goal

pub returns-in_err-rest : goal.returns-in_err-rest
returns-in_err-rest c =
    let len : c.to_be_bytes.result ≡ bytes_high_first 2 (length c.args.payload.now) = search rules in
    rw c.from_residual-in_err-rest.ensures (λ short more same.
    c.in_err-rest.ensures (c.args.payload.now ++ more) (same ∙ ap (λ l. l ++ (c.args.payload.now ++ more)) (sym len)))
