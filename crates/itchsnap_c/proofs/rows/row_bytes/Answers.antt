use Rattle.std.proofs.Common.{ℕ, List, ◌++◌, drop, replicate, ap, ◌∙◌, arith}
use Rattle.itchsnap_c.proofs.PassedRows.{row_bytes_are}
use Rattle.itchsnap_c.proofs.rows.row_bytes.Goals as goal

pub returns : goal.returns
returns c =
    ap (λ (front : List ℕ). front ++ drop c.min-size.result (replicate {A = ℕ} 48 0)) c.copy_from_slice.ensures.after
    ∙ row_bytes_are c.args.payload.now c.min-size.result (omega (arith, c.min-size.ensures))
