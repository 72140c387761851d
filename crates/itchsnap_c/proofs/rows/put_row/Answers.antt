use Rattle.std.proofs.Common.{arith}
use Rattle.itchsnap_c.proofs.PassedRows.{row_put}
use Rattle.itchsnap_c.proofs.rows.put_row.Goals as goal

pub returns : goal.returns
returns c = row_put c.args.row c.args.rows.now c.args.out.now (omega arith)
