use Rattle.std.proofs.Common.{length}
use Rattle.itchsnap_c.proofs.PassedRows.{RowsSoFar}
use Rattle.itchsnap_c.proofs.rows.fill.Given as goal

abbrev pub invariant-loop-payload : goal.invariant-loop-payload
invariant-loop-payload l = RowsSoFar l.fn.wanted.types.now l.fn.wanted.locates.now l.fn.before l.blocks l.initial.out l.count l.rows l.rest l.out

abbrev pub decreases-loop-payload : goal.decreases-loop-payload
decreases-loop-payload l = length l.rest
