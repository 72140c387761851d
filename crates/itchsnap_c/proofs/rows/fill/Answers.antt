use Rattle.std.proofs.Common.{◌-◌, length, sym, subst}
use Rattle.itchsnap_c.specs.declared.answers.Answer.{Answer}
use Rattle.itchsnap_c.specs.declared.rows.Decoded.{Decoded}
use Rattle.itchsnap_c.specs.Rows.{Fills, end_of, stopped}
use Rattle.itchsnap_c.proofs.PassedRows.{ended, enough_room, fewer, rest_fits, rows_begun, rows_end, rows_more, rows_stopped}
use Rattle.itchsnap_c.proofs.rows.fill.Goals as goal

pub loop-payload-init : goal.loop-payload-init
loop-payload-init c = rows_begun c.args.wanted.types.now c.args.wanted.locates.now c.args.before c.args.blocks.now c.args.out.now

pub overflow_sub-passed : goal.overflow_sub-passed
overflow_sub-passed c = rest_fits c.args.wanted.types.now c.args.wanted.locates.now c.args.before c.args.blocks.now c.args.out.now c.loop-payload.count c.loop-payload.rows c.loop-payload.rest.now c.loop-payload.out c.loop-payload.invariant

pub take-requires-clause-room : goal.take-requires-clause-room
take-requires-clause-room c = enough_room c.args.wanted.types.now c.args.wanted.locates.now c.args.before c.args.blocks.now c.args.out.now c.loop-payload.count c.loop-payload.rows c.loop-payload.rest.now c.loop-payload.out c.loop-payload.invariant c.loop-payload.auto.out

pub returns-in-Err : goal.returns-in-Err
returns-in-Err c =
    subst (λ (d : Decoded). Fills c.args.wanted.types.now c.args.wanted.locates.now c.args.before c.args.blocks.now c.args.out.now d c.take.new.out) (sym c.stopped.ensures)
    (rows_stopped c.args.wanted.types.now c.args.wanted.locates.now c.args.before c.args.blocks.now c.args.out.now c.loop-payload.count c.loop-payload.rows c.loop-payload.rest.now c.loop-payload.out c.loop-payload.invariant
    c.in-Some.payload.now c.in-Some.after.now c.in-Some.ensures.0 c.in-Some.ensures.1 c.loop-payload.auto.out c.in-Err.answer c.take.new.rows c.take.new.out c.in-Err.ensures)

pub loop-payload-smaller : goal.loop-payload-smaller
loop-payload-smaller c = fewer c.loop-payload.rest.now c.in-Some.payload.now c.in-Some.after.now c.in-Some.ensures.1

pub loop-payload-preserved : goal.loop-payload-preserved
loop-payload-preserved c =
    rows_more c.args.wanted.types.now c.args.wanted.locates.now c.args.before c.args.blocks.now c.args.out.now c.loop-payload.count c.loop-payload.rows c.loop-payload.rest.now c.loop-payload.out c.loop-payload.invariant
    c.in-Some.payload.now c.in-Some.after.now c.in-Some.ensures.0 c.in-Some.ensures.1 c.take.new.rows c.take.new.out c.loop-payload.auto.out c.in-Ok.ensures

pub overflow_sub-blocks : goal.overflow_sub-blocks
overflow_sub-blocks c = rest_fits c.args.wanted.types.now c.args.wanted.locates.now c.args.before c.args.blocks.now c.args.out.now c.loop-payload.count c.loop-payload.rows c.loop-payload.rest.now c.loop-payload.out c.loop-payload.invariant

pub returns : goal.returns
returns c =
    let left = length c.args.blocks.now - length c.loop-payload.rest.now in
    subst (λ (d : Decoded). Fills c.args.wanted.types.now c.args.wanted.locates.now c.args.before c.args.blocks.now c.args.out.now d c.loop-payload.out) (sym c.stopped-2.ensures)
    (subst (λ (answer : Answer). Fills c.args.wanted.types.now c.args.wanted.locates.now c.args.before c.args.blocks.now c.args.out.now
    (stopped c.loop-payload.count c.loop-payload.rows left answer) c.loop-payload.out) (sym c.end_of.ensures)
    (rows_end c.args.wanted.types.now c.args.wanted.locates.now c.args.before c.args.blocks.now c.args.out.now c.loop-payload.count c.loop-payload.rows c.loop-payload.rest.now c.loop-payload.out c.loop-payload.invariant
    c.loop-payload.auto.out (end_of c.loop-payload.rest.now) (ended c.args.wanted.types.now c.args.wanted.locates.now c.args.before c.args.blocks.now c.args.out.now c.loop-payload.count c.loop-payload.rows c.loop-payload.rest.now c.loop-payload.out c.loop-payload.invariant c.in_default.ensures)))
