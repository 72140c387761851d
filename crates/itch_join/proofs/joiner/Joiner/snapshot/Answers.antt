use Rattle.std.proofs.Common.{◌≡◌, None, false, is_some, refl, rules}
use Rattle.itch_market.specs.Wanted.{has}
use Rattle.itch_join.specs.States.{State}
use Rattle.itch_join.specs.HalfReads.{half_of}
use Rattle.itch_join.proofs.SnapshotMessages.{took, failed}
use Rattle.itch_join.proofs.joiner.Joiner.snapshot.Goals as goal

pub returns-in-Ok-None-clause-step : goal.returns-in-Ok-None-clause-step
returns-in-Ok-None-clause-step g c =
    let i = c.self.inside in
    let s : State = record { wait = i.wait; half = half_of i.half; joined = i.joined; halt = i.halt } in
    let none : s.halt ≡ None = search rules in
    let apart : is_some s.joined ≡ false = search rules in
    let taking = rw c.in-Ok-None.field-0-is at c.in-Ok-None.ensures in
    let in_order = rw c.market.ensures at c.recall_invariant.ensures.in_order in
    rw (← c.self.view_is) (took (has i.set) s i.half c.message_only.new.self c.args.payload.now none apart refl in_order taking)

pub returns-in-Err-clause-step : goal.returns-in-Err-clause-step
returns-in-Err-clause-step g c =
    let i = c.self.inside in
    let s : State = record { wait = i.wait; half = half_of i.half; joined = i.joined; halt = i.halt } in
    let none : s.halt ≡ None = search rules in
    let apart : is_some s.joined ≡ false = search rules in
    rw (← c.self.view_is, c.join_fault_of.ensures)
    (failed (has i.set) c.in-Err.fault s i.half c.message_only.new.self c.args.payload.now c.self.invariant none apart refl c.in-Err.ensures)
