use Rattle.std.proofs.Common.{refl, inl, inr}
use Rattle.std.proofs.lemmas.Result.{err_from_is_err_and}
use Rattle.itch_snapshot.proofs.DaySnapshots.{parts-laid}
use Rattle.itch_commands.proofs.compare.compare_blocks.Goals as goal

pub part_place-requires : goal.part_place-requires
part_place-requires g c = c.in_ok-one.ensures.2.few

pub returns-in_err-one : goal.returns-in_err-one
returns-in_err-one g c =
    let p = err_from_is_err_and c.from_residual.result c.from_residual.ensures.1 in
    rw (p.1, p.2) (inl (_, refl, inl (c.in_err-one.ensures, refl), refl))

pub returns-in_err-other : goal.returns-in_err-other
returns-in_err-other g c =
    let read = c.in_ok-one.ensures in
    let p = err_from_is_err_and c.from_residual-in_err-other.result c.from_residual-in_err-other.ensures.1 in
    rw (p.1, p.2) (inl (_, refl, inr ((read.0, c.in_ok-one.field-0-1), read.1, c.in_err-other.ensures), refl))

pub returns : goal.returns
returns g c =
    let one = c.in_ok-one.ensures in
    let other = c.in_ok-other.ensures in
    inr (
      c.part_place.result,
      (
        ((one.0, c.in_ok-one.field-0-1), (other.0, c.in_ok-other.field-0-1)),
        (one.1, other.1),
        parts-laid one.0 other.0 c.in_ok-one.one c.in_ok-other.other c.part_place.result
            one.2.good other.2.good one.2.in_order other.2.in_order c.part_place.ensures.place c.part_place.ensures.none,
      ),
      c.write_verdict.ensures,
    )
