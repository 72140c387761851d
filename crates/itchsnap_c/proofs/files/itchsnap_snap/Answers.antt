use Rattle.std.proofs.Common.{inl, inr, refl, sym, ap, ◌∙◌, subst}
use Rattle.itchsnap_c.specs.Files.{part_of, outcome, ReadsDay, RefusesDay}
use Rattle.itchsnap_c.proofs.Days.{canon_read, written_read}
use Rattle.itchsnap_c.proofs.files.itchsnap_snap.Goals as goal

pub returns-in-Ok : goal.returns-in-Ok
returns-in-Ok c =
    let limit = part_of c.args.after c.args.until in
    let m = c.in-Ok.market in
    let written = c.put_whole.result in
    let read = subst (λ part. ReadsDay c.args.day.now part m c.in-Ok.count) c.part_of.ensures c.in-Ok.ensures.read in
    let taken = read.1.0 in
    let fits = read.1.2 in
    inl (
      read.0,
      written,
      read.1,
      c.written.ensures ∙ ap (λ count. outcome count written.len 0 written.code) (sym read.3),
      written_read limit read.0 m taken fits read.2 (λ x. x) c.in-Ok.count c.args.out.now c.put_whole.new.out written read.3 (canon_read limit read.0 m taken fits read.2) c.put_whole.ensures,
    )

pub returns-in-Err : goal.returns-in-Err
returns-in-Err c = inr (subst (λ part. RefusesDay c.args.day.now part c.in-Err.outcome) c.part_of.ensures c.in-Err.ensures.refused, refl)
