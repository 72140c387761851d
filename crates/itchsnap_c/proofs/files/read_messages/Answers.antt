use Rattle.std.proofs.Common.{◌≡◌, ◌++◌, Some, IfSome, IsSome, ap, ◌∙◌, refl, subst, sym}
use Rattle.itch_market.specs.DayMessages.{IsPart}
use Rattle.itch_market.proofs.DayMessages.{ended_part, part_read}
use Rattle.itchsnap_c.specs.Files.{RefusesDay}
use Rattle.itchsnap_c.proofs.Days.{day_short, day_stopped}
use Rattle.itchsnap_c.proofs.files.read_messages.Goals as goal

pub returns-in_default-stop-clause-read : goal.returns-in_default-stop-clause-read
returns-in_default-stop-clause-read c =
    let r = c.in-Ok.reader in
    let same : r.held ++ r.reader.rest.now ≡ c.args.day.now =
    ap (λ held. held ++ r.reader.rest.now) c.in-Ok.ensures.1 ∙ ap (λ slice. slice.rest.now) c.in-Ok.ensures.0 in
    let limit = c.args.limit in
    let applied = part_read limit _ _ c.new-market.result c.replay_part-count.result.0 c.replay_part-count.new.market c.new-market.ensures
    (rw c.in_default-stop.is at c.replay_part-count.ensures.part) in (
      applied.payloads,
      (applied.taken, subst (λ b. IfSome b (λ day. IsPart limit day applied.payloads)) (ap Some same) applied.part, applied.fits),
      applied.left,
      applied.counted,
    )

pub returns-in-End-None-clause-read : goal.returns-in-End-None-clause-read
returns-in-End-None-clause-read c =
    let r = c.in-Ok.reader in
    let same : r.held ++ r.reader.rest.now ≡ c.args.day.now =
    ap (λ held. held ++ r.reader.rest.now) c.in-Ok.ensures.1 ∙ ap (λ slice. slice.rest.now) c.in-Ok.ensures.0 in
    let limit = c.args.limit in
    let applied = part_read limit _ _ c.new-market.result c.replay_part-count.result.0 c.replay_part-count.new.market c.new-market.ensures
    (ended_part limit _ _ _ _ _ c.in-End-None.is-1 (rw c.in-End-None.is-0 at (rw c.in-Some.is at c.replay_part-count.ensures.part))) in (
      applied.payloads,
      (applied.taken, subst (λ b. IfSome b (λ day. IsPart limit day applied.payloads)) (ap Some same) applied.part, applied.fits),
      applied.left,
      applied.counted,
    )

pub returns-in-End-Some-clause-refused : goal.returns-in-End-Some-clause-refused
returns-in-End-Some-clause-refused c =
    let r = c.in-Ok.reader in
    let n = c.replay_part-count.new.reader in
    let same : r.held ++ r.reader.rest.now ≡ c.args.day.now =
    ap (λ held. held ++ r.reader.rest.now) c.in-Ok.ensures.1 ∙ ap (λ slice. slice.rest.now) c.in-Ok.ensures.0 in
    subst (λ outcome. RefusesDay c.args.day.now c.args.limit outcome) (sym c.outcome-in-End-Some.ensures)
    (day_short c.args.limit c.new-market.result c.replay_part-count.new.market c.args.day.now (Some (r.held ++ r.reader.rest.now)) (Some (n.held ++ n.reader.rest.now)) c.replay_part-count.result.0
    c.new-market.ensures (ap Some same) (subst IsSome (sym c.in-End-Some.is-1) refl) (rw c.in-End-Some.is-0 at (rw c.in-Some.is at c.replay_part-count.ensures.part)))

pub returns : goal.returns
returns c =
    let r = c.in-Ok.reader in
    let n = c.replay_part-count.new.reader in
    let same : r.held ++ r.reader.rest.now ≡ c.args.day.now =
    ap (λ held. held ++ r.reader.rest.now) c.in-Ok.ensures.1 ∙ ap (λ slice. slice.rest.now) c.in-Ok.ensures.0 in
    record {
      read = tt;
      refused = subst (λ outcome. RefusesDay c.args.day.now c.args.limit outcome) (sym c.stopped.ensures)
          (day_stopped c.args.limit c.new-market.result c.replay_part-count.new.market c.args.day.now (Some (r.held ++ r.reader.rest.now)) (Some (n.held ++ n.reader.rest.now)) c.replay_part-count.result.0
          c.in-Some.stop c.new-market.ensures (ap Some same) c.in_default-2.not-End-0 (rw c.in-Some.is at c.replay_part-count.ensures.part) (rw c.in-Some.is at c.replay_part-count.ensures.failures));
    }
