use Rattle.std.proofs.Common.{◌≡◌, ℕ, ◌++◌, Some, ap, ◌∙◌, subst}
use Rattle.itch_market.specs.Content.{Content}
use Rattle.itch_snapshot.specs.Files.{IsMarketOf}
use Rattle.std.proofs.lemmas.Result.{err_from_is_err_and}
use Rattle.itchsnap_c.proofs.Days.{snapshot_refused}
use Rattle.itchsnap_c.proofs.market.read.Goals as goal

pub returns-in-Ok-new-clause-market : goal.returns-in-Ok-new-clause-market
returns-in-Ok-new-clause-market c =
    let r = c.in-Ok.reader in
    let same : r.held ++ r.reader.rest.now ≡ c.args.snapshot.now =
    ap (λ held. held ++ r.reader.rest.now) c.in-Ok.ensures.1 ∙ ap (λ slice. slice.rest.now) c.in-Ok.ensures.0 in
    let done : Content × ℕ = (c.in_ok-market.market, c.in_ok-market.next) in
    (c.in_ok-market.market, subst (λ bytes. IsMarketOf bytes done) same c.in_ok-market.ensures.market, c.in-Ok-new.ensures.ok)

pub returns-in_err-market-clause-fault : goal.returns-in_err-market-clause-fault
returns-in_err-market-clause-fault c =
    let r = c.in-Ok.reader in
    let same : r.held ++ r.reader.rest.now ≡ c.args.snapshot.now =
    ap (λ held. held ++ r.reader.rest.now) c.in-Ok.ensures.1 ∙ ap (λ slice. slice.rest.now) c.in-Ok.ensures.0 in
    let p = err_from_is_err_and c.from_residual.result c.from_residual.ensures.1 in
    let failed = c.in_err-market.ensures in
    rw (p.1, p.2) (snapshot_refused c.args.snapshot.now _ _ c.in_err-market.field-0.0 (ap Some same) failed.steps failed.fault failed.failures)
