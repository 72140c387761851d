use Rattle.std.proofs.Common.{◌≡◌, ◌++◌, Some, ap, ◌∙◌, subst, inl}
use Rattle.itch_market.specs.Replays.{Replays}
use Rattle.itchsnap_c.specs.Blocks.{applied}
use Rattle.itchsnap_c.proofs.Days.{of_blocks}
use Rattle.itchsnap_c.proofs.blocks.apply_all.Goals as goal

pub returns : goal.returns
returns c =
    let r = c.in-Ok.reader in
    let n = c.replay-end.new.reader in
    let end = c.replay-end.result in
    let same : r.held ++ r.reader.rest.now ≡ c.args.blocks.now =
    ap (λ held. held ++ r.reader.rest.now) c.in-Ok.ensures.1 ∙ ap (λ slice. slice.rest.now) c.in-Ok.ensures.0 in
    inl (
      end.count,
      end.stop,
      Some (n.held ++ n.reader.rest.now),
      c.applied.ensures ∙ ap (applied end.count) c.stop_answer.ensures,
      of_blocks c.args.blocks.now c.args.market.now (Some (r.held ++ r.reader.rest.now)) end.count end.stop (ap Some same) c.replay-end.ensures.stops c.replay-end.ensures.failures,
      subst (λ bytes. Replays c.args.market.now (Some bytes) (Some (n.held ++ n.reader.rest.now)) end.count end.stop c.replay-end.new.market) same c.replay-end.ensures.steps,
    )
