use Rattle.std.proofs.Common.{◌≡◌, refl}
use Rattle.itchsnap_cli.specs.declared.input.messages.BlockPosition.TheVariants.{Border}
use Rattle.itchsnap_cli.proofs.Tallying.{one_on}
use Rattle.itchsnap_cli.proofs.input.messages.BlockCounter.step.Goals as goal
use Rattle.itchsnap_cli.proofs.input.messages.BlockCounter.step.Goals.{in-Border, in_default}

pub returns-then-matches : goal.returns-then-matches
returns-then-matches c =
    let at : c.after-self.result ≡ Border = elim c.match-matches.branch [ in-Border w ↦ w.in-Border.is | in_default w ↦ cc ] in
    one_on _ _ _ c.after-self.ensures (λ border. c.saturating_add-self.ensures) (λ other. absurd (other at))

pub returns-else-matches : goal.returns-else-matches
returns-else-matches c =
    let apart : c.after-self.result ≡ Border → ⊥ = elim c.match-matches.branch [ in-Border w ↦ λ at. cc | in_default w ↦ w.in_default.not-Border ] in
    one_on _ _ _ c.after-self.ensures (λ border. absurd (apart border)) (λ other. refl)
