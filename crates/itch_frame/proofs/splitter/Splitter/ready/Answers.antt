use Rattle.std.proofs.Common.{List, ℕ, ◌-◌, length, take, drop, ap, subst, ◌∙◌, arith}
use Rattle.itch_frame.specs.Blocks.{IsBlockOf}
use Rattle.itch_frame.specs.Needs.{need}
use Rattle.itch_frame.proofs.SplitterLemmas.{whole_block}
use Rattle.itch_frame.proofs.splitter.Splitter.ready.Goals as goal

pub returns-then-lacking-eq0-clause-some : goal.returns-then-lacking-eq0-clause-some
returns-then-lacking-eq0-clause-some g c =
    let held = c.as_slice-held.result.now in
    let is = c.as_slice-held.ensures.value in
    subst (λ (bytes : List ℕ). IsBlockOf (take (length held - 2) (drop 2 held)) bytes) (is ∙ c.self.view_is)
    (whole_block held (omega arith) (omega (arith, ap length is, ap need is)) (omega (arith, ap length is, ap need is)) (c.lacking.ensures.bytes 0) (c.lacking.ensures.bytes 1))
