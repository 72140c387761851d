use Rattle.std.proofs.Common.{List, ℕ, ◌+◌, subst}
use Rattle.std.proofs.lemmas.List.{take_rest}
use Rattle.itch_frame.specs.Cuts.{IsTake}
use Rattle.itch_frame.proofs.SplitterLemmas.{two_moves}
use Rattle.itch_frame.proofs.splitter.Splitter.take.Goals as goal

pub returns : goal.returns
returns g c =
    let first = c.fill-first in
    let second = c.fill in
    subst (λ (held : List ℕ). IsTake held c.args.piece.now (first.result + second.result) second.new.held.items) c.self.view_is
    (two_moves _ c.args.piece.now first.new.held.items _ second.new.held.items first.result second.result
    c.self.invariant.1 first.ensures.count first.ensures.items (take_rest c.args.piece.now first.result)
    second.ensures.count second.ensures.items second.ensures.bound second.ensures.bytes)
