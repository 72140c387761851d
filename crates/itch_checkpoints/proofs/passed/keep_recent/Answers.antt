use Rattle.std.proofs.Common.{◌++◌, [], ap, sym, append_assoc, ◌∙◌}
use Rattle.itch_checkpoints.proofs.passed.keep_recent.Goals as goal

pub returns : goal.returns
returns g c =
    ([], append_assoc c.args.older.now.items c.args.newer.now.items c.args.piece.now ∙ ap (λ ns. c.args.older.now.items ++ ns) (sym c.in_ok-extend_from_slice-2.ensures.items))
