use Rattle.std.proofs.Common.{◌++◌, ap, sym, append_assoc, ◌∙◌, arith, length-append}
use Rattle.itch_checkpoints.proofs.passed.Passed.pass.Goals as goal

pub returns : goal.returns
returns g c = λ bytes passed.
    let old = c.args.self.now in
    let piece = c.args.piece.now in
    let kept = c.in_ok-keep_recent.ensures in
    record {
      head = c.in_ok-keep_first.ensures bytes passed.head;
      before = passed.before ++ kept.0;
      recent = ap (λ bs. bs ++ piece) passed.recent ∙ append_assoc passed.before (old.older.items ++ old.newer.items) piece ∙ ap (λ rs. passed.before ++ rs) kept.1
          ∙ sym (append_assoc passed.before kept.0 (c.keep_recent.new.older.items ++ c.keep_recent.new.newer.items));
      total = omega (arith, c.saturating_add-self.ensures, passed.total, length-append bytes piece);
    }
