use Rattle.std.proofs.Common.{◌≡◌, true, List, ℕ, subst}
use Rattle.itch_commands.specs.Joining.{ReadsStart, ReadsFeed, HasRoom, joined}
use Rattle.itch_commands.specs.Readings.{Then}
use Rattle.itch_commands.specs.Outputs.{Outputs, closed_bytes}
use Rattle.itch_commands.proofs.join.join_blocks.Goals as goal

pub returns : goal.returns
returns g c =
    subst
    (λ (read : List ℕ → List ℕ). Outputs g.W.CountedWrite.contents g.W.CountedWrite.failures
    (HasRoom c.args.part.before
    (Then (ReadsStart read g.R.CountedRead.remaining g.R.CountedRead.failures c.args.snapshot.now c.join_with.new.snapshot) (c.join_with.new.feed ≡ c.args.feed.now)
    (ReadsFeed read g.S.CountedRead.remaining g.S.CountedRead.failures c.args.part c.args.feed.now c.join_with.new.feed)))
    (λ both. closed_bytes (joined c.args.part.before both)) (λ _. true) c.args.out.now c.join_with.result c.join_with.new.out)
    c.new_joiner-joiner.ensures.read c.join_with.ensures
