use Rattle.std.proofs.Common.{◌≡◌, true, inr, subst}
use Rattle.itch_snapshot.specs.AsRead.{read_by}
use Rattle.itch_commands.specs.FeedParts.{whole}
use Rattle.itch_commands.specs.declared.feed_part.FeedPart.{FeedPart}
use Rattle.itch_commands.specs.Joining.{ReadsStart, ReadsFeed, HasRoom, joined}
use Rattle.itch_commands.specs.Outputs.{Outputs, closed_bytes}
use Rattle.itch_commands.specs.Readings.{FromReader, Then}
use Rattle.itch_commands.proofs.Outputs.{Outputs-weaker}
use Rattle.itch_commands.proofs.join.join.Goals as goal

pub returns : goal.returns
returns g c =
    let starts = ReadsStart (read_by c.args.only) g.R.CountedRead.remaining g.R.CountedRead.failures in
    let follows = ReadsFeed (read_by c.args.only) g.S.CountedRead.remaining g.S.CountedRead.failures whole in
    let a = c.in_ok-snapshot.snapshot in
    let b = c.join_blocks.new.snapshot in
    let x = c.in_ok-feed.feed in
    let y = c.join_blocks.new.feed in
    Outputs-weaker g.W.CountedWrite.contents g.W.CountedWrite.failures (HasRoom whole.before (Then (starts a b) (y ≡ x) (follows x y)))
    (FromReader c.args.snapshot (λ i j. FromReader c.args.feed (λ k l. HasRoom whole.before (Then (starts i j) (l ≡ k) (follows k l))))) (λ both. closed_bytes (joined whole.before both)) (λ _. true)
    c.args.out.now c.join_blocks.new.out c.join_blocks.result
    (λ r read. inr (
      a,
      b,
      c.in_ok-snapshot.ensures.0,
      c.in_ok-snapshot.ensures.1,
      c.in_ok-snapshot.ensures.2,
      inr (x, y, c.in_ok-feed.ensures.0, c.in_ok-feed.ensures.1, c.in_ok-feed.ensures.2, read),
    ))
    (subst
    (λ (part : FeedPart). Outputs g.W.CountedWrite.contents g.W.CountedWrite.failures
    (HasRoom part.before (Then (starts a b) (y ≡ x) (ReadsFeed (read_by c.args.only) g.S.CountedRead.remaining g.S.CountedRead.failures part x y))) (λ both. closed_bytes (joined part.before both))
    (λ _. true) c.args.out.now c.join_blocks.result c.join_blocks.new.out)
    c.whole.ensures c.join_blocks.ensures)
