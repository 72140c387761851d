use Rattle.std.proofs.Common.{map, sym, subst}
use Rattle.itch_codec.specs.Messages.{message_of}
use Rattle.itch_market.specs.Partial.{only}
use Rattle.itch_market.specs.Replays.{NoCause}
use Rattle.itch_market.specs.Runs.{after}
use Rattle.itch_market.specs.SameMarkets.{Same}
use Rattle.itch_commands.specs.Joining.{from_number, joined_market}
use Rattle.itch_commands.proofs.SetReadings.{file_follows, file_leaves, feed_follows, feed_leaves, from_so}
use Rattle.itch_commands.proofs.laws.restricted_reading.Goals as goal

pub returns-clause-follows : goal.returns-clause-follows
returns-clause-follows c = file_follows

pub returns-clause-leaves : goal.returns-clause-leaves
returns-clause-leaves c = file_leaves

pub returns-clause-feed_follows : goal.returns-clause-feed_follows
returns-clause-feed_follows c = λ wanted m n before number ps good fine same bytes none.
    subst (NoCause n) (sym (from_so wanted before number ps)) (feed_follows wanted m n (from_number before number ps) good fine same bytes none)

pub returns-clause-joined : goal.returns-clause-joined
returns-clause-joined c = λ wanted m n before number ps good fine same bytes none.
    subst (λ qs. Same (after n (map message_of qs)) (only wanted (joined_market before (m, number) ps))) (sym (from_so wanted before number ps))
    (feed_leaves wanted m n (from_number before number ps) good fine same bytes none)
