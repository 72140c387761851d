-- The line about the state of a feed.
use Rattle.std.specs.Prelude.{ℕ, List, ◌++◌, codes, decimal}
use Rattle.itchsnap_live.specs.declared.feed_line.FeedLine.{FeedLine}
use Rattle.itchsnap_live.specs.declared.feed_line.FeedLine.TheVariants.{GlimpseAccepted, GlimpseLost, Accepted, Joined, Lost, Ended}

-- its text
abbrev pub feed_words : FeedLine → List ℕ
feed_words GlimpseAccepted = codes "glimpse: accepted"
feed_words GlimpseLost = codes "glimpse: lost"
feed_words (Accepted next) = codes "feed: accepted from " ++ decimal next
feed_words (Joined next) = codes "feed: joined at " ++ decimal next
feed_words (Lost next) = codes "feed: lost at " ++ decimal next
feed_words (Ended next) = codes "feed: ended at " ++ decimal next
