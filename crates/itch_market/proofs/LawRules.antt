-- The lemmas of the laws, in the form of the laws.
use Rattle.itch_market.proofs.GoodMarkets.{empty_good, laid_good, effect_good, after_good}
use Rattle.itch_market.proofs.SameMarkets.{reason_same, effect_same}
use Rattle.itch_market.proofs.LaidMarkets.{reason-laid, effect-laid, takes_memory-laid, laid_twice}
use Rattle.itch_market.proofs.Partials.{kept_follows, kept_leaves}
use Rattle.itch_market.proofs.PlainMessages.{plain_allowed, plain_fits, plain_effect, plain_same}

pub ruleset laid_laws = (reason-laid, effect-laid, takes_memory-laid, laid_twice)

pub ruleset good_laws = (empty_good, laid_good, effect_good, after_good)

pub ruleset same_laws = (reason_same, effect_same)

pub ruleset kept_laws = (kept_follows, kept_leaves)

pub ruleset plain_laws = (plain_allowed, plain_fits, plain_effect, plain_same)
