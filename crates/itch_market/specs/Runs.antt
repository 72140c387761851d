-- The market after a list of messages, and whether the messages follow the order rules.
use Rattle.std.specs.Prelude.{◌≡◌, List, [], ◌∷◌, None}
use Rattle.std.specs.List.{AllByRecursion}
use Rattle.itch_codec.specs.declared.message.Message.{Message}
use Rattle.itch_codec.specs.Widths.{IsMessage}
use Rattle.itch_market.specs.Content.{Content, empty}
use Rattle.itch_market.specs.Reasons.{reason}
use Rattle.itch_market.specs.Effects.{effect}

-- messages whose fields fit
abbrev pub AreMessages : List Message → Type 0
AreMessages ms = AllByRecursion IsMessage ms

-- the market after these messages, from this one on
abbrev pub after : Content → List Message → Content
after m [] = m
after m (x ∷ xs) = after (effect m x) xs

-- the market after these messages, from the empty one on
abbrev pub run : List Message → Content
run ms = after empty ms

-- no message is refused in the market after the messages before it, from this market on
abbrev pub FollowsFrom : Content → List Message → Type 0
FollowsFrom m [] = Unit {0}
FollowsFrom m (x ∷ xs) = (reason m x ≡ None) × FollowsFrom (effect m x) xs

-- the messages follow the order rules
abbrev pub Follows : List Message → Type 0
Follows ms = FollowsFrom empty ms
