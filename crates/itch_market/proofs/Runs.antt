-- Two lists of messages, one after another.
use Rattle.std.proofs.Common.{◌≡◌, List, [], ◌∷◌, ◌++◌, refl}
use Rattle.itch_codec.specs.declared.message.Message.{Message}
use Rattle.itch_market.specs.Content.{Content}
use Rattle.itch_market.specs.Effects.{effect}
use Rattle.itch_market.specs.Runs.{after, FollowsFrom}

pub after-append : (m : Content) (xs ys : List Message) → after m (xs ++ ys) ≡ after (after m xs) ys
after-append m [] ys = refl
after-append m (x ∷ xs) ys = after-append (effect m x) xs ys

pub follows-append : (m : Content) (xs ys : List Message) → FollowsFrom m xs → FollowsFrom (after m xs) ys → FollowsFrom m (xs ++ ys)
follows-append m [] ys first rest = rest
follows-append m (x ∷ xs) ys first rest = (first.0, follows-append (effect m x) xs ys first.1 rest)

pub follows_first : (m : Content) (xs ys : List Message) → FollowsFrom m (xs ++ ys) → FollowsFrom m xs
follows_first m [] ys all = tt
follows_first m (x ∷ xs) ys all = (all.0, follows_first (effect m x) xs ys all.1)

pub follows_rest : (m : Content) (xs ys : List Message) → FollowsFrom m (xs ++ ys) → FollowsFrom (after m xs) ys
follows_rest m [] ys all = all
follows_rest m (x ∷ xs) ys all = follows_rest (effect m x) xs ys all.1
