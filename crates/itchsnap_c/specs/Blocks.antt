-- The result of applying the blocks of a day file to a market, and the market afterwards.
use Rattle.std.specs.Prelude.{◌≡◌, ◌⊎◌, ℕ, List, Option, Some}
use Rattle.itch_market.specs.Content.{Content}
use Rattle.itch_market.specs.Replays.{IsDecided, Replays}
use Rattle.itch_market.specs.Stops.{Stops}
use Rattle.itch_market.specs.declared.refusal.Refusal.TheVariants.{OutOfMemory}
use Rattle.itch_market.specs.declared.stop.Stop.{Stop}
use Rattle.itch_market.specs.declared.stop.Stop.TheVariants.{Rule}
use Rattle.itchsnap_c.specs.declared.answers.Answer.{Answer}
use Rattle.itchsnap_c.specs.declared.answers.Applied.{Applied}
use Rattle.itchsnap_c.specs.Codes.{stop_answer}

-- that many messages were applied, with this answer for the stop
abbrev pub applied : ℕ → Answer → Applied
applied count answer = record { count = count; detail = answer.detail; code = answer.code }

-- no message was applied, for this reason
abbrev pub unapplied : ℕ → Applied
unapplied code = record { count = 0; detail = 0; code = code }

-- the stop is caused by the blocks, and then it is their first one; or memory runs out for a message
abbrev pub IsOfBlocks : List ℕ → Content → ℕ → Stop → Type 0
IsOfBlocks blocks m count stop = (IsDecided stop × Stops m blocks count stop) ⊎ (stop ≡ Rule OutOfMemory)

-- The messages of some blocks are applied, up to the first that is not taken or the end of the blocks. The market afterwards is that of the
-- messages before. Or memory for a block runs out, and nothing is done.
abbrev pub AppliesBlocks : List ℕ → Content → Applied → Content → Type 0
AppliesBlocks blocks m a n =
    ((count : ℕ) × (stop : Stop) × (left : Option (List ℕ)) × (a ≡ applied count (stop_answer stop)) × IsOfBlocks blocks m count stop
    × Replays m (Some blocks) left count stop n)
    ⊎ ((a ≡ unapplied 48) × (n ≡ m))
