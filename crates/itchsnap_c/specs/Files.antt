-- The results and effects of the calls over whole files.
use Rattle.std.specs.Prelude.{◌≡◌, ◌≢◌, ◌⊎◌, ◌==◌, ◌-◌, ◌+◌, ◌^◌, ℕ, List, ◌++◌, map, length, Option, Some, None, if◌then◌else◌}
use Rattle.std.specs.List.{AllByRecursion}
use Rattle.itch_codec.specs.Messages.{message_of}
use Rattle.itch_snapshot.specs.PartPlaces.{IsPartPlace}
use Rattle.itch_day.specs.Limits.{counted}
use Rattle.itch_day.specs.declared.limit.Limit.{Limit}
use Rattle.itch_market.specs.DayParts.{HaltsPart}
use Rattle.itch_market.specs.DayMessages.{AreTaken, IsPart, IsShort}
use Rattle.itch_market.specs.Content.{Content, empty, laid}
use Rattle.itch_market.specs.Replays.{Fits}
use Rattle.itch_market.specs.Runs.{run}
use Rattle.itch_market.specs.Stops.{Stops}
use Rattle.itch_market.specs.declared.refusal.Refusal.TheVariants.{OutOfMemory}
use Rattle.itch_market.specs.declared.stop.Stop.{Stop}
use Rattle.itch_market.specs.declared.stop.Stop.TheVariants.{End, Rule}
use Rattle.itch_snapshot.specs.Bytes.{canon, closing}
use Rattle.itchsnap_c.specs.declared.answers.Comparison.{Comparison}
use Rattle.itchsnap_c.specs.declared.answers.Outcome.{Outcome}
use Rattle.itchsnap_c.specs.declared.answers.Written.{Written}
use Rattle.itchsnap_c.specs.Codes.{stop_answer}
use Rattle.itchsnap_c.specs.Snapshots.{Writes}

-- 2^64 - 1 requests all messages, or messages at any time
abbrev pub wanted : ℕ → Option ℕ
wanted number = if number == (2 ^ 64 - 1) then None else Some number

-- the requested part of a file: that many messages, or those before a time
abbrev pub part_of : ℕ → ℕ → Limit
part_of after until = record { after = wanted after; until = wanted until }

abbrev pub outcome : ℕ → ℕ → ℕ → ℕ → Outcome
outcome count len detail code = record { count = count; len = len; detail = detail; code = code }

-- a day file, or the requested part of it, has been read: these are its messages, and this is the market after them
abbrev pub Reads : List ℕ → Limit → List (List ℕ) → Type 0
Reads day limit payloads = AreTaken limit payloads × IsPart limit day payloads × AllByRecursion Fits payloads

-- the market after a day file, or its part, and its number of messages
abbrev pub ReadsDay : List ℕ → Limit → Content → ℕ → Type 0
ReadsDay day limit m count =
    (payloads : List (List ℕ)) × Reads day limit payloads × (m ≡ laid (run (map message_of payloads))) × (length payloads ≡ count)

-- the reading of a day file, or of the requested part of it, stops for this reason after this many messages, and not because the part ends
abbrev pub HaltsDay : Limit → List ℕ → ℕ → Stop → Type 0
HaltsDay limit day count stop = (new : Option (List ℕ)) × (m : Content) × HaltsPart limit empty (Some day) new count stop m

-- Memory runs out: before the first message, or for the one after this many, which were taken. That message needs memory, and no order rule
-- refuses it.
abbrev pub RunsOut : Limit → List ℕ → ℕ → Type 0
RunsOut limit day count = (count ≡ 0) ⊎ HaltsDay limit day count (Rule OutOfMemory)

-- The reason why a day file is refused: its first bad place, which is within the requested part, with the number of messages before it; or
-- it has fewer messages than requested; or memory ran out, with the number of messages that were taken.
abbrev pub RefusesDay : List ℕ → Limit → Outcome → Type 0
RefusesDay day limit o =
    ((count : ℕ) × (stop : Stop) × (o ≡ outcome count 0 (stop_answer stop).detail (stop_answer stop).code) × (stop ≢ End) × Stops empty day count stop
    × HaltsDay limit day count stop)
    ⊎ ((count : ℕ) × (o ≡ outcome count 0 0 37) × IsShort limit count × Stops empty day count End × HaltsDay limit day count End)
    ⊎ ((count : ℕ) × (o ≡ outcome count 0 0 48) × RunsOut limit day count)

-- a day file follows the order rules, and this is its number of messages; or it is refused
abbrev pub Checks : List ℕ → Outcome → Type 0
Checks day o =
    ((payloads : List (List ℕ)) × Reads day (counted None) payloads × (o ≡ outcome (length payloads) 0 0 0))
    ⊎ RefusesDay day (counted None) o

-- the market of these messages
abbrev pub market_of : List (List ℕ) → Content
market_of payloads = run (map message_of payloads)

-- The snapshot of the market after the messages, or of its restriction, is at the front of the memory; or there is no room for it, or
-- memory runs out, or the file is refused.
abbrev pub Snaps : (Content → Content) → List ℕ → Limit → List ℕ → Outcome → List ℕ → Type 0
Snaps cut day limit old o new =
    ((payloads : List (List ℕ)) × (written : Written) × Reads day limit payloads × (o ≡ outcome (length payloads) written.len 0 written.code)
    × Writes (canon (cut (market_of payloads)) ++ closing (length payloads + 1)) old written new)
    ⊎ (RefusesDay day limit o × (new ≡ old))

-- the markets are the same, or part at this place
abbrev pub parted : Option ℕ → Comparison
parted (Some place) = record { place = place; count = 0; detail = 0; code = 0; file = 0 }
parted None = record { place = 0; count = 0; detail = 0; code = 0; file = 0 }

abbrev pub refused_in : ℕ → Outcome → Comparison
refused_in file o = record { place = 0; count = o.count; detail = o.detail; code = o.code; file = file }

-- Both files are read, the first completely before the second, and their markets are the same or part at a place; or one file is refused.
abbrev pub Compares : List ℕ → List ℕ → Comparison → Type 0
Compares first second answer =
    ((ps : List (List ℕ)) × (qs : List (List ℕ)) × (place : Option ℕ) × Reads first (counted None) ps × Reads second (counted None) qs
    × IsPartPlace (market_of ps) (market_of qs) place × (answer ≡ parted place))
    ⊎ ((o : Outcome) × RefusesDay first (counted None) o × (answer ≡ refused_in 1 o))
    ⊎ ((ps : List (List ℕ)) × (o : Outcome) × Reads first (counted None) ps × RefusesDay second (counted None) o × (answer ≡ refused_in 2 o))
