-- The results and effects of the calls on a market.
use Rattle.std.specs.Prelude.{◌≡◌, ◌⊎◌, ℕ, List, Option, Some, None, Result, Err}
use Rattle.itch_market.specs.Content.{Content}
use Rattle.itch_market.specs.Replays.{TakesOne}
use Rattle.itch_market.specs.declared.refusal.Refusal.TheVariants.{OutOfMemory}
use Rattle.itch_market.specs.declared.stop.Stop.{Stop}
use Rattle.itch_snapshot.specs.Files.{IsMarketOf, IsFaultOf}
use Rattle.itch_snapshot.specs.Reads.{ReadsSnapshot}
use Rattle.itch_snapshot.specs.declared.fault.SnapFault.{SnapFault}
use Rattle.itch_snapshot.specs.declared.fault.SnapFault.TheVariants.{Rule}
use Rattle.itchsnap_c.specs.declared.answers.Answer.{Answer}
use Rattle.itchsnap_c.specs.declared.answers.Loaded.{Loaded}
use Rattle.itchsnap_c.specs.declared.object.Object.{Object}
use Rattle.itchsnap_c.specs.declared.object.Object.TheVariants.{Market}
use Rattle.itchsnap_c.specs.Codes.{outcome_answer, snapshot_answer, not_loaded}

-- the message of a payload is applied, or it is not, for this reason
abbrev pub Applies : List ℕ → Content → Answer → Content → Type 0
Applies payload m answer n = (outcome : Result (Unit {0}) Stop) × (answer ≡ outcome_answer outcome) × TakesOne m payload outcome n

-- the snapshot was read, and this is the number of the next message
abbrev pub read_to : ℕ → Loaded
read_to next = record { next = next; place = 0; detail = 0; code = 0 }

-- Memory runs out: before the first message or after the last, or for the one at this place, counted from 1. That message needs memory, and
-- no order rule refuses it.
abbrev pub RunsOutAt : List ℕ → ℕ → Type 0
RunsOutAt bytes place = (place ≡ 0) ⊎ ((new : Option (List ℕ)) × ReadsSnapshot (Some bytes) new (Err (Rule place OutOfMemory)))

-- the reason why a snapshot file is refused: its one fault, or that memory ran out
abbrev pub IsRefusedFor : List ℕ → SnapFault → Type 0
IsRefusedFor bytes fault = IsFaultOf bytes fault ⊎ ((place : ℕ) × (fault ≡ Rule place OutOfMemory) × RunsOutAt bytes place)

-- a new market of a snapshot file is put into an empty handle, or the file is refused and nothing is put there
abbrev pub LoadsNew : List ℕ → Loaded → Option Object → Type 0
LoadsNew bytes answer new =
    ((done : Content × ℕ) × IsMarketOf bytes done × (answer ≡ read_to done.1) × (new ≡ Some (Market done.0)))
    ⊎ ((fault : SnapFault) × IsRefusedFor bytes fault × (answer ≡ snapshot_answer fault) × (new ≡ None))

abbrev pub Loads : List ℕ → Option Object → Loaded → Option Object → Type 0
Loads bytes None answer new = LoadsNew bytes answer new
Loads bytes (Some old) answer new = (answer ≡ not_loaded 51) × (new ≡ Some old)

-- the object is the market of a snapshot file with this number of the next message
abbrev pub HasMarketOf : List ℕ → Object → ℕ → Type 0
HasMarketOf bytes object next = (m : Content) × IsMarketOf bytes (m, next) × (object ≡ Market m)
