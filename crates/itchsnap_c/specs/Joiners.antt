-- The results and effects of the calls on a joiner.
use Rattle.std.specs.Prelude.{◌≡◌, ◌⊎◌, ℕ, true, List, Option, Some, None, option_and_then, Result}
use Rattle.std.specs.FinMap as map
use Rattle.itch_join.specs.Rules.{rules_of}
use Rattle.itch_join.specs.States as states
use Rattle.itch_join.specs.States.{Joining}
use Rattle.itch_join.specs.Positions.{Position}
use Rattle.itch_join.specs.Steps.{Call, CallLive, CallSnapshot, CallRestart, CallResume, Step}
use Rattle.itch_join.specs.declared.fault.JoinFault.{JoinFault}
use Rattle.itch_join.specs.declared.outcome.Live.{Live}
use Rattle.itch_join.specs.declared.outcome.Snap.{Snap}
use Rattle.itch_market.specs.Wanted.{Wanted, has}
use Rattle.itchsnap_c.specs.declared.answers.Answer.{Answer}
use Rattle.itchsnap_c.specs.declared.answers.Count.{Count}
use Rattle.itchsnap_c.specs.declared.answers.Joined.{Joined}
use Rattle.itchsnap_c.specs.declared.object.Object.{Object}
use Rattle.itchsnap_c.specs.declared.object.Object.TheVariants.{Joiner}
use Rattle.itchsnap_c.specs.Codes.{counted, no_count, done, no_memory, in_use}
use Rattle.itchsnap_c.specs.JoinCodes.{coded_number, live_answer, snap_answer, resumed_answer}
use Rattle.itchsnap_c.specs.Objects.{Fills, joiner_of}
use Rattle.itchsnap_c.specs.Snapshots.{is_listed}

-- the handle holds no joiner
abbrev pub wrong_joined : Joined
wrong_joined = coded_number 50 0

-- a new joiner
abbrev pub new_joiner : ℕ → Wanted → Object
new_joiner cap set = Joiner (record { cap = cap; set = set; state = states.new })

-- the handle is filled with a new joiner for all locates
abbrev pub FillsAll : ℕ → Option Object → Answer → Option Object → Type 0
FillsAll cap old answer new = (set : Wanted) × ((locate : ℕ) → has set locate ≡ true) × Fills old (new_joiner cap set) answer new

-- the same for the locates of a list
abbrev pub FillsListed : ℕ → List ℕ → Option Object → Answer → Option Object → Type 0
FillsListed cap locates (Some old) answer new = (answer ≡ in_use) × (new ≡ Some old)
FillsListed cap locates None answer new =
    ((set : Wanted) × ((locate : ℕ) → has set locate ≡ is_listed locates locate) × (answer ≡ done) × (new ≡ Some (new_joiner cap set)))
    ⊎ ((answer ≡ no_memory) × (new ≡ None))

-- a call with this result takes a joiner from one state to another
abbrev pub Steps : Joining → Call → Joining → Type 0
Steps j call k = Step (rules_of (has j.set)) j.cap j.state call k.state × (k.cap ≡ j.cap) × (k.set ≡ j.set)

-- a message of the live feed is delivered
abbrev pub Delivers : ℕ → List ℕ → Joining → Joined → Joining → Type 0
Delivers number payload j answer k = (taken : Result Live JoinFault) × (answer ≡ live_answer taken) × Steps j (CallLive number payload taken) k

-- a message of the snapshot is delivered
abbrev pub TakesSnapshot : List ℕ → Joining → Joined → Joining → Type 0
TakesSnapshot payload j answer k = (taken : Result Snap JoinFault) × (answer ≡ snap_answer taken) × Steps j (CallSnapshot payload taken) k

abbrev pub Restarts : Joining → Answer → Joining → Type 0
Restarts j answer k = (answer ≡ done) × Steps j CallRestart k

abbrev pub Resumes : Joining → Joined → Joining → Type 0
Resumes j answer k = (taken : Result (Option ℕ) JoinFault) × (answer ≡ resumed_answer taken) × Steps j (CallResume taken) k

abbrev pub held_joiner : Option Object → Option Joining
held_joiner held = option_and_then joiner_of held

abbrev pub next_at : Option Position → Count
next_at (Some at) = counted at.next
next_at None = no_count 53

-- the number of the next message, once joined
abbrev pub next_in : Option Joining → Count
next_in (Some j) = next_at j.state.joined
next_in None = no_count 50

-- the number of waiting messages
abbrev pub waiting_in : Option Joining → Count
waiting_in (Some j) = counted (map.len j.state.wait)
waiting_in None = no_count 50
