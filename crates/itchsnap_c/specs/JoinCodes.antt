-- The numbers of a joiner's results.
use Rattle.std.specs.Prelude.{ℕ, true, false, Option, Some, None, Result, Ok, Err}
use Rattle.itch_join.specs.declared.fault.Cause.{Cause}
use Rattle.itch_join.specs.declared.fault.Cause.TheVariants.{Codec, Rule, TooMany}
use Rattle.itch_join.specs.declared.fault.JoinFault.{JoinFault}
use Rattle.itch_join.specs.declared.fault.JoinFault.TheVariants as fault
use Rattle.itch_join.specs.declared.outcome.Live.{Live}
use Rattle.itch_join.specs.declared.outcome.Live.TheVariants.{Kept, Applied, Old}
use Rattle.itch_join.specs.declared.outcome.Snap.{Snap}
use Rattle.itch_join.specs.declared.outcome.Snap.TheVariants.{More, Joined as Whole}
use Rattle.itchsnap_c.specs.declared.answers.Answer.{Answer}
use Rattle.itchsnap_c.specs.declared.answers.Joined.{Joined}
use Rattle.itchsnap_c.specs.Codes.{coded, codec_answer, refusal_answer}

-- a code and its number
abbrev pub coded_number : ℕ → ℕ → Joined
coded_number code number = record { number = number; detail = 0; code = code; cause = 0 }

-- the reason why a message is refused
abbrev pub cause_answer : Cause → Answer
cause_answer (Codec f) = codec_answer f
cause_answer (Rule why) = refusal_answer why
cause_answer TooMany = coded 33 0

-- a code, the number of the message that is refused, and the reason
abbrev pub caused : ℕ → ℕ → Cause → Joined
caused code number cause = record { number = number; detail = (cause_answer cause).detail; code = code; cause = (cause_answer cause).code }

abbrev pub join_fault_answer : JoinFault → Joined
join_fault_answer (fault.Full cap) = coded_number 72 cap
join_fault_answer (fault.Conflict number) = coded_number 73 number
join_fault_answer fault.BadNumber = coded_number 74 0
join_fault_answer (fault.Halted number cause) = caused 75 number cause
join_fault_answer (fault.OutOfMemory false) = coded_number 48 0
join_fault_answer (fault.OutOfMemory true) = coded_number 77 0
join_fault_answer fault.Joined = coded_number 76 0
join_fault_answer (fault.BadSnapshot place cause) = caused 78 place cause

abbrev pub live_answer : Result Live JoinFault → Joined
live_answer (Ok Kept) = coded_number 64 0
live_answer (Ok (Applied next)) = coded_number 65 next
live_answer (Ok Old) = coded_number 66 0
live_answer (Err f) = join_fault_answer f

abbrev pub snap_answer : Result Snap JoinFault → Joined
snap_answer (Ok More) = coded_number 67 0
snap_answer (Ok (Whole next)) = coded_number 68 next
snap_answer (Err f) = join_fault_answer f

abbrev pub resumed_answer : Result (Option ℕ) JoinFault → Joined
resumed_answer (Ok (Some next)) = coded_number 65 next
resumed_answer (Ok None) = coded_number 53 0
resumed_answer (Err f) = join_fault_answer f
