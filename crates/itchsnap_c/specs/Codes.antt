-- The numbers of refusals in C.
use Rattle.std.specs.Prelude.{ℕ, Option, None, Some, Result, Ok, Err}
use Rattle.itch_codec.specs.declared.fault.CodecFault.{CodecFault}
use Rattle.itch_codec.specs.declared.fault.CodecFault.TheVariants.{Empty, WrongLength, BadText, BadSide, BadNumber}
use Rattle.itch_frame.specs.declared.fault.FrameFault.TheVariants.{Read, Truncated, Write, TooLong}
use Rattle.itch_market.specs.declared.refusal.Refusal.{Refusal}
use Rattle.itch_market.specs.declared.refusal.Refusal.TheVariants.{UnknownLocate, StockMismatch, ZeroShares, DuplicateRef, UnknownRef, LocateMismatch, TooManyShares, UnexpectedEnd, OutOfMemory}
use Rattle.itch_market.specs.declared.stop.Stop.{Stop}
use Rattle.itch_market.specs.declared.stop.Stop.TheVariants.{End, Frame, Codec, Rule, TooManyMessages}
use Rattle.itch_snapshot.specs.declared.fault.SnapFault.{SnapFault}
use Rattle.itch_snapshot.specs.declared.fault.SnapFault.TheVariants as snap
use Rattle.itchsnap_c.specs.declared.answers.Answer.{Answer}
use Rattle.itchsnap_c.specs.declared.answers.Count.{Count}
use Rattle.itchsnap_c.specs.declared.answers.Loaded.{Loaded}

-- a code, and its detail
abbrev pub coded : ℕ → ℕ → Answer
coded code detail = record { detail = detail; code = code }

-- a number
abbrev pub counted : ℕ → Count
counted count = record { count = count; code = 0 }

-- no number, for this reason
abbrev pub no_count : ℕ → Count
no_count code = record { count = 0; code = code }

-- the call succeeded
abbrev pub done : Answer
done = coded 0 0

-- memory ran out
abbrev pub no_memory : Answer
no_memory = coded 48 0

-- the handle does not hold an object of the right kind
abbrev pub wrong : Answer
wrong = coded 50 0

-- the handle already holds an object
abbrev pub in_use : Answer
in_use = coded 51 0

abbrev pub codec_answer : CodecFault → Answer
codec_answer Empty = coded 1 0
codec_answer (WrongLength kind want got) = coded 2 want
codec_answer (BadText offset) = coded 3 offset
codec_answer (BadSide offset) = coded 4 offset
codec_answer BadNumber = coded 5 0

-- the answer for a payload with this fault, or with none
abbrev pub fault_answer : Option CodecFault → Answer
fault_answer None = done
fault_answer (Some f) = codec_answer f

abbrev pub refusal_answer : Refusal → Answer
refusal_answer UnknownLocate = coded 16 0
refusal_answer StockMismatch = coded 17 0
refusal_answer ZeroShares = coded 18 0
refusal_answer DuplicateRef = coded 19 0
refusal_answer UnknownRef = coded 20 0
refusal_answer LocateMismatch = coded 21 0
refusal_answer (TooManyShares remain) = coded 22 remain
refusal_answer UnexpectedEnd = coded 23 0
refusal_answer OutOfMemory = no_memory

abbrev pub stop_answer : Stop → Answer
stop_answer End = done
stop_answer (Frame (Truncated held)) = coded 32 held
stop_answer (Frame (Read error)) = coded 34 0
stop_answer (Frame (Write sent error)) = coded 34 0
stop_answer (Frame TooLong) = coded 34 0
stop_answer (Codec fault) = codec_answer fault
stop_answer (Rule why) = refusal_answer why
stop_answer TooManyMessages = coded 33 0

-- the answer for a message that was taken, or not
abbrev pub outcome_answer : Result (Unit {0}) Stop → Answer
outcome_answer (Ok taken) = done
outcome_answer (Err stop) = stop_answer stop

-- no snapshot was read, for this reason
abbrev pub not_loaded : ℕ → Loaded
not_loaded code = record { next = 0; place = 0; detail = 0; code = code }

-- the message of a snapshot at this place is refused
abbrev pub refused_at : ℕ → Answer → Loaded
refused_at place answer = record { next = 0; place = place; detail = answer.detail; code = answer.code }

abbrev pub snapshot_answer : SnapFault → Loaded
snapshot_answer snap.NoEnd = not_loaded 35
snapshot_answer (snap.Frame fault) = refused_at 0 (stop_answer (Frame fault))
snapshot_answer (snap.Codec place fault) = refused_at place (codec_answer fault)
snapshot_answer (snap.Rule place reason) = refused_at place (refusal_answer reason)
snapshot_answer snap.AfterEnd = not_loaded 36
snapshot_answer snap.TooManyMessages = not_loaded 33
