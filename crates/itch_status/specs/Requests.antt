-- The answer to the first bytes of a connection, by the grammar of requests.
use Rattle.std.specs.Prelude.{◌≡◌, ℕ, ◌<◌, ◌≤◌, ◌⊎◌, true, false, List, length}
use Rattle.httparse.specs.Grammar.{RequestHead, ReadsRequest, HasNoRequest, NeverHasRequest, MayBecomeRequest}
use Rattle.httparse.specs.Spans.{RequestExceeds}
use Rattle.itch_status.specs.Pages.{answer_of}
use Rattle.itch_status.specs.declared.refusal.RequestRefusal.TheVariants as refusal
use Rattle.itch_status.specs.declared.request.StatusAnswer.{StatusAnswer}
use Rattle.itch_status.specs.declared.request.StatusAnswer.TheVariants as answer

-- the bytes begin with a head that has this answer
abbrev pub IsAnswered : List ℕ → StatusAnswer → Type 0
IsAnswered bytes given = (head : RequestHead) × (rest : List ℕ) × ReadsRequest bytes head rest × (answer_of head ≡ given)

-- More bytes are needed while there is no head and one may still follow within 8 KiB. A request is bad if no head can follow, and too large
-- if no head is complete within 8 KiB, or if the head has more than 64 fields. Otherwise the answer is that of the head.
abbrev pub Answers : List ℕ → StatusAnswer → Type 0
Answers bytes answer.More = (length bytes < 8192) × HasNoRequest bytes × MayBecomeRequest bytes
Answers bytes (answer.Refused refusal.BadRequest true) = NeverHasRequest bytes
Answers bytes (answer.Refused refusal.TooLarge true) = ((8192 ≤ length bytes) × HasNoRequest bytes) ⊎ RequestExceeds 64 bytes
Answers bytes (answer.Refused refusal.NotFound body) = IsAnswered bytes (answer.Refused refusal.NotFound body)
Answers bytes (answer.Refused refusal.MethodNotAllowed true) = IsAnswered bytes (answer.Refused refusal.MethodNotAllowed true)
Answers bytes (answer.Refused refusal.TimedOut body) = ⊥
Answers bytes (answer.Refused refusal.BadRequest false) = ⊥
Answers bytes (answer.Refused refusal.TooLarge false) = ⊥
Answers bytes (answer.Refused refusal.MethodNotAllowed false) = ⊥
Answers bytes (answer.Page page body) = IsAnswered bytes (answer.Page page body)
