-- The line of a connection that has ended.
use Rattle.std.specs.Prelude.{ℕ, Bool, true, false, List, [], ◌∷◌, ◌++◌, Option, None, Some, codes, decimal}
use Rattle.itch_live.specs.declared.disconnect_cause.DisconnectCause.{DisconnectCause}
use Rattle.itch_live.specs.declared.disconnect_cause.DisconnectCause.TheVariants as gone
use Rattle.itch_sessions.specs.declared.outcome.SessionOutcome.{SessionOutcome}
use Rattle.itch_sessions.specs.declared.outcome.SessionOutcome.TheVariants.{Answered, Played, Rejected, Left, Fault, CutOff, Slowest}

-- how a client's connection ended if the client is gone for this reason
abbrev pub of_gone : DisconnectCause → SessionOutcome
of_gone gone.Left = Left
of_gone gone.Fault = Fault
of_gone gone.Silent = CutOff

-- the reason to close a connection, if there is one: its client is gone, or the connection is over; if the client has closed its sending
-- half, it has left
abbrev pub ending : Option DisconnectCause → Bool → Bool → Option DisconnectCause
ending (Some reason) ended over = Some reason
ending None ended false = None
ending None true true = Some gone.Left
ending None false true = Some gone.Fault

-- how a connection ended: a rejection or a complete answer takes precedence over anything later
abbrev pub outcome_of : Option ℕ → Option SessionOutcome → DisconnectCause → SessionOutcome
outcome_of (Some code) served reason = Rejected code
outcome_of None (Some served) reason = served
outcome_of None None reason = of_gone reason

-- the text of an ended connection
abbrev pub outcome_words : SessionOutcome → List ℕ
outcome_words (Answered next packets) = codes "accepted at " ++ decimal next ++ codes ", " ++ decimal packets ++ codes " packets"
outcome_words (Played from packets) = codes "accepted from " ++ decimal from ++ codes ", " ++ decimal packets ++ codes " packets"
outcome_words (Rejected code) = codes "rejected " ++ code ∷ []
outcome_words Left = codes "left"
outcome_words Fault = codes "fault"
outcome_words CutOff = codes "cut off"
outcome_words Slowest = codes "cut off as the slowest"

-- the line of a connection
abbrev pub outcome_line : ℕ → SessionOutcome → List ℕ
outcome_line number outcome = codes "connection " ++ decimal number ++ codes ": " ++ outcome_words outcome ++ codes "\n"
