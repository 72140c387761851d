-- The state of a feed, and the reason why it is not followed.
use Rattle.std.specs.Prelude.{ℕ, Bool, true, false, List, codes}
use Rattle.itch_status.specs.declared.state.FeedState.{FeedState}
use Rattle.itch_status.specs.declared.state.FeedState.TheVariants.{Connecting, Following, Lost, Ended}
use Rattle.itch_status.specs.declared.cause.LossCause.{LossCause}
use Rattle.itch_status.specs.declared.cause.LossCause.TheVariants as cause

-- the word for a state
abbrev pub state_words : FeedState → List ℕ
state_words Connecting = codes "connecting"
state_words Following = codes "following"
state_words Lost = codes "lost"
state_words Ended = codes "ended"

-- the text of a cause
abbrev pub cause_words : LossCause → List ℕ
cause_words cause.NotFound = codes "not found"
cause_words cause.Refused = codes "refused"
cause_words cause.Unreachable = codes "unreachable"
cause_words cause.Reset = codes "reset"
cause_words cause.TimedOut = codes "timed out"
cause_words cause.Closed = codes "closed by the server"
cause_words cause.Silent = codes "silent"
cause_words cause.Failed = codes "socket failed"
cause_words cause.WrongLogin = codes "rejected A"
cause_words cause.NoSession = codes "rejected S"
cause_words cause.Rejected = codes "rejected"
cause_words cause.OtherSession = codes "in another session"
cause_words cause.Gap = codes "gap"
cause_words cause.NoMemory = codes "out of memory"
cause_words cause.Broken = codes "broke the protocol"

-- two states are equal
abbrev pub is_state : FeedState → FeedState → Bool
is_state Connecting Connecting = true
is_state Following Following = true
is_state Lost Lost = true
is_state Ended Ended = true
is_state state other = false
