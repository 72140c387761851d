-- The messages that a client of a played file is passed in.
use Rattle.std.specs.Prelude.{◌≡◌, ℕ, ◌-◌, ◌<◌, Bool, true, List, length, Option, None, Some, Result, Ok, Err}
use Rattle.itch_frame.specs.Reading.{Reading}
use Rattle.itch_frame.specs.declared.tally.Failures.{Failures}
use Rattle.itch_live.specs.Players.{Player, wanted, played}
use Rattle.itch_sessions.specs.declared.session_fault.SessionFault.{SessionFault}
use Rattle.itch_clients.specs.Paces.{is_due, timestamp}
use Rattle.itch_clients.specs.Playbacks.{IsAt}
use Rattle.itch_clients.specs.declared.pace.Pace.{Pace}
use Rattle.itch_clients.specs.declared.player_side.Played.{Played}
use Rattle.itch_clients.specs.declared.player_side.PlayStart.{PlayStart}

-- the start of a client: the first message that was read for it, and when
abbrev pub start_of : Option PlayStart → ℕ → ℕ → ℕ → PlayStart
start_of None number time now = record { number = number; time = time; at_ms = now }
start_of (Some start) number time now = start

-- whether a message with this number and timestamp is due, counted from the start
abbrev pub is_due_from : PlayStart → Pace → ℕ → ℕ → ℕ → Bool
is_due_from start pace number time now = is_due pace (now - start.at_ms) (number - start.number) (time - start.time)

module _ {R : Type 0} (remaining : R → Option (List ℕ)) (failures : R → Failures) where
  -- a client is passed in the message that it wants: that of the file with this number, which is due
  pub record PassesIn (first : Reading R) (pace : Pace) (now : ℕ) (old : Player) (start : Option PlayStart) (reader : Reading R) (new : Player) : Type 0 where
    pub number : ℕ
    pub message : List ℕ
    pub since : PlayStart
    pub is_wanted : wanted old ≡ Some number
    pub of_file : IsAt remaining failures first number message reader
    pub started : start ≡ Some since
    pub due : is_due_from since pace number (timestamp message) now ≡ true
    pub fits : length message < 65535
    pub passed : new ≡ played old message now

  -- the next message is passed in, or none is
  abbrev pub PlaysNext : Reading R → Pace → ℕ → Result (Option Played) SessionFault → Player → Option PlayStart → Reading R → Player → Type 0
  PlaysNext first pace now (Ok None) old start reader new = PassesIn first pace now old start reader new
  PlaysNext first pace now (Ok (Some why)) old start reader new = new ≡ old
  PlaysNext first pace now (Err fault) old start reader new = new ≡ old
