-- The data that the program fetches, and the lines of the connections that it serves.
use Rattle.std.specs.Prelude.{◌≡◌, ℕ, ◌+◌, ◌-◌, ◌^◌, ◌<◌, ◌≤◌, ◌⊎◌, Bool, true, List, [], ◌∷◌, ◌++◌, length, codes, decimal, Option, Some, None, Result, Ok, Err}
use Rattle.std.specs.List.{AllByRecursion}
use Rattle.std.specs.declared.io.Error.{Error}
use Rattle.std.specs.Io.KnownBytes.{Keeps}
use Rattle.itch_frame.specs.Counting.{failed}
use Rattle.itch_frame.specs.Reading.{Reading}
use Rattle.itch_frame.specs.declared.tally.Failures.{Failures}
use Rattle.itch_market.specs.Content.{Content}
use Rattle.itch_snapshot.specs.Snapshot.{snap}
use Rattle.itch_soup.specs.declared.login.Credentials.{Credentials}
use Rattle.itch_soup.specs.declared.login.ServerConfig.{ServerConfig}
use Rattle.itch_soup.specs.declared.serve.Served.{Served}
use Rattle.itch_soup.specs.declared.serve.Served.TheVariants.{Accepted, Rejected, Left}
use Rattle.itch_soup.specs.Fetching.{Fetches}
use Rattle.itch_soup.specs.FetchingRest.{FetchesRest}
use Rattle.itch_soup.specs.declared.fault.SoupFault.{SoupFault}
use Rattle.itch_soup.specs.Serving.{Serves}
use Rattle.itch_sessions.specs.declared.session_fault.SessionFault.{SessionFault}
use Rattle.itch_sessions.specs.declared.session_fault.SessionFault.TheVariants as session_fault
use Rattle.itch_sessions.specs.SessionOutcomes.{outcome_line}
use Rattle.itch_sessions.specs.declared.outcome.SessionOutcome.{SessionOutcome}
use Rattle.itch_sessions.specs.declared.outcome.SessionOutcome.TheVariants as outcome
use Rattle.itch_sessions.specs.declared.outcome.SessionOutcome.TheVariants.{Played, Fault}
use Rattle.itch_sessions.specs.Outputs.{Wrote, WritesText}
use Rattle.itch_sessions.specs.Sides.{Side, sound, unread}

module _ {R V : Type 0} (remaining : R → Option (List ℕ)) (reads : R → Failures) (contents : V → Option (List ℕ)) (writes : V → Failures) where
  -- a market and its number are fetched from a peer; or the session's fault is the program's
  abbrev pub FetchesMarket : Credentials → Reading R → V → Reading R → V → Result (Content × ℕ) SessionFault → Type 0
  FetchesMarket credentials reader writer reader_after writer_after (Ok done) =
      Fetches remaining reads contents writes credentials reader writer (Ok done) reader_after writer_after
  FetchesMarket credentials reader writer reader_after writer_after (Err (session_fault.Soup fault)) =
      Fetches remaining reads contents writes credentials reader writer (Err fault) reader_after writer_after
  FetchesMarket credentials reader writer reader_after writer_after (Err fault) = ⊥

module _ {R V : Type 0} (remaining : R → Option (List ℕ)) (reads : R → Failures) (contents : V → Option (List ℕ)) (writes : V → Failures) where
  -- the bytes of the blocks from this number on are fetched from a peer; or the session's fault is the program's
  abbrev pub FetchesBytes : Credentials → ℕ → Reading R → V → Reading R → V → Result (List ℕ) SessionFault → Type 0
  FetchesBytes credentials n reader writer reader_after writer_after (Ok bytes) =
      FetchesRest remaining reads contents writes credentials n reader writer (Ok bytes) reader_after writer_after
  FetchesBytes credentials n reader writer reader_after writer_after (Err (session_fault.Soup fault)) =
      FetchesRest remaining reads contents writes credentials n reader writer (Err fault) reader_after writer_after
  FetchesBytes credentials n reader writer reader_after writer_after (Err fault) = ⊥

-- how a connection ended, or none if it had a fault
abbrev pub Ending : Type 0
Ending = Option Served

module _ {V : Type 0} (contents : V → Option (List ℕ)) (writes : V → Failures) where
  -- The writer is flushed after a peer was served without a fault. The ending is that of the service; or the flush failed, which is counted,
  -- and there is no ending. After a fault nothing is flushed, and there is no ending.
  abbrev pub Flushes : Result Served SoupFault → V → Ending → V → Type 0
  Flushes (Ok served) old (Some ending) new = (ending ≡ served) × Keeps (contents old) (contents new) × (writes new ≡ writes old)
  Flushes (Ok served) old None new = Keeps (contents old) (contents new) × ((error : Error) × (writes new ≡ failed error (writes old)))
  Flushes (Err fault) old ending new = (ending ≡ None) × (new ≡ old)

module _ {R V : Type 0} (remaining : R → Option (List ℕ)) (reads : R → Failures) (contents : V → Option (List ℕ)) (writes : V → Failures) where
  -- a peer is served, and the writer is flushed
  abbrev pub ServesFlushed : Content → ℕ → ServerConfig → Reading R → V → Ending → Reading R → V → Type 0
  ServesFlushed m next config reader writer ending reader_after writer_after =
      (result : Result Served SoupFault) × (mid : V)
      × Serves remaining reads contents writes m next config reader writer result reader_after mid × Flushes contents writes result mid ending writer_after

-- an ending as the end of any client's connection
abbrev pub outcome_after : Ending → SessionOutcome
outcome_after (Some (Accepted from packets)) = Played from packets
outcome_after (Some (Rejected code)) = outcome.Rejected code
outcome_after (Some Left) = outcome.Left
outcome_after None = Fault

-- the line of a connection
abbrev pub connection_line : ℕ → Ending → List ℕ
connection_line number ending = outcome_line number (outcome_after ending)

-- the lines of connections, the first of which has this number
abbrev pub connection_lines : ℕ → List Ending → List ℕ
connection_lines number [] = []
connection_lines number (ending ∷ endings) = connection_line number ending ++ connection_lines (number + 1) endings

-- an ending that results from serving a peer over these two sides of a connection
abbrev pub EndsOver : Content → ℕ → ServerConfig → Reading Side → Side → Ending → Type 0
EndsOver m next config reader writer ending =
    (heard : Reading Side) × (answered : Side)
    × ServesFlushed (λ (s : Side). s.bytes) (λ s. s.failures) (λ (s : Side). s.bytes) (λ s. s.failures) m next config reader writer ending heard answered

-- the same for a peer that sends these bytes, over a connection to which these bytes were written before
abbrev pub EndsAs : Content → ℕ → ServerConfig → Option (List ℕ) → Option (List ℕ) → Ending → Type 0
EndsAs m next config sent written ending = EndsOver m next config (unread sent) (sound written) ending

-- the result of serving one connection: its ending, or memory ran out
abbrev pub ServesPeer : Content → ℕ → ServerConfig → Option (List ℕ) → Option (List ℕ) → Result Ending SessionFault → Type 0
ServesPeer m next config sent written (Ok ending) = EndsAs m next config sent written ending
ServesPeer m next config sent written (Err session_fault.OutOfMemory) = Unit {0}
ServesPeer m next config sent written (Err fault) = ⊥

-- no connection was accepted, or there is no memory for one
abbrev pub IsUnserved : SessionFault → Type 0
IsUnserved (session_fault.Socket error) = Unit {0}
IsUnserved session_fault.OutOfMemory = Unit {0}
IsUnserved fault = ⊥

module _ {S : Type 0} (remaining : S → Option (List ℕ)) (taken : S → Option (List ℕ)) where
  -- an ending that results from serving some socket, with one handle for reading and another for writing
  abbrev pub IsEnding : Content → ℕ → ServerConfig → Ending → Type 0
  IsEnding m next config ending = (stream : S) × (answering : S) × EndsAs m next config (remaining stream) (taken answering) ending

module _ {S W : Type 0} (remaining : S → Option (List ℕ)) (taken : S → Option (List ℕ)) (contents : W → Option (List ℕ)) (failures : W → Failures) where
  -- the next connection is served, and as much of its line as possible is written; or none is served, and nothing is written
  abbrev pub ServesNext : Content → ℕ → ServerConfig → ℕ → W → Result (Unit {0}) SessionFault → W → Type 0
  ServesNext m next config number old result new =
      ((ending : Ending) × IsEnding remaining taken m next config ending × WritesText contents failures (connection_line number ending) old result new)
      ⊎ ((fault : SessionFault) × (result ≡ Err fault) × IsUnserved fault × (new ≡ old))

  -- these connections are served, and their lines written
  abbrev pub ServesAll : Content → ℕ → ServerConfig → List Ending → W → W → Type 0
  ServesAll m next config endings old new =
      AllByRecursion (IsEnding remaining taken m next config) endings × Wrote contents failures (connection_lines 1 endings) old new

  -- `count` connections are served; or fewer, and then the next one failed with this fault
  abbrev pub ServesOn : Content → ℕ → ServerConfig → ℕ → W → Result Bool SessionFault → W → Type 0
  ServesOn m next config count old (Ok answer) new =
      (answer ≡ true) × ((endings : List Ending) × (length endings ≡ count) × ServesAll m next config endings old new)
  ServesOn m next config count old (Err fault) new =
      (endings : List Ending) × (mid : W) × (length endings < count) × ServesAll m next config endings old mid
      × ServesNext m next config (length endings + 1) mid (Err fault) new

  -- a snapshot with too many messages, or on a port that cannot be bound, is not served; any other is
  abbrev pub ServesMarket : Content → ℕ → ServerConfig → ℕ → W → Result Bool SessionFault → W → Type 0
  ServesMarket m next config count old result new =
      ((result ≡ Err session_fault.TooMany) × (10 ^ 19 - 1 ≤ length (snap m)) × (new ≡ old))
      ⊎ ((fault : SessionFault) × (result ≡ Err fault) × IsUnserved fault × (new ≡ old))
      ⊎ ((length (snap m) < 10 ^ 19 - 1) × ServesOn m next config count old result new)
