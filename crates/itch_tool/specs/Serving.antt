-- The outcome of serving the market of a file.
use Rattle.std.specs.Prelude.{◌≡◌, ℕ, ◌⊎◌, Bool, List, Option, None, Result, Ok, Err}
use Rattle.itch_frame.specs.declared.tally.Failures.{Failures}
use Rattle.itch_market.specs.Content.{Content, laid}
use Rattle.itch_soup.specs.declared.login.ServerConfig.{ServerConfig}
use Rattle.itch_commands.specs.declared.fault.ToolFault.{ToolFault}
use Rattle.itch_sessions.specs.Sessions.{ServesMarket}
use Rattle.itch_sessions.specs.declared.session_fault.SessionFault.{SessionFault}
use Rattle.itch_tool.specs.declared.failure.Failure.{Failure}
use Rattle.itch_tool.specs.declared.failure.Failure.TheVariants.{Command, Session}

-- the result of a session is that of the job
abbrev pub of_session : {X : Type 0} → Result X SessionFault → Result X Failure
of_session (Ok x) = Ok x
of_session (Err fault) = Err (Session fault)

module _ {S W : Type 0} (remaining : S → Option (List ℕ)) (taken : S → Option (List ℕ)) (contents : W → Option (List ℕ)) (failures : W → Failures) where
  -- a file that is refused is not served; the market of any other is, with its number
  abbrev pub ServesFile : (Result (Content × ℕ) ToolFault → Type 0) → ServerConfig → ℕ → W → Result Bool Failure → W → Type 0
  ServesFile reads config count old result new =
      ((fault : ToolFault) × (result ≡ Err (Command fault None)) × reads (Err fault) × (new ≡ old))
      ⊎ ((done : Content × ℕ) × (served : Result Bool SessionFault) × reads (Ok done) × (result ≡ of_session served)
      × ServesMarket remaining taken contents failures (laid done.0) done.1 config count old served new)
