-- When a waiting client is answered, and when a client is disconnected.
use Rattle.std.specs.Prelude.{◌≡◌, ℕ, ◌-◌, ◌≤◌, ◌⊎◌, true, false, List, ◌∷◌, ◌++◌, Some, is_some}
use Rattle.itch_join.specs.Positions.{Position}
use Rattle.itch_soup.specs.declared.login.ServerConfig.{ServerConfig}
use Rattle.itch_live.specs.declared.disconnect_cause.DisconnectCause.TheVariants as reason
use Rattle.itch_live.specs.SnapshotClients.{SnapshotClient, is_patient, is_waiting, is_silent, answered, session_bytes}
use Rattle.itch_live.specs.Kept.{has_room, kept_bytes}
use Rattle.itch_live.specs.Stories.{Happening, Hears, Answers, Takes, Ticks, Leaves, Story}
use Rattle.itch_live.specs.LiveServers.{LiveServer}

-- the snapshot of a position can be handed to a client: one with its number is kept, or there is room for it
abbrev pub HasRoom : ℕ → LiveServer → Position → Type 0
HasRoom limit d j = (is_some (kept_bytes d.slots j.next) ≡ true) ⊎ (has_room limit d.slots j.market ≡ true)

-- the next state of a waiting client: it continues to wait until it is answered, unless it logs out or breaks the protocol, is silent, or its
-- connection is given up
abbrev pub MayBecome : SnapshotClient → Happening → SnapshotClient → Type 0
MayBecome g (Hears piece now count) h = (is_waiting h ≡ true) ⊎ (h.gone ≡ Some reason.Left) ⊎ (h.gone ≡ Some reason.Fault)
MayBecome g (Answers m next now) h = h ≡ answered g (session_bytes m next) next now
MayBecome g (Takes count now) h = is_waiting h ≡ true
MayBecome g (Ticks now) h = (is_waiting h ≡ true) ⊎ ((is_silent g now ≡ true) × (h.gone ≡ Some reason.Silent))
MayBecome g Leaves h = h.gone ≡ Some reason.Left

-- A client was disconnected for silence: at one of these times it was not waiting, or had not accepted all bytes sent to it, and had made no
-- progress for 15,000 ms.
pub record IsCutOff (config : ServerConfig) (begun : ℕ) (past : List Happening) : Type 0 where
  pub later : List Happening
  pub before : List Happening
  pub now : ℕ
  pub place : past ≡ later ++ Ticks now ∷ before
  pub silent : SnapshotClient
  pub so_far : List ℕ
  pub story : Story config begun before silent so_far
  pub waits_not : is_patient silent ≡ false
  pub long : 15000 ≤ now - silent.moved
