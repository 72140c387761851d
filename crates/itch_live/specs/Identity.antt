-- The session of the messages that a follower takes.
use Rattle.std.specs.Prelude.{◌≡◌, ℕ, List, [], ◌∷◌, ◌++◌, Option, Some}
use Rattle.std.specs.List.{AllByRecursion}
use Rattle.itch_frame.specs.Blocks.{IsBlockOf}
use Rattle.itch_frame.specs.Cuts.{IsTake}
use Rattle.itch_frame.specs.declared.tally.Failures.{Failures}
use Rattle.itch_soup.specs.declared.packet.LoginAccepted.{LoginAccepted}
use Rattle.itch_soup.specs.declared.packet.Packet.TheVariants as is
use Rattle.itch_soup.specs.declared.origin.Origin.TheVariants.{Server}
use Rattle.itch_soup.specs.Names.{session_name}
use Rattle.itch_soup.specs.Packets.{PacketSpells}
use Rattle.itch_live.specs.declared.news.News.{News}
use Rattle.itch_live.specs.Sessions.{expected}
use Rattle.itch_live.specs.Follows.{Following}
use Rattle.itch_live.specs.Feeds.{Did, Connects, Hears, Does}

-- the call does not begin a connection
abbrev pub StaysConnected : {W : Type 0} → Did W → Type 0
StaysConnected (Connects credentials now) = ⊥
StaysConnected other = Unit {0}

module _ {W : Type 0} (contents : W → Option (List ℕ)) (failures : W → Failures) where
  -- these calls lead from one state to the other; the latest comes first
  abbrev pub Led : Following → List (Did W) → Following → Type 0
  Led begun [] f = f ≡ begun
  Led begun (did ∷ past) f = (e : Following) × Does contents failures e did f × Led begun past e

  -- the login of the latest connection was accepted under this name
  pub record IsAcceptedIn (begun : Following) (past : List (Did W)) (name : List ℕ) : Type 0 where
    pub later : List (Did W)
    pub before : List (Did W)
    pub piece : List ℕ
    pub now : ℕ
    pub result : ℕ × News
    pub old : W
    pub new : W
    pub place : past ≡ later ++ Hears piece now result old new ∷ before
    pub still : AllByRecursion StaysConnected later
    pub hearing : Following
    pub led : Led begun before hearing
    pub held : List ℕ
    pub takes : IsTake hearing.held piece result.0 held
    pub payload : List ℕ
    pub block : IsBlockOf payload held
    pub login : LoginAccepted
    pub spelled : PacketSpells (is.LoginAccepted login) payload Server
    pub named : login.session ≡ name

  -- the same, and this is the name of the session that is expected of its server
  pub record IsInSession (begun : Following) (past : List (Did W)) (f : Following) : Type 0 where
    pub name : List ℕ
    pub accepted : IsAcceptedIn begun past name
    pub session : List ℕ
    pub wanted : expected f.sessions f.source ≡ Some session
    pub same : session_name session ≡ session_name name
