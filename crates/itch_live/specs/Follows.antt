-- The follower of a feed, call by call.
use Rattle.std.specs.Prelude.{◌≡◌, ℕ, ◌^◌, min, ◌⊎◌, List, [], Option, None, Some, Result, Ok, Err}
use Rattle.itch_frame.specs.Blocks.{IsBlock, IsBlockOf}
use Rattle.itch_frame.specs.Cuts.{IsTake}
use Rattle.itch_frame.specs.Writing.{WriteBlock}
use Rattle.itch_frame.specs.declared.tally.Failures.{Failures}
use Rattle.itch_frame.specs.declared.fault.FrameFault.{FrameFault}
use Rattle.itch_market.specs.Wanted.{has}
use Rattle.itch_join.specs.declared.outcome.Live.{Live}
use Rattle.itch_join.specs.declared.outcome.Live.TheVariants as live
use Rattle.itch_join.specs.declared.outcome.Snap.{Snap}
use Rattle.itch_join.specs.declared.outcome.Snap.TheVariants as snap
use Rattle.itch_join.specs.declared.fault.JoinFault.{JoinFault}
use Rattle.itch_join.specs.Positions.{Position}
use Rattle.itch_join.specs.Rules.{rules_of}
use Rattle.itch_join.specs.States.{Joining}
use Rattle.itch_join.specs.Steps.{Call, CallLive, CallSnapshot, Step, restarted}
use Rattle.itch_soup.specs.declared.login.Credentials.{Credentials}
use Rattle.itch_soup.specs.declared.packet.Packet.{Packet}
use Rattle.itch_soup.specs.declared.packet.Packet.TheVariants as is
use Rattle.itch_soup.specs.declared.client.ClientAct.{ClientAct}
use Rattle.itch_soup.specs.declared.client.ClientAct.TheVariants as act
use Rattle.itch_soup.specs.declared.origin.Origin.TheVariants.{Server}
use Rattle.itch_soup.specs.declared.fault.SoupFault.{SoupFault}
use Rattle.itch_soup.specs.Packets.{PacketSpells, packet_fault}
use Rattle.itch_soup.specs.Clients.{Client, new_client, client_answer, client_after_packet, client_after_tick}
use Rattle.itch_live.specs.declared.news.ServerKind.{ServerKind}
use Rattle.itch_live.specs.declared.news.ServerKind.TheVariants as source
use Rattle.itch_live.specs.declared.news.News.{News}
use Rattle.itch_live.specs.declared.news.News.TheVariants as news
use Rattle.itch_live.specs.declared.sessions.Sessions.{Sessions}
use Rattle.itch_live.specs.Sessions.{expected, other_name, known_after}

-- the state of a follower: the sessions known by name, the kind of server that it is connected to, the bytes of an incomplete packet, its
-- session, and its joiner
pub record Following : Type 0 where
  pub sessions : Sessions
  pub source : ServerKind
  pub held : List ℕ
  pub session : Client
  pub joining : Joining

abbrev pub new_following : Credentials → Sessions → Joining → ℕ → Following
new_following credentials known joining now = record { sessions = known; source = source.Live; held = []; session = new_client credentials 0 now; joining = joining }

-- while there is no market, the login asks for a complete snapshot; afterwards it asks for the feed's messages from the next number on
abbrev pub source_for : Option Position → ServerKind
source_for None = source.Glimpse
source_for (Some j) = source.Live

abbrev pub asked_from : Option Position → ℕ
asked_from None = 1
asked_from (Some j) = min j.next (10 ^ 19)

-- the credentials of a login: with the expected session, if there is one
abbrev pub asking : Credentials → Option (List ℕ) → Credentials
asking credentials None = credentials
asking credentials (Some session) = record credentials { session = session }

-- the session named by a packet, if it is a Login Accepted packet
abbrev pub named_in : Packet → Option (List ℕ)
named_in (is.LoginAccepted login) = Some login.session
named_in packet = None

-- the same, if the protocol allowed an acceptance at this point
abbrev pub accepted_as : ClientAct → Option (List ℕ) → Option (List ℕ)
accepted_as (act.Accepted next) named = named
accepted_as other named = None

-- the outcome of a packet; or its connection is closed because it belongs to this other session
abbrev pub news_or : Option (List ℕ) → News → News
news_or None told = told
news_or (Some other) told = news.OtherSession other

-- the session of a connection is closed as if it had ended, if it belongs to another session: nothing later is taken
abbrev pub shut_if : Option (List ℕ) → Client → ℕ → Client
shut_if None s now = s
shut_if (Some other) s now = client_after_packet s is.EndOfSession now

-- a connection begins with this login: the bytes of an incomplete packet and the messages of an incomplete snapshot are dropped
abbrev pub connected : Following → Credentials → ℕ → Following
connected f credentials now = record {
  sessions = f.sessions;
  source = source_for f.joining.state.joined;
  held = [];
  session = new_client (asking credentials (expected f.sessions (source_for f.joining.state.joined))) (asked_from f.joining.state.joined) now;
  joining = record { cap = f.joining.cap; set = f.joining.set; state = restarted f.joining.state.joined f.joining.state };
}

abbrev pub ticked : Following → ℕ → Following
ticked f now = record f { session = client_after_tick f.session now }

-- a joiner makes this call, and keeps its cap and its locates
abbrev pub Calls : Joining → Call → Joining → Type 0
Calls old call new = Step (rules_of (has old.set)) old.cap old.state call new.state × (new.cap ≡ old.cap) × (new.set ≡ old.set)

-- a message of the feed is delivered that the record already contains
abbrev pub Replayed : Following → ℕ → List ℕ → Result Live JoinFault → Following → Type 0
Replayed f number payload result g = Calls f.joining (CallLive number payload result) g.joining × (g ≡ record f { joining = g.joining })

-- a message of the snapshot is delivered
abbrev pub snapshot_news : Result Snap JoinFault → News
snapshot_news (Ok snap.More) = news.Nothing
snapshot_news (Ok (snap.Joined next)) = news.Joined next
snapshot_news (Err fault) = news.Refused fault

abbrev pub TakesSnapshot : Joining → List ℕ → News → Joining → Type 0
TakesSnapshot old payload told new = (result : Result Snap JoinFault) × Calls old (CallSnapshot payload result) new × (told ≡ snapshot_news result)

-- the answer of the session to a payload, and the session that the payload names: those of its packet, or its fault
abbrev pub Means : Client → List ℕ → ℕ → ClientAct → Option (List ℕ) → Client → Type 0
Means s payload now answer named t =
    ((packet : Packet) × PacketSpells packet payload Server × (answer ≡ client_answer s packet) × (named ≡ named_in packet) × (t ≡ client_after_packet s packet now))
    ⊎ ((fault : SoupFault) × (packet_fault payload Server ≡ Some fault) × (answer ≡ act.Fault fault) × (named ≡ None) × (t ≡ s))

module _ {W : Type 0} (contents : W → Option (List ℕ)) (failures : W → Failures) where
  -- a message is recorded if it is applied, and otherwise not
  abbrev pub Records : List ℕ → Result Live JoinFault → W → News → W → Type 0
  Records payload (Ok (live.Applied next)) old told new =
      (WriteBlock contents failures old payload (Ok tt) new × (told ≡ news.Taken next))
      ⊎ ((fault : FrameFault) × WriteBlock contents failures old payload (Err fault) new × (told ≡ news.Unrecorded fault))
  Records payload (Ok live.Kept) old told new = (told ≡ news.Nothing) × (new ≡ old)
  Records payload (Ok live.Old) old told new = (told ≡ news.Nothing) × (new ≡ old)
  Records payload (Err fault) old told new = (told ≡ news.Refused fault) × (new ≡ old)

  -- a message of the feed is delivered
  abbrev pub TakesLive : Joining → ℕ → List ℕ → W → News → W → Joining → Type 0
  TakesLive old number payload record_old told record_new new =
      (result : Result Live JoinFault) × Calls old (CallLive number payload result) new × Records payload result record_old told record_new

  abbrev pub TakesFrom : ServerKind → Joining → ℕ → List ℕ → W → News → W → Joining → Type 0
  TakesFrom source.Glimpse old number payload record_old told record_new new = TakesSnapshot old payload told new × (record_new ≡ record_old)
  TakesFrom source.Live old number payload record_old told record_new new = TakesLive old number payload record_old told record_new new

  -- only messages reach the joiner
  abbrev pub ActsOn : ServerKind → ClientAct → Joining → W → News → W → Joining → Type 0
  ActsOn from (act.Accepted next) old record_old told record_new new = (told ≡ news.Accepted next) × (record_new ≡ record_old) × (new ≡ old)
  ActsOn from (act.Rejected code) old record_old told record_new new = (told ≡ news.Rejected code) × (record_new ≡ record_old) × (new ≡ old)
  ActsOn from (act.Data number payload) old record_old told record_new new = TakesFrom from old number payload record_old told record_new new
  ActsOn from act.Nothing old record_old told record_new new = (told ≡ news.Nothing) × (record_new ≡ record_old) × (new ≡ old)
  ActsOn from act.Ended old record_old told record_new new = (told ≡ news.Ended) × (record_new ≡ record_old) × (new ≡ old)
  ActsOn from (act.Fault fault) old record_old told record_new new = (told ≡ news.Broken fault) × (record_new ≡ record_old) × (new ≡ old)

  -- the meaning of a packet is acted on; if it accepts a login, the session that it names is known from now on
  abbrev pub TakesPacket : ServerKind → Sessions → ClientAct → Option (List ℕ) → Joining → W → News × Sessions → W → Joining → Type 0
  TakesPacket from known answer accepted old record_old result record_new new =
      ActsOn from answer old record_old result.0 record_new new × (result.1 ≡ known_after known from accepted)

  -- nothing more is taken from the connection: its session is closed, as if it had ended
  abbrev pub Shuts : Sessions → List ℕ → Client → Joining → ℕ → W → News × Sessions → W → Client → Joining → Type 0
  Shuts known other s old now record_old result record_new t new =
      (result ≡ (news.OtherSession other, known)) × (t ≡ client_after_packet s is.EndOfSession now) × (record_new ≡ record_old) × (new ≡ old)

  -- the meaning of a payload is acted on, unless it accepts a login under the name of a session other than the expected one
  abbrev pub HearsPacket : ServerKind → Sessions → Client → Joining → List ℕ → ℕ → W → News × Sessions → W → Client → Joining → Type 0
  HearsPacket from known s old payload now record_old result record_new t new =
      (answer : ClientAct) × (named : Option (List ℕ)) × (heard : Client) × Means s payload now answer named heard
      × (((other : List ℕ) × (other_name (expected known from) (accepted_as answer named) ≡ Some other) × Shuts known other heard old now record_old result record_new t new)
      ⊎ ((other_name (expected known from) (accepted_as answer named) ≡ None) × (t ≡ heard) × TakesPacket from known answer (accepted_as answer named) old record_old result record_new new))

  -- the held and consumed bytes are a complete packet, which is handled, or less than one
  abbrev pub HearsHeld : Following → List ℕ → ℕ → W → News → W → Following → Type 0
  HearsHeld f held now record_old told record_new g =
      ((payload : List ℕ) × IsBlockOf payload held × HearsPacket f.source f.sessions f.session f.joining payload now record_old (told, g.sessions) record_new g.session g.joining
      × (g.source ≡ f.source) × (g.held ≡ []))
      ⊎ ((IsBlock held → ⊥) × (told ≡ news.Nothing) × (record_new ≡ record_old) × (g ≡ record f { held = held }))

  -- some bytes of a piece of the feed are consumed
  abbrev pub HearsFeed : Following → List ℕ → ℕ → W → ℕ × News → W → Following → Type 0
  HearsFeed f piece now record_old result record_new g = (held : List ℕ) × IsTake f.held piece result.0 held × HearsHeld f held now record_old result.1 record_new g
