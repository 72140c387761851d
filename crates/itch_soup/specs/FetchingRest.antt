-- Fetching the rest of a snapshot in one session: its messages from a number on, as received.
use Rattle.std.specs.Prelude.{◌≡◌, ℕ, ◌⊎◌, Bool, false, List, ◌∷◌, [], ◌++◌, length, Option, None, Some, Result, Ok, Err}
use Rattle.std.specs.List.{AllByRecursion}
use Rattle.std.specs.Option.{is_some}
use Rattle.itch_codec.specs.declared.message.Message.{Message}
use Rattle.itch_codec.specs.declared.message.Message.TheVariants as message
use Rattle.itch_codec.specs.Messages.{Spells, fault}
use Rattle.itch_frame.specs.Blocks.{block, blocks}
use Rattle.itch_frame.specs.Reading.{Reading}
use Rattle.itch_frame.specs.Writing.{WriteBlock}
use Rattle.itch_frame.specs.declared.tally.Failures.{Failures}
use Rattle.itch_frame.specs.declared.fault.FrameFault.{FrameFault}
use Rattle.itch_market.specs.declared.refusal.Refusal.TheVariants.{OutOfMemory}
use Rattle.itch_snapshot.specs.declared.fault.SnapFault.{SnapFault}
use Rattle.itch_snapshot.specs.declared.fault.SnapFault.TheVariants.{Codec, Rule}
use Rattle.itch_snapshot.specs.TakenMessages.{number_in}
use Rattle.itch_soup.specs.declared.login.Credentials.{Credentials}
use Rattle.itch_soup.specs.declared.client.ClientAct.{ClientAct}
use Rattle.itch_soup.specs.declared.client.ClientAct.TheVariants as act
use Rattle.itch_soup.specs.declared.fault.SoupFault.{SoupFault}
use Rattle.itch_soup.specs.declared.origin.Origin.TheVariants.{Server}
use Rattle.itch_soup.specs.declared.packet.Packet.{Packet}
use Rattle.itch_soup.specs.Clients.{Client, client_answer, client_after_packet}
use Rattle.itch_soup.specs.NextPackets.{is_enough, PacketHere}
use Rattle.itch_soup.specs.Fetching.{asking_from, login_bytes_of, after_packets, HeardFrom, IsLast, AnswersPacket, EndsFrom, ReadsAfterLogin}

-- the payload encodes a message other than End of Snapshot
abbrev pub SpellsOther : List ℕ → Type 0
SpellsOther payload = (x : Message) × Spells x payload × (number_in x ≡ None)

-- the payloads encode messages, of which only the last is an End of Snapshot
pub record SpellsRest (payloads : List (List ℕ)) : Type 0 where
  pub before : List (List ℕ)
  pub last : List ℕ
  pub next : ℕ
  pub whole : payloads ≡ before ++ last ∷ []
  pub others : AllByRecursion SpellsOther before
  pub closes : Spells (message.End next) last

-- the received messages are those from this number on up to the End of Snapshot, these are the bytes of their blocks, and nothing after them
-- was read
abbrev pub FetchedRest : ℕ → Client → Option (List ℕ) → Option (List ℕ) → List ℕ → Type 0
FetchedRest n c old new bytes =
    (payloads : List (List ℕ)) × (heard : HeardFrom n c old new payloads)
    × ((rest : SpellsRest payloads) × (bytes ≡ blocks payloads) × IsLast heard.packets rest.last)

-- a message is not kept: its payload is not a valid message, or memory ran out for it; its place is its number
abbrev pub IsNotKept : ClientAct → SnapFault → Type 0
IsNotKept (act.Data number payload) (Codec place why) = (place ≡ number) × (fault payload ≡ Some why)
IsNotKept (act.Data number payload) (Rule place OutOfMemory) = (place ≡ number) × (fault payload ≡ None)
IsNotKept answer why = ⊥

-- the effect of keeping the message with this number on the bytes so far, and whether it is End of Snapshot
abbrev pub KeepsMessage : ℕ → List ℕ → List ℕ → Result Bool SnapFault → List ℕ → Type 0
KeepsMessage number payload old (Ok closed) new = ((x : Message) × Spells x payload × (closed ≡ is_some (number_in x))) × (new ≡ old ++ block payload)
KeepsMessage number payload old (Err why) new = IsNotKept (act.Data number payload) why

-- the reason why the fetch of a rest ends without it
abbrev pub EndsRest : ℕ → Bool → Client → Option (List ℕ) → Option (List ℕ) → SoupFault → Type 0
EndsRest n enough c old new why = AnswersPacket enough c old new (λ answer. answer ≡ act.Fault why) ⊎ EndsFrom n IsNotKept enough c old new why

-- the effect of an answer on the bytes so far, and whether they are closed then
abbrev pub KeepsAnswer : ℕ → ClientAct → List ℕ → Bool → List ℕ → Type 0
KeepsAnswer n act.Nothing old closed new = (closed ≡ false) × (new ≡ old)
KeepsAnswer n (act.Accepted next) old closed new = (next ≡ n) × (closed ≡ false) × (new ≡ old)
KeepsAnswer n (act.Data number payload) old closed new = KeepsMessage number payload old (Ok closed) new
KeepsAnswer n answer old closed new = ⊥

-- the next packet: the session takes it, and its message is kept; or the fetch ends
abbrev pub KeepsPacket : ℕ → Bool → Client → List ℕ → Option (List ℕ) → Option (List ℕ) → Result Bool SoupFault → Client → List ℕ → Type 0
KeepsPacket n enough c bytes old new (Ok closed) c_after bytes_after =
    (packet : Packet) × PacketHere Server enough old new (Ok (Some packet)) × (c_after ≡ client_after_packet c packet 0)
    × KeepsAnswer n (client_answer c packet) bytes closed bytes_after
KeepsPacket n enough c bytes old new (Err why) c_after bytes_after = EndsRest n enough c old new why

-- the result of reading after the login: the rest of a snapshot; or messages before its End of Snapshot, and then the end of the fetch
abbrev pub ReceivesRest : ℕ → Client → Option (List ℕ) → Option (List ℕ) → Result (List ℕ) SoupFault → Type 0
ReceivesRest n c old new (Ok bytes) = FetchedRest n c old new bytes
ReceivesRest n c old new (Err why) =
    (payloads : List (List ℕ)) × (mid : Option (List ℕ)) × (heard : HeardFrom n c old mid payloads) × AllByRecursion SpellsOther payloads
    × EndsRest n (is_enough (length heard.packets)) (after_packets c heard.packets) mid new why

-- the result of fetching a rest: the login is written, and then its answer is read
abbrev pub FetchesRest : {R W : Type 0} → (R → Option (List ℕ)) → (R → Failures) → (W → Option (List ℕ)) → (W → Failures) → Credentials → ℕ → Reading R → W → Result (List ℕ) SoupFault → Reading R → W → Type 0
FetchesRest remaining reads contents writes credentials n reader writer result reader_after writer_after =
    (sent : Result (Unit {0}) FrameFault) × WriteBlock contents writes writer (login_bytes_of (asking_from n credentials)) sent writer_after
    × ReadsAfterLogin remaining reads (ReceivesRest n (asking_from n credentials)) sent reader result reader_after
