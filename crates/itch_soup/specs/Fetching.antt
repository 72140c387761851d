-- Fetching a snapshot in one session: the packets that a client receives after its login, and the result.
use Rattle.std.specs.Prelude.{OnOk, ◌≡◌, ◌≢◌, ℕ, ◌+◌, ◌-◌, ◌^◌, ◌≤◌, ◌⊎◌, Bool, false, List, [], ◌∷◌, ◌++◌, map, length, ⊤, Option, None, Some, Result, Ok, Err}
use Rattle.std.specs.List.{AllByRecursion}
use Rattle.std.specs.Option.{is_some}
use Rattle.std.specs.Io.KnownBytes.{Consumes}
use Rattle.itch_codec.specs.declared.message.Message.{Message}
use Rattle.itch_codec.specs.declared.message.Message.TheVariants as message
use Rattle.itch_codec.specs.Messages.{Spells, message_of}
use Rattle.itch_codec.specs.Widths.{IsMessage}
use Rattle.itch_frame.specs.Blocks.{IsPayload, blocks}
use Rattle.itch_frame.specs.Reading.{Reading, bytes_left}
use Rattle.itch_frame.specs.Writing.{WriteBlock}
use Rattle.itch_frame.specs.declared.tally.Failures.{Failures}
use Rattle.itch_frame.specs.declared.fault.FrameFault.{FrameFault}
use Rattle.itch_market.specs.Content.{Content, empty, laid}
use Rattle.itch_market.specs.Runs.{after, run, Follows}
use Rattle.itch_market.specs.Replays.{NoCause, Fits, IsDecided}
use Rattle.itch_market.specs.declared.stop.Stop.TheVariants as stop
use Rattle.itch_snapshot.specs.declared.fault.SnapFault.{SnapFault}
use Rattle.itch_snapshot.specs.declared.reader.SnapshotStage.TheVariants.{Taking}
use Rattle.itch_snapshot.specs.Files.{AreSpelled}
use Rattle.itch_snapshot.specs.TakenMessages.{Load, Loads}
use Rattle.itch_snapshot.specs.Reads.{IsDecidedFault}
use Rattle.itch_soup.specs.declared.login.Credentials.{Credentials}
use Rattle.itch_soup.specs.declared.client.ClientAct.{ClientAct}
use Rattle.itch_soup.specs.declared.client.ClientAct.TheVariants as act
use Rattle.itch_soup.specs.declared.fault.SoupFault.{SoupFault}
use Rattle.itch_soup.specs.declared.fault.SoupFault.TheVariants.{Frame, Rejected, WrongStart, EndedEarly, Snapshot}
use Rattle.itch_soup.specs.declared.origin.Origin.TheVariants.{Server}
use Rattle.itch_soup.specs.declared.packet.Packet.{Packet}
use Rattle.itch_soup.specs.declared.packet.Packet.TheVariants as is
use Rattle.itch_soup.specs.Packets.{PacketSpells, packet_spelling}
use Rattle.itch_soup.specs.Clients.{Client, new_client, login_of, client_answer, client_after_packet}
use Rattle.itch_soup.specs.NextPackets.{is_enough, PacketHere}
use Rattle.itch_soup.specs.Serving.{CountsWait}

-- a client that requests the messages from this number on
abbrev pub asking_from : ℕ → Credentials → Client
asking_from n credentials = new_client credentials n 0

-- a client that requests all messages
abbrev pub asking : Credentials → Client
asking credentials = asking_from 1 credentials

-- the bytes of the login of a client
abbrev pub login_bytes_of : Client → List ℕ
login_bytes_of c = packet_spelling (is.LoginRequest (login_of c))

-- the bytes of the login of a client that requests all messages
abbrev pub login_bytes : Credentials → List ℕ
login_bytes credentials = login_bytes_of (asking credentials)

-- each block, from the server, encodes the packet at its position
abbrev pub ArePackets : List Packet → List (List ℕ) → Type 0
ArePackets [] [] = Unit {0}
ArePackets (packet ∷ packets) (payload ∷ payloads) = (IsPayload payload × PacketSpells packet payload Server) × ArePackets packets payloads
ArePackets packets payloads = ⊥

-- an answer in front of others, unless it means nothing
abbrev pub noted : ClientAct → List ClientAct → List ClientAct
noted act.Nothing later = later
noted answer later = answer ∷ later

-- the answers of a session to packets, in order, without those that mean nothing
abbrev pub news : Client → List Packet → List ClientAct
news c [] = []
news c (packet ∷ packets) = noted (client_answer c packet) (news (client_after_packet c packet 0) packets)

-- the session after the packets
abbrev pub after_packets : Client → List Packet → Client
after_packets c [] = c
after_packets c (packet ∷ packets) = after_packets (client_after_packet c packet 0) packets

-- messages with consecutive numbers from n on
abbrev pub numbered : ℕ → List (List ℕ) → List ClientAct
numbered n [] = []
numbered n (payload ∷ payloads) = act.Data n payload ∷ numbered (n + 1) payloads

-- nothing yet; or the login is accepted from this number, followed by these messages
abbrev pub HearsFrom : ℕ → List ClientAct → List (List ℕ) → Type 0
HearsFrom n [] payloads = payloads ≡ []
HearsFrom n answers payloads = answers ≡ act.Accepted n ∷ numbered n payloads

-- the same from number 1
abbrev pub Hears : List ClientAct → List (List ℕ) → Type 0
Hears answers payloads = HearsFrom 1 answers payloads

-- packets came off the front, and their meaning is an acceptance from this number and these messages
pub record HeardFrom (n : ℕ) (c : Client) (old new : Option (List ℕ)) (payloads : List (List ℕ)) : Type 0 where
  pub packets : List Packet
  pub read : List (List ℕ)
  pub bytes : Consumes old new (blocks read)
  pub spelled : ArePackets packets read
  pub few : length packets ≤ 10 ^ 19
  pub heard : HearsFrom n (news c packets) payloads

-- the same from number 1
abbrev pub Heard : Client → Option (List ℕ) → Option (List ℕ) → List (List ℕ) → Type 0
Heard c old new payloads = HeardFrom 1 c old new payloads

-- the payloads encode these messages, which follow the order rules (so that none is End of Snapshot), and then an End of Snapshot with this
-- number
pub record SpellsSnapshot (payloads : List (List ℕ)) (ms : List Message) (next : ℕ) : Type 0 where
  pub before : List (List ℕ)
  pub last : List ℕ
  pub whole : payloads ≡ before ++ last ∷ []
  pub spelled : AreSpelled ms before
  pub follows : Follows ms
  pub few : length ms ≤ 10 ^ 19 - 1
  pub closes : Spells (message.End next) last

-- the last packet read is the one with this message, so nothing after it was read
abbrev pub IsLast : List Packet → List ℕ → Type 0
IsLast packets payload = (before : List Packet) × (packets ≡ before ++ is.SequencedData payload ∷ [])

-- the received messages are those of a snapshot and its End of Snapshot, and nothing after them was read
abbrev pub Fetched : Client → Option (List ℕ) → Option (List ℕ) → Content × ℕ → Type 0
Fetched c old new done =
    (payloads : List (List ℕ)) × (heard : Heard c old new payloads)
    × ((ms : List Message) × (snapshot : SpellsSnapshot payloads ms done.1) × AllByRecursion IsMessage ms × (done.0 ≡ laid (run ms))
    × IsLast heard.packets snapshot.last)

-- a packet came off the front, and this holds for the session's answer to it
abbrev pub AnswersPacket : Bool → Client → Option (List ℕ) → Option (List ℕ) → (ClientAct → Type 0) → Type 0
AnswersPacket enough c old new P =
    (packet : Packet) × PacketHere Server enough old new (Ok (Some packet)) × P (client_answer c packet)

-- a message that the snapshot's reader refuses
abbrev pub IsRefused : Load → ClientAct → Load → Result (Option ℕ) SoupFault → Type 0
IsRefused old (act.Data number payload) new (Err (Snapshot fault)) = Loads old payload (Err fault) new
IsRefused old answer new result = ⊥

-- the reason why no more messages from a number on are received, if the session finds no fault: the next bytes, where `Refuses` states which
-- messages are refused
abbrev pub EndsFrom : ℕ → (ClientAct → SnapFault → Type 0) → Bool → Client → Option (List ℕ) → Option (List ℕ) → SoupFault → Type 0
EndsFrom n Refuses enough c old new EndedEarly = PacketHere Server enough old new (Ok None) ⊎ AnswersPacket enough c old new (λ answer. answer ≡ act.Ended)
EndsFrom n Refuses enough c old new (Rejected code) = AnswersPacket enough c old new (λ answer. answer ≡ act.Rejected code)
EndsFrom n Refuses enough c old new (WrongStart next asked) = AnswersPacket enough c old new (λ answer. (answer ≡ act.Accepted next) × (next ≢ n)) × (asked ≡ n)
EndsFrom n Refuses enough c old new (Snapshot fault) = AnswersPacket enough c old new (λ answer. Refuses answer fault)
EndsFrom n Refuses enough c old new fault = PacketHere Server enough old new (Err fault)

-- the reason why a fetch ends without a snapshot, if the session finds no fault: the next bytes, and how they are taken
abbrev pub EndsOtherwise : Bool → Client → Load → Option (List ℕ) → Option (List ℕ) → SoupFault → Load → Type 0
EndsOtherwise enough c load old new fault after = EndsFrom 1 (λ answer why. IsRefused load answer after (Err (Snapshot why))) enough c old new fault

-- the reason why a fetch ends without a snapshot
abbrev pub EndsFetch : Bool → Client → Load → Option (List ℕ) → Option (List ℕ) → SoupFault → Load → Type 0
EndsFetch enough c load old new fault after =
    AnswersPacket enough c old new (λ answer. answer ≡ act.Fault fault) ⊎ EndsOtherwise enough c load old new fault after

-- the effect of an answer on the snapshot's reader, and whether the snapshot is closed then
abbrev pub TakesAnswer : ClientAct → Load → Bool → Load → Type 0
TakesAnswer act.Nothing old closed new = (closed ≡ false) × (new ≡ old)
TakesAnswer (act.Accepted next) old closed new = (next ≡ 1) × (closed ≡ false) × (new ≡ old)
TakesAnswer (act.Data number payload) old closed new = (taken : Option ℕ) × Loads old payload (Ok taken) new × (closed ≡ is_some taken)
TakesAnswer answer old closed new = ⊥

-- the next packet: the session and the snapshot's reader take it, or the fetch ends
abbrev pub TakesPacket : Bool → Client → Load → Option (List ℕ) → Option (List ℕ) → Result Bool SoupFault → Client → Load → Type 0
TakesPacket enough c load old new (Ok closed) c_after load_after =
    (packet : Packet) × PacketHere Server enough old new (Ok (Some packet)) × (c_after ≡ client_after_packet c packet 0)
    × TakesAnswer (client_answer c packet) load closed load_after
TakesPacket enough c load old new (Err fault) c_after load_after = EndsFetch enough c load old new fault load_after

-- a snapshot's reader that has taken these messages
abbrev pub load_of : List (List ℕ) → Load
load_of payloads = record { taken = length payloads; market = laid (run (map message_of payloads)); stage = Taking }

-- the result of reading after the login: a snapshot; or messages that follow the order rules, and then the end of the fetch
abbrev pub Receives : Client → Option (List ℕ) → Option (List ℕ) → Result (Content × ℕ) SoupFault → Type 0
Receives c old new (Ok done) = Fetched c old new done
Receives c old new (Err fault) =
    (payloads : List (List ℕ)) × (mid : Option (List ℕ)) × (heard : Heard c old mid payloads) × NoCause empty payloads × AllByRecursion Fits payloads
    × ((load : Load) × EndsFetch (is_enough (length heard.packets)) (after_packets c heard.packets) (load_of payloads) mid new fault load)

-- the result of reading after a login was written, as `Reads` states; or the login was not written, and nothing is read
abbrev pub ReadsAfterLogin : {R T : Type 0} → (R → Option (List ℕ)) → (R → Failures) → (Option (List ℕ) → Option (List ℕ) → Result T SoupFault → Type 0) → Result (Unit {0}) FrameFault → Reading R → Result T SoupFault → Reading R → Type 0
ReadsAfterLogin remaining reads Reads (Ok done) reader result reader_after =
    Reads (bytes_left remaining reader) (bytes_left remaining reader_after) result × CountsWait result (reads reader.reader) (reads reader_after.reader)
    × OnOk result (reader_after.held ≡ [])
ReadsAfterLogin remaining reads Reads (Err fault) reader result reader_after = (result ≡ Err (Frame fault)) × (reader_after ≡ reader)

-- the result of a fetch after the login was written, or was not
abbrev pub FetchesAfterLogin : {R : Type 0} → (R → Option (List ℕ)) → (R → Failures) → Credentials → Result (Unit {0}) FrameFault → Reading R → Result (Content × ℕ) SoupFault → Reading R → Type 0
FetchesAfterLogin remaining reads credentials sent reader result reader_after =
    ReadsAfterLogin remaining reads (Receives (asking credentials)) sent reader result reader_after

-- the result of a fetch: the login is written, and then its answer is read
abbrev pub Fetches : {R W : Type 0} → (R → Option (List ℕ)) → (R → Failures) → (W → Option (List ℕ)) → (W → Failures) → Credentials → Reading R → W → Result (Content × ℕ) SoupFault → Reading R → W → Type 0
Fetches remaining reads contents writes credentials reader writer result reader_after writer_after =
    (sent : Result (Unit {0}) FrameFault) × WriteBlock contents writes writer (login_bytes credentials) sent writer_after
    × FetchesAfterLogin remaining reads credentials sent reader result reader_after

-- the result depends only on the bytes: no read and no write failed, and memory did not run out
abbrev pub IsDecidedFetch : Result (Content × ℕ) SoupFault → Type 0
IsDecidedFetch (Err (Frame fault)) = IsDecided (stop.Frame fault)
IsDecidedFetch (Err (Snapshot fault)) = IsDecidedFault fault
IsDecidedFetch result = ⊤
