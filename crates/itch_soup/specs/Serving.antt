-- Serving a snapshot in one session: the packets that a server reads up to a login, and its answer.
use Rattle.std.specs.Prelude.{◌≡◌, OnOk, [], ℕ, ◌^◌, ◌≤◌, ◌⊎◌, Bool, false, List, length, ⊤, Option, Some, None, Result, Ok, Err}
use Rattle.std.specs.List.{AllByRecursion}
use Rattle.std.specs.Io.KnownBytes.{Consumes}
use Rattle.itch_frame.specs.Blocks.{IsPayload, blocks}
use Rattle.itch_frame.specs.Counting.{failed}
use Rattle.itch_frame.specs.declared.tally.Failures.{Failures}
use Rattle.itch_frame.specs.Reading.{Reading, bytes_left}
use Rattle.itch_frame.specs.declared.fault.FrameFault.TheVariants.{Read}
use Rattle.itch_market.specs.Content.{Content}
use Rattle.itch_soup.specs.declared.login.ServerConfig.{ServerConfig}
use Rattle.itch_soup.specs.declared.fault.SoupFault.{SoupFault}
use Rattle.itch_soup.specs.declared.fault.SoupFault.TheVariants.{Frame}
use Rattle.itch_soup.specs.declared.origin.Origin.TheVariants.{Client}
use Rattle.itch_soup.specs.declared.packet.LoginRequest.{LoginRequest}
use Rattle.itch_soup.specs.declared.packet.Packet.{Packet}
use Rattle.itch_soup.specs.declared.packet.Packet.TheVariants as is
use Rattle.itch_soup.specs.declared.serve.Opening.{Opening}
use Rattle.itch_soup.specs.declared.serve.Opening.TheVariants.{Login, Leave}
use Rattle.itch_soup.specs.declared.serve.Served.{Served}
use Rattle.itch_soup.specs.declared.serve.Served.TheVariants.{Accepted, Rejected, Left}
use Rattle.itch_soup.specs.declared.server.ServerAct.TheVariants as act
use Rattle.itch_soup.specs.Packets.{PacketSpells}
use Rattle.itch_soup.specs.NextPackets.{is_enough, ReadsBlock, PacketHere}
use Rattle.itch_soup.specs.Sending.{messages_from, verdict, served_packets, SendsPackets}

-- a packet of a client that a server ignores before a login
abbrev pub IsIdle : Packet → Type 0
IsIdle (is.Debug text) = Unit {0}
IsIdle (is.UnsequencedData payload) = Unit {0}
IsIdle is.ClientHeartbeat = Unit {0}
IsIdle packet = ⊥

-- a block that encodes such a packet
abbrev pub IsPassedOver : List ℕ → Type 0
IsPassedOver payload = IsPayload payload × ((packet : Packet) × PacketSpells packet payload Client × IsIdle packet)

-- the end of a wait for a login: a login, a client that leaves, or a fault
abbrev pub Wait : Type 0
Wait = Result Opening SoupFault

-- the next bytes end the wait
abbrev pub EndsWait : Bool → Option (List ℕ) → Option (List ℕ) → Wait → Type 0
EndsWait enough old new (Ok (Login login)) = PacketHere Client enough old new (Ok (Some (is.LoginRequest login)))
EndsWait enough old new (Ok Leave) = PacketHere Client enough old new (Ok None) ⊎ PacketHere Client enough old new (Ok (Some is.LogoutRequest))
EndsWait enough old new (Err fault) = PacketHere Client enough old new (Err fault)

-- the next block is ignored, or ends the wait
abbrev pub WaitsOn : Bool → Option (List ℕ) → Option (List ℕ) → Result (Option Opening) SoupFault → Type 0
WaitsOn enough old new (Ok None) = (enough ≡ false) × ReadsBlock old new IsPassedOver
WaitsOn enough old new (Ok (Some opening)) = EndsWait enough old new (Ok opening)
WaitsOn enough old new (Err fault) = EndsWait enough old new (Err fault)

-- some packets are ignored, and the next bytes end the wait
abbrev pub WaitsForLogin : Option (List ℕ) → Option (List ℕ) → Wait → Type 0
WaitsForLogin old new wait =
    (passed : List (List ℕ)) × (mid : Option (List ℕ)) × AllByRecursion IsPassedOver passed × Consumes old mid (blocks passed)
    × (length passed ≤ 10 ^ 19) × EndsWait (is_enough (length passed)) mid new wait

-- a failed read is counted with its error, and no other fault is counted
abbrev pub CountsFault : SoupFault → Failures → Failures → Type 0
CountsFault (Frame (Read error)) old new = new ≡ failed error old
CountsFault fault old new = new ≡ old

abbrev pub CountsWait : {T : Type 0} → Result T SoupFault → Failures → Failures → Type 0
CountsWait (Ok answer) old new = new ≡ old
CountsWait (Err fault) old new = CountsFault fault old new

module _ {W : Type 0} (contents : W → Option (List ℕ)) (failures : W → Failures) where
  -- the answer to a login, and the bytes written
  abbrev pub AnswersLogin : Content → ℕ → ServerConfig → LoginRequest → W → Result Served SoupFault → W → Type 0
  AnswersLogin m next config login old (Ok (Accepted from packets)) new =
      (verdict m next config login ≡ act.Accept from) × (packets ≡ length (messages_from from m next))
      × SendsPackets contents failures {T = Unit {0}} old (served_packets m next config login) (Ok tt) new
  AnswersLogin m next config login old (Ok (Rejected code)) new =
      (verdict m next config login ≡ act.Reject code) × SendsPackets contents failures {T = Unit {0}} old (served_packets m next config login) (Ok tt) new
  AnswersLogin m next config login old (Err (Frame fault)) new =
      SendsPackets contents failures {T = Unit {0}} old (served_packets m next config login) (Err fault) new
  AnswersLogin m next config login old result new = ⊥

  -- the action after the wait
  abbrev pub Replies : Content → ℕ → ServerConfig → Wait → W → Result Served SoupFault → W → Type 0
  Replies m next config (Ok (Login login)) old result new = AnswersLogin m next config login old result new
  Replies m next config (Ok Leave) old result new = (result ≡ Ok Left) × (new ≡ old)
  Replies m next config (Err fault) old result new = (result ≡ Err fault) × (new ≡ old)

-- the result of serving one connection: packets are read up to a login, logout, end of input or fault, which is answered
abbrev pub Serves : {R W : Type 0} → (R → Option (List ℕ)) → (R → Failures) → (W → Option (List ℕ)) → (W → Failures) → Content → ℕ → ServerConfig
    → Reading R → W → Result Served SoupFault → Reading R → W → Type 0
Serves remaining reads contents writes m next config reader writer result reader_after writer_after =
    (wait : Wait) × WaitsForLogin (bytes_left remaining reader) (bytes_left remaining reader_after) wait
    × CountsWait wait (reads reader.reader) (reads reader_after.reader) × OnOk wait (reader_after.held ≡ []) × Replies contents writes m next config wait writer result writer_after

-- the end of the wait depends only on the bytes: no read failed
abbrev pub IsDecidedWait : Wait → Type 0
IsDecidedWait (Err (Frame (Read error))) = ⊥
IsDecidedWait wait = ⊤
