-- Any bytes that answer a login end a fetch.
use Rattle.std.proofs.Common.{◌≡◌, ℕ, zero, suc, ◌+◌, ◌<◌, ◌⊎◌, ◌==◌, Bool, true, false, List, [], ◌∷◌, ◌++◌, length, drop, Option, Some, None, Result, Ok, Err, refl, sym, ap, subst, ◌∙◌, inl, inr, arith, length-append}
use Rattle.std.proofs.lemmas.Bool.{eqb-true, eqb-false}
use Rattle.std.specs.Prelude.{if◌then◌else◌}
use Rattle.std.specs.Option.{option_map}
use Rattle.itch_codec.specs.declared.fault.CodecFault.{CodecFault}
use Rattle.itch_codec.specs.Fields.{AreBytes}
use Rattle.itch_codec.specs.Messages.{fault, message_of}
use Rattle.itch_codec.proofs.Spelling.{Spells-message_of, IsMessage-Spells}
use Rattle.itch_frame.specs.Blocks.{IsPayload, block, HasNoBlock}
use Rattle.itch_frame.specs.declared.fault.FrameFault.TheVariants.{Truncated}
use Rattle.itch_book.specs.Orders as book
use Rattle.itch_book.proofs.Lists.{All-left_rec, All-right_rec}
use Rattle.itch_market.specs.declared.refusal.Refusal.{Refusal}
use Rattle.itch_market.specs.declared.stop.Stop.TheVariants as stop
use Rattle.itch_market.specs.Content.{Content, laid}
use Rattle.itch_market.specs.Effects.{effect, takes_memory}
use Rattle.itch_market.proofs.RuleReasons.{Reasoned, reason_decided}
use Rattle.itch_market.specs.Reasons.{reason}
use Rattle.itch_market.specs.Replays.{IsRefusal}
use Rattle.itch_market.specs.Stops.{cause_by, cause}
use Rattle.itch_market.proofs.GoodMarkets.{empty_good}
use Rattle.itch_snapshot.specs.declared.fault.SnapFault.{SnapFault}
use Rattle.itch_snapshot.specs.declared.fault.SnapFault.TheVariants as snap
use Rattle.itch_snapshot.specs.declared.reader.SnapshotStage.TheVariants as at
use Rattle.itch_snapshot.specs.TakenMessages.{Load, Loads, TakesAt, begun, closing_number, is_full, stage_after, Finishes}
use Rattle.itch_snapshot.specs.Reads.{IsDecidedFault}
use Rattle.itch_frame.proofs.Fronts.{Front, front}
use Rattle.itch_soup.specs.declared.client.ClientAct.{ClientAct}
use Rattle.itch_soup.specs.declared.client.ClientAct.TheVariants as act
use Rattle.itch_soup.specs.declared.connection.SessionStage.{SessionStage}
use Rattle.itch_soup.specs.declared.connection.SessionStage.TheVariants as stage
use Rattle.itch_soup.specs.declared.fault.SoupFault.{SoupFault}
use Rattle.itch_soup.specs.declared.fault.SoupFault.TheVariants as broke
use Rattle.itch_soup.specs.declared.origin.Origin.TheVariants.{Server}
use Rattle.itch_soup.specs.declared.packet.Packet.{Packet}
use Rattle.itch_soup.specs.declared.packet.Packet.TheVariants as is
use Rattle.itch_soup.specs.Packets.{PacketSpells, packet_fault}
use Rattle.itch_soup.specs.Clients.{Client, client_turn, client_answer, client_after_packet}
use Rattle.itch_soup.specs.NextPackets.{is_enough, PacketHere}
use Rattle.itch_soup.specs.Fetching.{TakesPacket, TakesAnswer, IsRefused, Receives, IsDecidedFetch}
use Rattle.itch_soup.proofs.FaultlessBlocks.{faultless-spelled}
use Rattle.itch_soup.proofs.FetchSteps.{Hearing, hearing_first, hearing_on, hearing_closed, hearing_ends}
use Rattle.itch_soup.proofs.SessionSteps.{Shows, turn_shows}
use Rattle.itch_soup.proofs.BlockFaults.{OfBlock, of_block, of_each}

-- a session's own faults depend only on the received bytes
abbrev DecidedTurn : ClientAct → Type 0
DecidedTurn (act.Fault f) = IsDecidedFetch (Err f)
DecidedTurn answer = Unit {0}

data_decided : (b : Bool) (next : ℕ) (payload : List ℕ)
    → DecidedTurn ((λ (turn : ClientAct × SessionStage × ℕ). turn.0) (if b then (act.Data next payload, stage.Accepted, next + 1) else (act.Fault broke.TooManyMessages, stage.Closed, next)))
data_decided true next payload = tt
data_decided false next payload = tt

turn_decided : (at : SessionStage) (next : ℕ) (packet : Packet) → DecidedTurn (client_turn next at packet).0
turn_decided stage.Before next (is.Debug text) = tt
turn_decided stage.Accepted next (is.SequencedData payload) = data_decided _ next payload
turn_decided at next packet = tt

-- the next packet is taken, and fewer bytes are left; or the snapshot is closed; or the fetch ends
abbrev Outcome : Bool → Client → Load → List ℕ → Type 0
Outcome enough c load rest =
    ((more : List ℕ) × (later : Client) × (after : Load) × TakesPacket enough c load (Some rest) (Some more) (Ok false) later after × (length more < length rest) × AreBytes more)
    ⊎ (((new : Option (List ℕ)) × (later : Client) × (after : Load) × (done : Content × ℕ) × TakesPacket enough c load (Some rest) new (Ok true) later after × Finishes after (Ok done))
    ⊎ ((new : Option (List ℕ)) × (later : Client) × (after : Load) × (f : SoupFault) × TakesPacket enough c load (Some rest) new (Err f) later after × IsDecidedFetch (Err f)))

at_end : (enough : Bool) (c : Client) (load : Load) (rest : List ℕ) → HasNoBlock rest → Outcome enough c load rest
at_end enough c load [] none = inr (inr (Some [], c, load, broke.EndedEarly, inr (inl refl), tt))
at_end enough c load (x ∷ xs) none = inr (inr (Some (x ∷ xs), c, load, broke.Frame (Truncated (length (x ∷ xs))), inr ((omega arith, none), refl), tt))

drop_one : (q : List ℕ) → AreBytes q → AreBytes (drop 1 q)
drop_one [] h = tt
drop_one (x ∷ q) h = h.1

module _ (c : Client) (load : Load) (taking : load.stage ≡ at.Taking) (q more : List ℕ) (fits : IsPayload q) (bytes : AreBytes (block q ++ more)) where
  abbrev Here : Type 0
  Here = Outcome false c load (block q ++ more)

  inside : AreBytes q
  inside = All-left_rec (λ byte. byte < 256) q more bytes.1.1

  following : AreBytes more
  following = All-right_rec (λ byte. byte < 256) q more bytes.1.1

  less : length more < length (block q ++ more)
  less = omega (arith, length-append q more)

  faulty : (f : SoupFault) → packet_fault q Server ≡ Some f → OfBlock (Some f) → Here
  faulty f e h =
      of_each (λ f. packet_fault q Server ≡ Some f → Here)
      (λ e. inr (inr (Some more, c, load, broke.EmptyPacket, inr (refl, (q, fits, refl, e)), tt)))
      (λ kind e. inr (inr (Some more, c, load, broke.UnknownType kind, inr (refl, (q, fits, refl, e)), tt)))
      (λ kind e. inr (inr (Some more, c, load, broke.WrongSide kind, inr (refl, (q, fits, refl, e)), tt)))
      (λ kind want got e. inr (inr (Some more, c, load, broke.WrongLength kind want got, inr (refl, (q, fits, refl, e)), tt)))
      (λ offset e. inr (inr (Some more, c, load, broke.BadText offset, inr (refl, (q, fits, refl, e)), tt)))
      (λ offset e. inr (inr (Some more, c, load, broke.BadNumber offset, inr (refl, (q, fits, refl, e)), tt)))
      f h e

  module _ (packet : Packet) (spelled : PacketSpells packet q Server) where
    abbrev later : Client
    later = client_after_packet c packet 0

    read : PacketHere Server false (Some (block q ++ more)) (Some more) (Ok (Some packet))
    read = (refl, (q, fits, refl, spelled))

    goes : (after : Load) (answer : ClientAct) → client_answer c packet ≡ answer → TakesAnswer answer load false after → Here
    goes after answer is takes =
        inl (more, later, after, (packet, read, refl, subst (λ a. TakesAnswer a load false after) (sym is) takes), less, following)

    loads : (p : List ℕ) (answer : Result (Option ℕ) SnapFault) (after : Load) → TakesAt at.Taking load p answer after → Loads load p answer after
    loads p answer after takes = subst (λ s. TakesAt s load p answer after) (sym taking) takes

    refused : (n : ℕ) (p : List ℕ) → client_answer c packet ≡ act.Data n p → (f : SnapFault) (after : Load) → TakesAt at.Taking load p (Err f) after → IsDecidedFault f → Here
    refused n p is f after takes decided =
        inr (inr (
          Some more,
          later,
          after,
          broke.Snapshot f,
          inr (packet, read, subst (λ a. IsRefused load a after (Err (broke.Snapshot f))) (sym is) (loads p (Err f) after takes)),
          decided,
        ))

    stopped : SnapFault → Load
    stopped f = record { taken = load.taken; market = load.market; stage = stage_after (Err f) }

    by_reason : (n : ℕ) (p : List ℕ) → client_answer c packet ≡ act.Data n p → AreBytes p → closing_number p ≡ None → is_full load.taken ≡ false → fault p ≡ None
        → (o : Option Refusal) → reason load.market (message_of p) ≡ o → Here
    unfolding stopped
    by_reason n p is held none room clean (Some why) e =
        refused n p is (snap.Rule (load.taken + 1) why) (stopped (snap.Rule (load.taken + 1) why))
        ((room, refl, none, (refl, (clean, subst (λ o. IsRefusal o (takes_memory load.market (message_of p)) why) (sym e) refl))), refl, refl)
        (subst Reasoned e (reason_decided load.market (message_of p)))
    by_reason n p is held none room clean None e =
        let after : Load = record { taken = load.taken + 1; market = laid (effect load.market (message_of p)); stage = at.Taking } in
        let took : cause load.market p ≡ None = ap (λ o. cause_by o load.market p) clean ∙ ap (option_map stop.Rule) e in
        goes after (act.Data n p) is
        (None, loads p (Ok None) after ((room, (took, IsMessage-Spells (message_of p) p held (Spells-message_of p clean), refl)), refl, refl), refl)

    by_fault : (n : ℕ) (p : List ℕ) → client_answer c packet ≡ act.Data n p → AreBytes p → closing_number p ≡ None → is_full load.taken ≡ false → (o : Option CodecFault) → fault p ≡ o → Here
    unfolding stopped
    by_fault n p is held none room (Some f) e =
        refused n p is (snap.Codec (load.taken + 1) f) (stopped (snap.Codec (load.taken + 1) f)) ((room, refl, (refl, e)), refl, refl) tt
    by_fault n p is held none room None e = by_reason n p is held none room e (reason load.market (message_of p)) refl

    by_room : (n : ℕ) (p : List ℕ) → client_answer c packet ≡ act.Data n p → AreBytes p → closing_number p ≡ None → (b : Bool) → is_full load.taken ≡ b → Here
    unfolding stopped
    by_room n p is held none true e = refused n p is snap.TooManyMessages (stopped snap.TooManyMessages) ((e, none, refl), refl, refl) tt
    by_room n p is held none false e = by_fault n p is held none e (fault p) refl

    by_number : (n : ℕ) (p : List ℕ) → client_answer c packet ≡ act.Data n p → AreBytes p → (o : Option ℕ) → closing_number p ≡ o → Here
    by_number n p is held (Some next) e =
        let after : Load = record { taken = load.taken; market = load.market; stage = at.Closed next } in
        inr (inl (
          Some more,
          later,
          after,
          (load.market, next),
          (packet, read, refl, subst (λ a. TakesAnswer a load true after) (sym is) (Some next, loads p (Ok (Some next)) after ((refl, e), refl, refl), refl)),
          (refl, refl),
        ))
    by_number n p is held None e = by_room n p is held e (is_full load.taken) refl

    by_start : (next : ℕ) → client_answer c packet ≡ act.Accepted next → (b : Bool) → (next == 1) ≡ b → Here
    by_start next is true e = goes load (act.Accepted next) is (eqb-true next 1 e, refl, refl)
    by_start next is false e = inr (inr (Some more, later, load, broke.WrongStart next 1, inr ((packet, read, (is, eqb-false next 1 e)), refl), tt))

    held : (n : ℕ) (p : List ℕ) → client_answer c packet ≡ act.Data n p → AreBytes p
    held n p same =
        let seen = subst (λ a. Shows packet c.connection.stage c.next a later.connection.stage later.next) same (turn_shows c.connection.stage c.next packet) in
        let spells : PacketSpells (is.SequencedData p) q Server = subst (λ x. PacketSpells x q Server) seen.4 spelled in
        subst AreBytes (sym spells.parts.0) (drop_one q inside)

    by_answer : (answer : ClientAct) → client_answer c packet ≡ answer → Here
    by_answer act.Nothing is = goes load act.Nothing is (refl, refl)
    by_answer (act.Accepted next) is = by_start next is (next == 1) refl
    by_answer (act.Data n p) is = by_number n p is (held n p is) (closing_number p) refl
    by_answer (act.Rejected code) is = inr (inr (Some more, later, load, broke.Rejected code, inr (packet, read, is), tt))
    by_answer act.Ended is = inr (inr (Some more, later, load, broke.EndedEarly, inr (inr (packet, read, is)), tt))
    by_answer (act.Fault f) is =
        inr (inr (Some more, later, load, f, inl (packet, read, is), subst DecidedTurn is (turn_decided c.connection.stage c.next packet)))

  by_packet : (o : Option SoupFault) → packet_fault q Server ≡ o → Here
  by_packet (Some f) e = faulty f e (subst OfBlock e (of_block q Server))
  by_packet None e = let (packet, spelled) = faultless-spelled q Server e in by_answer packet spelled (client_answer c packet) refl

  here : (enough : Bool) → Outcome enough c load (block q ++ more)
  here true = inr (inr (Some more, c, load, broke.TooManyMessages, inr (refl, (q, fits, refl, tt)), tt))
  here false = by_packet (packet_fault q Server) refl

outcome : (enough : Bool) (c : Client) (load : Load) (rest : List ℕ) → load.stage ≡ at.Taking → AreBytes rest → Outcome enough c load rest
outcome enough c load rest taking bytes = by_front (front rest) where
  by_front : Front rest → Outcome enough c load rest
  by_front (inr (q, more, fits, is)) = subst (Outcome enough c load) (sym is) (here c load taking q more fits (subst AreBytes is bytes) enough)
  by_front (inl none) = at_end enough c load rest none

abbrev Answered : Client → List ℕ → Type 0
Answered start bytes = (left : Option (List ℕ)) × (r : Result (Content × ℕ) SoupFault) × Receives start (Some bytes) left r × IsDecidedFetch r

answered : (fuel : ℕ) (start : Client) (bytes rest : List ℕ) (count : ℕ) (c : Client) (load : Load) → AreBytes rest → length rest < fuel → Hearing start (Some bytes) (Some rest) count c load → Answered start bytes
answered zero start bytes rest count c load held short so_far = absurd (omega arith)
answered (suc fuel) start bytes rest count c load held short so_far = by_outcome (outcome (is_enough count) c load rest so_far.taking held) (answered fuel start bytes) where
  by_outcome : Outcome (is_enough count) c load rest
      → ((rest : List ℕ) (count : ℕ) (c : Client) (load : Load) → AreBytes rest → length rest < fuel → Hearing start (Some bytes) (Some rest) count c load → Answered start bytes) → Answered start bytes
  by_outcome (inl (more, later, after, step, less, following)) on =
      on more (count + 1) later after following (omega (arith, short, less)) (hearing_on start (Some bytes) (Some rest) (Some more) count c later load after so_far step)
  by_outcome (inr (inl (new, later, after, done, step, finishes))) on =
      (new, Ok done, hearing_closed start (Some bytes) (Some rest) new count c later load after so_far step done finishes, tt)
  by_outcome (inr (inr (new, later, after, f, step, decided))) on =
      (new, Err f, hearing_ends start (Some bytes) (Some rest) new count c later load after f so_far step, decided)

-- any bytes end a fetch, without a failed read and with enough memory
pub some_fetch : (start : Client) (bytes : List ℕ) → start.connection.stage ≡ stage.Before → AreBytes bytes → Answered start bytes
unfolding book.lay
some_fetch start bytes before are =
    answered (suc (length bytes)) start bytes bytes 0 start begun are (omega arith) (hearing_first start (Some bytes) begun before refl empty_good refl)
