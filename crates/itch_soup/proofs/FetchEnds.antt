-- The next bytes end a fetch in only one way.
use Rattle.std.proofs.Common.{◌≡◌, ℕ, ◌+◌, ◌==◌, Bool, true, false, List, ◌++◌, map, length, Option, Some, None, Result, Ok, Err, refl, sym, ap, subst, ◌∙◌, inl, inr, arith}
use Rattle.std.proofs.lemmas.Bool.Decides.{nat_tests}
use Rattle.itch_codec.specs.Numbers.{byte_at}
use Rattle.itch_codec.specs.Messages.{message_of}
use Rattle.itch_frame.specs.Blocks.{IsPayload, block, HasNoBlock}
use Rattle.itch_frame.specs.declared.fault.FrameFault.TheVariants.{Read, Truncated, Write, TooLong}
use Rattle.itch_market.specs.declared.stop.Stop.{Stop}
use Rattle.itch_market.specs.declared.stop.Stop.TheVariants as stop
use Rattle.itch_market.specs.Content.{Content, laid}
use Rattle.itch_market.specs.Runs.{run}
use Rattle.itch_market.specs.Stops.{cause_by, cause}
use Rattle.itch_market.proofs.ReplayedFiles.{refused}
use Rattle.itch_snapshot.specs.declared.fault.SnapFault.{SnapFault}
use Rattle.itch_snapshot.specs.declared.fault.SnapFault.TheVariants as snap
use Rattle.itch_snapshot.specs.TakenMessages.{Load, Loads, number_by, closing_number, is_full}
use Rattle.itch_snapshot.specs.Reads.{IsDecidedFault}
use Rattle.itch_frame.proofs.Fronts.{Front, front}
use Rattle.itch_soup.specs.declared.client.ClientAct.{ClientAct}
use Rattle.itch_soup.specs.declared.client.ClientAct.TheVariants as act
use Rattle.itch_soup.specs.declared.fault.SoupFault.{SoupFault}
use Rattle.itch_soup.specs.declared.fault.SoupFault.TheVariants as broke
use Rattle.itch_soup.specs.declared.origin.Origin.TheVariants.{Server}
use Rattle.itch_soup.specs.declared.packet.Packet.{Packet}
use Rattle.itch_soup.specs.Packets.{PacketSpells, packet_fault}
use Rattle.itch_soup.specs.Clients.{Client, client_answer}
use Rattle.itch_soup.specs.NextPackets.{ReadsBlock}
use Rattle.itch_soup.specs.Fetching.{AnswersPacket, IsRefused, EndsFetch, EndsOtherwise, load_of, IsDecidedFetch}
use Rattle.itch_soup.proofs.OnePacket.{packet_at, packet_at-spelled, spelled-none}
use Rattle.itch_soup.proofs.FrontBlocks.{the_block, some_block, no_bytes, ends_by, cut_off}

abbrev pub Answer : Type 0
Answer = Result (Content × ℕ) SoupFault

abbrev pub so_far : List (List ℕ) → Content
so_far ps = run (map message_of ps)

-- the end of a fetch at the next block, if there is one: a function of that block and of the messages taken so far
abbrev pub by_cause : ℕ → Option Stop → Option Answer
by_cause taken None = None
by_cause taken (Some (stop.Codec f)) = Some (Err (broke.Snapshot (snap.Codec (taken + 1) f)))
by_cause taken (Some (stop.Rule why)) = Some (Err (broke.Snapshot (snap.Rule (taken + 1) why)))
by_cause taken (Some other) = None

abbrev by_room : Bool → List (List ℕ) → List ℕ → Option Answer
by_room true ps p = Some (Err (broke.Snapshot snap.TooManyMessages))
by_room false ps p = by_cause (length ps) (cause (laid (so_far ps)) p)

abbrev by_number : Option ℕ → List (List ℕ) → List ℕ → Option Answer
by_number (Some next) ps p = Some (Ok (laid (so_far ps), next))
by_number None ps p = by_room (is_full (length ps)) ps p

abbrev pub by_start : Bool → ℕ → Option Answer
by_start true next = None
by_start false next = Some (Err (broke.WrongStart next 1))

abbrev pub by_answer : ClientAct → List (List ℕ) → Option Answer
by_answer act.Nothing ps = None
by_answer (act.Accepted next) ps = by_start (next == 1) next
by_answer (act.Data n p) ps = by_number (closing_number p) ps p
by_answer (act.Rejected code) ps = Some (Err (broke.Rejected code))
by_answer act.Ended ps = Some (Err broke.EndedEarly)
by_answer (act.Fault f) ps = Some (Err f)

abbrev by_fault : Option SoupFault → Client → List (List ℕ) → List ℕ → Option Answer
by_fault (Some f) c ps q = Some (Err f)
by_fault None c ps q = by_answer (client_answer c (packet_at (byte_at 0 q) q)) ps

abbrev pub at_block : Bool → Client → List (List ℕ) → List ℕ → Option Answer
at_block true c ps q = Some (Err broke.TooManyMessages)
at_block false c ps q = by_fault (packet_fault q Server) c ps q

abbrev at_end : List ℕ → Answer
at_end rest = ends_by (Err broke.EndedEarly) rest

-- the next packet is answered
pub answered : (enough : Bool) (c : Client) (ps : List (List ℕ)) (q : List ℕ) (packet : Packet) → enough ≡ false → PacketSpells packet q Server
    → at_block enough c ps q ≡ by_answer (client_answer c packet) ps
answered enough c ps q packet room spelled =
    ap (λ b. at_block b c ps q) room ∙ ap (λ f. by_fault f c ps q) (spelled-none packet q Server spelled)
    ∙ ap (λ x. by_answer (client_answer c x) ps) (sym (packet_at-spelled packet q Server spelled))

heard_there : (enough : Bool) (c : Client) (ps : List (List ℕ)) (q rest : List ℕ) (new : Option (List ℕ)) (P : ClientAct → Type 0) → IsPayload q → AnswersPacket enough c (Some (block q ++ rest)) new P
    → (answer : ClientAct) × (at_block enough c ps q ≡ by_answer answer ps) × P answer
heard_there enough c ps q rest new P fits (packet, (room, read), holds) =
    (client_answer c packet, answered enough c ps q packet room (the_block q rest new (λ payload. PacketSpells packet payload Server) fits read), holds)

-- the same for a known answer
said_there : (enough : Bool) (c : Client) (ps : List (List ℕ)) (q rest : List ℕ) (new : Option (List ℕ)) (wanted : ClientAct) → IsPayload q → AnswersPacket enough c (Some (block q ++ rest)) new (λ answer. answer ≡ wanted)
    → at_block enough c ps q ≡ by_answer wanted ps
said_there enough c ps q rest new wanted fits heard = let (answer, there, same) = heard_there enough c ps q rest new (λ answer. answer ≡ wanted) fits heard in there ∙ ap (λ a. by_answer a ps) same

pub open_there : (ps : List (List ℕ)) (p : List ℕ) (full : Bool) → closing_number p ≡ None → is_full (length ps) ≡ full → by_number (closing_number p) ps p ≡ by_room full ps p
open_there ps p full none room = ap (λ o. by_number o ps p) none ∙ ap (λ b. by_room b ps p) room

refusal_there : (f : SnapFault) (ps : List (List ℕ)) (n : ℕ) (p : List ℕ) (load : Load) → Loads (load_of ps) p (Err f) load → IsDecidedFault f → by_answer (act.Data n p) ps ≡ Some (Err (broke.Snapshot f))
refusal_there (snap.Codec place f) ps n p load ((room, place_is, (same, is)), count, stays) decided =
    open_there ps p false (ap (λ o. number_by o p) is) room ∙ ap (λ o. by_cause (length ps) (cause_by o (laid (so_far ps)) p)) is
    ∙ ap (λ k. Some (Err (broke.Snapshot (snap.Codec k f)))) (sym place_is)
refusal_there (snap.Rule place why) ps n p load ((room, place_is, none, (same, refuses)), count, stays) decided =
    open_there ps p false none room ∙ ap (by_cause (length ps)) (refused (laid (so_far ps)) p why decided refuses)
    ∙ ap (λ k. Some (Err (broke.Snapshot (snap.Rule k why)))) (sym place_is)
refusal_there snap.TooManyMessages ps n p load ((full, none, same), count, stays) decided = open_there ps p true none full
refusal_there snap.NoEnd ps n p load (h, count, stays) decided = absurd h
refusal_there (snap.Frame f) ps n p load (h, count, stays) decided = absurd h
refusal_there snap.AfterEnd ps n p load (h, count, stays) decided = absurd h

refused_there : (f : SnapFault) (ps : List (List ℕ)) (answer : ClientAct) (load : Load) → IsRefused (load_of ps) answer load (Err (broke.Snapshot f)) → IsDecidedFault f
    → by_answer answer ps ≡ Some (Err (broke.Snapshot f))
refused_there f ps (act.Data n p) load h decided = refusal_there f ps n p load h decided
refused_there f ps answer load h decided = absurd h

started_there : (next : ℕ) → ((next ≡ 1) → ⊥) → by_start (next == 1) next ≡ Some (Err (broke.WrongStart next 1))
started_there next wrong = let no : (next == 1) ≡ false = grind (arith, nat_tests) in ap (λ b. by_start b next) no

-- a fault of the next block
faulty_there : (enough : Bool) (c : Client) (ps : List (List ℕ)) (q rest : List ℕ) (new : Option (List ℕ)) (f : SoupFault) → IsPayload q
    → (enough ≡ false) × ReadsBlock (Some (block q ++ rest)) new (λ payload. packet_fault payload Server ≡ Some f) → at_block enough c ps q ≡ Some (Err f)
faulty_there enough c ps q rest new f fits (room, read) =
    ap (λ b. at_block b c ps q) room ∙ ap (λ o. by_fault o c ps q) (the_block q rest new (λ payload. packet_fault payload Server ≡ Some f) fits read)

-- the next block determines the end
otherwise_there : (f : SoupFault) (enough : Bool) (c : Client) (ps : List (List ℕ)) (q rest : List ℕ) (new : Option (List ℕ)) (load : Load) → IsPayload q
    → EndsOtherwise enough c (load_of ps) (Some (block q ++ rest)) new f load → IsDecidedFetch (Err f) → at_block enough c ps q ≡ Some (Err f)
otherwise_there (broke.Frame (Truncated held)) enough c ps q rest new load fits (part, count) decided = absurd (part.1 q rest fits refl)
otherwise_there (broke.Frame (Read error)) enough c ps q rest new load fits h decided = absurd decided
otherwise_there (broke.Frame (Write sent error)) enough c ps q rest new load fits h decided = absurd h
otherwise_there (broke.Frame TooLong) enough c ps q rest new load fits h decided = absurd h
otherwise_there broke.EndedEarly enough c ps q rest new load fits (inl none) decided = absurd (no_bytes q rest none)
otherwise_there broke.EndedEarly enough c ps q rest new load fits (inr heard) decided = said_there enough c ps q rest new act.Ended fits heard
otherwise_there (broke.Rejected code) enough c ps q rest new load fits heard decided = said_there enough c ps q rest new (act.Rejected code) fits heard
otherwise_there (broke.WrongStart next asked) enough c ps q rest new load fits (heard, one) decided =
    let (answer, there, (same, wrong)) = heard_there enough c ps q rest new (λ answer. (answer ≡ act.Accepted next) × (next ≡ 1 → ⊥)) fits heard in
    there ∙ ap (λ a. by_answer a ps) same ∙ started_there next wrong ∙ ap (λ k. Some (Err (broke.WrongStart next k))) (sym one)
otherwise_there (broke.Snapshot f) enough c ps q rest new load fits heard decided =
    let (answer, there, refusal) = heard_there enough c ps q rest new (λ answer. IsRefused (load_of ps) answer load (Err (broke.Snapshot f))) fits heard in
    there ∙ refused_there f ps answer load refusal decided
otherwise_there broke.TooManyMessages enough c ps q rest new load fits (full, read) decided = ap (λ b. at_block b c ps q) full
otherwise_there f enough c ps q rest new load fits h decided = faulty_there enough c ps q rest new f fits h

-- without a block, the end of the input determines it, or the unfinished block
otherwise_at_end : (f : SoupFault) (enough : Bool) (c : Client) (ps : List (List ℕ)) (b : List ℕ) (new : Option (List ℕ)) (load : Load) → HasNoBlock b
    → EndsOtherwise enough c (load_of ps) (Some b) new f load → IsDecidedFetch (Err f) → Err f ≡ at_end b
otherwise_at_end (broke.Frame (Truncated held)) enough c ps b new load none (part, count) decided = cut_off (Err broke.EndedEarly) b held part.0 count
otherwise_at_end (broke.Frame (Read error)) enough c ps b new load none h decided = absurd decided
otherwise_at_end (broke.Frame (Write sent error)) enough c ps b new load none h decided = absurd h
otherwise_at_end (broke.Frame TooLong) enough c ps b new load none h decided = absurd h
otherwise_at_end broke.EndedEarly enough c ps b new load none (inl ended) decided = sym (ap at_end ended)
otherwise_at_end broke.EndedEarly enough c ps b new load none (inr (packet, (room, read), said)) decided = absurd (some_block b new _ none read)
otherwise_at_end (broke.Rejected code) enough c ps b new load none (packet, (room, read), said) decided = absurd (some_block b new _ none read)
otherwise_at_end (broke.WrongStart next asked) enough c ps b new load none ((packet, (room, read), said), one) decided = absurd (some_block b new _ none read)
otherwise_at_end (broke.Snapshot f) enough c ps b new load none (packet, (room, read), said) decided = absurd (some_block b new _ none read)
otherwise_at_end f enough c ps b new load none h decided = absurd (some_block b new _ none h.1)

-- an answer that closes the snapshot
abbrev pub Closes : ClientAct → List (List ℕ) → Content × ℕ → Type 0
Closes (act.Data n p) ps done = (closing_number p ≡ Some done.1) × (done.0 ≡ laid (so_far ps))
Closes answer ps done = ⊥

closed_there : (answer : ClientAct) (ps : List (List ℕ)) (done : Content × ℕ) → Closes answer ps done → by_answer answer ps ≡ Some (Ok done)
closed_there (act.Data n p) ps done (number, market) = ap (λ o. by_number o ps p) number ∙ ap (λ m. Some (Ok (m, done.1))) (sym market)
closed_there answer ps done h = absurd h

-- the next bytes end the fetch
abbrev pub EndsHere : Bool → Client → List (List ℕ) → List ℕ → Answer → Type 0
EndsHere enough c ps b (Ok done) = (new : Option (List ℕ)) × AnswersPacket enough c (Some b) new (λ answer. Closes answer ps done)
EndsHere enough c ps b (Err f) = (new : Option (List ℕ)) × (load : Load) × EndsFetch enough c (load_of ps) (Some b) new f load

pub ends_there : (r : Answer) (enough : Bool) (c : Client) (ps : List (List ℕ)) (q rest : List ℕ) → IsPayload q → EndsHere enough c ps (block q ++ rest) r → IsDecidedFetch r → at_block enough c ps q ≡ Some r
ends_there (Ok done) enough c ps q rest fits (new, heard) decided =
    let (answer, there, closes) = heard_there enough c ps q rest new (λ answer. Closes answer ps done) fits heard in there ∙ closed_there answer ps done closes
ends_there (Err f) enough c ps q rest fits (new, load, inl heard) decided = said_there enough c ps q rest new (act.Fault f) fits heard
ends_there (Err f) enough c ps q rest fits (new, load, inr ends) decided = otherwise_there f enough c ps q rest new load fits ends decided

ends_at_end : (r : Answer) (enough : Bool) (c : Client) (ps : List (List ℕ)) (b : List ℕ) → HasNoBlock b → EndsHere enough c ps b r → IsDecidedFetch r → r ≡ at_end b
ends_at_end (Ok done) enough c ps b none (new, (packet, (room, read), closes)) decided = absurd (some_block b new _ none read)
ends_at_end (Err f) enough c ps b none (new, load, inl (packet, (room, read), said)) decided = absurd (some_block b new _ none read)
ends_at_end (Err f) enough c ps b none (new, load, inr ends) decided = otherwise_at_end f enough c ps b new load none ends decided

pub same_end : (enough : Bool) (c : Client) (ps : List (List ℕ)) (b : List ℕ) (r s : Answer) → EndsHere enough c ps b r → EndsHere enough c ps b s → IsDecidedFetch r → IsDecidedFetch s → r ≡ s
same_end enough c ps b r s h k decided certain = by_front (front b) where
  by_front : Front b → r ≡ s
  by_front (inr (q, rest, fits, is)) =
      let left : at_block enough c ps q ≡ Some r = ends_there r enough c ps q rest fits (subst (λ b. EndsHere enough c ps b r) is h) decided in
      let right : at_block enough c ps q ≡ Some s = ends_there s enough c ps q rest fits (subst (λ b. EndsHere enough c ps b s) is k) certain in
      let both : Some r ≡ Some s = sym left ∙ right in cc
  by_front (inl none) = ends_at_end r enough c ps b none h decided ∙ sym (ends_at_end s enough c ps b none k certain)
