-- The bytes of a client end a wait for a login in only one way.
use Rattle.std.proofs.Common.{◌≡◌, ℕ, suc, ◌+◌, ◌^◌, ◌≤◌, Bool, true, false, List, [], ◌∷◌, ◌++◌, length, Option, Some, None, Ok, Err, refl, sym, ap, subst, ◌∙◌, inl, inr, append_assoc, arith}
use Rattle.std.proofs.lemmas.Bool.Decides.{nat_tests}
use Rattle.std.specs.List.{AllByRecursion}
use Rattle.itch_codec.specs.Numbers.{byte_at}
use Rattle.itch_frame.specs.Blocks.{IsPayload, block, blocks, HasNoBlock}
use Rattle.itch_frame.specs.declared.fault.FrameFault.TheVariants.{Read, Truncated, Write, TooLong}
use Rattle.itch_frame.proofs.BlockLemmas.{same_block}
use Rattle.itch_frame.proofs.Fronts.{Front, front}
use Rattle.itch_soup.specs.declared.serve.Opening.TheVariants.{Login, Leave}
use Rattle.itch_soup.specs.declared.fault.SoupFault.{SoupFault}
use Rattle.itch_soup.specs.declared.fault.SoupFault.TheVariants as broke
use Rattle.itch_soup.specs.declared.origin.Origin.TheVariants.{Client}
use Rattle.itch_soup.specs.declared.packet.Packet.{Packet}
use Rattle.itch_soup.specs.declared.packet.Packet.TheVariants as is
use Rattle.itch_soup.specs.Packets.{PacketSpells, packet_fault}
use Rattle.itch_soup.specs.NextPackets.{is_enough, ReadsBlock}
use Rattle.itch_soup.specs.Serving.{IsPassedOver, IsIdle, EndsWait, Wait, WaitsForLogin, IsDecidedWait}
use Rattle.itch_soup.proofs.OnePacket.{packet_at, packet_at-spelled, spelled-none}
use Rattle.itch_soup.proofs.FrontBlocks.{the_block, some_block, no_bytes, ends_by, cut_off}

-- the end of the wait at a client's packet; an ignored packet does not end it
abbrev wait_by : Packet → Wait
wait_by (is.LoginRequest login) = Ok (Login login)
wait_by is.LogoutRequest = Ok Leave
wait_by packet = Err broke.Closed

abbrev wait_of_fault : Option SoupFault → List ℕ → Wait
wait_of_fault (Some f) payload = Err f
wait_of_fault None payload = wait_by (packet_at (byte_at 0 payload) payload)

abbrev wait_of : Bool → List ℕ → Wait
wait_of true payload = Err broke.TooManyMessages
wait_of false payload = wait_of_fault (packet_fault payload Client) payload

abbrev wait_at_end : List ℕ → Wait
wait_at_end rest = ends_by (Ok Leave) rest

spelled_wait : (packet : Packet) (q : List ℕ) → PacketSpells packet q Client → wait_of false q ≡ wait_by packet
spelled_wait packet q h =
    ap (λ f. wait_of_fault f q) (spelled-none packet q Client h) ∙ ap wait_by (sym (packet_at-spelled packet q Client h))

faulty_wait : (f : SoupFault) (q : List ℕ) → packet_fault q Client ≡ Some f → wait_of false q ≡ Err f
faulty_wait f q h = ap (λ found. wait_of_fault found q) h

-- a packet with a fault, if one more packet may be read
faulty : (enough : Bool) (q rest : List ℕ) (new : Option (List ℕ)) (f : SoupFault) → IsPayload q → (enough ≡ false) × ReadsBlock (Some (block q ++ rest)) new (λ payload. packet_fault payload Client ≡ Some f)
    → Err f ≡ wait_of enough q
faulty enough q rest new f fits (room, read) =
    sym (ap (λ b. wait_of b q) room ∙ faulty_wait f q (the_block q rest new (λ payload. packet_fault payload Client ≡ Some f) fits read))

-- the next block determines the end
block_wait : (enough : Bool) (q rest : List ℕ) (new : Option (List ℕ)) (wait : Wait) → IsPayload q → EndsWait enough (Some (block q ++ rest)) new wait → IsDecidedWait wait → wait ≡ wait_of enough q
block_wait enough q rest new (Ok (Login login)) fits (room, read) decided =
    sym (ap (λ b. wait_of b q) room ∙ spelled_wait (is.LoginRequest login) q (the_block q rest new (λ payload. PacketSpells (is.LoginRequest login) payload Client) fits read))
block_wait enough q rest new (Ok Leave) fits (inl at_end) decided = absurd (no_bytes q rest at_end)
block_wait enough q rest new (Ok Leave) fits (inr (room, read)) decided =
    sym (ap (λ b. wait_of b q) room ∙ spelled_wait is.LogoutRequest q (the_block q rest new (λ payload. PacketSpells is.LogoutRequest payload Client) fits read))
block_wait enough q rest new (Err (broke.Frame (Truncated held))) fits (part, count) decided = absurd (part.1 q rest fits refl)
block_wait enough q rest new (Err (broke.Frame (Read error))) fits h decided = absurd decided
block_wait enough q rest new (Err (broke.Frame (Write sent error))) fits h decided = absurd h
block_wait enough q rest new (Err (broke.Frame TooLong)) fits h decided = absurd h
block_wait enough q rest new (Err broke.TooManyMessages) fits (full, read) decided = sym (ap (λ b. wait_of b q) full)
block_wait enough q rest new (Err f) fits h decided = faulty enough q rest new f fits h

-- without a block, the end of the input determines it, or the unfinished block
end_wait : (enough : Bool) (b : List ℕ) (new : Option (List ℕ)) (wait : Wait) → HasNoBlock b → EndsWait enough (Some b) new wait → IsDecidedWait wait → wait ≡ wait_at_end b
end_wait enough b new (Ok (Login login)) none (room, read) decided = absurd (some_block b new _ none read)
end_wait enough b new (Ok Leave) none (inl at_end) decided = sym (ap wait_at_end at_end)
end_wait enough b new (Ok Leave) none (inr (room, read)) decided = absurd (some_block b new _ none read)
end_wait enough b new (Err (broke.Frame (Truncated held))) none (part, count) decided = cut_off (Ok Leave) b held part.0 count
end_wait enough b new (Err (broke.Frame (Read error))) none h decided = absurd decided
end_wait enough b new (Err (broke.Frame (Write sent error))) none h decided = absurd h
end_wait enough b new (Err (broke.Frame TooLong)) none h decided = absurd h
end_wait enough b new (Err broke.TooManyMessages) none (full, read) decided = absurd (some_block b new _ none read)
end_wait enough b new (Err f) none (room, read) decided = absurd (some_block b new _ none read)

same_end : (enough : Bool) (b : List ℕ) (new other : Option (List ℕ)) (w v : Wait) → EndsWait enough (Some b) new w → EndsWait enough (Some b) other v → IsDecidedWait w → IsDecidedWait v → w ≡ v
same_end enough b new other w v h k decided certain = by_front (front b) where
  by_front : Front b → w ≡ v
  by_front (inr (q, rest, fits, is)) =
      block_wait enough q rest new w fits (subst (λ c. EndsWait enough (Some c) new w) is h) decided
      ∙ sym (block_wait enough q rest other v fits (subst (λ c. EndsWait enough (Some c) other v) is k) certain)
  by_front (inl none) = end_wait enough b new w none h decided ∙ sym (end_wait enough b other v none k certain)

idle_wait : (packet : Packet) → IsIdle packet → wait_by packet ≡ Err broke.Closed
idle_wait (is.Debug payload) idle = refl
idle_wait (is.UnsequencedData payload) idle = refl
idle_wait is.ClientHeartbeat idle = refl
idle_wait packet idle = absurd idle

-- an ignored packet does not end the wait
passed_no_end : (enough : Bool) (q rest : List ℕ) (new : Option (List ℕ)) (wait : Wait) → enough ≡ false → IsPassedOver q → EndsWait enough (Some (block q ++ rest)) new wait → IsDecidedWait wait → ⊥
passed_no_end enough q rest new wait room (fits, (packet, spelled, idle)) ends decided =
    let is : wait ≡ Err broke.Closed = block_wait enough q rest new wait fits ends decided ∙ ap (λ b. wait_of b q) room ∙ spelled_wait packet q spelled ∙ idle_wait packet idle in
    let closed = subst (λ w. EndsWait enough (Some (block q ++ rest)) new w) is ends in
    let found = the_block q rest new (λ payload. packet_fault payload Client ≡ Some broke.Closed) fits closed.1 in
    let clash : None ≡ Some broke.Closed = sym (spelled-none packet q Client spelled) ∙ found in
    let no_one : ⊥ = cc in no_one

not_enough : (k n : ℕ) → k + suc n ≤ 10 ^ 19 → is_enough (k + 0) ≡ false
not_enough k n few = grind (arith, nat_tests)

one_on : (k : ℕ) (ps qs : List (List ℕ)) (c d : List ℕ) (new other : Option (List ℕ)) (w v : Wait) → AllByRecursion IsPassedOver ps → AllByRecursion IsPassedOver qs → blocks ps ++ c ≡ blocks qs ++ d
    → k + length ps ≤ 10 ^ 19 → k + length qs ≤ 10 ^ 19 → EndsWait (is_enough (k + length ps)) (Some c) new w → EndsWait (is_enough (k + length qs)) (Some d) other v → IsDecidedWait w → IsDecidedWait v → w ≡ v
one_on k [] [] c d new other w v each all same few low h e decided certain = same_end (is_enough (k + 0)) d new other w v (subst (λ b. EndsWait (is_enough (k + 0)) (Some b) new w) same h) e decided certain
one_on k [] (q ∷ qs) c d new other w v each all same few low h e decided certain =
    absurd (passed_no_end (is_enough (k + 0)) q (blocks qs ++ d) new w (not_enough k (length qs) (omega (arith, low))) all.0
    (subst (λ b. EndsWait (is_enough (k + 0)) (Some b) new w) (same ∙ append_assoc (block q) (blocks qs) d) h) decided)
one_on k (p ∷ ps) [] c d new other w v each all same few low h e decided certain =
    absurd (passed_no_end (is_enough (k + 0)) p (blocks ps ++ c) other v (not_enough k (length ps) (omega (arith, few))) each.0
    (subst (λ b. EndsWait (is_enough (k + 0)) (Some b) other v) (sym same ∙ append_assoc (block p) (blocks ps) c) e) certain)
one_on k (p ∷ ps) (q ∷ qs) c d new other w v each all same few low h e decided certain =
    let first = same_block p q (blocks ps ++ c) (blocks qs ++ d) each.0.0 all.0.0 (sym (append_assoc (block p) (blocks ps) c) ∙ same ∙ append_assoc (block q) (blocks qs) d) in
    let left : k + length (p ∷ ps) ≡ k + 1 + length ps = omega arith in
    let right : k + length (q ∷ qs) ≡ k + 1 + length qs = omega arith in
    one_on (k + 1) ps qs c d new other w v each.1 all.1 first.1 (omega (arith, few)) (omega (arith, low))
    (subst (λ n. EndsWait (is_enough n) (Some c) new w) left h) (subst (λ n. EndsWait (is_enough n) (Some d) other v) right e) decided certain

-- the bytes end the wait in only one way
pub one_wait : (bytes : List ℕ) (new other : Option (List ℕ)) (w v : Wait) → WaitsForLogin (Some bytes) new w → WaitsForLogin (Some bytes) other v → IsDecidedWait w → IsDecidedWait v → w ≡ v
one_wait bytes new other w v (ps, None, each, consumed, few, h) k decided certain = absurd consumed
one_wait bytes new other w v (ps, Some c, each, consumed, few, h) (qs, None, all, eaten, low, e) decided certain = absurd eaten
one_wait bytes new other w v (ps, Some c, each, consumed, few, h) (qs, Some d, all, eaten, low, e) decided certain =
    let left : length ps ≡ 0 + length ps = omega arith in
    let right : length qs ≡ 0 + length qs = omega arith in
    one_on 0 ps qs c d new other w v each all (sym consumed ∙ eaten) (omega (arith, few)) (omega (arith, low))
    (subst (λ n. EndsWait (is_enough n) (Some c) new w) left h) (subst (λ n. EndsWait (is_enough n) (Some d) other v) right e) decided certain
