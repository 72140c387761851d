-- Any bytes of a client end a wait for a login.
use Rattle.std.proofs.Common.{◌≡◌, ℕ, zero, suc, ◌+◌, ◌<◌, ◌⊎◌, Bool, true, false, List, [], ◌∷◌, ◌++◌, length, Option, Some, None, Ok, Err, refl, sym, subst, inl, inr, arith, rules, length-append}
use Rattle.itch_frame.specs.Blocks.{IsPayload, block, HasNoBlock}
use Rattle.itch_frame.specs.declared.fault.FrameFault.TheVariants.{Truncated}
use Rattle.itch_frame.proofs.Fronts.{Front, front}
use Rattle.itch_soup.specs.declared.fault.SoupFault.{SoupFault}
use Rattle.itch_soup.specs.declared.fault.SoupFault.TheVariants as broke
use Rattle.itch_soup.specs.declared.origin.Origin.TheVariants.{Client}
use Rattle.itch_soup.specs.declared.packet.Packet.{Packet}
use Rattle.itch_soup.specs.declared.packet.Packet.TheVariants as is
use Rattle.itch_soup.specs.declared.serve.Opening.TheVariants.{Login, Leave}
use Rattle.itch_soup.specs.Packets.{PacketSpells, packet_fault}
use Rattle.itch_soup.specs.NextPackets.{is_enough}
use Rattle.itch_soup.specs.Serving.{IsIdle, EndsWait, WaitsOn, Wait, WaitsForLogin, IsDecidedWait}
use Rattle.itch_soup.proofs.FaultlessBlocks.{faultless-spelled}
use Rattle.itch_soup.proofs.BlockFaults.{OfBlock, of_block, of_each}
use Rattle.itch_soup.proofs.LoginWaits.{Waiting, waiting_first, waiting_on, waiting_ends}

-- the next packet is ignored, and fewer bytes are left; or the wait ends
abbrev Outcome : Bool → List ℕ → Type 0
Outcome enough rest =
    ((more : List ℕ) × WaitsOn enough (Some rest) (Some more) (Ok None) × (length more < length rest))
    ⊎ ((new : Option (List ℕ)) × (wait : Wait) × EndsWait enough (Some rest) new wait × IsDecidedWait wait)

at_end : (enough : Bool) (rest : List ℕ) → HasNoBlock rest → Outcome enough rest
at_end enough [] none = inr (Some [], Ok Leave, inl refl, tt)
at_end enough (x ∷ xs) none = inr (Some (x ∷ xs), Err (broke.Frame (Truncated (length (x ∷ xs)))), ((omega arith, none), refl), tt)

module _ (q more : List ℕ) (fits : IsPayload q) where
  abbrev Here : Type 0
  Here = Outcome false (block q ++ more)

  faulty : (f : SoupFault) → packet_fault q Client ≡ Some f → OfBlock (Some f) → Here
  faulty f e h =
      of_each (λ f. packet_fault q Client ≡ Some f → Here)
      (λ e. inr (Some more, Err broke.EmptyPacket, (refl, (q, fits, refl, e)), tt))
      (λ kind e. inr (Some more, Err (broke.UnknownType kind), (refl, (q, fits, refl, e)), tt))
      (λ kind e. inr (Some more, Err (broke.WrongSide kind), (refl, (q, fits, refl, e)), tt))
      (λ kind want got e. inr (Some more, Err (broke.WrongLength kind want got), (refl, (q, fits, refl, e)), tt))
      (λ offset e. inr (Some more, Err (broke.BadText offset), (refl, (q, fits, refl, e)), tt))
      (λ offset e. inr (Some more, Err (broke.BadNumber offset), (refl, (q, fits, refl, e)), tt))
      f h e

  passed_over : (packet : Packet) → PacketSpells packet q Client → IsIdle packet → Here
  passed_over packet spelled idle =
      inl (more, (refl, (q, fits, refl, (fits, (packet, spelled, idle)))), omega (arith, length-append q more))

  by_packet : (packet : Packet) → PacketSpells packet q Client → Here
  by_packet (is.Debug payload) spelled = passed_over (is.Debug payload) spelled tt
  by_packet (is.UnsequencedData payload) spelled = passed_over (is.UnsequencedData payload) spelled tt
  by_packet is.ClientHeartbeat spelled = passed_over is.ClientHeartbeat spelled tt
  by_packet (is.LoginRequest login) spelled = inr (Some more, Ok (Login login), (refl, (q, fits, refl, spelled)), tt)
  by_packet is.LogoutRequest spelled = inr (Some more, Ok Leave, inr (refl, (q, fits, refl, spelled)), tt)
  by_packet packet spelled = absurd (let side = spelled.side in search rules)

  by_fault : (o : Option SoupFault) → packet_fault q Client ≡ o → Here
  by_fault (Some f) e = faulty f e (subst OfBlock e (of_block q Client))
  by_fault None e = let (packet, spelled) = faultless-spelled q Client e in by_packet packet spelled

  here : (enough : Bool) → Outcome enough (block q ++ more)
  here true = inr (Some more, Err broke.TooManyMessages, (refl, (q, fits, refl, tt)), tt)
  here false = by_fault (packet_fault q Client) refl

outcome : (enough : Bool) (rest : List ℕ) → Outcome enough rest
outcome enough rest = by_front (front rest) where
  by_front : Front rest → Outcome enough rest
  by_front (inr (q, more, fits, is)) = subst (Outcome enough) (sym is) (here q more fits enough)
  by_front (inl none) = at_end enough rest none

abbrev Found : List ℕ → Type 0
Found bytes = (left : Option (List ℕ)) × (wait : Wait) × WaitsForLogin (Some bytes) left wait × IsDecidedWait wait

found : (fuel : ℕ) (bytes rest : List ℕ) (count : ℕ) → length rest < fuel → Waiting (Some bytes) (Some rest) count → Found bytes
found zero bytes rest count short so_far = absurd (omega arith)
found (suc fuel) bytes rest count short so_far = by_outcome (outcome (is_enough count) rest) (found fuel bytes) where
  by_outcome : Outcome (is_enough count) rest
      → ((rest : List ℕ) (count : ℕ) → length rest < fuel → Waiting (Some bytes) (Some rest) count → Found bytes) → Found bytes
  by_outcome (inl (more, step, less)) on = on more (count + 1) (omega (arith, short, less)) (waiting_on (Some bytes) (Some rest) (Some more) count so_far step)
  by_outcome (inr (new, wait, ends, decided)) on = (new, wait, waiting_ends (Some bytes) (Some rest) new count wait so_far ends, decided)

-- any bytes end a wait, without a failed read
pub some_wait : (bytes : List ℕ) → Found bytes
some_wait bytes = found (suc (length bytes)) bytes bytes 0 (omega arith) (waiting_first (Some bytes))
