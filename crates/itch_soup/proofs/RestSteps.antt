-- The fetch of a rest step by step: the packets received so far, and one more.
use Rattle.std.proofs.Common.{◌≡◌, ℕ, ◌+◌, true, false, List, [], ◌∷◌, ◌++◌, Option, None, Some, Ok, Err, refl, sym, ap, subst, ◌∙◌}
use Rattle.std.specs.List.{AllByRecursion}
use Rattle.std.specs.Option.{is_some}
use Rattle.std.specs.Io.KnownBytes.{Consumes}
use Rattle.itch_codec.specs.declared.message.Message.{Message}
use Rattle.itch_codec.specs.declared.message.Message.TheVariants as message
use Rattle.itch_codec.specs.Messages.{Spells}
use Rattle.itch_frame.specs.Blocks.{IsPayload, block, blocks}
use Rattle.itch_frame.proofs.BlockLemmas.{blocks-push, each-push}
use Rattle.itch_snapshot.specs.TakenMessages.{number_in}
use Rattle.itch_soup.specs.declared.connection.SessionStage.TheVariants as stage
use Rattle.itch_soup.specs.declared.client.ClientAct.{ClientAct}
use Rattle.itch_soup.specs.declared.client.ClientAct.TheVariants as act
use Rattle.itch_soup.specs.declared.fault.SoupFault.{SoupFault}
use Rattle.itch_soup.specs.declared.origin.Origin.TheVariants.{Server}
use Rattle.itch_soup.specs.declared.packet.Packet.{Packet}
use Rattle.itch_soup.specs.Packets.{PacketSpells}
use Rattle.itch_soup.specs.Clients.{Client, client_answer, client_after_packet}
use Rattle.itch_soup.specs.NextPackets.{is_enough}
use Rattle.itch_soup.specs.Fetching.{after_packets}
use Rattle.itch_soup.specs.FetchingRest.{SpellsOther, FetchedRest, KeepsAnswer, KeepsPacket, EndsRest, ReceivesRest}
use Rattle.itch_soup.proofs.SessionSteps.{Came, came_first, came_by, heard_of, heard_by, GoesOn, only_data}

-- packets arrived, and the blocks of their messages are kept; none is End of Snapshot
pub record Keeping (n : ℕ) (start : Client) (old new : Option (List ℕ)) (count : ℕ) (c : Client) (bytes : List ℕ) : Type 0 where
  pub payloads : List (List ℕ)
  pub came : Came n start old new count c payloads
  pub others : AllByRecursion SpellsOther payloads
  pub kept : bytes ≡ blocks payloads

-- no packets arrived at first
pub keeping_first : (n : ℕ) (start : Client) (left : Option (List ℕ)) (bytes : List ℕ) → start.connection.stage ≡ stage.Before → bytes ≡ [] → Keeping n start left left 0 start bytes
keeping_first n start left bytes before none = record { payloads = []; came = came_first n start left before; others = tt; kept = none }

-- a message that does not close the snapshot, and one that does
other_by : (x : Message) (payload : List ℕ) (o : Option ℕ) → number_in x ≡ o → Spells x payload → false ≡ is_some o → SpellsOther payload
other_by x payload None is spells unclosed = (x, spells, is)
other_by x payload (Some next) is spells unclosed = let no_one : ⊥ = cc in absurd no_one

end_by : (x : Message) (payload : List ℕ) → Spells x payload → true ≡ is_some (number_in x) → (next : ℕ) × Spells (message.End next) payload
end_by (message.End next) payload spells closed = (next, spells)
end_by x payload spells closed = let no_one : ⊥ = cc in absurd no_one

pushed : (bytes after : List ℕ) (payloads : List (List ℕ)) (payload : List ℕ) → bytes ≡ blocks payloads → after ≡ bytes ++ block payload → after ≡ blocks (payloads ++ payload ∷ [])
pushed bytes after payloads payload kept added = added ∙ ap (λ t. t ++ block payload) kept ∙ sym (blocks-push payloads payload)

-- one more packet arrived
module _ (n : ℕ) (start : Client) (old mid new : Option (List ℕ)) (count : ℕ) (c : Client) (bytes after : List ℕ) (so_far : Keeping n start old mid count c bytes) (packet : Packet) (block_read : List ℕ)
    (room : is_enough count ≡ false) (fits : IsPayload block_read) (consumed : Consumes mid new (block block_read)) (spelled : PacketSpells packet block_read Server) where
  abbrev later : Client
  later = client_after_packet c packet 0

  abbrev More : List (List ℕ) → Type 0
  More payloads = (came : Came n start old new (count + 1) later payloads) × (came.packets ≡ so_far.came.packets ++ packet ∷ [])

  more : (answer : ClientAct) → client_answer c packet ≡ answer → GoesOn n answer → More (heard_by answer so_far.payloads)
  more = came_by n start old mid new count c so_far.payloads so_far.came packet block_read room fits consumed spelled

  kept_answer : (answer : ClientAct) → client_answer c packet ≡ answer → KeepsAnswer n answer bytes false after → Keeping n start old new (count + 1) later after
  kept_answer act.Nothing is (unclosed, same) =
      record { payloads = so_far.payloads; came = (more act.Nothing is tt).0; others = so_far.others; kept = same ∙ so_far.kept }
  kept_answer (act.Accepted next) is (from, unclosed, same) =
      record { payloads = so_far.payloads; came = (more (act.Accepted next) is from).0; others = so_far.others; kept = same ∙ so_far.kept }
  kept_answer (act.Data number payload) is ((x, spells, unclosed), added) = record {
    payloads = so_far.payloads ++ payload ∷ [];
    came = (more (act.Data number payload) is tt).0;
    others = each-push SpellsOther so_far.payloads payload so_far.others (other_by x payload (number_in x) refl spells unclosed);
    kept = pushed bytes after so_far.payloads payload so_far.kept added;
  }
  kept_answer answer is keeps = absurd keeps

  kept_end : (answer : ClientAct) → client_answer c packet ≡ answer → KeepsAnswer n answer bytes true after → FetchedRest n start old new after
  kept_end act.Nothing is (unclosed, same) = absurd (let no_one : ⊥ = cc in no_one)
  kept_end (act.Accepted next) is (from, unclosed, same) = absurd (let no_one : ⊥ = cc in no_one)
  kept_end (act.Data number payload) is ((x, spells, closed), added) =
      let (came, packets) = more (act.Data number payload) is tt in
      let (next, closes) = end_by x payload spells closed in (
        so_far.payloads ++ payload ∷ [],
        heard_of n start old new (count + 1) later (so_far.payloads ++ payload ∷ []) came,
        (
          record { before = so_far.payloads; last = payload; next = next; whole = refl; others = so_far.others; closes = closes },
          pushed bytes after so_far.payloads payload so_far.kept added,
          (so_far.came.packets, packets ∙ ap (λ p. so_far.came.packets ++ p ∷ []) (only_data c packet number payload is)),
        ),
      )
  kept_end answer is keeps = absurd keeps

-- the next packet was taken
pub keeping_on : (n : ℕ) (start : Client) (old mid new : Option (List ℕ)) (count : ℕ) (c later : Client) (bytes after : List ℕ) → Keeping n start old mid count c bytes
    → KeepsPacket n (is_enough count) c bytes mid new (Ok false) later after → Keeping n start old new (count + 1) later after
keeping_on n start old mid new count c c_after bytes after so_far (packet, (room, (payload, fits, consumed, spelled)), is, keeps) =
    subst (λ s. Keeping n start old new (count + 1) s after) (sym is)
    (kept_answer n start old mid new count c bytes after so_far packet payload room fits consumed spelled (client_answer c packet) refl keeps)

pub keeping_closed : (n : ℕ) (start : Client) (old mid new : Option (List ℕ)) (count : ℕ) (c later : Client) (bytes after : List ℕ) → Keeping n start old mid count c bytes
    → KeepsPacket n (is_enough count) c bytes mid new (Ok true) later after → ReceivesRest n start old new (Ok after)
keeping_closed n start old mid new count c c_after bytes after so_far (packet, (room, (payload, fits, consumed, spelled)), is, keeps) =
    kept_end n start old mid new count c bytes after so_far packet payload room fits consumed spelled (client_answer c packet) refl keeps

-- the fetch ends at the next packet
pub keeping_ends : (n : ℕ) (start : Client) (old mid new : Option (List ℕ)) (count : ℕ) (c later : Client) (bytes after : List ℕ) (why : SoupFault) → Keeping n start old mid count c bytes
    → KeepsPacket n (is_enough count) c bytes mid new (Err why) later after → ReceivesRest n start old new (Err why)
keeping_ends n start old mid new count c c_after bytes after why so_far ends = (
  so_far.payloads,
  mid,
  heard_of n start old mid count c so_far.payloads so_far.came,
  so_far.others,
  subst (λ k. EndsRest n (is_enough k) (after_packets start so_far.came.packets) mid new why) (sym so_far.came.counted)
      (subst (λ s. EndsRest n (is_enough count) s mid new why) so_far.came.session ends),
)
