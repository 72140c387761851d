-- The events of a client determine the client and the bytes sent to it.
use Rattle.std.proofs.Common.{◌≡◌, ℕ, ◌++◌, Bool, true, false, List, [], ◌∷◌, Some, sym, ap, subst, ◌∙◌, inl, inr}
use Rattle.itch_frame.proofs.BlockLemmas.{block_one}
use Rattle.itch_soup.specs.declared.login.ServerConfig.{ServerConfig}
use Rattle.itch_soup.specs.declared.fault.SoupFault.{SoupFault}
use Rattle.itch_soup.specs.declared.packet.Packet.{Packet}
use Rattle.itch_soup.specs.declared.origin.Origin.TheVariants.{Client}
use Rattle.itch_soup.specs.Packets.{PacketSpells, packet_fault}
use Rattle.itch_soup.proofs.OnePacket.{same_packet, spelled-none}
use Rattle.itch_live.specs.SnapshotClients as clients
use Rattle.itch_live.specs.SnapshotClients.{SnapshotClient, is_deaf, heard, faulted, HearsPayload, HearsHeld}
use Rattle.itch_live.specs.Stories.{Happening, Hears, Answers, Takes, Ticks, Leaves, Becomes, sent_by, Story}

deaf_or_not : {A : Type 0} (b : Bool) → b ≡ true → b ≡ false → A
deaf_or_not b deaf hears = let e = sym deaf ∙ hears in absurd (cc)

spelled_no_fault : (packet : Packet) (payload : List ℕ) (fault : SoupFault) → PacketSpells packet payload Client → packet_fault payload Client ≡ Some fault → ⊥
spelled_no_fault packet payload fault spelled at = let none = sym (spelled-none packet payload Client spelled) ∙ at in absurd (cc)

one_payload : (g h i : SnapshotClient) (payload : List ℕ) (now : ℕ) → HearsPayload g payload now h → HearsPayload g payload now i → h ≡ i
one_payload g h i payload now (inl (packet, spelled, is)) (inl (other, spells, also)) = is ∙ ap (λ p. heard g p now) (same_packet packet other payload Client Client spelled spells) ∙ sym also
one_payload g h i payload now (inl (packet, spelled, is)) (inr (fault, at, also)) = absurd (spelled_no_fault packet payload fault spelled at)
one_payload g h i payload now (inr (fault, at, is)) (inl (packet, spelled, also)) = absurd (spelled_no_fault packet payload fault spelled at)
one_payload g h i payload now (inr (fault, at, is)) (inr (other, also_at, also)) = is ∙ sym also

one_held : (g h i : SnapshotClient) (held : List ℕ) (now : ℕ) → HearsHeld g held now h → HearsHeld g held now i → h ≡ i
one_held g h i held now (inl (payload, block, hears)) (inl (other, also, too)) =
    one_payload g h i payload now hears (subst (λ p. HearsPayload g p now i) (block_one other payload also.0 block.0 (sym also.1 ∙ block.1)) too)
one_held g h i held now (inl (payload, block, hears)) (inr (none, is)) = absurd (none (payload, block))
one_held g h i held now (inr (none, is)) (inl (payload, block, hears)) = absurd (none (payload, block))
one_held g h i held now (inr (none, is)) (inr (never, also)) = is ∙ sym also

one_hearing : (g h i : SnapshotClient) (piece : List ℕ) (now count : ℕ) → clients.Hears g piece now count h → clients.Hears g piece now count i → h ≡ i
one_hearing g h i piece now count (inl (deaf, all, is)) (inl (too, every, also)) = is ∙ sym also
one_hearing g h i piece now count (inl (deaf, all, is)) (inr (hears, some)) = deaf_or_not (is_deaf g) deaf hears
one_hearing g h i piece now count (inr (hears, some)) (inl (deaf, all, is)) = deaf_or_not (is_deaf g) deaf hears
one_hearing g h i piece now count (inr (hears, (held, takes, is))) (inr (too, (other, take_too, also))) =
    one_held g h i held now is (subst (λ bytes. HearsHeld g bytes now i) (take_too.joined ∙ sym takes.joined) also)

pub one_step : (config : ServerConfig) (g h i : SnapshotClient) (happening : Happening) → Becomes config g happening h → Becomes config g happening i → h ≡ i
one_step config g h i (Hears piece now count) one other = one_hearing g h i piece now count one other
one_step config g h i (Answers m next now) one other = one ∙ sym other
one_step config g h i (Takes count now) one other = one.1 ∙ sym other.1
one_step config g h i (Ticks now) one other = one ∙ sym other
one_step config g h i Leaves one other = one ∙ sym other

pub one_story : (config : ServerConfig) (begun : ℕ) (past : List Happening) (g h : SnapshotClient) (sent other : List ℕ) → Story config begun past g sent → Story config begun past h other → (g ≡ h) × (sent ≡ other)
one_story config begun [] g h sent other (is, none) (also, nothing) = (is ∙ sym also, none ∙ sym nothing)
one_story config begun (x ∷ past) g h sent other (e, so_far, story, becomes, sends) (f, far, tale, turns, tells) =
    let same = one_story config begun past e f so_far far story tale in (
      one_step config e g h x becomes (subst (λ a. Becomes config a x h) (sym same.0) turns),
      sends ∙ ap (λ bytes. bytes ++ sent_by e x) same.1 ∙ ap (λ a. far ++ sent_by a x) same.0 ∙ sym tells,
    )
