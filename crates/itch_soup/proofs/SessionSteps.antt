-- A session step by step: the packets that arrived after a login for the messages from some number on, and one more.
use Rattle.std.proofs.Common.{◌≡◌, ℕ, ◌+◌, ◌^◌, ◌≤◌, nat_lt, Bool, true, false, List, [], ◌∷◌, ◌++◌, length, drop, Option, refl, sym, ap, subst, ◌∙◌, append-nil, arith, length-append}
use Rattle.std.proofs.lemmas.List.{length-drop}
use Rattle.std.specs.List.{AllByRecursion}
use Rattle.std.specs.Io.KnownBytes.{Consumes}
use Rattle.std.proofs.KnownBytes.{Consumes-nil}
use Rattle.itch_frame.specs.Blocks.{IsPayload, block, blocks}
use Rattle.itch_frame.proofs.BlockLemmas.{consumed_more, each-push}
use Rattle.itch_soup.specs.declared.connection.SessionStage.{SessionStage}
use Rattle.itch_soup.specs.declared.connection.SessionStage.TheVariants as stage
use Rattle.itch_soup.specs.declared.client.ClientAct.{ClientAct}
use Rattle.itch_soup.specs.declared.client.ClientAct.TheVariants as act
use Rattle.itch_soup.specs.declared.origin.Origin.TheVariants.{Server}
use Rattle.itch_soup.specs.declared.packet.Packet.{Packet}
use Rattle.itch_soup.specs.declared.packet.Packet.TheVariants as is
use Rattle.itch_soup.specs.Packets.{PacketSpells}
use Rattle.itch_soup.specs.Clients.{Client, client_turn, client_answer, client_after_packet}
use Rattle.itch_soup.specs.NextPackets.{is_enough}
use Rattle.itch_soup.specs.Fetching.{ArePackets, noted, news, after_packets, numbered, HearsFrom, HeardFrom}
use Rattle.itch_soup.proofs.LoginWaits.{one_more}

-- the effect of a turn of a session on its stage and number
abbrev pub Shows : Packet → SessionStage → ℕ → ClientAct → SessionStage → ℕ → Type 0
Shows packet at next act.Nothing later number = (later ≡ at) × (number ≡ next)
Shows packet at next (act.Accepted first) later number = (at ≡ stage.Before) × (later ≡ stage.Accepted) × (number ≡ first)
Shows packet at next (act.Data n payload) later number =
    (at ≡ stage.Accepted) × (later ≡ stage.Accepted) × (n ≡ next) × (number ≡ next + 1) × (packet ≡ is.SequencedData payload)
Shows packet at next (act.Rejected code) later number = Unit {0}
Shows packet at next act.Ended later number = Unit {0}
Shows packet at next (act.Fault f) later number = Unit {0}

abbrev pub TurnShows : SessionStage → ℕ → Packet → Type 0
TurnShows at next packet = let turn = client_turn next at packet in Shows packet at next turn.0 turn.1 turn.2

data_shows : (next : ℕ) (payload : List ℕ) (b : Bool) → nat_lt next (10 ^ 19) ≡ b → TurnShows stage.Accepted next (is.SequencedData payload)
data_shows next payload true e = rw e (refl, refl, refl, refl, refl)
data_shows next payload false e = rw e tt

pub turn_shows : (at : SessionStage) (next : ℕ) (packet : Packet) → TurnShows at next packet
turn_shows stage.Before next (is.Debug text) = (refl, refl)
turn_shows stage.Before next (is.LoginAccepted login) = (refl, refl, refl)
turn_shows stage.Before next is.ServerHeartbeat = (refl, refl)
turn_shows stage.Before next (is.UnsequencedData payload) = (refl, refl)
turn_shows stage.Accepted next (is.Debug text) = (refl, refl)
turn_shows stage.Accepted next (is.SequencedData payload) = data_shows next payload (nat_lt next (10 ^ 19)) refl
turn_shows stage.Accepted next is.ServerHeartbeat = (refl, refl)
turn_shows stage.Accepted next (is.UnsequencedData payload) = (refl, refl)
turn_shows at next packet = tt

-- one more packet
noted-append : (answer : ClientAct) (xs ys : List ClientAct) → noted answer (xs ++ ys) ≡ noted answer xs ++ ys
noted-append act.Nothing xs ys = refl
noted-append answer xs ys = refl

news-push : (c : Client) (packets : List Packet) (packet : Packet) → news c (packets ++ packet ∷ []) ≡ news c packets ++ noted (client_answer (after_packets c packets) packet) []
news-push c [] packet = refl
news-push c (first ∷ packets) packet =
    ap (noted (client_answer c first)) (news-push (client_after_packet c first 0) packets packet)
    ∙ noted-append (client_answer c first) (news (client_after_packet c first 0) packets) _

after-push : (c : Client) (packets : List Packet) (packet : Packet) → after_packets c (packets ++ packet ∷ []) ≡ client_after_packet (after_packets c packets) packet 0
after-push c [] packet = refl
after-push c (first ∷ packets) packet = after-push (client_after_packet c first 0) packets packet

numbered-push : (n : ℕ) (payloads : List (List ℕ)) (payload : List ℕ) → numbered n (payloads ++ payload ∷ []) ≡ numbered n payloads ++ act.Data (n + length payloads) payload ∷ []
numbered-push n [] payload = let same : n ≡ n + 0 = omega arith in ap (λ k. act.Data k payload ∷ []) same
numbered-push n (p ∷ ps) payload =
    let same : n + 1 + length ps ≡ n + length (p ∷ ps) = omega arith in
    ap (λ rest. act.Data n p ∷ rest) (numbered-push (n + 1) ps payload ∙ ap (λ k. numbered (n + 1) ps ++ act.Data k payload ∷ []) same)

packets-push : (packets : List Packet) (read : List (List ℕ)) (packet : Packet) (payload : List ℕ) → ArePackets packets read → IsPayload payload → PacketSpells packet payload Server
    → ArePackets (packets ++ packet ∷ []) (read ++ payload ∷ [])
packets-push [] [] packet payload spelled fits last = ((fits, last), tt)
packets-push [] (q ∷ qs) packet payload spelled fits last = absurd spelled
packets-push (p ∷ ps) [] packet payload spelled fits last = absurd spelled
packets-push (p ∷ ps) (q ∷ qs) packet payload spelled fits last = (spelled.0, packets-push ps qs packet payload spelled.1 fits last)

-- the stage of a session that requested the messages from number n on, from the packets that it has received
abbrev Phase : ℕ → SessionStage → ℕ → List ClientAct → List (List ℕ) → Type 0
Phase n stage.Before next acts payloads = (acts ≡ []) × (payloads ≡ [])
Phase n stage.Accepted next acts payloads = (acts ≡ act.Accepted n ∷ numbered n payloads) × (next ≡ n + length payloads)
Phase n stage.Closed next acts payloads = ⊥

pub hears : (n : ℕ) (at : SessionStage) (next : ℕ) (acts : List ClientAct) (payloads : List (List ℕ)) → Phase n at next acts payloads → HearsFrom n acts payloads
hears n stage.Before next acts payloads (nothing, none) = subst (λ answers. HearsFrom n answers payloads) (sym nothing) none
hears n stage.Accepted next acts payloads (all, number) = subst (λ answers. HearsFrom n answers payloads) (sym all) refl
hears n stage.Closed next acts payloads h = absurd h

-- packets arrived, and their meaning is nothing yet, or an acceptance from number n and these messages
pub record Came (n : ℕ) (start : Client) (old new : Option (List ℕ)) (count : ℕ) (c : Client) (payloads : List (List ℕ)) : Type 0 where
  pub packets : List Packet
  pub read : List (List ℕ)
  pub bytes : Consumes old new (blocks read)
  pub spelled : ArePackets packets read
  pub fit : AllByRecursion IsPayload payloads
  pub counted : length packets ≡ count
  pub few : count ≤ 10 ^ 19
  pub session : c ≡ after_packets start packets
  pub phase : Phase n c.connection.stage c.next (news start packets) payloads

-- no packets arrived at first
pub came_first : (n : ℕ) (start : Client) (bytes : Option (List ℕ)) → start.connection.stage ≡ stage.Before → Came n start bytes bytes 0 start []
came_first n start bytes before = record {
  packets = [];
  read = [];
  bytes = Consumes-nil bytes;
  spelled = tt;
  fit = tt;
  counted = refl;
  few = omega arith;
  session = refl;
  phase = subst (λ at. Phase n at start.next [] []) (sym before) (refl, refl);
}

abbrev pub heard_of : (n : ℕ) (start : Client) (old new : Option (List ℕ)) (count : ℕ) (c : Client) (payloads : List (List ℕ)) → Came n start old new count c payloads → HeardFrom n start old new payloads
heard_of n start old new count c payloads came = record {
  packets = came.packets;
  read = came.read;
  bytes = came.bytes;
  spelled = came.spelled;
  few = subst (λ k. k ≤ 10 ^ 19) (sym came.counted) came.few;
  heard = hears n _ _ _ _ came.phase;
}

phase_same : (n : ℕ) (at later : SessionStage) (next number : ℕ) (acts all : List ClientAct) (payloads : List (List ℕ)) → later ≡ at → number ≡ next → all ≡ acts
    → Phase n at next acts payloads → Phase n later number all payloads
phase_same n at later next number acts all payloads e f g phase =
    subst (λ s. Phase n s number all payloads) (sym e) (subst (λ k. Phase n at k all payloads) (sym f) (subst (λ t. Phase n at next t payloads) (sym g) phase))

phase_accepted : (n : ℕ) (at later : SessionStage) (next number first : ℕ) (acts all : List ClientAct) (payloads : List (List ℕ)) → at ≡ stage.Before → later ≡ stage.Accepted → number ≡ first → first ≡ n
    → all ≡ acts ++ act.Accepted first ∷ [] → Phase n at next acts payloads → Phase n later number all payloads
phase_accepted n at later next number first acts all payloads e f g one more phase =
    let (nothing, none) : (acts ≡ []) × (payloads ≡ []) = subst (λ s. Phase n s next acts payloads) e phase in
    subst (λ s. Phase n s number all payloads) (sym f) (
      more ∙ ap (λ t. t ++ act.Accepted first ∷ []) nothing ∙ ap (λ k. act.Accepted k ∷ []) one ∙ ap (λ ps. act.Accepted n ∷ numbered n ps) (sym none),
      let len : length payloads ≡ 0 = ap length none in omega arith,
    )

phase_data : (n : ℕ) (at later : SessionStage) (next number place : ℕ) (payload : List ℕ) (acts all : List ClientAct) (payloads : List (List ℕ)) → at ≡ stage.Accepted → later ≡ stage.Accepted → place ≡ next → number ≡ next + 1
    → all ≡ acts ++ act.Data place payload ∷ [] → Phase n at next acts payloads → Phase n later number all (payloads ++ payload ∷ [])
phase_data n at later next number place payload acts all payloads e f same up more phase =
    let before : (acts ≡ act.Accepted n ∷ numbered n payloads) × (next ≡ n + length payloads) = subst (λ s. Phase n s next acts payloads) e phase in
    subst (λ s. Phase n s number all (payloads ++ payload ∷ [])) (sym f) (
      more ∙ ap (λ t. t ++ act.Data place payload ∷ []) before.0 ∙ ap (λ k. act.Accepted n ∷ (numbered n payloads ++ act.Data k payload ∷ [])) (same ∙ before.1)
          ∙ ap (λ rest. act.Accepted n ∷ rest) (sym (numbered-push n payloads payload)),
      let number_is = before.1 in omega (arith, length-append payloads (payload ∷ [])),
    )

pub data_fits : (payload block : List ℕ) → IsPayload block → PacketSpells (is.SequencedData payload) block Server → IsPayload payload
data_fits payload block fits spelled = let inside : payload ≡ drop 1 block = spelled.parts.0 in omega (arith, ap length inside, length-drop 1 block)

-- the answers after which more is received, and the messages received then
abbrev pub GoesOn : ℕ → ClientAct → Type 0
GoesOn n act.Nothing = Unit {0}
GoesOn n (act.Accepted next) = next ≡ n
GoesOn n (act.Data number payload) = Unit {0}
GoesOn n answer = ⊥

abbrev pub heard_by : ClientAct → List (List ℕ) → List (List ℕ)
heard_by (act.Data number payload) payloads = payloads ++ payload ∷ []
heard_by answer payloads = payloads

-- a message comes in a packet of sequenced data
pub only_data : (c : Client) (packet : Packet) (number : ℕ) (payload : List ℕ) → client_answer c packet ≡ act.Data number payload → packet ≡ is.SequencedData payload
only_data c packet number payload said =
    let later = client_after_packet c packet 0 in
    (subst (λ a. Shows packet c.connection.stage c.next a later.connection.stage later.next) said (turn_shows c.connection.stage c.next packet)).4

-- one more packet arrived
module _ (n : ℕ) (start : Client) (old mid new : Option (List ℕ)) (count : ℕ) (c : Client) (payloads : List (List ℕ)) (so_far : Came n start old mid count c payloads) (packet : Packet) (block_read : List ℕ)
    (room : is_enough count ≡ false) (fits : IsPayload block_read) (consumed : Consumes mid new (block block_read)) (spelled : PacketSpells packet block_read Server) where
  abbrev later : Client
  later = client_after_packet c packet 0

  more_news : (answer : ClientAct) → client_answer c packet ≡ answer → news start (so_far.packets ++ packet ∷ []) ≡ news start so_far.packets ++ noted answer []
  more_news answer said =
      news-push start so_far.packets packet ∙ ap (λ s. news start so_far.packets ++ noted (client_answer s packet) []) (sym so_far.session)
      ∙ ap (λ a. news start so_far.packets ++ noted a []) said

  shows : (answer : ClientAct) → client_answer c packet ≡ answer → Shows packet c.connection.stage c.next answer later.connection.stage later.next
  shows answer said = subst (λ a. Shows packet c.connection.stage c.next a later.connection.stage later.next) said (turn_shows c.connection.stage c.next packet)

  abbrev With : List (List ℕ) → Type 0
  With more = (came : Came n start old new (count + 1) later more) × (came.packets ≡ so_far.packets ++ packet ∷ [])

  came_with : (more : List (List ℕ)) → AllByRecursion IsPayload more → Phase n later.connection.stage later.next (news start (so_far.packets ++ packet ∷ [])) more → With more
  came_with more fit phase = (
    record {
      packets = so_far.packets ++ packet ∷ [];
      read = so_far.read ++ block_read ∷ [];
      bytes = consumed_more old mid new so_far.read block_read so_far.bytes consumed;
      spelled = packets-push so_far.packets so_far.read packet block_read so_far.spelled fits spelled;
      fit = fit;
      counted = omega (arith, so_far.counted, length-append so_far.packets (packet ∷ []));
      few = one_more count so_far.few room;
      session = ap (λ s. client_after_packet s packet 0) so_far.session ∙ sym (after-push start so_far.packets packet);
      phase = phase;
    },
    refl,
  )

  pub came_by : (answer : ClientAct) → client_answer c packet ≡ answer → GoesOn n answer → With (heard_by answer payloads)
  came_by act.Nothing said goes =
      let (stays, counts) = shows act.Nothing said in
      came_with payloads so_far.fit (phase_same n _ _ _ _ _ _ payloads stays counts (more_news act.Nothing said ∙ append-nil (news start so_far.packets)) so_far.phase)
  came_by (act.Accepted next) said one =
      let seen = shows (act.Accepted next) said in
      came_with payloads so_far.fit (phase_accepted n _ _ _ _ next _ _ payloads seen.0 seen.1 seen.2 one (more_news (act.Accepted next) said) so_far.phase)
  came_by (act.Data number payload) said goes =
      let seen = shows (act.Data number payload) said in
      came_with (payloads ++ payload ∷ [])
      (each-push IsPayload payloads payload so_far.fit (data_fits payload block_read fits (subst (λ p. PacketSpells p block_read Server) seen.4 spelled)))
      (phase_data n _ _ _ _ number payload _ _ payloads seen.0 seen.1 seen.2 seen.3 (more_news (act.Data number payload) said) so_far.phase)
  came_by answer said goes = absurd goes
