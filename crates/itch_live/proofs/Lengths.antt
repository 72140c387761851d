-- The number of bytes that answer a login with a snapshot.
use Rattle.std.proofs.Common.{◌≡◌, ℕ, ◌+◌, ◌*◌, ◌≤◌, List, [], ◌∷◌, ◌++◌, map, length, flat_map, Option, None, Some, ap, ◌∙◌, arith, length-append}
use Rattle.std.specs.List.{AllByRecursion}
use Rattle.std.specs.FinMap as finite
use Rattle.std.proofs.lemmas.List.{map-append}
use Rattle.itch_codec.specs.declared.message.Message.{Message}
use Rattle.itch_codec.specs.declared.message.Message.TheVariants as message
use Rattle.itch_codec.specs.Messages.{Shape, Fields, Payload, shape, HasShape, spelling}
use Rattle.itch_codec.specs.Widths.{IsMessage, IsSequence}
use Rattle.itch_codec.proofs.Spelling.{Spells-spelling}
use Rattle.itch_frame.specs.Blocks.{block, blocks}
use Rattle.itch_frame.proofs.BlockLemmas.{blocks-push}
use Rattle.itch_book.specs.declared.order.Order.{Order}
use Rattle.itch_book.specs.Orders as book
use Rattle.itch_book.proofs.Lists.{All-append_rec}
use Rattle.itch_market.specs.declared.security.Action.{Action}
use Rattle.itch_market.specs.Content.{Content, Listing}
use Rattle.itch_market.specs.GoodMarkets.{IsGood}
use Rattle.itch_market.specs.Runs.{AreMessages}
use Rattle.itch_snapshot.specs.Snapshot.{snap, event_part, action_part, sho_part, halt_part, position_part, states_part, add_of, attributed, order_part, locate_messages, locate_part}
use Rattle.itch_snapshot.proofs.SpelledMessages.{snap_messages}
use Rattle.itch_soup.specs.declared.packet.Packet.TheVariants as is
use Rattle.itch_soup.specs.Packets.{packet_spelling}
use Rattle.itch_soup.specs.Sending.{data_packet, messages, session_packets}
use Rattle.itch_live.specs.SnapshotClients.{session_bytes}

-- messages of at most 40 bytes ------------------------------------------------

abbrev IsShortShape : Shape → Type 0
IsShortShape (Fields layout values) = layout.size ≤ 40
IsShortShape (Payload bytes) = ⊥

-- the type of a message has at most 40 bytes
abbrev IsShort : Message → Type 0
IsShort x = IsShortShape (shape x)

event_short : (event : Option ℕ) → AllByRecursion IsShort (event_part event)
event_short None = tt
event_short (Some code) = (omega arith, tt)

action_short : (locate : ℕ) (stock : List ℕ) (action : Option Action) → AllByRecursion IsShort (action_part locate stock action)
action_short locate stock None = tt
action_short locate stock (Some action) = (omega arith, tt)

sho_short : (locate : ℕ) (stock : List ℕ) (sho : Option ℕ) → AllByRecursion IsShort (sho_part locate stock sho)
sho_short locate stock None = tt
sho_short locate stock (Some sho) = (omega arith, tt)

each_short : {A : Type 0} (message : A → Message) → ((a : A) → IsShort (message a)) → (xs : List A) → AllByRecursion IsShort (map message xs)
each_short message short [] = tt
each_short message short (x ∷ xs) = (short x, each_short message short xs)

states_short : (locate : ℕ) (s : Listing) → AllByRecursion IsShort (states_part locate s)
states_short locate s =
    let stock = s.entry.stock in
    let halts = map (halt_part locate stock) (finite.entries s.halts) in
    let positions = map (position_part locate stock) (finite.entries s.positions) in
    All-append_rec IsShort (action_part locate stock s.action) (sho_part locate stock s.sho ++ (halts ++ positions)) (action_short locate stock s.action)
    (All-append_rec IsShort (sho_part locate stock s.sho) (halts ++ positions) (sho_short locate stock s.sho)
    (All-append_rec IsShort halts positions
    (each_short (halt_part locate stock) (λ e. omega arith) (finite.entries s.halts))
    (each_short (position_part locate stock) (λ e. omega arith) (finite.entries s.positions))))

-- the longest message is an order with attribution
order_short : (stock : List ℕ) (x : Order) → IsShort (order_part stock x)
order_short stock x = one x.mpid where
  one : (mpid : Option (List ℕ)) → IsShort (attributed (add_of stock x) mpid)
  one None = omega arith
  one (Some mpid) = omega arith

locate_short : (e : ℕ × Listing) (os : List Order) → AllByRecursion IsShort (locate_messages e os)
locate_short e os =
    let stock = e.1.entry.stock in (
      omega arith,
      All-append_rec IsShort (states_part e.0 e.1) (map (order_part stock) os) (states_short e.0 e.1) (each_short (order_part stock) (order_short stock) os),
    )

locates_short : (orders : List Order) (es : List (ℕ × Listing)) → AllByRecursion IsShort (flat_map (locate_part orders) es)
locates_short orders [] = tt
locates_short orders (e ∷ es) =
    All-append_rec IsShort (locate_part orders e) (flat_map (locate_part orders) es) (locate_short e (book.sides orders e.0)) (locates_short orders es)

snap_short : (m : Content) → AllByRecursion IsShort (snap m)
snap_short m =
    All-append_rec IsShort (event_part m.event) (flat_map (locate_part m.orders) (finite.entries m.securities)) (event_short m.event)
    (locates_short m.orders (finite.entries m.securities))

-- their packets ---------------------------------------------------------------

shape_short : (s : Shape) (payload : List ℕ) → IsShortShape s → HasShape s payload → length payload ≤ 40
shape_short (Fields layout values) payload short laid = omega (arith, laid.size)
shape_short (Payload bytes) payload short kept = absurd short

spelling_short : (x : Message) → IsMessage x → IsShort x → length (spelling x) ≤ 40
spelling_short x fits short = shape_short (shape x) (spelling x) short (Spells-spelling x fits)

packet_short : (x : Message) → IsMessage x → IsShort x → length (block (packet_spelling (data_packet x))) ≤ 43
packet_short x fits short = let most = spelling_short x fits short in omega (arith, length-append (spelling x) [])

packets_short : (xs : List Message) → AreMessages xs → AllByRecursion IsShort xs → length (blocks (map packet_spelling (map data_packet xs))) ≤ 43 * length xs
packets_short [] fit short = omega arith
packets_short (x ∷ xs) fit short =
    let first = packet_short x fit.0 short.0 in
    let rest = packets_short xs fit.1 short.1 in
    omega (arith, first, rest, length-append (block (packet_spelling (data_packet x))) (blocks (map packet_spelling (map data_packet xs))))

-- the packets after them -------------------------------------------

session_length : (xs : List Message) → length (blocks (map packet_spelling (session_packets xs))) ≡ length (blocks (map packet_spelling (map data_packet xs))) + 3
session_length xs =
    let packets = map packet_spelling (map data_packet xs) in
    let end = packet_spelling is.EndOfSession in
    let parts : blocks (map packet_spelling (session_packets xs)) ≡ blocks packets ++ block end =
    ap blocks (map-append packet_spelling (map data_packet xs) (is.EndOfSession ∷ [])) ∙ blocks-push packets end in
    ap length parts ∙ length-append (blocks packets) (block end)

all_messages : (m : Content) (next : ℕ) → IsGood m → IsSequence next → AreMessages (messages m next)
all_messages m next good number = All-append_rec IsMessage (snap m) (message.End next ∷ []) (snap_messages m good) (number, tt)

all_short : (m : Content) (next : ℕ) → AllByRecursion IsShort (messages m next)
all_short m next = All-append_rec IsShort (snap m) (message.End next ∷ []) (snap_short m) (omega arith, tt)

-- the answer has at most 43 bytes per message of the snapshot, and 128 for the End of Snapshot and the end of the session
pub session_within : (m : Content) (next : ℕ) → IsGood m → IsSequence next → length (session_bytes m next) ≤ 43 * length (snap m) + 128
session_within m next good number =
    omega (
      arith,
      session_length (messages m next),
      packets_short (messages m next) (all_messages m next good number) (all_short m next),
      length-append (snap m) (message.End next ∷ []),
    )
