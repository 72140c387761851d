-- Sending the packets of a session: each fits a block, and they are written in order.
use Rattle.std.proofs.Common.{◌≡◌, ℕ, zero, suc, ◌+◌, ◌-◌, ◌<◌, ◌≤◌, nat_le, Bool, true, false, List, [], ◌∷◌, ◌++◌, map, length, drop, flat_map, Option, None, Some, Result, Ok, Err, refl, sym, ap, subst, ◌∙◌, append_assoc, append-nil, arith, length-append}
use Rattle.std.specs.List.{AllByRecursion}
use Rattle.std.specs.FinMap as finite
use Rattle.std.proofs.lemmas.List.{map-append, drop-append-le, drop_all, drop-drop}
use Rattle.std.proofs.lemmas.Bool.Decides.{nat_tests}
use Rattle.std.specs.Iterator.{YieldsFirst}
use Rattle.itch_codec.specs.declared.message.Message.{Message}
use Rattle.itch_codec.specs.declared.message.Message.TheVariants as message
use Rattle.itch_codec.specs.Messages.{spelling, IsKeptWhole}
use Rattle.itch_codec.specs.Widths.{IsMessage}
use Rattle.itch_codec.proofs.Spelling.{spelling_small}
use Rattle.itch_frame.specs.Blocks.{IsPayload}
use Rattle.itch_book.specs.declared.order.Order.{Order}
use Rattle.itch_book.specs.Orders as book
use Rattle.itch_book.proofs.Lists.{All-append_rec, All-right_rec}
use Rattle.itch_market.specs.declared.security.Action.{Action}
use Rattle.itch_market.specs.Content.{Content, Listing}
use Rattle.itch_market.specs.GoodMarkets.{IsGood}
use Rattle.itch_market.specs.Runs.{AreMessages}
use Rattle.itch_snapshot.specs.Snapshot.{snap, event_part, action_part, sho_part, halt_part, position_part, states_part, add_of, attributed, order_part, locate_messages, locate_part}
use Rattle.itch_snapshot.proofs.SpelledMessages.{snap_messages}
use Rattle.itch_soup.specs.declared.login.ServerConfig.{ServerConfig}
use Rattle.itch_soup.specs.declared.connection.SessionStage.{SessionStage}
use Rattle.itch_soup.specs.declared.packet.LoginRequest.{LoginRequest}
use Rattle.itch_soup.specs.declared.server.ServerAct.{ServerAct}
use Rattle.itch_soup.specs.declared.server.ServerAct.TheVariants as act
use Rattle.itch_soup.specs.Servers.{judged}
use Rattle.itch_soup.specs.Packets.{packet_spelling}
use Rattle.itch_frame.specs.Writing.{WriteBlock, WriteBlocks}
use Rattle.itch_frame.specs.declared.tally.Failures.{Failures}
use Rattle.itch_frame.specs.declared.fault.FrameFault.{FrameFault}
use Rattle.itch_soup.specs.Sending.{data_packet, messages, messages_from, session_packets, end_part, FitPackets, packets_for, served_packets, verdict, Sends, SendsPackets}
use Rattle.itch_soup.proofs.SentBlocks.{none_sent, one_sent, one_failed, sent_then, sent_short}

-- a decoded message
abbrev pub IsDecoded : Message → Type 0
IsDecoded x = IsKeptWhole x → ⊥

-- the packet of such a message fits a block
pub packet_fits : (x : Message) → IsMessage x → IsDecoded x → IsPayload (packet_spelling (data_packet x))
packet_fits x fits decoded = let small = spelling_small x fits decoded in omega (arith, length-append (spelling x) [])

-- all messages of a snapshot list are decoded
event_decoded : (event : Option ℕ) → AllByRecursion IsDecoded (event_part event)
event_decoded None = tt
event_decoded (Some code) = (λ kept. kept, tt)

action_decoded : (locate : ℕ) (stock : List ℕ) (action : Option Action) → AllByRecursion IsDecoded (action_part locate stock action)
action_decoded locate stock None = tt
action_decoded locate stock (Some action) = (λ kept. kept, tt)

sho_decoded : (locate : ℕ) (stock : List ℕ) (sho : Option ℕ) → AllByRecursion IsDecoded (sho_part locate stock sho)
sho_decoded locate stock None = tt
sho_decoded locate stock (Some sho) = (λ kept. kept, tt)

each_decoded : {A : Type 0} (message : A → Message) → ((a : A) → IsDecoded (message a)) → (xs : List A) → AllByRecursion IsDecoded (map message xs)
each_decoded message decoded [] = tt
each_decoded message decoded (x ∷ xs) = (decoded x, each_decoded message decoded xs)

states_decoded : (locate : ℕ) (s : Listing) → AllByRecursion IsDecoded (states_part locate s)
states_decoded locate s =
    let stock = s.entry.stock in
    let halts = map (halt_part locate stock) (finite.entries s.halts) in
    let positions = map (position_part locate stock) (finite.entries s.positions) in
    All-append_rec IsDecoded (action_part locate stock s.action) (sho_part locate stock s.sho ++ (halts ++ positions)) (action_decoded locate stock s.action)
    (All-append_rec IsDecoded (sho_part locate stock s.sho) (halts ++ positions) (sho_decoded locate stock s.sho)
    (All-append_rec IsDecoded halts positions
    (each_decoded (halt_part locate stock) (λ e kept. kept) (finite.entries s.halts))
    (each_decoded (position_part locate stock) (λ e kept. kept) (finite.entries s.positions))))

order_decoded : (stock : List ℕ) (x : Order) → IsDecoded (order_part stock x)
order_decoded stock x = one x.mpid where
  one : (mpid : Option (List ℕ)) → IsDecoded (attributed (add_of stock x) mpid)
  one None = λ kept. kept
  one (Some mpid) = λ kept. kept

locate_decoded : (e : ℕ × Listing) (os : List Order) → AllByRecursion IsDecoded (locate_messages e os)
locate_decoded e os =
    let stock = e.1.entry.stock in (
      λ kept. kept,
      All-append_rec IsDecoded (states_part e.0 e.1) (map (order_part stock) os) (states_decoded e.0 e.1)
          (each_decoded (order_part stock) (order_decoded stock) os),
    )

locates_decoded : (orders : List Order) (es : List (ℕ × Listing)) → AllByRecursion IsDecoded (flat_map (locate_part orders) es)
locates_decoded orders [] = tt
locates_decoded orders (e ∷ es) =
    All-append_rec IsDecoded (locate_part orders e) (flat_map (locate_part orders) es) (locate_decoded e (book.sides orders e.0)) (locates_decoded orders es)

snap_decoded : (m : Content) → AllByRecursion IsDecoded (snap m)
snap_decoded m =
    All-append_rec IsDecoded (event_part m.event) (flat_map (locate_part m.orders) (finite.entries m.securities)) (event_decoded m.event)
    (locates_decoded m.orders (finite.entries m.securities))

packets_fit : (xs : List Message) → AreMessages xs → AllByRecursion IsDecoded xs → FitPackets xs
packets_fit [] fit decoded = tt
packets_fit (x ∷ xs) fit decoded = (packet_fits x fit.0 decoded.0, packets_fit xs fit.1 decoded.1)

pub drop_fits : (n : ℕ) (xs : List Message) → FitPackets xs → FitPackets (drop n xs)
drop_fits zero xs fit = fit
drop_fits (suc n) [] fit = tt
drop_fits (suc n) (x ∷ xs) fit = drop_fits n xs fit.1

-- the packets of a good market's snapshot fit blocks, from any number on
pub snap_fits : (m : Content) (n : ℕ) → IsGood m → FitPackets (drop n (snap m))
snap_fits m n good = drop_fits n (snap m) (packets_fit (snap m) (snap_messages m good) (snap_decoded m))

-- the messages from a number on are those of the snapshot list, and the End of Snapshot if it is among them
pub from_parts : (m : Content) (next n : ℕ) (with_end : Bool) → (with_end ≡ true → n - 1 ≤ length (snap m)) → (with_end ≡ false → length (snap m) < n - 1)
    → messages_from n m next ≡ drop (n - 1) (snap m) ++ end_part with_end next
from_parts m next n true early late = drop-append-le (n - 1) (snap m) (message.End next ∷ []) (early refl)
from_parts m next n false early late =
    let following = late refl in
    drop_all (n - 1) (messages m next) (omega (arith, length-append (snap m) (message.End next ∷ [])))
    ∙ sym (append-nil (drop (n - 1) (snap m)) ∙ drop_all (n - 1) (snap m) (omega arith))

-- the packets after an acceptance, in the two parts in which they are sent
pub session_parts : (xs ys : List Message)
    → map packet_spelling (session_packets (xs ++ ys)) ≡ map packet_spelling (map data_packet xs) ++ map packet_spelling (session_packets ys)
session_parts xs ys =
    ap (map packet_spelling) (regroup xs) ∙ map-append packet_spelling (map data_packet xs) (session_packets ys) where
      regroup : (zs : List Message) → session_packets (zs ++ ys) ≡ map data_packet zs ++ session_packets ys
      regroup [] = refl
      regroup (z ∷ zs) = ap (λ ps. data_packet z ∷ ps) (regroup zs)

module _ {W : Type 0} (contents : W → Option (List ℕ)) (failures : W → Failures) where
  data_push : (seen : List Message) (x : Message) → map packet_spelling (map data_packet (seen ++ x ∷ [])) ≡ map packet_spelling (map data_packet seen) ++ packet_spelling (data_packet x) ∷ []
  data_push seen x = ap (map packet_spelling) (map-append data_packet seen (x ∷ [])) ∙ map-append packet_spelling (map data_packet seen) (data_packet x ∷ [])

  -- the packets of these messages were sent, and the others remain
  pub record DataSent (all : List Message) (old : W) (seen left : List Message) (count : ℕ) (new : W) : Type 0 where
    pub whole : all ≡ seen ++ left
    pub sent : SendsPackets contents failures {T = Unit {0}} old (map data_packet seen) (Ok tt) new
    pub counted : count ≡ length seen

  pub no_data : (all : List Message) (old : W) → DataSent all old [] all 0 old
  no_data all old = record { whole = refl; sent = none_sent contents failures old; counted = refl }

  -- one more message was sent
  pub data_sent : (all : List Message) (old mid new : W) (seen left rest : List Message) (count : ℕ) (x : Message) → DataSent all old seen left count mid → left ≡ x ∷ rest
      → WriteBlock contents failures mid (packet_spelling (data_packet x)) (Ok tt) new → DataSent all old (seen ++ x ∷ []) rest (count + 1) new
  data_sent all old mid new seen left rest count x so_far next wrote = record {
    whole = so_far.whole ∙ ap (λ ms. seen ++ ms) next ∙ sym (append_assoc seen (x ∷ []) rest);
    sent =
        subst (λ ps. Sends contents failures {T = Unit {0}} old ps (Ok tt) new) (sym (data_push seen x))
        (one_sent contents failures old mid new (map packet_spelling (map data_packet seen)) (packet_spelling (data_packet x)) so_far.sent wrote);
    counted = omega (arith, so_far.counted, length-append seen (x ∷ []));
  }

  -- or it was not
  pub data_failed : (T : Type 0) (all : List Message) (old mid new : W) (seen left rest : List Message) (count : ℕ) (x : Message) (fault : FrameFault) → FitPackets all → DataSent all old seen left count mid
      → left ≡ x ∷ rest → WriteBlock contents failures mid (packet_spelling (data_packet x)) (Err fault) new → SendsPackets contents failures {T = T} old (map data_packet all) (Err fault) new
  data_failed T all old mid new seen left rest count x fault fit so_far next wrote =
      let messages_are : all ≡ seen ++ x ∷ rest = so_far.whole ∙ ap (λ ms. seen ++ ms) next in
      let following : FitPackets (x ∷ rest) = All-right_rec (λ m. IsPayload (packet_spelling (data_packet m))) seen (x ∷ rest) (subst FitPackets messages_are fit) in
      one_failed contents failures T old mid new (map packet_spelling (map data_packet seen)) (packet_spelling (data_packet x)) (map packet_spelling (map data_packet rest))
      (map packet_spelling (map data_packet all)) fault
      (ap (λ ms. map packet_spelling (map data_packet ms)) messages_are ∙ ap (map packet_spelling) (map-append data_packet seen (x ∷ rest))
      ∙ map-append packet_spelling (map data_packet seen) (map data_packet (x ∷ rest)))
      following.0 so_far.sent wrote

  -- or all were
  pub all_data : (all : List Message) (old new : W) (seen left : List Message) (count : ℕ) → DataSent all old seen left count new → left ≡ []
      → SendsPackets contents failures {T = ℕ} old (map data_packet all) (Ok count) new × (count ≡ length all)
  all_data all old new seen left count so_far none =
      let is : all ≡ seen = so_far.whole ∙ ap (λ ms. seen ++ ms) none ∙ append-nil seen in
      (subst (λ ms. SendsPackets contents failures {T = ℕ} old (map data_packet ms) (Ok count) new) (sym is) so_far.sent, so_far.counted ∙ sym (ap length is))

  -- the parts of an answer: the messages of the snapshot list, and the end
  module _ (m : Content) (next n : ℕ) (xs : List Message) (passed len : ℕ)
      (xs_are : xs ≡ drop passed (snap m)) (passed_is : passed ≡ n - 1) (len_is : len ≡ length (snap m)) where
    abbrev body : List (List ℕ)
    body = map packet_spelling (map data_packet xs)

    abbrev end : List (List ℕ)
    end = map packet_spelling (session_packets (end_part (nat_le passed len) next))

    messages_are : messages_from n m next ≡ xs ++ end_part (nat_le passed len) next
    messages_are =
        from_parts m next n (nat_le passed len) (λ within. grind (arith, nat_tests, passed_is, len_is)) (λ beyond. grind (arith, nat_tests, passed_is, len_is))
        ∙ ap (λ ms. ms ++ end_part (nat_le passed len) next) (sym (xs_are ∙ ap (λ k. drop k (snap m)) passed_is))

    pub all_counted : (count last : ℕ) → count ≡ length xs → last ≡ length (end_part (nat_le passed len) next) → count + last ≡ length (messages_from n m next)
    all_counted count last counted last_counted =
        omega (arith, counted, last_counted, ap length messages_are, length-append xs (end_part (nat_le passed len) next))

    parts : map packet_spelling (session_packets (messages_from n m next)) ≡ body ++ end
    parts = ap (λ ms. map packet_spelling (session_packets ms)) messages_are ∙ session_parts xs (end_part (nat_le passed len) next)

    pub failed_at_data : (T : Type 0) (old new : W) (fault : FrameFault) → Sends contents failures {T = T} old body (Err fault) new
        → SendsPackets contents failures {T = T} old (session_packets (messages_from n m next)) (Err fault) new
    failed_at_data T old new fault failed =
        subst (λ ps. Sends contents failures {T = T} old ps (Err fault) new) (sym parts) (sent_short contents failures T T old new body end fault failed)

    pub sent_with_end : {T U : Type 0} (old mid new : W) (y : T) (result : Result U FrameFault) → Sends contents failures old body (Ok y) mid → Sends contents failures mid end result new
        → SendsPackets contents failures old (session_packets (messages_from n m next)) result new
    sent_with_end old mid new y result first second =
        subst (λ ps. Sends contents failures old ps result new) (sym parts) (sent_then contents failures old mid new body end y result first second)

-- a login is rejected, but the packet of the rejection was not written completely
pub rejected : {W : Type 0} (contents : W → Option (List ℕ)) (failures : W → Failures) (m : Content) (next : ℕ) (config : ServerConfig) (login : LoginRequest) (total code : ℕ) (answer : ServerAct × SessionStage)
    (fault : FrameFault) (old new : W) → total ≡ length (snap m) → answer ≡ judged config (total + 1) login → answer.0 ≡ act.Reject code
    → WriteBlock contents failures old (74 ∷ code ∷ []) (Err fault) new → WriteBlocks contents failures old (map packet_spelling (served_packets m next config login)) (Err fault) new
rejected contents failures m next config login total code answer fault old new all judged_is is wrote =
    let size : total + 1 ≡ length (messages m next) = omega (arith, all, length-append (snap m) (message.End next ∷ [])) in
    let decided : verdict m next config login ≡ act.Reject code = ap (λ n. (judged config n login).0) (sym size) ∙ ap (λ (a : ServerAct × SessionStage). a.0) (sym judged_is) ∙ is in
    subst (λ a. WriteBlocks contents failures old (map packet_spelling (packets_for m next config a)) (Err fault) new) (sym decided)
    (one_failed contents failures (Unit {0}) old old new [] (74 ∷ code ∷ []) [] ((74 ∷ code ∷ []) ∷ []) fault refl (omega arith) (none_sent contents failures old) wrote)

-- the first of the remaining messages was skipped
pub one_passed : (all old new : List Message) (count : ℕ) (found : Option Message) → YieldsFirst (λ (s : List Message). s) old found new → old ≡ drop count all → new ≡ drop (count + 1) all
one_passed all old new count None steps is = steps.1 ∙ sym (ap (drop 1) (sym is ∙ steps.0)) ∙ drop-drop 1 count all
one_passed all old new count (Some x) steps is = sym (ap (drop 1) (sym is ∙ steps)) ∙ drop-drop 1 count all
