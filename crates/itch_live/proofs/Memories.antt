-- The bytes that a server holds.
use Rattle.std.proofs.Common.{◌≡◌, ℕ, ◌+◌, ◌*◌, ◌≤◌, max, List, [], ◌∷◌, length, Option, None, Some, refl, ap, arith}
use Rattle.itch_frame.specs.declared.tally.Failures.{Failures}
use Rattle.itch_codec.specs.Widths.{IsSequence}
use Rattle.itch_market.specs.GoodMarkets.{IsGood}
use Rattle.itch_join.specs.Positions.{Position}
use Rattle.itch_live.specs.Slots.{Slots}
use Rattle.itch_live.specs.Kept.{length_or, snapshot_bytes}
use Rattle.itch_live.specs.Follows.{Following}
use Rattle.itch_live.specs.LiveServers.{LiveServer, encoded_for, Call, Feeds, Admits, Hears, Answers, Takes, Ticks, Leaves, Event, History}
use Rattle.itch_live.specs.Memory.{splitter_bytes, clients, held_bytes, most_bytes, handed_at, handed_by, largest_limit, longest, messages_at, messages_by, most_messages, IsOfMarket, AreOfMarkets}
use Rattle.itch_live.proofs.Present.{AreFitting, right_encoded, all_fit}
use Rattle.itch_live.proofs.Keeping.{bytes_within}
use Rattle.itch_live.proofs.Lengths.{session_within}

few_clients : (slots : Slots) → clients slots ≤ length slots
few_clients [] = omega arith
few_clients (None ∷ slots) = let rest = few_clients slots in omega arith
few_clients (Some g ∷ slots) = let rest = few_clients slots in omega arith

-- if the greater of two numbers is at most a third, so is the first
max_first : (a b most : ℕ) → max a b ≤ most → a ≤ most
max_first a b most h = omega arith

max_second : (a b most : ℕ) → max a b ≤ most → b ≤ most
max_second a b most h = omega arith

pub within_longest : {W : Type 0} (contents : W → Option (List ℕ)) (failures : W → Failures) (begun : Following) (past : List (Event W)) (d : LiveServer)
    → AreOfMarkets past → History contents failures begun past d → held_bytes d ≤ most_bytes (length d.slots) (max (largest_limit past) (longest past))
within_longest contents failures begun past d markets history =
    let most = max (largest_limit past) (longest past) in
    let bytes = bytes_within contents failures most begun past d markets history (omega arith) (omega arith) in
    sums (clients d.slots) (length d.slots) (snapshot_bytes d.slots) most (few_clients d.slots) bytes where
      sums : (c places bytes most : ℕ) → c ≤ places → bytes ≤ most → splitter_bytes + c * splitter_bytes + bytes ≤ splitter_bytes + places * splitter_bytes + most
      sums c places bytes most few within = omega (arith, few, within)

-- the size of snapshots by their messages ------------------------------------------

module _ {W : Type 0} (contents : W → Option (List ℕ)) (failures : W → Failures) (most : ℕ) where
  -- an answer with the snapshot of the current market
  answer_short : (d : LiveServer) (limit : ℕ) (o : Option Position) → AreFitting o d.slots → ((j : Position) → o ≡ Some j → IsGood j.market × IsSequence j.next)
      → messages_at o ≤ most → handed_at o limit d ≤ 43 * most + 128
  answer_short d limit None fits markets few = omega arith
  answer_short d limit (Some j) fits markets few = by_encoded (encoded_for limit d.slots j.market j.next) refl where
    by_encoded : (encoded : Option (List ℕ)) → encoded_for limit d.slots j.market j.next ≡ encoded → length_or encoded ≤ 43 * most + 128
    by_encoded None none = omega arith
    by_encoded (Some bytes) is =
        let of_market = markets j refl in
        let whole_is = right_encoded limit d.slots j bytes fits is in
        let short = session_within j.market j.next of_market.0 of_market.1 in
        omega (arith, ap length whole_is, short, few)

  call_short : (d : LiveServer) (call : Call W) → AreFitting d.following.joining.state.joined d.slots → IsOfMarket d call → messages_by d call ≤ most
      → handed_by d call ≤ 43 * most + 128
  call_short d (Feeds did) fits market few = omega arith
  call_short d (Admits config now result) fits market few = omega arith
  call_short d (Hears place piece now count) fits market few = omega arith
  call_short d (Answers limit now count) fits market few = answer_short d limit d.following.joining.state.joined fits market few
  call_short d (Takes place count now) fits market few = omega arith
  call_short d (Ticks now) fits market few = omega arith
  call_short d (Leaves place) fits market few = omega arith

  longest_by : (begun : Following) (past : List (Event W)) (d : LiveServer) → History contents failures begun past d → AreOfMarkets past → most_messages past ≤ most
      → longest past ≤ 43 * most + 128
  longest_by begun [] d history markets few = omega arith
  longest_by begun (x ∷ past) d (took, before) (market, markets) few =
      let first =
      call_short x.before x.call (all_fit contents failures begun past x.before before) market
      (max_first (messages_by x.before x.call) (most_messages past) most few) in
      let rest = longest_by begun past x.before before markets (max_second (messages_by x.before x.call) (most_messages past) most few) in
      both (handed_by x.before x.call) (longest past) first rest where
        both : (a b : ℕ) → a ≤ 43 * most + 128 → b ≤ 43 * most + 128 → max a b ≤ 43 * most + 128
        both a b one other = omega arith

pub longest_within : {W : Type 0} (contents : W → Option (List ℕ)) (failures : W → Failures) (begun : Following) (past : List (Event W)) (d : LiveServer)
    → AreOfMarkets past → History contents failures begun past d → longest past ≤ 43 * most_messages past + 128
longest_within contents failures begun past d markets history =
    longest_by contents failures (most_messages past) begun past d history markets (omega arith)
