-- The result of a replay of a file whose bytes are known.
use Rattle.std.proofs.Common.{◌≡◌, ℕ, ◌-◌, ◌^◌, ◌≤◌, ◌==◌, List, ◌++◌, map, length, take, Option, None, Some, IfSome, sym, ap, subst, ◌∙◌, inl, inr}
use Rattle.std.specs.Option.{option_map}
use Rattle.std.proofs.lemmas.Bool.{eqb-true}
use Rattle.std.proofs.Math.Seq.{take-append_seam}
use Rattle.itch_codec.specs.declared.fault.CodecFault.{CodecFault}
use Rattle.itch_codec.specs.Messages.{fault, message_of}
use Rattle.itch_frame.specs.Blocks.{block, blocks, Ends, Open, Day}
use Rattle.itch_frame.proofs.Days.{front_of_day}
use Rattle.itch_frame.specs.declared.fault.FrameFault.TheVariants.{Read, Truncated, Write, TooLong}
use Rattle.itch_market.specs.declared.refusal.Refusal.{Refusal}
use Rattle.itch_market.specs.declared.stop.Stop.{Stop}
use Rattle.itch_market.specs.declared.stop.Stop.TheVariants.{End, Frame, Codec, Rule, TooManyMessages}
use Rattle.itch_market.specs.Content.{Content, laid}
use Rattle.itch_market.specs.Reasons.{reason}
use Rattle.itch_market.specs.Effects.{takes_memory}
use Rattle.itch_market.specs.Runs.{after}
use Rattle.itch_market.specs.Stops.{cause_by, cause, Stops}
use Rattle.itch_market.specs.Replays.{IsRefusal, Refuses, TakesOff, Halts, Takes, Replays, IsDecided}
use Rattle.itch_market.proofs.ReplayProgress.{not_full}
use Rattle.itch_market.proofs.ReplayStops.{none_ends, one_stops, full_stops, ends_stop, open_stops}

-- a payload with a fault is not taken for that reason
faulty : (m : Content) (p : List ℕ) (f : CodecFault) → fault p ≡ Some f → cause m p ≡ Some (Codec f)
faulty m p f is = ap (λ o. cause_by o m p) is

-- a message is refused for its reason, unless memory ran out
pub refused : (m : Content) (p : List ℕ) (why : Refusal) → IsDecided (Rule why) → Refuses m p why → cause m p ≡ Some (Rule why)
refused m p why decided (clean, refusal) = ap (λ o. cause_by o m p) clean ∙ ap (option_map Rule) (by_reason (reason m (message_of p)) refusal) where
  by_reason : (r : Option Refusal) → IsRefusal r (takes_memory m (message_of p)) why → r ≡ Some why
  by_reason None (wanting, takes) = absurd (subst (λ w. IsDecided (Rule w)) wanting decided)
  by_reason (Some r) same = ap Some (sym same)

-- the rest of the file follows the payloads that were taken
module _ (m n : Content) (b c : List ℕ) (ps : List (List ℕ)) (takes : Takes m (Some b) (Some c) ps n) (few : length ps ≤ 10 ^ 19 - 1) where
  ended : Ends c → Stops m b (length ps) End
  ended ends = subst (Stops m b (length ps)) (ends_stop c ends) (none_ends m b ps c (record { whole = takes.bytes; each = takes.full; last = inl ends }) few takes.none)

  cut : Open c → Stops m b (length ps) (Frame (Truncated (length c)))
  cut part = subst (Stops m b (length ps)) (open_stops c part) (none_ends m b ps c (record { whole = takes.bytes; each = takes.full; last = inr part }) few takes.none)

  -- a block that is not empty came off the front of the rest
  one_more : (new : Option (List ℕ)) (p : List ℕ) → TakesOff (Some c) new p → (unread : List ℕ) × (b ≡ blocks ps ++ (block p ++ unread))
  one_more None p off = absurd off.1
  one_more (Some d) p off = (d, takes.bytes ∙ ap (λ t. blocks ps ++ t) off.1)

  decided_by : (new : Option (List ℕ)) (stop : Stop) → Halts (length ps == 10 ^ 19 - 1) (after m (map message_of ps)) (Some c) new stop → IsDecided stop → Stops m b (length ps) stop
  decided_by new End (inl at_end) decided = ended (inl at_end)
  decided_by None End (inr empty) decided = absurd empty
  decided_by (Some d) End (inr empty) decided = ended (inr (d, empty))
  decided_by new (Frame (Truncated held)) (part, count) decided = subst (λ h. Stops m b (length ps) (Frame (Truncated h))) (sym count) (cut part)
  decided_by new (Frame (Read error)) halts decided = absurd decided
  decided_by new (Frame (Write sent error)) halts decided = absurd halts
  decided_by new (Frame TooLong) halts decided = absurd halts
  decided_by new (Codec f) (p, off, room, is) decided =
      let more = one_more new p off in
      one_stops m b more.0 ps p (Codec f) more.1 takes.full off.0 (not_full (length ps) few room) takes.none (faulty (after m (map message_of ps)) p f is)
  decided_by new (Rule why) (p, off, room, refuses) decided =
      let more = one_more new p off in
      one_stops m b more.0 ps p (Rule why) more.1 takes.full off.0 (not_full (length ps) few room) takes.none (refused (after m (map message_of ps)) p why decided refuses)
  decided_by new TooManyMessages (p, off, full) decided =
      let more = one_more new p off in
      full_stops m b more.0 ps p more.1 takes.full off.0 (eqb-true (length ps) (10 ^ 19 - 1) full) takes.none

-- the stop of a replay is the stop of the file
pub replays_stop : (m n : Content) (old new : Option (List ℕ)) (count : ℕ) (stop : Stop) → Replays m old new count stop n → IfSome old (λ b. IsDecided stop → Stops m b count stop)
replays_stop m n None new count stop replays = tt
replays_stop m n (Some b) new count stop (ps, None, takes, counted, few, halts) = absurd takes.bytes
replays_stop m n (Some b) new count stop (ps, Some c, takes, counted, few, halts) = λ decided.
    subst (λ k. Stops m b k stop) counted
    (decided_by m n b c ps takes (subst (λ k. k ≤ 10 ^ 19 - 1) (sym counted) few) new stop
    (subst (λ k. Halts (k == 10 ^ 19 - 1) (after m (map message_of ps)) (Some c) new stop) (sym counted) halts) decided)

-- the market afterwards is that of the file's first messages
pub replays_content : (m n : Content) (old new : Option (List ℕ)) (count : ℕ) (stop : Stop) → Replays m old new count stop n
    → IfSome old (λ b. (ps : List (List ℕ)) → (rest : List ℕ) → Day b ps rest → n ≡ laid (after m (map message_of (take count ps))))
replays_content m n None new count stop replays = tt
replays_content m n (Some b) new count stop (done, None, takes, counted, few, halts) = absurd takes.bytes
replays_content m n (Some b) new count stop (done, Some c, takes, counted, few, halts) = λ ps rest day.
    let front = front_of_day done ps b c rest takes.full takes.bytes day in
    let first : take count ps ≡ done = ap (λ k. take k ps) (sym counted) ∙ ap (take (length done)) front.1 ∙ take-append_seam done front.0 in
    takes.left ∙ ap (λ qs. laid (after m (map message_of qs))) (sym first)
