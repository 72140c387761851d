-- The progress of a command that copies a snapshot file, and one more block.
use Rattle.std.proofs.Common.{◌≡◌, ℕ, ◌+◌, ◌-◌, ◌≤◌, ◌^◌, List, map, Option, None, Ok, Err, refl, sym, subst, inl, inr}
use Rattle.itch_codec.specs.Messages.{message_of}
use Rattle.itch_market.specs.Content.{Content, empty, laid}
use Rattle.itch_market.specs.GoodMarkets.{IsGood}
use Rattle.itch_market.specs.Runs.{after}
use Rattle.itch_market.specs.Replays.{Takes}
use Rattle.itch_market.proofs.Causes.{refuses-laid}
use Rattle.itch_market.proofs.ReplayProgress.{Going, going_on}
use Rattle.itch_snapshot.specs.declared.fault.SnapFault.{SnapFault}
use Rattle.itch_snapshot.specs.declared.fault.SnapFault.TheVariants.{NoEnd, Frame, Codec, Rule, AfterEnd, TooManyMessages}
use Rattle.itch_snapshot.specs.Reads.{ReadsNext, ReadsEnd, ReadsAll, ReadsSnapshot}

-- if no message is taken the market is unchanged
fault_leaves : (taken : ℕ) (m n : Content) (old new : Option (List ℕ)) (fault : SnapFault) → ReadsNext taken m old new (Err fault) n → n ≡ m
fault_leaves taken m n old new NoEnd (same, ends) = same
fault_leaves taken m n old new (Frame f) (same, fails) = same
fault_leaves taken m n old new (Codec place f) (payload, off, (room, here, (same, is))) = same
fault_leaves taken m n old new (Rule place why) (payload, off, (room, here, no_end, (same, refuses))) = same
fault_leaves taken m n old new TooManyMessages (payload, off, (full, no_end, same)) = same
fault_leaves taken m n old new AfterEnd h = absurd h

-- a laid market gives the same fault
fault-laid : (taken : ℕ) (m n : Content) (old new : Option (List ℕ)) (fault : SnapFault) → IsGood m → ReadsNext taken (laid m) old new (Err fault) n → ReadsNext taken m old new (Err fault) m
fault-laid taken m n old new NoEnd good (same, ends) = (refl, ends)
fault-laid taken m n old new (Frame f) good (same, fails) = (refl, fails)
fault-laid taken m n old new (Codec place f) good (payload, off, (room, here, (same, is))) = (payload, off, (room, here, (refl, is)))
fault-laid taken m n old new (Rule place why) good (payload, off, (room, here, no_end, (same, refuses))) = (payload, off, (room, here, no_end, (refl, refuses-laid m payload why good refuses)))
fault-laid taken m n old new TooManyMessages good (payload, off, (full, no_end, same)) = (payload, off, (full, no_end, refl))
fault-laid taken m n old new AfterEnd good h = absurd h

-- a message was taken
pub message_read : (m : Content) (old mid new : Option (List ℕ)) (taken : ℕ) (n k : Content) → Going m old mid taken n → ReadsNext taken n mid new (Ok None) k → Going m old new (taken + 1) k
message_read m old mid new taken n k going (payload, off, (room, took)) = going_on m old mid new taken n k going (payload, off, room, took)

-- or none was
pub fault_read : (m : Content) (old mid new : Option (List ℕ)) (taken : ℕ) (n k : Content) (fault : SnapFault) → Going m old mid taken n → ReadsNext taken n mid new (Err fault) k → ReadsAll m old new (Err fault) k
fault_read m old mid new taken n k fault going h =
    let so_far = after m (map message_of going.payloads) in (
      going.payloads,
      mid,
      subst (Takes m old mid going.payloads) (sym (fault_leaves taken n k mid new fault h)) going.takes,
      subst (λ c. c ≤ 10 ^ 19 - 1) (sym going.counted) going.few,
      subst (λ c. ReadsNext c so_far mid new (Err fault) so_far) (sym going.counted)
          (fault-laid taken so_far k mid new fault going.good (subst (λ x. ReadsNext taken x mid new (Err fault) k) going.takes.left h)),
    )

-- a snapshot is read into an empty market: there is a fault up to its End of Snapshot, or after it
pub first_fault : (m : Content) (old new : Option (List ℕ)) (n : Content) (fault : SnapFault) → m ≡ empty → ReadsAll m old new (Err fault) n → ReadsSnapshot old new (Err fault)
first_fault m old new n fault begun reads = inl (n, subst (λ k. ReadsAll k old new (Err fault) n) begun reads)

pub later_fault : (m : Content) (old mid new : Option (List ℕ)) (n : Content) (next : ℕ) (fault : SnapFault) → m ≡ empty → ReadsAll m old mid (Ok next) n → ReadsEnd mid new (Err fault) → ReadsSnapshot old new (Err fault)
later_fault m old mid new n next fault begun reads following = inr (mid, next, n, subst (λ k. ReadsAll k old mid (Ok next) n) begun reads, following)

-- or there is none
pub no_fault : (m : Content) (old mid new : Option (List ℕ)) (n : Content) (next : ℕ) → m ≡ empty → ReadsAll m old mid (Ok next) n → ReadsEnd mid new (Ok tt) → ReadsSnapshot old new (Ok (n, next))
no_fault m old mid new n next begun reads following = (mid, subst (λ k. ReadsAll k old mid (Ok next) n) begun reads, following)
