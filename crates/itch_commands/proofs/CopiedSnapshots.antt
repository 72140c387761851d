-- The progress of copying a snapshot, one more block, and the bytes after its End of Snapshot.
use Rattle.std.proofs.Common.{Bool, ◌≡◌, ◌≢◌, ℕ, ◌+◌, ◌-◌, ◌<◌, ◌≤◌, ◌^◌, ◌↔◌, true, false, List, [], ◌++◌, map, length, Option, None, Some, IfSome, Ok, Err, refl, sym, ap, subst, ◌∙◌, inl, inr, append-nil, arith}
use Rattle.std.proofs.lemmas.Bool.{true≢false}
use Rattle.std.specs.Io.KnownBytes.{Consumes, IsAtEnd}
use Rattle.std.proofs.KnownBytes.{Consumes-nil, Consumes-trans}
use Rattle.itch_book.proofs.Lists.{All-map_rec}
use Rattle.itch_codec.specs.Messages.{message_of}
use Rattle.itch_codec.specs.Widths.{IsMessage}
use Rattle.itch_frame.specs.Blocks.{block}
use Rattle.itch_frame.specs.Reading.{Reading, bytes_left}
use Rattle.itch_frame.specs.declared.tally.Failures.{Failures}
use Rattle.itch_market.specs.Content.{Content, empty, laid}
use Rattle.itch_market.specs.GoodMarkets.{IsGood}
use Rattle.itch_market.specs.Runs.{AreMessages, run}
use Rattle.itch_market.specs.Replays.{Takes}
use Rattle.itch_market.proofs.Causes.{none_follows}
use Rattle.itch_market.proofs.GoodMarkets.{run_good, laid_good}
use Rattle.itch_market.proofs.ReplayProgress.{Going, going_first}
use Rattle.itch_snapshot.specs.TakenMessages.{Load, begun}
use Rattle.itch_snapshot.specs.Reads.{ReadsNext, ReadsAll, ReadsEnd, CountsFault}
use Rattle.itch_snapshot.specs.Snapshot.{snap}
use Rattle.itch_snapshot.specs.declared.reader.SnapshotStage.TheVariants.{Taking}
use Rattle.itch_commands.proofs.SnapshotSteps.{message_read, fault_read, first_fault, later_fault, no_fault}
use Rattle.itch_snapshot.proofs.KnownFiles.{closes_here, reads_market, reads_fault}
use Rattle.itch_snapshot.proofs.WrittenFiles.{written_alone}
use Rattle.itch_commands.specs.Canons.{CountsRefusal, CopiesNext, CopiesAll, EndsFile, ChecksSnap}
use Rattle.itch_commands.specs.Outputs.{closed_bytes}
use Rattle.itch_commands.specs.Readings.{ReadsSnap}
use Rattle.itch_commands.specs.declared.fault.Source.TheVariants.{Only}
use Rattle.itch_commands.specs.declared.fault.ToolFault.{ToolFault}
use Rattle.itch_commands.specs.declared.fault.ToolFault.TheVariants as tool
use Rattle.itch_snapshot.proofs.DaySnapshots.{taken_short}

-- messages were taken, and the copy has the bytes that came off the front
pub record CopiedSoFar (old new : Option (List ℕ)) (load : Load) (count : ℕ) (copy : List ℕ) : Type 0 where
  pub going : Going empty old new load.taken load.market
  pub ready : load.stage ≡ Taking
  pub counted : load.taken ≡ count
  pub bytes : Consumes old new copy

-- at first none was taken
pub copied_first : (bytes : Option (List ℕ)) (load : Load) (copy : List ℕ) (m : Content) → IsGood m → laid m ≡ m → m ≡ load.market → load ≡ begun → copy ≡ [] → CopiedSoFar bytes bytes load 0 copy
copied_first bytes load copy m good in_place here first none =
    let start : m ≡ empty = here ∙ ap (λ (l : Load). l.market) first in
    let going : Going empty bytes bytes 0 empty = subst (λ k. Going k bytes bytes 0 k) start (going_first m bytes good in_place) in
    subst (λ k. CopiedSoFar bytes bytes k 0 copy) (sym first)
    (record { going = going; ready = refl; counted = refl; bytes = subst (Consumes bytes bytes) (sym none) (Consumes-nil bytes) })

-- a refusal is counted from the start
pub counts_more : (fault : ToolFault) (f g h : Failures) → g ≡ f → CountsRefusal fault g h → CountsRefusal fault f h
counts_more fault f g h same = subst (λ x. CountsRefusal fault x h) same

-- End of Snapshot came
end_read : (m : Content) (old mid new : Option (List ℕ)) (taken : ℕ) (n k : Content) (next : ℕ) → Going m old mid taken n → ReadsNext taken n mid new (Ok (Some next)) k → ReadsAll m old new (Ok next) k
end_read m old mid new taken n k next going (payload, off, (same, closes)) =
    (going.payloads, mid, subst (Takes m old mid going.payloads) (sym same) going.takes, subst (λ c. c ≤ 10 ^ 19 - 1) (sym going.counted) going.few, (payload, off, closes))

module _ (old mid new : Option (List ℕ)) (load : Load) (count : ℕ) (copy : List ℕ) (so_far : CopiedSoFar old mid load count copy) where
  -- then one more message came
  pub copied_on : (next : Load) (more : List ℕ) → CopiesNext load.taken load.market mid new copy (Ok None) next.market more → next.taken ≡ load.taken + 1 → next.stage ≡ Taking → CopiedSoFar old new next (count + 1) more
  copied_on next more (step, (bytes, off, same)) taken stage = record {
    going = subst (λ c. Going empty old new c next.market) (sym taken) (message_read empty old mid new load.taken load.market next.market so_far.going step);
    ready = stage;
    counted = taken ∙ ap (λ c. c + 1) so_far.counted;
    bytes = subst (Consumes old new) (sym same) (Consumes-trans old mid new copy bytes so_far.bytes off);
  }

  -- or the end came
  pub copied_end : (next : ℕ) (n : Content) (more : List ℕ) → CopiesNext load.taken load.market mid new copy (Ok (Some next)) n more → CopiesAll old new (Ok next) n more
  copied_end next n more (step, (bytes, off, same)) =
      (end_read empty old mid new load.taken load.market n next so_far.going step, subst (Consumes old new) (sym same) (Consumes-trans old mid new copy bytes so_far.bytes off))

  -- or it is refused
  pub copied_refused : (fault : ToolFault) (n : Content) (more : List ℕ) → CopiesNext load.taken load.market mid new copy (Err fault) n more → CopiesAll old new (Err fault) n more
  copied_refused (tool.Stopped at end) n more h = absurd h
  copied_refused (tool.Snap at fault) n more (only, step) = (only, fault_read empty old mid new load.taken load.market n fault so_far.going step)
  copied_refused (tool.Short at c) n more h = absurd h
  copied_refused tool.UnknownLocate n more h = absurd h
  copied_refused tool.UnknownStock n more h = absurd h
  copied_refused (tool.Write error) n more h = absurd h
  copied_refused tool.OutOfMemory n more (None, step) =
      let going = message_read empty old mid new load.taken load.market n so_far.going step in
      inl (going.payloads, n, going.takes, omega (arith, going.counted), subst (λ c. c ≤ 10 ^ 19 - 1) (sym going.counted) going.few)
  copied_refused tool.OutOfMemory n more (Some next, step) = inr (next, n, end_read empty old mid new load.taken load.market n next so_far.going step)
  copied_refused (tool.Open file error) n more h = absurd h
  copied_refused (tool.UnmetExpectation unmet) n more h = absurd h
  copied_refused (tool.FeedMismatch mismatch) n more h = absurd h
  copied_refused tool.BadLocates n more h = absurd h
  copied_refused tool.TooMany n more h = absurd h

-- the copy is the file, if its input is at its end
known_alone : (a b : Option (List ℕ)) (copy closed : List ℕ) (canonical : Bool) → Consumes a b copy → IsAtEnd b → ((canonical ≡ true) ↔ (copy ≡ closed)) → IfSome a (λ bytes. (canonical ≡ true) ↔ (bytes ≡ closed))
known_alone None b copy closed canonical off end same = tt
known_alone (Some x) None copy closed canonical off end same = absurd off
known_alone (Some x) (Some y) copy closed canonical off end same =
    subst (λ bytes. (canonical ≡ true) ↔ (bytes ≡ closed)) (sym (off ∙ ap (λ l. copy ++ l) end ∙ append-nil copy)) same

-- the market after the messages taken is good
taken_good : (b c : Option (List ℕ)) (ps : List (List ℕ)) (n : Content) → Takes empty b c ps n → IsGood n
taken_good b c ps n takes =
    let fit : AreMessages (map message_of ps) = All-map_rec IsMessage message_of ps takes.fits in
    subst IsGood (sym takes.left) (laid_good (run (map message_of ps)) (run_good (map message_of ps) fit (none_follows empty ps takes.none)))

-- a file with an empty block after its End of Snapshot is not canonical
never_closed : (x y z : List ℕ) (n : Content) (next : ℕ) → ReadsAll empty (Some x) (Some y) (Ok next) n → y ≡ block [] ++ z → x ≢ closed_bytes (n, next)
never_closed x y z n next (ps, None, takes, few, closes) empty_block same = absurd takes.bytes
never_closed x y z n next (ps, Some w, takes, few, closes) empty_block same =
    let file = closes_here x w y ps n next takes few closes in
    let short : length (snap n) < 10 ^ 19 = omega (arith, few, taken_short ps n takes.fits takes.none takes.left) in
    let none : y ≡ [] = written_alone x y (map message_of ps) next n (taken_good (Some x) (Some w) ps n takes) short file same in
    let clash : block [] ++ z ≡ [] = sym empty_block ∙ none in
    let no_one : ⊥ = cc in no_one

decided_ended : (a b c : Option (List ℕ)) (n : Content) (next : ℕ) → ReadsAll empty a b (Ok next) n → Consumes b c (block []) → IfSome a (λ bytes. (false ≡ true) ↔ (bytes ≡ closed_bytes (n, next)))
decided_ended None b c n next reads off = tt
decided_ended (Some x) None c n next (ps, None, takes, few, closes) empty_block = absurd takes.bytes
decided_ended (Some x) None c n next (ps, Some w, takes, few, (payload, off, closes)) empty_block = absurd off.1
decided_ended (Some x) (Some y) None n next reads off = absurd off
decided_ended (Some x) (Some y) (Some z) n next reads off =
    (λ wrong. absurd (true≢false (sym wrong)), λ same. absurd (never_closed x y z n next reads off same))

module _ {R : Type 0} (remaining : R → Option (List ℕ)) (failures : R → Failures) (old : Reading R) where
  -- the file was refused before its End of Snapshot
  pub refused_before : (new : Reading R) (fault : ToolFault) (n : Content) (copy : List ℕ) → CopiesAll (bytes_left remaining old) (bytes_left remaining new) (Err fault) n copy
      → CountsRefusal fault (failures old.reader) (failures new.reader) → ChecksSnap remaining failures old new (Err fault)
  refused_before new (tool.Stopped at end) n copy h counts = absurd h
  refused_before new (tool.Snap at fault) n copy (only, reads) counts =
      let steps = first_fault empty (bytes_left remaining old) (bytes_left remaining new) n fault refl reads in
      (only, steps, reads_fault (bytes_left remaining old) (bytes_left remaining new) (Err fault) steps, counts)
  refused_before new (tool.Short at c) n copy h counts = absurd h
  refused_before new tool.UnknownLocate n copy h counts = absurd h
  refused_before new tool.UnknownStock n copy h counts = absurd h
  refused_before new (tool.Write error) n copy h counts = absurd h
  refused_before new tool.OutOfMemory n copy room counts = (room, counts)
  refused_before new (tool.Open file error) n copy h counts = absurd h
  refused_before new (tool.UnmetExpectation unmet) n copy h counts = absurd h
  refused_before new (tool.FeedMismatch mismatch) n copy h counts = absurd h
  refused_before new tool.BadLocates n copy h counts = absurd h
  refused_before new tool.TooMany n copy h counts = absurd h

  module _ (mid new : Reading R) (n : Content) (next : ℕ) (copy : List ℕ) (reads : CopiesAll (bytes_left remaining old) (bytes_left remaining mid) (Ok next) n copy)
      (uncounted : failures mid.reader ≡ failures old.reader) where
    -- or after it
    pub refused_after : (fault : ToolFault) → EndsFile (bytes_left remaining mid) (bytes_left remaining new) (Err fault)
        → CountsRefusal fault (failures mid.reader) (failures new.reader) → ChecksSnap remaining failures old new (Err fault)
    refused_after (tool.Stopped at end) h counts = absurd h
    refused_after (tool.Snap at fault) (only, follows) counts =
        let steps = later_fault empty (bytes_left remaining old) (bytes_left remaining mid) (bytes_left remaining new) n next fault refl reads.0 follows in
        (only, steps, reads_fault (bytes_left remaining old) (bytes_left remaining new) (Err fault) steps, subst (λ f. CountsFault fault f (failures new.reader)) uncounted counts)
    refused_after (tool.Short at c) h counts = absurd h
    refused_after tool.UnknownLocate h counts = absurd h
    refused_after tool.UnknownStock h counts = absurd h
    refused_after (tool.Write error) h counts = absurd h
    refused_after tool.OutOfMemory h counts = absurd h
    refused_after (tool.Open file error) h counts = absurd h
    refused_after (tool.UnmetExpectation unmet) h counts = absurd h
    refused_after (tool.FeedMismatch mismatch) h counts = absurd h
    refused_after tool.BadLocates h counts = absurd h
    refused_after tool.TooMany h counts = absurd h

    -- or it was read
    file_read : ReadsEnd (bytes_left remaining mid) (bytes_left remaining new) (Ok tt) → failures new.reader ≡ failures mid.reader → ReadsSnap remaining failures Only old new (Ok (n, next))
    file_read ends counts =
        let steps = no_fault empty (bytes_left remaining old) (bytes_left remaining mid) (bytes_left remaining new) n next refl reads.0 ends in
        (reads_market (bytes_left remaining old) (bytes_left remaining new) (Ok (n, next)) steps, steps, counts ∙ uncounted)

    pub checked_alone : (canonical : Bool) → IsAtEnd (bytes_left remaining mid) → failures new.reader ≡ failures mid.reader → ((canonical ≡ true) ↔ (copy ≡ closed_bytes (n, next)))
        → ChecksSnap remaining failures old new (Ok canonical)
    checked_alone canonical end counts same =
        ((n, next), file_read (inl end) counts, known_alone (bytes_left remaining old) (bytes_left remaining mid) copy (closed_bytes (n, next)) canonical reads.1 end same)

    pub checked_ended : Consumes (bytes_left remaining mid) (bytes_left remaining new) (block []) → failures new.reader ≡ failures mid.reader → ChecksSnap remaining failures old new (Ok false)
    checked_ended off counts = ((n, next), file_read (inr off) counts, decided_ended (bytes_left remaining old) (bytes_left remaining mid) (bytes_left remaining new) n next reads.0 off)
