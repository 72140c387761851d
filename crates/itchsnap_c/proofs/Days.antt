-- A day file that was read, written as a snapshot and compared.
use mathlib.Core.Path.{fun_ext}
use Rattle.std.proofs.Common.{◌≡◌, ◌≢◌, ℕ, ◌+◌, ◌≤◌, ◌⊎◌, inl, inr, Bool, not, List, ◌++◌, map, length, Option, None, Some, IsSome, IfSome, IfOk, IfErr, Result, Ok, Err, sym, ap, ◌∙◌, subst, refl, arith}
use Rattle.std.specs.List.{AllByRecursion}
use Rattle.std.proofs.lemmas.List.Filters.{length-filter_both}
use Rattle.std.specs.declared.alloc.Global.{Global}
use Rattle.std.specs.declared.vec.Vec.{Vec}
use Rattle.itch_codec.specs.Messages.{spelling}
use Rattle.itch_codec.specs.declared.message.Message.{Message}
use Rattle.itch_frame.specs.Blocks.{blocks}
use Rattle.itch_frame.specs.Counting.{failed}
use Rattle.itch_frame.specs.Reading.{FailsHere}
use Rattle.itch_frame.specs.declared.fault.FrameFault.{FrameFault}
use Rattle.itch_frame.specs.declared.fault.FrameFault.TheVariants.{Read, Truncated, Write, TooLong}
use Rattle.itch_frame.specs.declared.tally.Failures.{Failures}
use Rattle.std.specs.declared.io.Error.{Error}
use Rattle.itch_market.specs.Content.{Content, empty, laid}
use Rattle.itch_market.specs.declared.refusal.Refusal.{Refusal}
use Rattle.itch_market.specs.declared.refusal.Refusal.TheVariants.{UnknownLocate, StockMismatch, ZeroShares, DuplicateRef, UnknownRef, LocateMismatch, TooManyShares, UnexpectedEnd, OutOfMemory}
use Rattle.itch_market.specs.Partial.{skips, kept, only}
use Rattle.itch_market.specs.Replays.{Fits, IsDecided, Counts}
use Rattle.itch_market.specs.Stops.{Stops}
use Rattle.itch_market.specs.declared.stop.Stop.{Stop}
use Rattle.itch_market.specs.declared.stop.Stop.TheVariants.{End, Frame, Codec, Rule, TooManyMessages}
use Rattle.itch_market.specs.Wanted.{Wanted, has}
use Rattle.itch_market.proofs.ReplayedFiles.{replays_stop}
use Rattle.itch_snapshot.specs.Bytes.{canon, closing}
use Rattle.itch_snapshot.specs.Files.{IsFaultOf}
use Rattle.itch_snapshot.specs.Reads.{IsDecidedFault, CountsFault, ReadsSnapshot}
use Rattle.itch_snapshot.specs.Snapshot.{snap}
use Rattle.itch_snapshot.specs.declared.fault.SnapFault.{SnapFault}
use Rattle.itch_snapshot.specs.declared.fault.SnapFault.TheVariants as snap_fault
use Rattle.itchsnap_c.specs.Markets.{IsRefusedFor}
use Rattle.itch_snapshot.proofs.PartialSnapshots.{snap_only}
use Rattle.itch_snapshot.proofs.OneSnapshot.{snap-laid}
use Rattle.itch_snapshot.proofs.CanonicalBytes.{canon-laid}
use Rattle.itch_day.specs.declared.limit.Limit.{Limit}
use Rattle.itch_market.specs.DayParts.{HaltsPart}
use Rattle.itch_market.specs.DayMessages.{AreTaken}
use Rattle.itch_market.proofs.DayMessages.{halts_replays, taken_good}
use Rattle.itch_snapshot.proofs.DaySnapshots.{taken_few}
use Rattle.itchsnap_c.specs.declared.answers.Written.{Written}
use Rattle.itchsnap_c.specs.Files.{market_of, outcome, RefusesDay}
use Rattle.itchsnap_c.specs.Blocks.{IsOfBlocks}
use Rattle.itchsnap_c.specs.Codes.{stop_answer}
use Rattle.itchsnap_c.specs.Snapshots.{is_listed, Writes, Puts, Closes, Spells}

-- a replay of a day file, or of its part, from the empty market has this stop
halts_first : (limit : Limit) (m n : Content) (day : List ℕ) (bytes new : Option (List ℕ)) (count : ℕ) (stop : Stop) → m ≡ empty → bytes ≡ Some day
    → HaltsPart limit m bytes new count stop n → HaltsPart limit empty (Some day) new count stop n
halts_first limit m n day bytes new count stop first known halts =
    subst (λ b. HaltsPart limit empty b new count stop n) known (subst (λ x. HaltsPart limit x bytes new count stop n) first halts)

-- the place where a day file stops the replay
halts_at : (limit : Limit) (n : Content) (day : List ℕ) (new : Option (List ℕ)) (count : ℕ) (stop : Stop) → HaltsPart limit empty (Some day) new count stop n
    → IsDecided stop → Stops empty day count stop
halts_at limit n day new count stop halts =
    replays_stop empty n (Some day) new count stop (halts_replays limit empty (Some day) new count stop n halts)

-- reads of memory cannot fail: the stop of a replay is caused by the file, or memory runs out
abbrev pub no_failures : Failures
no_failures = record { count = 0; last = None }

uncounted : (error : Error) → no_failures ≡ failed error no_failures → ⊥
uncounted error same = let h : None ≡ Some error = ap (λ f. f.last) same in cc

stop_decided : (stop : Stop) → Counts stop no_failures no_failures → IsDecided stop ⊎ (stop ≡ Rule OutOfMemory)
stop_decided End counts = inl tt
stop_decided (Frame (Truncated held)) counts = inl tt
stop_decided (Frame (Read error)) counts = absurd (uncounted error counts)
stop_decided (Frame (Write sent error)) counts = absurd counts
stop_decided (Frame TooLong) counts = absurd counts
stop_decided (Codec f) counts = inl tt
stop_decided (Rule UnknownLocate) counts = inl tt
stop_decided (Rule StockMismatch) counts = inl tt
stop_decided (Rule ZeroShares) counts = inl tt
stop_decided (Rule DuplicateRef) counts = inl tt
stop_decided (Rule UnknownRef) counts = inl tt
stop_decided (Rule LocateMismatch) counts = inl tt
stop_decided (Rule (TooManyShares remain)) counts = inl tt
stop_decided (Rule UnexpectedEnd) counts = inl tt
stop_decided (Rule OutOfMemory) counts = inr refl
stop_decided TooManyMessages counts = inl tt

refused_at_stop : (limit : Limit) (n : Content) (day : List ℕ) (new : Option (List ℕ)) (count : ℕ) (stop : Stop) → stop ≢ End
    → HaltsPart limit empty (Some day) new count stop n → IsDecided stop ⊎ (stop ≡ Rule OutOfMemory)
    → RefusesDay day limit (outcome count 0 (stop_answer stop).detail (stop_answer stop).code)
refused_at_stop limit n day new count stop going halts (inl decided) = inl (count, stop, refl, going, halts_at limit n day new count stop halts decided, (new, n, halts))
refused_at_stop limit n day new count stop going halts (inr memory) = inr (inr (
  count,
  ap (λ s. outcome count 0 (stop_answer s).detail (stop_answer s).code) memory,
  inr (new, n, subst (λ s. HaltsPart limit empty (Some day) new count s n) memory halts),
))

-- a day file, or its part, is refused for the stop of its replay
pub day_stopped : (limit : Limit) (m n : Content) (day : List ℕ) (bytes new : Option (List ℕ)) (count : ℕ) (stop : Stop) → m ≡ empty → bytes ≡ Some day → stop ≢ End
    → HaltsPart limit m bytes new count stop n → Counts stop no_failures no_failures → RefusesDay day limit (outcome count 0 (stop_answer stop).detail (stop_answer stop).code)
day_stopped limit m n day bytes new count stop first known going halts counts =
    refused_at_stop limit n day new count stop going (halts_first limit m n day bytes new count stop first known halts) (stop_decided stop counts)

-- or it has fewer messages than requested
pub day_short : (limit : Limit) (m n : Content) (day : List ℕ) (bytes new : Option (List ℕ)) (count : ℕ) → m ≡ empty → bytes ≡ Some day → IsSome limit.after
    → HaltsPart limit m bytes new count End n → RefusesDay day limit (outcome count 0 0 37)
day_short limit m n day bytes new count first known wanted halts =
    let from_empty = halts_first limit m n day bytes new count End first known halts in
    inr (inl (count, refl, (wanted, halts.0), halts_at limit n day new count End from_empty tt, (new, n, from_empty)))

-- a restricted market has no more messages
module _ (wanted : ℕ → Bool) (m : Content) where
  abbrev passes : Message → Bool
  passes x = not (skips wanted x)

  pub cut_shorter : length (snap (only wanted m)) ≤ length (snap m)
  cut_shorter = omega (arith, ap length (snap_only wanted m), length-filter_both passes (λ x. not (passes x)) (λ x. refl) (snap m))

-- sets with the same locates restrict a market to the same bytes
pub same_cut : (set : Wanted) (locates : List ℕ) (m : Content) (next : ℕ) → ((locate : ℕ) → has set locate ≡ is_listed locates locate)
    → canon (only (has set) m) ++ closing next ≡ canon (only (is_listed locates) m) ++ closing next
same_cut set locates m next same = ap (λ wanted. canon (only wanted m) ++ closing next) (fun_ext same)

-- and the bytes written for such a set are the snapshot of the listed locates
pub cut_spelled : (set : Wanted) (locates : List ℕ) (m : Content) (next number : ℕ) (made : Result (Vec ℕ Global) ℕ) → Closes m next (Ok number)
    → ((locate : ℕ) → has set locate ≡ is_listed locates locate) → IfOk made (λ bytes. bytes.items ≡ canon (only (has set) m) ++ closing number)
    → IfErr made (λ code. code ≡ 48) → Spells m (only (is_listed locates) m) next made
cut_spelled set locates m next number (Ok bytes) closes same written refused =
    (closes.1, closes.2, written ∙ ap (λ k. canon (only (has set) m) ++ closing k) closes.0 ∙ same_cut set locates m next same)
cut_spelled set locates m next number (Err code) closes same written refused = inr (refused, closes.1, closes.2)

module _ (limit : Limit) (ps : List (List ℕ)) (m : Content) (taken : AreTaken limit ps) (fits : AllByRecursion Fits ps) (left : m ≡ laid (market_of ps)) where
  -- the market that was read has the bytes of its messages' market
  pub canon_read : canon m ≡ canon (market_of ps)
  canon_read = ap canon left ∙ canon-laid (market_of ps) (taken_good limit ps fits taken)

  -- restricted to some locates, too
  pub canon_only_read : (wanted : ℕ → Bool) → canon (only wanted m) ≡ canon (only wanted (market_of ps))
  canon_only_read wanted =
      ap (λ xs. blocks (map spelling xs))
      (snap_only wanted m ∙ ap (kept wanted) (ap snap left ∙ snap-laid (market_of ps) (taken_good limit ps fits taken)) ∙ sym (snap_only wanted (market_of ps)))

  -- and is written with the number after them, unless memory runs out
  pub written_read : (cut : Content → Content) (count : ℕ) (old new : List ℕ) (written : Written) → length ps ≡ count → canon (cut m) ≡ canon (cut (market_of ps))
      → Puts m (cut m) (count + 1) old written new
      → Writes (canon (cut (market_of ps)) ++ closing (length ps + 1)) old written new
  written_read cut count old new written number_is same (inl (number, few, writes)) = subst (λ bytes. Writes bytes old written new)
      (ap (λ bytes. bytes ++ closing (count + 1)) same ∙ ap (λ k. canon (cut (market_of ps)) ++ closing (k + 1)) (sym number_is)) writes
  written_read cut count old new written number_is same (inr (inl (code, none, stays))) = absurd (none (omega arith, omega (arith, number_is, taken.few)))
  written_read cut count old new written number_is same (inr (inr (code, number, many, stays))) = absurd (omega (arith, many, taken_few limit ps m fits taken left))

-- reading a snapshot fails as reading does
fails_here : (old new : Option (List ℕ)) (fault : FrameFault) → ReadsSnapshot old new (Err (snap_fault.Frame fault)) → (mid : Option (List ℕ)) × FailsHere fault mid new
fails_here old new fault (inl (n, (ps, mid, takes, few, (same, fails)))) = (mid, fails)
fails_here old new fault (inr (mid, next, n, all, fails)) = (mid, fails)

-- the reason why a snapshot file is refused
pub snapshot_refused : (day : List ℕ) (old new : Option (List ℕ)) (fault : SnapFault) → old ≡ Some day → ReadsSnapshot old new (Err fault)
    → IfSome old (λ b. IsDecidedFault fault → IsFaultOf b fault) → CountsFault fault no_failures no_failures → IsRefusedFor day fault
snapshot_refused day old new fault known reads decided counts =
    by_fault fault reads (subst (λ o. IfSome o (λ b. IsDecidedFault fault → IsFaultOf b fault)) known decided) counts where
      by_rule : (place : ℕ) (why : Refusal) → ReadsSnapshot old new (Err (snap_fault.Rule place why)) → (IsDecided (Rule why) → IsFaultOf day (snap_fault.Rule place why))
          → IsDecided (Rule why) ⊎ (Rule why ≡ Rule OutOfMemory) → IsRefusedFor day (snap_fault.Rule place why)
      by_rule place why reads is (inl sure) = inl (is sure)
      by_rule place UnknownLocate reads is (inr memory) = inl (is tt)
      by_rule place StockMismatch reads is (inr memory) = inl (is tt)
      by_rule place ZeroShares reads is (inr memory) = inl (is tt)
      by_rule place DuplicateRef reads is (inr memory) = inl (is tt)
      by_rule place UnknownRef reads is (inr memory) = inl (is tt)
      by_rule place LocateMismatch reads is (inr memory) = inl (is tt)
      by_rule place (TooManyShares remain) reads is (inr memory) = inl (is tt)
      by_rule place UnexpectedEnd reads is (inr memory) = inl (is tt)
      by_rule place OutOfMemory reads is (inr memory) = inr (place, refl, inr (new, subst (λ b. ReadsSnapshot b new (Err (snap_fault.Rule place OutOfMemory))) known reads))

      by_fault : (f : SnapFault) → ReadsSnapshot old new (Err f) → (IsDecidedFault f → IsFaultOf day f) → CountsFault f no_failures no_failures → IsRefusedFor day f
      by_fault snap_fault.NoEnd reads is counts = inl (is tt)
      by_fault (snap_fault.Frame (Truncated held)) reads is counts = inl (is tt)
      by_fault (snap_fault.Frame (Read error)) reads is counts = absurd (uncounted error counts)
      by_fault (snap_fault.Frame (Write sent error)) reads is counts = absurd ((fails_here old new (Write sent error) reads).1)
      by_fault (snap_fault.Frame TooLong) reads is counts = absurd ((fails_here old new TooLong reads).1)
      by_fault (snap_fault.Codec place f) reads is counts = inl (is tt)
      by_fault (snap_fault.Rule place why) reads is counts = by_rule place why reads is (stop_decided (Rule why) refl)
      by_fault snap_fault.AfterEnd reads is counts = inl (is tt)
      by_fault snap_fault.TooManyMessages reads is counts = inl (is tt)

-- the stop of a replay of blocks in memory is caused by the blocks, or memory runs out
pub of_blocks : (bytes : List ℕ) (m : Content) (known : Option (List ℕ)) (count : ℕ) (stop : Stop) → known ≡ Some bytes → IfSome known (λ b. IsDecided stop → Stops m b count stop)
    → Counts stop no_failures no_failures → IsOfBlocks bytes m count stop
of_blocks bytes m known count stop are stops counts = by_cause (stop_decided stop counts) (subst (λ o. IfSome o (λ b. IsDecided stop → Stops m b count stop)) are stops) where
  by_cause : IsDecided stop ⊎ (stop ≡ Rule OutOfMemory) → (IsDecided stop → Stops m bytes count stop) → IsOfBlocks bytes m count stop
  by_cause (inl sure) is = inl (sure, is sure)
  by_cause (inr memory) is = inr memory
