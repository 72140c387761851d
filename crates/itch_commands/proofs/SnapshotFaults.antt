-- The fault of a snapshot whose bytes are known, as it is read.
use Rattle.std.proofs.Common.{◌≡◌, ℕ, ◌-◌, ◌≤◌, ◌^◌, Bool, List, ◌∷◌, ◌++◌, map, length, Option, None, Some, IfSome, Err, refl, sym, ap, subst, ◌∙◌, inl, inr}
use Rattle.std.proofs.lemmas.List.{length-map, map-append, append_assoc}
use Rattle.itch_codec.specs.Messages.{message_of}
use Rattle.itch_frame.specs.Blocks.{block, blocks, Day}
use Rattle.itch_frame.specs.declared.fault.FrameFault.TheVariants.{Read, Truncated, Write, TooLong}
use Rattle.itch_frame.proofs.BlockLemmas.{blocks-append}
use Rattle.itch_market.specs.Content.{Content, empty}
use Rattle.itch_market.specs.Replays.{TakesOff, Takes}
use Rattle.itch_market.specs.Runs.{run}
use Rattle.itch_market.proofs.ReplayStops.{after_day}
use Rattle.itch_snapshot.specs.declared.fault.SnapFault.{SnapFault}
use Rattle.itch_snapshot.specs.declared.fault.SnapFault.TheVariants.{NoEnd, Frame, Codec, Rule, AfterEnd, TooManyMessages}
use Rattle.itch_snapshot.specs.Files.{IsFaultOf}
use Rattle.itch_snapshot.specs.TakenMessages.{TakesNext}
use Rattle.itch_snapshot.specs.Reads.{ReadsNext, IsDecidedFault}
use Rattle.itch_snapshot.proofs.KnownFiles.{reads_fault, ends_here}
use Rattle.itch_snapshot.specs.AsRead.{as_read, TakesAs, ReadsNextAs, ReadsAs, IsFaultAs}
use Rattle.itch_snapshot.proofs.AsRead.{read_full, all_full}

module _ (wanted : ℕ → Bool) (b c : List ℕ) (ps : List (List ℕ)) (n : Content) (takes : TakesAs (as_read wanted) (Some b) (Some c) ps n) (few : length ps ≤ 10 ^ 19 - 1) where
  abbrev read : List ℕ → List ℕ
  read = as_read wanted

  abbrev qs : List (List ℕ)
  qs = map read ps

  abbrev m : Content
  m = run (map message_of qs)

  size : length qs ≡ length ps
  size = length-map ps read

  -- the messages that were taken, in the file as it is read
  taken : (unread : List ℕ) → Takes empty (Some (blocks qs ++ unread)) (Some unread) qs n
  taken unread = record { bytes = refl; full = all_full wanted ps takes.full; none = takes.none; fits = takes.fits; left = takes.left }

  read_so : (unread : List ℕ) (new : Option (List ℕ)) (fault : SnapFault) → ReadsNext (length qs) m (Some unread) new (Err fault) m → IsDecidedFault fault → IsFaultOf (blocks qs ++ unread) fault
  read_so unread new fault next =
      reads_fault (Some (blocks qs ++ unread)) new (Err fault) (inl (n, (qs, Some unread, taken unread, subst (λ l. l ≤ 10 ^ 19 - 1) (sym size) few, next)))

  -- only the end of the file follows them
  at_end : (fault : SnapFault) → Day b ps c → (IsDecidedFault fault → IsFaultOf (blocks qs ++ c) fault) → IsDecidedFault fault → IsFaultAs read b fault
  at_end fault day is decided = (blocks qs ++ c, record { payloads = ps; rest = c; day = day; same = refl }, is decided)

  -- a payload follows them that is not taken
  at_one : (new : Option (List ℕ)) (p : List ℕ) (fault : SnapFault) → TakesOff (Some c) new p
      → ((more : List ℕ) → ReadsNext (length qs) m (Some (block (read p) ++ more)) (Some more) (Err fault) m) → IsDecidedFault fault → IsFaultAs read b fault
  at_one None p fault off next decided = absurd off.1
  at_one (Some d) p fault off next decided = found (after_day b d ps p (takes.bytes ∙ ap (λ t. blocks ps ++ t) off.1) takes.full off.0) where
    found : (more : List (List ℕ)) × (rest : List ℕ) × Day b (ps ++ p ∷ more) rest → IsFaultAs read b fault
    found (more, rest, day) =
        let unread = blocks (map read more) ++ rest in (
          blocks qs ++ (block (read p) ++ unread),
          record {
            payloads = ps ++ p ∷ more;
            rest = rest;
            day = day;
            same = whole more rest ∙ ap (λ xs. blocks xs ++ rest) (sym (map-append read ps (p ∷ more)));
          },
          read_so (block (read p) ++ unread) (Some unread) fault (next unread) decided,
        ) where
          whole : (more : List (List ℕ)) (rest : List ℕ) → blocks qs ++ (block (read p) ++ (blocks (map read more) ++ rest)) ≡ blocks (qs ++ read p ∷ map read more) ++ rest
          whole more rest =
              ap (λ t. blocks qs ++ t) (sym (append_assoc (block (read p)) (blocks (map read more)) rest))
              ∙ sym (append_assoc (blocks qs) (blocks (read p ∷ map read more)) rest)
              ∙ ap (λ t. t ++ rest) (sym (blocks-append qs (read p ∷ map read more)))

  counted : (p : List ℕ) (fault : SnapFault) → TakesNext (length ps) m (read p) (Err fault) m → TakesNext (length qs) m (read p) (Err fault) m
  counted p fault h = subst (λ l. TakesNext l m (read p) (Err fault) m) (sym size) h

  fault_there : (new : Option (List ℕ)) (fault : SnapFault) → ReadsNextAs read (length ps) m (Some c) new (Err fault) m → IsDecidedFault fault → IsFaultAs read b fault
  fault_there new NoEnd (same, ends) =
      at_end NoEnd (record { whole = takes.bytes; each = takes.full; last = inl (ends_here c new ends) }) (read_so c new NoEnd (same, ends))
  fault_there new (Frame (Truncated held)) (same, part) =
      at_end (Frame (Truncated held)) (record { whole = takes.bytes; each = takes.full; last = inr part.0 }) (read_so c new (Frame (Truncated held)) (same, part))
  fault_there new (Frame (Read error)) h = λ decided. absurd decided
  fault_there new (Frame (Write sent error)) (same, never) = absurd never
  fault_there new (Frame TooLong) (same, never) = absurd never
  fault_there new (Codec place f) (p, off, h) = at_one new p (Codec place f) off (λ more. (read p, (read_full wanted p off.0, refl), counted p (Codec place f) h))
  fault_there new (Rule place why) (p, off, h) = at_one new p (Rule place why) off (λ more. (read p, (read_full wanted p off.0, refl), counted p (Rule place why) h))
  fault_there new TooManyMessages (p, off, h) = at_one new p TooManyMessages off (λ more. (read p, (read_full wanted p off.0, refl), counted p TooManyMessages h))
  fault_there new AfterEnd (p, off, never) = absurd never

pub fault_seen : (wanted : ℕ → Bool) (old new : Option (List ℕ)) (n : Content) (fault : SnapFault) → ReadsAs (as_read wanted) old new (Err fault) n
    → IfSome old (λ b. IsDecidedFault fault → IsFaultAs (as_read wanted) b fault)
fault_seen wanted None new n fault reads = tt
fault_seen wanted (Some b) new n fault (ps, None, takes, few, next) = absurd takes.bytes
fault_seen wanted (Some b) new n fault (ps, Some c, takes, few, next) = fault_there wanted b c ps n takes few new fault next
