-- Sending blocks in order.
use Rattle.std.proofs.Common.{◌≡◌, ℕ, ◌+◌, ◌-◌, ◌/◌, ◌%◌, List, [], ◌∷◌, ◌++◌, length, take, Option, Result, Ok, Err, refl, sym, ap, subst, ◌∙◌, append_assoc, arith, length-append}
use Rattle.std.proofs.KnownBytes.{Appends-nil}
use Rattle.std.proofs.Math.Seq.{take-append-add}
use Rattle.std.specs.Io.KnownBytes.{Appends}
use Rattle.itch_frame.specs.Blocks.{IsPayload, block, blocks}
use Rattle.itch_frame.specs.Counting.{failed}
use Rattle.itch_frame.specs.declared.tally.Failures.{Failures}
use Rattle.itch_frame.specs.Writing.{WritePart, WriteBlock, WriteBlocks}
use Rattle.itch_frame.specs.declared.fault.FrameFault.{FrameFault}
use Rattle.itch_frame.specs.declared.fault.FrameFault.TheVariants.{Read, Truncated, Write, TooLong}
use Rattle.itch_frame.proofs.BlockLemmas.{blocks-append}
use Rattle.itch_frame.proofs.Writes.{part_written, Appends-block, Appends-more, Appends-same}
use Rattle.itch_soup.specs.Sending.{Sends}

module _ {W : Type 0} (contents : W → Option (List ℕ)) (failures : W → Failures) where
  -- nothing is sent
  pub none_sent : (old : W) → Sends contents failures {T = Unit {0}} old [] (Ok tt) old
  none_sent old = (Appends-nil (contents old), refl)

  -- one more block
  pub one_sent : (old mid new : W) (done : List (List ℕ)) (payload : List ℕ) → Sends contents failures {T = Unit {0}} old done (Ok tt) mid
      → WriteBlock contents failures mid payload (Ok tt) new → Sends contents failures {T = Unit {0}} old (done ++ payload ∷ []) (Ok tt) new
  one_sent old mid new done payload so_far wrote =
      (Appends-block (contents old) (contents mid) (contents new) done payload so_far.0 wrote.1.0, wrote.1.1 ∙ so_far.1)

  -- or only a part of it
  pub one_failed : (T : Type 0) (old mid new : W) (done : List (List ℕ)) (payload : List ℕ) (more all : List (List ℕ)) (fault : FrameFault)
      → all ≡ done ++ payload ∷ more → IsPayload payload → Sends contents failures {T = Unit {0}} old done (Ok tt) mid
      → WriteBlock contents failures mid payload (Err fault) new → Sends contents failures {T = T} old all (Err fault) new
  one_failed T old mid new done payload more all fault is fits so_far wrote =
      part_written contents failures old mid new done payload more all is fits so_far.0 so_far.1 fault wrote

  failed_then : (old mid new : W) (ps qs : List (List ℕ)) (fault : FrameFault) → Appends (contents old) (contents mid) (blocks ps) → failures mid ≡ failures old
      → WriteBlocks contents failures mid qs (Err fault) new → WriteBlocks contents failures old (ps ++ qs) (Err fault) new
  failed_then old mid new ps qs (Write sent error) wrote count (done, payload, more, is, within, part, counted) = (
    ps ++ done,
    payload,
    more,
    ap (λ rest. ps ++ rest) is ∙ sym (append_assoc ps done (payload ∷ more)),
    within,
    subst (Appends (contents old) (contents new))
        (sym (append_assoc (blocks ps) (blocks done) (take sent (block payload))) ∙ ap (λ front. front ++ take sent (block payload)) (sym (blocks-append ps done)))
        (Appends-more (contents old) (contents mid) (contents new) (blocks ps) (blocks done ++ take sent (block payload)) wrote part),
    counted ∙ ap (failed error) count,
  )
  failed_then old mid new ps qs TooLong wrote count h = absurd h
  failed_then old mid new ps qs (Read error) wrote count h = absurd h
  failed_then old mid new ps qs (Truncated held) wrote count h = absurd h

  -- some blocks, and then others
  pub sent_then : {S T : Type 0} (old mid new : W) (ps qs : List (List ℕ)) (done : S) (result : Result T FrameFault)
      → Sends contents failures old ps (Ok done) mid → Sends contents failures mid qs result new → Sends contents failures old (ps ++ qs) result new
  sent_then old mid new ps qs done (Ok last) first second = (
    Appends-same (contents old) (contents new) (blocks ps ++ blocks qs) (blocks (ps ++ qs)) (sym (blocks-append ps qs))
        (Appends-more (contents old) (contents mid) (contents new) (blocks ps) (blocks qs) first.0 second.0),
    second.1 ∙ first.1,
  )
  sent_then old mid new ps qs done (Err fault) first second = failed_then old mid new ps qs fault first.0 first.1 second

  short : (old new : W) (ps qs : List (List ℕ)) (fault : FrameFault) → WriteBlocks contents failures old ps (Err fault) new → WriteBlocks contents failures old (ps ++ qs) (Err fault) new
  short old new ps qs (Write sent error) (done, payload, more, is, within, part, counted) =
      (done, payload, more ++ qs, ap (λ front. front ++ qs) is ∙ append_assoc done (payload ∷ more) qs, within, part, counted)
  short old new ps qs TooLong h = absurd h
  short old new ps qs (Read error) h = absurd h
  short old new ps qs (Truncated held) h = absurd h

  -- writing failed among the first blocks
  pub sent_short : (S T : Type 0) (old new : W) (ps qs : List (List ℕ)) (fault : FrameFault)
      → Sends contents failures {T = S} old ps (Err fault) new → Sends contents failures {T = T} old (ps ++ qs) (Err fault) new
  sent_short S T old new ps qs fault wrote = short old new ps qs fault wrote

  -- a single block
  pub only_one : (old new : W) (payload : List ℕ) (result : Result (Unit {0}) FrameFault) → IsPayload payload → WriteBlock contents failures old payload result new
      → Sends contents failures old (payload ∷ []) result new
  only_one old new payload (Ok done) fits wrote = one_sent old old new [] payload (none_sent old) wrote
  only_one old new payload (Err fault) fits wrote = one_failed (Unit {0}) old old new [] payload [] (payload ∷ []) fault refl fits (none_sent old) wrote

  -- a block in two parts, the first of which was written completely
  pub in_two_parts : (old mid new : W) (first second payload : List ℕ) (result : Result (Unit {0}) FrameFault) → IsPayload payload → first ++ second ≡ block payload
      → WritePart contents failures old 0 first (Ok tt) mid → WritePart contents failures mid (length first) second result new → WriteBlock contents failures old payload result new
  in_two_parts old mid new first second payload (Ok done) fits whole wrote rest =
      (fits, (Appends-same (contents old) (contents new) (first ++ second) (block payload) whole (Appends-more (contents old) (contents mid) (contents new) first second wrote.0 rest.0), rest.1 ∙ wrote.1))
  in_two_parts old mid new first second payload (Err (Write sent error)) fits whole wrote (from, within, part, counted) =
      let count : length first + (sent - length first) ≡ sent - 0 = omega arith in
      let bytes : first ++ take (sent - length first) second ≡ take (sent - 0) (block payload) =
      sym (take-append-add first second (sent - length first)) ∙ ap (λ n. take n (first ++ second)) count ∙ ap (take (sent - 0)) whole in (
        fits,
        (
          omega arith,
          omega (arith, ap length whole, length-append first second),
          subst (Appends (contents old) (contents new)) bytes
              (Appends-more (contents old) (contents mid) (contents new) first (take (sent - length first) second) wrote.0 part),
          counted ∙ ap (failed error) wrote.1,
        ),
      )
  in_two_parts old mid new first second payload (Err TooLong) fits whole wrote rest = absurd rest
  in_two_parts old mid new first second payload (Err (Read error)) fits whole wrote rest = absurd rest
  in_two_parts old mid new first second payload (Err (Truncated held)) fits whole wrote rest = absurd rest

-- the length bytes, the type and the bytes after it are the packet's block
pub packet_block : (buf : List ℕ) (len kind : ℕ) (body : List ℕ) → buf ≡ len / 256 % 256 ∷ len % 256 ∷ [] → len ≡ length (kind ∷ body) → (buf ++ kind ∷ []) ++ body ≡ block (kind ∷ body)
packet_block buf len kind body is counted = ap (λ (front : List ℕ). (front ++ kind ∷ []) ++ body) (is ∙ ap (λ n. n / 256 % 256 ∷ n % 256 ∷ []) counted)
