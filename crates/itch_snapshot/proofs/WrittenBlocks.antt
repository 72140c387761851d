-- The blocks of messages, and of an End of Snapshot after them, written one after another.
use Rattle.std.proofs.Common.{◌≡◌, ℕ, ◌+◌, List, [], ◌∷◌, ◌++◌, map, length, Option, Some, None, Ok, Err, refl, sym, ap, subst, ◌∙◌, append_assoc, append-nil, arith, length-append}
use Rattle.std.specs.List.{AllByRecursion}
use Rattle.std.specs.Io.KnownBytes.{Appends}
use Rattle.std.proofs.KnownBytes.{Appends-nil}
use Rattle.itch_codec.specs.declared.message.Message.{Message}
use Rattle.itch_codec.specs.declared.message.Message.TheVariants as is
use Rattle.itch_codec.specs.Messages.{spelling}
use Rattle.itch_codec.specs.Widths.{IsMessage}
use Rattle.itch_codec.proofs.Spelling.{spelling_short}
use Rattle.itch_frame.specs.Blocks.{IsPayload, blocks}
use Rattle.itch_frame.specs.Writing.{WriteBlock}
use Rattle.itch_frame.specs.declared.fault.FrameFault.{FrameFault}
use Rattle.itch_frame.proofs.Writes.{part_written, Appends-block, Appends-more}
use Rattle.itch_frame.specs.declared.tally.Failures.{Failures}
use Rattle.itch_book.proofs.Lists.{All-right_rec, All-weaker_rec}
use Rattle.itch_market.specs.Content.{Content}
use Rattle.itch_market.specs.GoodMarkets.{IsGood}
use denote.Ref.{Bor}
use Rattle.itch_market.specs.Partial.{only}
use Rattle.itch_market.specs.Wanted.{Wanted, has}
use Rattle.itch_market.proofs.Partials.{only_good}
use Rattle.itch_snapshot.specs.Cursor.{cut_to}
use Rattle.itch_snapshot.specs.Snapshot.{snap}
use Rattle.itch_snapshot.specs.Bytes.{closing}
use Rattle.itch_snapshot.specs.Writes.{closed_payloads, WritesClosed}
use Rattle.itch_snapshot.proofs.SpelledMessages.{IsSpelled, snap_spelled}

-- the bytes of the message fit a block
abbrev pub IsShort : Message → Type 0
IsShort x = IsPayload (spelling x)

-- so do those of each message of a snapshot list
pub snap_short : (m : Content) → IsGood m → AllByRecursion IsShort (snap m)
snap_short m good = All-weaker_rec IsSpelled IsShort (λ x spelled. spelled.short) (snap m) (snap_spelled m good)

-- and so do those of each message of the market of the wanted locates
pub cut_short : (set : Option (Bor Wanted)) (m : Content) → IsGood m → AllByRecursion IsShort (snap (cut_to set m))
cut_short None m good = snap_short m good
cut_short (Some set) m good = snap_short (only (has set.now) m) (only_good (has set.now) m good)

-- the payloads that were written, the payload of the next message, and the others
payloads_at : (ms : List Message) (next : ℕ) (seen left : List Message) (x : Message) → ms ≡ seen ++ x ∷ left
    → closed_payloads ms next ≡ map spelling seen ++ spelling x ∷ (map spelling left ++ spelling (is.End next) ∷ [])
payloads_at ms next seen left x messages = ap (λ ms. map spelling ms ++ spelling (is.End next) ∷ []) messages ∙ regroup seen where
  regroup : (ms : List Message) → map spelling (ms ++ x ∷ left) ++ spelling (is.End next) ∷ [] ≡ map spelling ms ++ spelling x ∷ (map spelling left ++ spelling (is.End next) ∷ [])
  regroup [] = refl
  regroup (y ∷ ys) = ap (λ ps. spelling y ∷ ps) (regroup ys)

module _ {W : Type 0} (contents : W → Option (List ℕ)) (failures : W → Failures) where
  -- the blocks of some of the messages were written, and the others remain
  pub record WrittenSoFar (ms : List Message) (old : W) (seen left : List Message) (count : ℕ) (new : W) : Type 0 where
    pub messages : ms ≡ seen ++ left
    pub wrote : Appends (contents old) (contents new) (blocks (map spelling seen))
    pub failed : failures new ≡ failures old
    pub counted : count ≡ length seen

  pub none_written : (ms : List Message) (old : W) → WrittenSoFar ms old [] ms 0 old
  none_written ms old = record { messages = refl; wrote = Appends-nil (contents old); failed = refl; counted = refl }

  pub one_written : (ms : List Message) (old mid new : W) (seen left rest : List Message) (count : ℕ) (x : Message) → WrittenSoFar ms old seen left count mid → left ≡ x ∷ rest
      → WriteBlock contents failures mid (spelling x) (Ok tt) new → WrittenSoFar ms old (seen ++ x ∷ []) rest (count + 1) new
  one_written ms old mid new seen left rest count x so_far next wrote = record {
    messages = so_far.messages ∙ ap (λ ms. seen ++ ms) next ∙ sym (append_assoc seen (x ∷ []) rest);
    wrote = subst (λ ps. Appends (contents old) (contents new) (blocks ps)) (sym (spelled_push seen x)) (Appends-block (contents old) (contents mid) (contents new) (map spelling seen) (spelling x) so_far.wrote wrote.1.0);
    failed = wrote.1.1 ∙ so_far.failed;
    counted = omega (arith, so_far.counted, length-append seen (x ∷ []));
  } where
    spelled_push : (ms : List Message) (y : Message) → map spelling (ms ++ y ∷ []) ≡ map spelling ms ++ spelling y ∷ []
    spelled_push [] y = refl
    spelled_push (z ∷ zs) y = ap (λ ps. spelling z ∷ ps) (spelled_push zs y)

  -- the next block was not written completely
  pub message_failed : (ms : List Message) (next : ℕ) (old mid new : W) (seen left rest : List Message) (count : ℕ) (x : Message) (fault : FrameFault) → AllByRecursion IsShort ms
      → WrittenSoFar ms old seen left count mid → left ≡ x ∷ rest → WriteBlock contents failures mid (spelling x) (Err fault) new
      → WritesClosed contents failures ms next old (Err fault) new
  message_failed ms next old mid new seen left rest count x fault short so_far here wrote =
      let messages = so_far.messages ∙ ap (λ ms. seen ++ ms) here in
      let of_rest : AllByRecursion IsShort (x ∷ rest) = All-right_rec IsShort seen (x ∷ rest) (subst (AllByRecursion IsShort) messages short) in
      part_written contents failures old mid new (map spelling seen) (spelling x) (map spelling rest ++ spelling (is.End next) ∷ []) (closed_payloads ms next)
      (payloads_at ms next seen rest x messages) of_rest.0 so_far.wrote so_far.failed fault wrote

  all_seen : (ms seen left : List Message) → ms ≡ seen ++ left → left ≡ [] → ms ≡ seen
  all_seen ms seen left messages none = messages ∙ ap (λ ms. seen ++ ms) none ∙ append-nil seen

  -- or the closing block was not
  pub end_failed : (ms : List Message) (next : ℕ) (old mid new : W) (seen left : List Message) (count : ℕ) (fault : FrameFault) → WrittenSoFar ms old seen left count mid
      → left ≡ [] → IsMessage (is.End next) → WriteBlock contents failures mid (spelling (is.End next)) (Err fault) new → WritesClosed contents failures ms next old (Err fault) new
  end_failed ms next old mid new seen left count fault so_far none fits wrote =
      part_written contents failures old mid new (map spelling seen) (spelling (is.End next)) [] (closed_payloads ms next)
      (ap (λ ms. map spelling ms ++ spelling (is.End next) ∷ []) (all_seen ms seen left so_far.messages none)) (spelling_short (is.End next) fits (λ kept. kept)) so_far.wrote so_far.failed fault wrote

  -- or all were
  pub all_written : (ms : List Message) (next : ℕ) (old mid new : W) (seen left : List Message) (count : ℕ) → WrittenSoFar ms old seen left count mid
      → left ≡ [] → WriteBlock contents failures mid (spelling (is.End next)) (Ok tt) new → WritesClosed contents failures ms next old (Ok (count + 1)) new
  all_written ms next old mid new seen left count so_far none wrote =
      let all = all_seen ms seen left so_far.messages none in (
        subst (λ ms. Appends (contents old) (contents new) (blocks (map spelling ms) ++ closing next)) (sym all)
            (Appends-more (contents old) (contents mid) (contents new) (blocks (map spelling seen)) (closing next) so_far.wrote wrote.1.0),
        wrote.1.1 ∙ so_far.failed,
        ap (λ n. n + 1) (so_far.counted ∙ sym (ap length all)),
      )
