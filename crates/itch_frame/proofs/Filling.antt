-- A read into the room after the held bytes.
use Rattle.std.proofs.Common.{◌≡◌, ℕ, ◌+◌, ◌≤◌, List, ◌++◌, length, take, sym, ap, subst, ◌∙◌, append_assoc, arith, length-append, Option, Some, None}
use borrow.Rule.Slice.PartMut.{put_mid, post_of}
use Rattle.std.proofs.lemmas.List.{length-take-le, take-append-le}
use Rattle.std.proofs.Math.Seq.{take-append-add}
use Rattle.std.specs.Io.KnownBytes.{prepend_known, Keeps, Consumes}
use Rattle.itch_frame.specs.Needs.{need}
use Rattle.itch_frame.proofs.SplitterLemmas.{still_begun}

-- the first bytes of a buffer after a part was written behind them
pub front_filled : (buffer part : List ℕ) (len room count : ℕ) → len ≤ length buffer → count ≤ length part
    → take (len + count) (put_mid len room buffer part) ≡ take len buffer ++ take count part
front_filled buffer part len room count within given =
    let front : length (take len buffer) ≡ len = length-take-le len buffer within in
    ap (λ n. take (n + count) (put_mid len room buffer part)) (sym front)
    ∙ take-append-add (take len buffer) (part ++ post_of len room buffer) count
    ∙ ap (λ t. take len buffer ++ t) (take-append-le count part (post_of len room buffer) given)

-- they are still no more than the block needs
pub filled_begun : (buffer part : List ℕ) (len room count : ℕ) → len ≤ length buffer → count ≤ length part → len + count ≤ need (take len buffer)
    → len + count ≤ need (take (len + count) (put_mid len room buffer part))
filled_begun buffer part len room count within given lacks =
    let front : length (take len buffer) ≡ len = length-take-le len buffer within in
    let got : length (take count part) ≡ count = length-take-le count part given in
    let begun : length (take len buffer ++ take count part) ≤ need (take len buffer ++ take count part) = still_begun (take len buffer) (take count part) (omega (arith, front, got)) in
    subst (λ (bytes : List ℕ). len + count ≤ need bytes) (sym (front_filled buffer part len room count within given))
    (omega (arith, begun, front, got, length-append (take len buffer) (take count part)))

-- bytes that came off the front of the unread ones are held now
Keeps-read : (start old new : Option (List ℕ)) (held got : List ℕ) → Keeps start (prepend_known held old) → Consumes old new got → Keeps start (prepend_known (held ++ got) new)
Keeps-read None old new held got kept read = tt
Keeps-read (Some all) None new held got kept read = absurd kept
Keeps-read (Some all) (Some unread) None held got kept read = absurd read
Keeps-read (Some all) (Some unread) (Some left) held got kept read = append_assoc held got left ∙ ap (λ t. held ++ t) (sym read) ∙ kept

-- the held bytes and the unread ones together do not change
pub filled_keeps : (start old new : Option (List ℕ)) (buffer part : List ℕ) (len room count : ℕ) → len ≤ length buffer → count ≤ length part
    → Keeps start (prepend_known (take len buffer) old) → Consumes old new (take count part)
    → Keeps start (prepend_known (take (len + count) (put_mid len room buffer part)) new)
filled_keeps start old new buffer part len room count within given kept read =
    subst (λ (bytes : List ℕ). Keeps start (prepend_known bytes new)) (sym (front_filled buffer part len room count within given))
    (Keeps-read start old new (take len buffer) (take count part) kept read)

-- the bytes held first are still held, with more after them
pub filled_front : (buffer part first : List ℕ) (len room count : ℕ) → len ≤ length buffer → count ≤ length part
    → ((more : List ℕ) × (take len buffer ≡ first ++ more)) → (more : List ℕ) × (take (len + count) (put_mid len room buffer part) ≡ first ++ more)
filled_front buffer part first len room count within given (more, front) = (
  more ++ take count part,
  front_filled buffer part len room count within given ∙ ap (λ t. t ++ take count part) front ∙ append_assoc first more (take count part),
)
