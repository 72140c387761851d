-- The bytes of a complete snapshot, with End of Snapshot, belong to one market and one number.
use Rattle.std.proofs.Common.{◌≡◌, ℕ, List, [], ◌∷◌, ◌++◌, map, sym, ap, ◌∙◌}
use Rattle.std.specs.List.{AllByRecursion}
use Rattle.std.proofs.lemmas.List.{map-append, same_from_push}
use Rattle.itch_codec.specs.declared.message.Message.{Message}
use Rattle.itch_codec.specs.declared.message.Message.TheVariants as is
use Rattle.itch_codec.specs.Messages.{spelling}
use Rattle.itch_codec.specs.Widths.{IsSequence}
use Rattle.itch_codec.proofs.Spelling.{spelling_short}
use Rattle.itch_frame.specs.Blocks.{blocks}
use Rattle.itch_frame.proofs.BlockLemmas.{blocks-push}
use Rattle.itch_book.proofs.Lists.{All-append_rec}
use Rattle.itch_market.specs.Content.{Content}
use Rattle.itch_market.specs.GoodMarkets.{IsGood}
use Rattle.itch_market.specs.SameMarkets.{Same}
use Rattle.itch_snapshot.specs.Bytes.{canon, closing}
use Rattle.itch_snapshot.specs.Snapshot.{snap}
use Rattle.itch_snapshot.proofs.OneSnapshot.{same_snap}
use Rattle.itch_snapshot.proofs.SpelledMessages.{IsSpelled, snap_spelled}
use Rattle.itch_snapshot.proofs.CanonicalBytes.{wire_one}

-- the snapshot list with End of Snapshot
abbrev ended : Content → ℕ → List Message
ended m next = snap m ++ is.End next ∷ []

ended_spelled : (m : Content) (next : ℕ) → IsGood m → IsSequence next → AllByRecursion IsSpelled (ended m next)
ended_spelled m next good number =
    All-append_rec IsSpelled (snap m) (is.End next ∷ []) (snap_spelled m good)
    (record { fits = number; short = spelling_short (is.End next) number (λ kept. kept) }, tt)

-- its blocks are the canonical bytes and the closing block
wire-ended : (m : Content) (next : ℕ) → blocks (map spelling (ended m next)) ≡ canon m ++ closing next
wire-ended m next = ap blocks (map-append spelling (snap m) (is.End next ∷ [])) ∙ blocks-push (map spelling (snap m)) (spelling (is.End next))

-- two complete snapshots with equal bytes
record AreOne (m n : Content) (j k : ℕ) : Type 0 where
  market : Same m n
  number : j ≡ k

closed_one : (m n : Content) (j k : ℕ) → IsGood m → IsGood n → IsSequence j → IsSequence k → canon m ++ closing j ≡ canon n ++ closing k → AreOne m n j k
closed_one m n j k good fine low high e =
    let lists : ended m j ≡ ended n k = wire_one (ended m j) (ended n k) (ended_spelled m j good low) (ended_spelled n k fine high) (wire-ended m j ∙ e ∙ sym (wire-ended n k)) in
    let parts = same_from_push (snap m) (snap n) (is.End j) (is.End k) lists in
    let last = parts.1 in
    record { market = same_snap m n good fine parts.0; number = cc last }

pub closed_market : (m n : Content) (j k : ℕ) → IsGood m → IsGood n → IsSequence j → IsSequence k → canon m ++ closing j ≡ canon n ++ closing k → Same m n
closed_market m n j k good fine low high e = (closed_one m n j k good fine low high e).market

pub closed_number : (m n : Content) (j k : ℕ) → IsGood m → IsGood n → IsSequence j → IsSequence k → canon m ++ closing j ≡ canon n ++ closing k → j ≡ k
closed_number m n j k good fine low high e = (closed_one m n j k good fine low high e).number
