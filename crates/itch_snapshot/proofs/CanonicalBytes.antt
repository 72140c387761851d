-- The canonical bytes of a market belong to no other market.
use Rattle.std.proofs.Common.{◌≡◌, List, [], ◌∷◌, map, refl, sym, ap, ap₂, subst}
use Rattle.std.specs.List.{AllByRecursion}
use Rattle.itch_codec.specs.declared.message.Message.{Message}
use Rattle.itch_codec.specs.Messages.{spelling, Spells}
use Rattle.itch_codec.specs.Widths.{IsMessage}
use Rattle.itch_frame.specs.Blocks.{IsPayload, blocks}
use Rattle.itch_frame.proofs.BlockLemmas.{blocks_one}
use Rattle.itch_book.proofs.Lists.{All-map_rec, All-weaker_rec}
use Rattle.itch_market.specs.Content.{Content, laid}
use Rattle.itch_market.specs.GoodMarkets.{IsGood}
use Rattle.itch_market.specs.Runs.{AreMessages, run, Follows}
use Rattle.itch_market.specs.SameMarkets.{Same}
use Rattle.itch_market.proofs.GoodMarkets.{run_good}
use Rattle.itch_market.proofs.SameMarkets.{laid_is_same}
use Rattle.itch_snapshot.specs.Bytes.{canon}
use Rattle.itch_snapshot.specs.Snapshot.{snap}
use Rattle.itch_snapshot.proofs.OneSnapshot.{snap_same, same_snap, replayed_same}
use Rattle.itch_snapshot.proofs.SpelledMessages.{IsSpelled, snap_spelled}
use Rattle.itch_codec.proofs.Spelling.{Spells-spelling, same_message}

-- equal bytes belong to equal messages
spelling_one : (x y : Message) → IsMessage x → IsMessage y → spelling x ≡ spelling y → x ≡ y
spelling_one x y fit fine e = same_message x y (spelling x) (Spells-spelling x fit) (subst (Spells y) (sym e) (Spells-spelling y fine))

-- and equal lists of bytes to equal lists of messages
spellings_one : (xs ys : List Message) → AreMessages xs → AreMessages ys → map spelling xs ≡ map spelling ys → xs ≡ ys
spellings_one [] [] fit fine e = refl
spellings_one [] (y ∷ ys) fit fine e = absurd (cc e)
spellings_one (x ∷ xs) [] fit fine e = absurd (cc e)
spellings_one (x ∷ xs) (y ∷ ys) fit fine e =
    let head : spelling x ≡ spelling y = cc e in
    let tail : map spelling xs ≡ map spelling ys = cc e in
    ap₂ ◌∷◌ (spelling_one x y fit.0 fine.0 head) (spellings_one xs ys fit.1 fine.1 tail)

payloads : (xs : List Message) → AllByRecursion IsSpelled xs → AllByRecursion IsPayload (map spelling xs)
payloads xs spelled = All-map_rec IsPayload spelling xs (All-weaker_rec IsSpelled (λ x. IsPayload (spelling x)) (λ x h. h.short) xs spelled)

-- the blocks of messages that fit belong to no other messages
pub wire_one : (xs ys : List Message) → AllByRecursion IsSpelled xs → AllByRecursion IsSpelled ys → blocks (map spelling xs) ≡ blocks (map spelling ys) → xs ≡ ys
wire_one xs ys fit fine e =
    spellings_one xs ys (All-weaker_rec IsSpelled IsMessage (λ x h. h.fits) xs fit) (All-weaker_rec IsSpelled IsMessage (λ x h. h.fits) ys fine)
    (blocks_one (map spelling xs) (map spelling ys) (payloads xs fit) (payloads ys fine) e)

pub canon_same : (m n : Content) → Same m n → canon m ≡ canon n
canon_same m n same = ap (λ ms. blocks (map spelling ms)) (snap_same m n same)

pub same_canon : (m n : Content) → IsGood m → IsGood n → canon m ≡ canon n → Same m n
same_canon m n good fine e = same_snap m n good fine (wire_one (snap m) (snap n) (snap_spelled m good) (snap_spelled n fine) e)

-- the snapshot of a replayed snapshot has the same bytes
pub canon_again : (m : Content) → IsGood m → canon (run (snap m)) ≡ canon m
canon_again m good = canon_same (run (snap m)) m (replayed_same m good)

-- a market has the same canonical bytes for any order of its orders
pub canon-laid : (m : Content) → IsGood m → canon (laid m) ≡ canon m
canon-laid m good = canon_same (laid m) m (laid_is_same m good)

pub runs_same : (ms ns : List Message) → AreMessages ms → AreMessages ns → Follows ms → Follows ns → canon (run ms) ≡ canon (run ns) → Same (run ms) (run ns)
runs_same ms ns fit fine follows following e = same_canon (run ms) (run ns) (run_good ms fit follows) (run_good ns fine following) e
