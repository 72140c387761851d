-- Writing a market gives a snapshot file, and reading the file gives that market.
use Rattle.std.proofs.Common.{◌≡◌, ℕ, ◌<◌, ◌^◌, List, [], ◌∷◌, ◌++◌, map, length, refl, sym, ap, subst, ◌∙◌, inl, append-nil, arith}
use Rattle.std.specs.List.{AllByRecursion}
use Rattle.itch_book.proofs.Lists.{All-map_rec, All-weaker_rec}
use Rattle.itch_codec.specs.declared.message.Message.{Message}
use Rattle.itch_codec.specs.declared.message.Message.TheVariants as is
use Rattle.itch_codec.specs.Fields.{Number, HasAll}
use Rattle.itch_codec.specs.Layouts.{end_of_snapshot}
use Rattle.itch_codec.specs.Messages.{Spells, spelling}
use Rattle.itch_codec.specs.Widths.{IsSequence}
use Rattle.itch_codec.proofs.Spelling.{Spells-spelling}
use Rattle.itch_frame.specs.Blocks.{IsPayload}
use Rattle.itch_market.specs.Content.{Content, laid}
use Rattle.itch_market.specs.GoodMarkets.{IsGood}
use Rattle.itch_market.specs.Runs.{run}
use Rattle.itch_market.proofs.GoodMarkets.{run_good, laid_good}
use Rattle.itch_market.proofs.LaidMarkets.{laid_twice}
use Rattle.itch_snapshot.specs.Snapshot.{snap}
use Rattle.itch_snapshot.specs.Bytes.{canon, closing}
use Rattle.itch_snapshot.specs.Files.{AreSpelled, ClosesBefore, IsSnapshotFile, IsMarketOf}
use Rattle.itch_snapshot.proofs.FileLemmas.{closes_once}
use Rattle.itch_snapshot.proofs.OneFile.{file_messages, file_number}
use Rattle.itch_snapshot.proofs.OneSnapshot.{snap_follows, run-snap}
use Rattle.itch_snapshot.proofs.Bounds.{read_short}
use Rattle.itch_snapshot.proofs.SpelledMessages.{IsSpelled, snap_spelled, snap_messages}
use Rattle.itch_snapshot.proofs.CanonicalBytes.{canon-laid}

each_spelled : (ms : List Message) → AllByRecursion IsSpelled ms → AreSpelled ms (map spelling ms)
each_spelled [] fit = tt
each_spelled (x ∷ xs) fit = (Spells-spelling x fit.0.fits, each_spelled xs fit.1)

pub written_file : (m : Content) → (next : ℕ) → IsGood m → IsSequence next → length (snap m) < 10 ^ 19 → IsSnapshotFile (canon m ++ closing next) (snap m) next
written_file m next good number few = (
  [],
  record {
    payloads = map spelling (snap m);
    last = spelling (is.End next);
    whole = ap (λ b. canon m ++ b) (sym (append-nil (closing next)));
    each = All-map_rec IsPayload spelling (snap m) (All-weaker_rec IsSpelled (λ x. IsPayload (spelling x)) (λ x h. h.short) (snap m) (snap_spelled m good));
    spelled = each_spelled (snap m) (snap_spelled m good);
    follows = snap_follows m good;
    few = omega arith;
    closes = Spells-spelling (is.End next) number;
  },
  inl refl,
)

-- it is read as the market with its orders in snapshot order, and the same number
pub written_market : (m : Content) → (next : ℕ) → IsGood m → IsSequence next → length (snap m) < 10 ^ 19 → IsMarketOf (canon m ++ closing next) (laid m, next)
written_market m next good number few =
    (snap m, written_file m next good number few, snap_messages m good, sym (ap laid (run-snap m good) ∙ laid_twice m))

-- and as no other market
pub written_once : (m : Content) → (next : ℕ) → (done : Content × ℕ) → IsGood m → IsSequence next → length (snap m) < 10 ^ 19
    → IsMarketOf (canon m ++ closing next) done → done ≡ (laid m, next)
written_once m next done good number few (ms, file, fit, left) =
    let written = written_file m next good number few in
    let messages = file_messages (canon m ++ closing next) ms (snap m) done.1 next file written in
    let numbers = file_number (canon m ++ closing next) ms (snap m) done.1 next file written in
    let market : done.0 ≡ laid m = left ∙ ap (λ xs. laid (run xs)) messages ∙ ap laid (run-snap m good) ∙ laid_twice m in
    λ i. (market i, numbers i)

-- written again, all bytes are equal
pub written_again : (m : Content) → (next : ℕ) → (done : Content × ℕ) → IsGood m → IsSequence next → length (snap m) < 10 ^ 19
    → IsMarketOf (canon m ++ closing next) done → canon done.0 ++ closing done.1 ≡ canon m ++ closing next
written_again m next done good number few read =
    ap (λ (d : Content × ℕ). canon d.0 ++ closing d.1) (written_once m next done good number few read) ∙ ap (λ b. b ++ closing next) (canon-laid m good)

-- the number in a snapshot file is a sequence number
pub end_sequence : (next : ℕ) (payload : List ℕ) → Spells (is.End next) payload → IsSequence next
end_sequence next payload spells = by_field spells.fields where
  by_field : HasAll payload end_of_snapshot.columns (Number next ∷ []) → IsSequence next
  by_field (((left, digits, right, field), some), none) = record { low = some; high = field.bounded }

-- a snapshot file in any order, read and written, is read as before
pub read_again : (bytes : List ℕ) → (done : Content × ℕ) → IsMarketOf bytes done → IsMarketOf (canon done.0 ++ closing done.1) done
read_again bytes done read = found read where
  found : IsMarketOf bytes done → IsMarketOf (canon done.0 ++ closing done.1) done
  found (ms, (rest, file, ends), fit, left) =
      let good : IsGood done.0 = subst IsGood (sym left) (laid_good (run ms) (run_good ms fit file.follows)) in
      let in_order : laid done.0 ≡ done.0 = ap laid left ∙ laid_twice (run ms) ∙ sym left in
      subst (λ n. IsMarketOf (canon done.0 ++ closing done.1) (n, done.1)) in_order
      (written_market done.0 done.1 good (end_sequence done.1 file.last file.closes) (read_short bytes done read))

-- and no bytes follow the End of Snapshot of a file with these bytes
pub written_alone : (bytes rest : List ℕ) (ms : List Message) (next : ℕ) (m : Content) → IsGood m → length (snap m) < 10 ^ 19 → ClosesBefore rest bytes ms next
    → bytes ≡ canon m ++ closing next → rest ≡ []
unfolding written_file
written_alone bytes rest ms next m good few file same =
    let (end, written, ends) = written_file m next good (end_sequence next file.last file.closes) few in
    (closes_once (canon m ++ closing next) rest [] ms (snap m) next next (subst (λ b. ClosesBefore rest b ms next) same file) written).rest
