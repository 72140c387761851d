-- The snapshot of the market after a file's messages.
use Rattle.std.proofs.Common.{◌≡◌, ℕ, ◌+◌, ◌<◌, ◌≤◌, ◌^◌, List, ◌++◌, map, length, Bool, true, not, Option, None, Some, Ok, refl, sym, ap, subst, ◌∙◌, arith}
use Rattle.std.specs.Option.{option_copied}
use Rattle.std.proofs.lemmas.List.Filters.{length-filter_both}
use Rattle.itch_book.proofs.Lists.{All-map_rec}
use Rattle.itch_codec.specs.Messages.{message_of, spelling}
use Rattle.itch_codec.specs.declared.message.Message.{Message}
use Rattle.itch_frame.specs.Blocks.{blocks}
use Rattle.itch_codec.specs.Widths.{IsMessage}
use Rattle.itch_market.specs.Content.{Content, empty}
use Rattle.itch_market.specs.GoodMarkets.{IsGood}
use Rattle.itch_market.specs.Partial.{skips, kept, only}
use Rattle.itch_market.specs.Runs.{AreMessages, run, Follows}
use Rattle.itch_market.specs.Wanted.{Wanted, has}
use Rattle.itch_market.proofs.Causes.{none_follows}
use Rattle.itch_market.proofs.GoodMarkets.{run_good}
use denote.Ref.{Bor}
use Rattle.itch_snapshot.specs.Bytes.{canon, closing}
use Rattle.itch_snapshot.specs.Cursor.{cut_to}
use Rattle.itch_snapshot.specs.Snapshot.{snap}
use Rattle.itch_snapshot.specs.Reads.{ReadsSnapshot}
use Rattle.itch_snapshot.proofs.PartialSnapshots.{snap_only}
use Rattle.itch_snapshot.proofs.OneSnapshot.{snap-laid}
use Rattle.itch_snapshot.proofs.CanonicalBytes.{canon-laid}
use Rattle.itch_snapshot.proofs.DaySnapshots.{taken_short}
use Rattle.itch_commands.specs.Outputs.{snapshot_of, snapshot_in, directory_after, stocks_snapshot}
use Rattle.itch_commands.specs.Stocks.{are_known, has_one_of, only_stocks, IsStockFault}
use Rattle.itch_commands.specs.declared.fault.ToolFault.{ToolFault}
use Rattle.itch_day.specs.declared.limit.Limit.{Limit}
use Rattle.itch_market.proofs.DayMessages.{Applied}

-- the market of a snapshot file can be written
pub read_short : (old new : Option (List ℕ)) (done : Content × ℕ) → ReadsSnapshot old new (Ok done) → length (snap done.0) < 10 ^ 19
read_short old new done (mid, (ps, at, takes, few, closes), ends) = omega (arith, few, taken_short ps done.0 takes.fits takes.none takes.left)

-- a market restricted to some locates has no more messages
pub only_short : (wanted : ℕ → Bool) (n : Content) → length (snap (only wanted n)) ≤ length (snap n)
only_short wanted n =
    let passes = λ (x : Message). not (skips wanted x) in
    omega (arith, ap length (snap_only wanted n), length-filter_both passes (λ x. not (passes x)) (λ x. refl) (snap n))

pub cut_no_longer : (set : Option (Bor Wanted)) (n : Content) → length (snap (cut_to set n)) ≤ length (snap n)
cut_no_longer None n = omega arith
cut_no_longer (Some set) n = only_short (has set.now) n

-- and the same bytes in any order of its orders
pub only_bytes : (wanted : ℕ → Bool) (m n : Content) → snap n ≡ snap m → canon (only wanted n) ≡ canon (only wanted m)
only_bytes wanted m n same = ap (λ xs. blocks (map spelling xs)) (snap_only wanted n ∙ ap (kept wanted) same ∙ sym (snap_only wanted m))

module _ (limit : Limit) (bytes new : Option (List ℕ)) (count : ℕ) (n : Content) (applied : Applied limit bytes new count n) where
  fit : AreMessages (map message_of applied.payloads)
  fit = All-map_rec IsMessage message_of applied.payloads applied.fits

  follow : Follows (map message_of applied.payloads)
  follow = none_follows empty applied.payloads applied.taken.taken

  good : IsGood (run (map message_of applied.payloads))
  good = run_good (map message_of applied.payloads) fit follow

  -- it has no more messages than the file
  pub applied_short : length (snap n) ≤ count
  applied_short = omega (arith, taken_short applied.payloads n applied.fits applied.taken.taken applied.left, applied.counted)

  -- and it is the snapshot of the messages
  applied_snapshot : canon n ++ closing (count + 1) ≡ snapshot_of applied.payloads
  applied_snapshot =
      let ms = map message_of applied.payloads in
      ap (λ bytes. bytes ++ closing (count + 1)) (ap canon applied.left ∙ canon-laid (run ms) good)
      ∙ ap (λ k. canon (run ms) ++ closing (k + 1)) (sym applied.counted)

  same_list : snap n ≡ snap (run (map message_of applied.payloads))
  same_list = ap snap applied.left ∙ snap-laid (run (map message_of applied.payloads)) good

  -- restricted to some locates, too
  module _ (set : Wanted) where
    abbrev passes : Message → Bool
    passes x = not (skips (has set) x)

    set_short : length (snap (only (has set) n)) ≤ count
    set_short =
        omega (arith, ap length (snap_only (has set) n), length-filter_both passes (λ x. not (passes x)) (λ x. refl) (snap n), applied_short)

    same_cut : snap (only (has set) n) ≡ snap (only (has set) (run (map message_of applied.payloads)))
    same_cut = snap_only (has set) n ∙ ap (kept (has set)) same_list ∙ sym (snap_only (has set) (run (map message_of applied.payloads)))

    set_snapshot : canon (only (has set) n) ++ closing (count + 1) ≡ snapshot_in (Some set) applied.payloads
    set_snapshot =
        ap (λ xs. blocks (map spelling xs) ++ closing (count + 1)) same_cut
        ∙ ap (λ k. canon (only (has set) (run (map message_of applied.payloads))) ++ closing (k + 1)) (sym applied.counted)

  -- the same for the requested locates
  pub cut_short : (set : Option (Bor Wanted)) → length (snap (cut_to set n)) ≤ count
  cut_short None = applied_short
  cut_short (Some set) = set_short set.now

  pub cut_snapshot : (set : Option (Bor Wanted)) → canon (cut_to set n) ++ closing (count + 1) ≡ snapshot_in (option_copied set) applied.payloads
  cut_snapshot None = applied_snapshot
  cut_snapshot (Some set) = set_snapshot set.now

  -- the directory after them
  same_listings : Content.securities n ≡ directory_after applied.payloads
  same_listings = ap Content.securities applied.left

  -- it has the stocks of these names
  pub stocks_after : (names : List (List ℕ)) → are_known (Content.securities n) names ≡ true → are_known (directory_after applied.payloads) names ≡ true
  stocks_after names known = subst (λ listings. are_known listings names ≡ true) same_listings known

  pub unknown_after : (names : List (List ℕ)) (fault : ToolFault) → IsStockFault (Content.securities n) names fault → IsStockFault (directory_after applied.payloads) names fault
  unknown_after names fault unknown = subst (λ listings. IsStockFault listings names fault) same_listings unknown

  -- and this is the snapshot of the locates that have them
  pub stocks_written : (set : Wanted) (names : List (List ℕ)) → ((l : ℕ) → has set l ≡ has_one_of (Content.securities n) names l)
      → canon (only (has set) n) ++ closing (count + 1) ≡ stocks_snapshot names applied.payloads
  stocks_written set names members =
      let m = run (map message_of applied.payloads) in
      let named : has set ≡ has_one_of (Content.securities n) names = λ i l. members l i in
      let same : has set ≡ has_one_of (Content.securities m) names = named ∙ ap (λ listings. has_one_of listings names) same_listings in
      ap (λ bytes. bytes ++ closing (count + 1)) (ap (λ (wanted : ℕ → Bool). canon (only wanted n)) same ∙ only_bytes (has_one_of (Content.securities m) names) m n same_list)
      ∙ ap (λ k. canon (only_stocks names m) ++ closing (k + 1)) (sym applied.counted)
