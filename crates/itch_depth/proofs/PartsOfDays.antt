-- The books of a market that a pass has read are those of the part of the file.
use Rattle.std.proofs.Common.{◌≡◌, ℕ, ◌+◌, Bool, true, List, ◌++◌, length, map, Option, None, Some, Result, Ok, Err, inl, inr, refl, ap, ap₂, subst, ◌∙◌}
use Rattle.std.specs.List.{filter, flat_map}
use Rattle.std.specs.FinMap as finite
use Rattle.std.proofs.KnownBytes.{Appends-nil}
use Rattle.itch_codec.specs.Messages.{message_of}
use Rattle.itch_codec.specs.Text.{before_spaces}
use Rattle.itch_codec.specs.declared.orders.Side.TheVariants.{Buy, Sell}
use Rattle.itch_frame.specs.Reading.{Reading}
use Rattle.itch_frame.specs.declared.tally.Failures.{Failures}
use Rattle.itch_day.specs.declared.limit.Limit.{Limit}
use Rattle.itch_day.specs.declared.cursor.DayCursor.{DayCursor}
use Rattle.itch_book.specs.declared.order.Order.{Order}
use Rattle.itch_book.specs.Orders.{lay, AllFit}
use Rattle.itch_book.proofs.Distinct.{live_fit}
use Rattle.itch_book.proofs.OrderLemmas.{queue-lay}
use Rattle.itch_market.specs.Content.{Content, Listing, Securities, laid}
use Rattle.itch_market.specs.Runs.{run}
use Rattle.itch_market.specs.Wanted.{Wanted}
use Rattle.itch_market.proofs.DayMessages.{taken_good}
use Rattle.itch_snapshot.proofs.DaySnapshots.{taken_few}
use Rattle.itch_commands.specs.Books.{side_lines}
use Rattle.itch_commands.specs.Files.{IsLaid, ReadsFile}
use Rattle.itch_commands.specs.Outputs.{Outputs, WritesOutput, WritesText}
use Rattle.itch_commands.specs.Points.{IsRead}
use Rattle.itch_commands.specs.Stocks.{has_one_of, names_of}
use Rattle.itch_commands.specs.declared.fault.Source.TheVariants.{Only}
use Rattle.itch_commands.specs.declared.fault.ToolFault.{ToolFault}
use Rattle.itch_commands.specs.declared.form.BookForm.{BookForm}
use Rattle.itch_commands.specs.declared.kind.FileKind.TheVariants.{Day}
use Rattle.itch_commands.specs.declared.selection.Selection.{Selection}
use Rattle.itch_commands.specs.declared.selection.Selection.TheVariants.{All, Locates, Stocks}
use Rattle.itch_commands.proofs.BookLines.{listed, stocks_listed, stocks_unlisted, unlisted}
use Rattle.itch_depth.specs.Series.{Checks, ListsPart, ReadsSelected, Selects, selected}
use Rattle.itch_depth.specs.Timed.{timed_at, timed_book, timed_books, timed_listed, timed_row, timed_title}

-- a book has the same lines in any order of its orders
timed_laid : (form : BookForm) (time locate : ℕ) (depth : Option ℕ) (stock : List ℕ) (orders : List Order) → AllFit orders
    → timed_book form time locate depth stock (lay orders) ≡ timed_book form time locate depth stock orders
timed_laid form time locate depth stock orders fit =
    ap₂ (λ bids asks. timed_title form time locate stock ++ (side_lines (timed_row form time locate stock) depth Buy bids ++ side_lines (timed_row form time locate stock) depth Sell asks))
    (queue-lay orders locate Buy fit) (queue-lay orders locate Sell fit)

timed_listed-laid : (form : BookForm) (time : ℕ) (depth : Option ℕ) (orders : List Order) (locate : ℕ) (s : Option Listing) → AllFit orders
    → timed_listed form time depth (lay orders) locate s ≡ timed_listed form time depth orders locate s
timed_listed-laid form time depth orders locate None fit = refl
timed_listed-laid form time depth orders locate (Some s) fit = timed_laid form time locate depth (before_spaces s.entry.stock) orders fit

timed_books-laid : (form : BookForm) (time : ℕ) (depth : Option ℕ) (wanted : ℕ → Bool) (m : Content) → AllFit (Content.orders m)
    → timed_books form time depth wanted (laid m) ≡ timed_books form time depth wanted m
timed_books-laid form time depth wanted m fit =
    let same : timed_at form time depth (laid m) ≡ timed_at form time depth m =
    λ i locate. timed_listed-laid form time depth (Content.orders m) locate (finite.get (Content.securities m) locate) fit i in
    ap (λ (lines : ℕ → List ℕ). flat_map lines (filter wanted (finite.keys (Content.securities m)))) same

module _ (form : BookForm) (time : ℕ) (depth : Option ℕ) (m : Content) (locate : ℕ) where
  -- the book of a locate of the directory
  pub timed_lines_listed : (s : Listing) (stock : List ℕ) (orders : List Order) → Some s ≡ finite.get (Content.securities m) locate → stock ≡ before_spaces s.entry.stock
      → orders ≡ Content.orders m → timed_book form time locate depth stock orders ≡ timed_at form time depth m locate
  timed_lines_listed s stock orders there text same =
      ap₂ (λ t os. timed_book form time locate depth t os) text same ∙ ap (timed_listed form time depth (Content.orders m) locate) there

  -- there are no lines for another locate
  pub timed_nothing_listed : {W : Type 0} (contents : W → Option (List ℕ)) (failures : W → Failures) (old : W) → None ≡ finite.get (Content.securities m) locate
      → WritesText contents failures (timed_at form time depth m locate) old (Ok tt) old
  timed_nothing_listed contents failures old there =
      subst (λ text. WritesText contents failures text old (Ok tt) old) (ap (timed_listed form time depth (Content.orders m) locate) there) (Appends-nil (contents old), refl)

-- the lines of a market do not depend on the order of its orders
abbrev pub IsOfMarket : ((ℕ → Bool) → Content → List ℕ) → Type 0
IsOfMarket lines = (wanted : ℕ → Bool) (m : Content) → AllFit (Content.orders m) → lines wanted (laid m) ≡ lines wanted m

pub timed_of_market : (form : BookForm) (time : ℕ) (depth : Option ℕ) → IsOfMarket (timed_books form time depth)
timed_of_market form time depth = timed_books-laid form time depth

-- the same locates are selected of markets with one directory
same_selected : (set : Option Wanted) (one other : Content) → Content.securities one ≡ Content.securities other → (s : Selection) → selected s set one ≡ selected s set other
same_selected set one other same All = refl
same_selected set one other same (Locates list) = refl
same_selected set one other same (Stocks names) = ap (λ (listings : Securities). has_one_of listings (names_of names.now)) same

-- the market of a selection is the one that was looked at
is_market : (set : Option Wanted) (market n : Content) (s : Selection) → Selects s set market (Ok n) → n ≡ market
is_market set market n All (same, all) = same
is_market set market n (Locates list) (same, all) = same
is_market set market n (Stocks names) (same, known) = same

module _ (m market : Content) (next : ℕ) (left : IsLaid m market) (set : Option Wanted) (reads : Result (Content × ℕ) ToolFault → Type 0) (read : reads (Ok (m, next))) where
  -- the directory after the part has each selected locate and stock
  selects_part : (s : Selection) (n : Content) → Selects s set market (Ok n) → ReadsSelected s set reads (Ok (m, next))
  selects_part All n (same, all) = listed m market next left set reads read all
  selects_part (Locates list) n (same, all) = listed m market next left set reads read all
  selects_part (Stocks names) n (same, known) = (read, stocks_listed m market next left (names_of names.now) known)

  -- or lacks one
  lacks_part : (s : Selection) (fault : ToolFault) → Selects s set market (Err fault) → ReadsSelected s set reads (Err fault)
  lacks_part All fault (is, one) = inr (is, ((m, next), read, unlisted m market next left set one))
  lacks_part (Locates list) fault (is, one) = inr (is, ((m, next), read, unlisted m market next left set one))
  lacks_part (Stocks names) fault unknown = inr ((m, next), read, stocks_unlisted m market next left (names_of names.now) fault unknown)

-- a part that is refused is refused whichever locates are selected
pub refused_part : (set : Option Wanted) (reads : Result (Content × ℕ) ToolFault → Type 0) (s : Selection) (fault : ToolFault) → reads (Err fault) → ReadsSelected s set reads (Err fault)
refused_part set reads All fault refused = inl refused
refused_part set reads (Locates list) fault refused = inl refused
refused_part set reads (Stocks names) fault refused = inl refused

module _ {R W : Type 0} (remaining : R → Option (List ℕ)) (failed_reads : R → Failures) (contents : W → Option (List ℕ)) (failed_writes : W → Failures)
    (lines : (ℕ → Bool) → Content → List ℕ) (same : IsOfMarket lines) (set : Option Wanted) (limit : Limit) (first now : Reading R) (m : Content) (cursor : DayCursor)
    (read : IsRead remaining failed_reads limit first now m cursor) where
  -- the market of the part, in the order of its messages
  abbrev part : Content
  part = run (map message_of read.payloads)

  left : IsLaid part m
  left = record {
    good = taken_good limit read.payloads read.fits read.day.0;
    in_order = read.market;
    few = taken_few limit read.payloads m read.fits read.day.0 read.market;
  }

  file : ReadsFile remaining failed_reads Only (Day limit) first now (Ok (part, length read.payloads + 1))
  file = (read.payloads, read.day, refl, refl)

  lines_part : (s : Selection) (n : Content) → n ≡ m → lines (selected s set n) n ≡ lines (selected s set part) part
  lines_part s n is =
      ap (λ (x : Content). lines (selected s set x) x) is
      ∙ ap (λ (w : ℕ → Bool). lines w m) (same_selected set m part (ap Content.securities left.in_order) s)
      ∙ ap (lines (selected s set part)) read.market
      ∙ same (selected s set part) part (live_fit (Content.orders part) left.good.live)

  -- the books of the market are those of the part
  pub part_listed : (s : Selection) (old new : W) (result : Result Bool ToolFault)
      → Outputs contents failed_writes (Selects s set m) (λ n. lines (selected s set n) n) (λ _. true) old result new
      → ListsPart remaining failed_reads contents failed_writes lines s set limit first now old result new
  part_listed s old new result (inl (fault, is, lacks, untouched)) =
      inl (fault, is, lacks_part part m (length read.payloads + 1) left set (ReadsFile remaining failed_reads Only (Day limit) first now) file s fault lacks, untouched)
  part_listed s old new result (inr (n, chosen, wrote)) = inr (
    (part, length read.payloads + 1),
    selects_part part m (length read.payloads + 1) left set (ReadsFile remaining failed_reads Only (Day limit) first now) file s n chosen,
    subst (λ text. WritesOutput contents failed_writes text true old result new) (lines_part s n (is_market set m n s chosen)) wrote,
  )

module _ {R : Type 0} (remaining : R → Option (List ℕ)) (failed_reads : R → Failures) (set : Option Wanted) (limit : Limit) (first now : Reading R) (m : Content) (cursor : DayCursor)
    (read : IsRead remaining failed_reads limit first now m cursor) where
  abbrev whole : Content
  whole = run (map message_of read.payloads)

  in_order : IsLaid whole m
  in_order = record {
    good = taken_good limit read.payloads read.fits read.day.0;
    in_order = read.market;
    few = taken_few limit read.payloads m read.fits read.day.0 read.market;
  }

  abbrev reads : Result (Content × ℕ) ToolFault → Type 0
  reads = ReadsFile remaining failed_reads Only (Day limit) first now

  it_is : reads (Ok (whole, length read.payloads + 1))
  it_is = (read.payloads, read.day, refl, refl)

  checked : (s : Selection) → Checks s set m (Ok tt) → Selects s set m (Ok m)
  checked All all = (refl, all)
  checked (Locates list) all = (refl, all)
  checked (Stocks names) known = (refl, known)

  lacking : (s : Selection) (fault : ToolFault) → Checks s set m (Err fault) → Selects s set m (Err fault)
  lacking All fault one = one
  lacking (Locates list) fault one = one
  lacking (Stocks names) fault unknown = unknown

  -- the directory after the part has each selected locate and stock
  pub part_checked : (s : Selection) → Checks s set m (Ok tt) → (done : Content × ℕ) × ReadsSelected s set reads (Ok done)
  part_checked s all = ((whole, length read.payloads + 1), selects_part whole m (length read.payloads + 1) in_order set reads it_is s m (checked s all))

  -- or lacks one
  pub part_lacks : (s : Selection) (fault : ToolFault) → Checks s set m (Err fault) → ReadsSelected s set reads (Err fault)
  part_lacks s fault lacks = lacks_part whole m (length read.payloads + 1) in_order set reads it_is s fault (lacking s fault lacks)
