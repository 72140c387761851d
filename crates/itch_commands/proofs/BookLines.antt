-- The books after a file.
use Rattle.std.proofs.Common.{◌≡◌, ℕ, Bool, true, List, ◌++◌, filter, flat_map, Option, None, Some, IsSome, Result, Ok, refl, sym, ap, ap₂, ◌∙◌, subst}
use Rattle.std.specs.FinMap as finite
use Rattle.std.proofs.KnownBytes.{Appends-nil}
use Rattle.itch_book.specs.declared.order.Order.{Order}
use Rattle.itch_book.specs.Orders.{lay, AllFit}
use Rattle.itch_book.proofs.Distinct.{live_fit}
use Rattle.itch_book.proofs.OrderLemmas.{queue-lay}
use Rattle.itch_codec.specs.Text.{before_spaces}
use Rattle.itch_codec.specs.declared.orders.Side.TheVariants.{Buy, Sell}
use Rattle.itch_frame.specs.declared.tally.Failures.{Failures}
use Rattle.itch_market.specs.Content.{Content, Listing, Securities, laid}
use Rattle.itch_market.specs.Wanted.{Wanted}
use Rattle.itch_commands.specs.declared.fault.ToolFault.{ToolFault}
use Rattle.itch_commands.specs.Books.{side_lines, book_lines, listed_lines, lines_at, books_of, AreListed, IsUnlisted, ReadsListed, ReadsEntry}
use Rattle.itch_commands.specs.Forms.{head, title, row}
use Rattle.itch_commands.specs.declared.form.BookForm.{BookForm}
use Rattle.itch_commands.specs.Outputs.{WritesText}
use Rattle.itch_commands.specs.Files.{IsLaid}
use Rattle.itch_commands.specs.Stocks.{are_known, has_one_of, IsStockFault}

-- a book has the same lines in any order of its orders
lines-laid : (form : BookForm) (locate : ℕ) (depth : Option ℕ) (stock : List ℕ) (orders : List Order) → AllFit orders
    → book_lines form locate depth stock (lay orders) ≡ book_lines form locate depth stock orders
lines-laid form locate depth stock orders fit =
    ap₂ (λ bids asks. title form locate stock ++ (side_lines (row form locate stock) depth Buy bids ++ side_lines (row form locate stock) depth Sell asks)) (queue-lay orders locate Buy fit) (queue-lay orders locate Sell fit)

listed-laid : (form : BookForm) (depth : Option ℕ) (orders : List Order) (locate : ℕ) (s : Option Listing) → AllFit orders
    → listed_lines form depth (lay orders) locate s ≡ listed_lines form depth orders locate s
listed-laid form depth orders locate None fit = refl
listed-laid form depth orders locate (Some s) fit = lines-laid form locate depth (before_spaces s.entry.stock) orders fit

-- and so have several
books-laid : (form : BookForm) (depth : Option ℕ) (wanted : ℕ → Bool) (m : Content) → AllFit (Content.orders m)
    → books_of form depth wanted (laid m) ≡ books_of form depth wanted m
books-laid form depth wanted m fit =
    let same : lines_at form depth (laid m) ≡ lines_at form depth m =
    λ i locate. listed-laid form depth (Content.orders m) locate (finite.get (Content.securities m) locate) fit i in
    ap (λ (lines : ℕ → List ℕ). head form ++ flat_map lines (filter wanted (finite.keys (Content.securities m)))) same

module _ (form : BookForm) (depth : Option ℕ) (m : Content) (locate : ℕ) where
  -- the book of a locate of the directory
  pub lines_listed : (s : Listing) (stock : List ℕ) (orders : List Order) → Some s ≡ finite.get (Content.securities m) locate → stock ≡ before_spaces s.entry.stock
      → orders ≡ Content.orders m → book_lines form locate depth stock orders ≡ lines_at form depth m locate
  lines_listed s stock orders there text same =
      ap₂ (λ t os. book_lines form locate depth t os) text same ∙ ap (listed_lines form depth (Content.orders m) locate) there

  -- there are no lines for another locate
  pub nothing_listed : {W : Type 0} (contents : W → Option (List ℕ)) (failures : W → Failures) (old : W) → None ≡ finite.get (Content.securities m) locate
      → WritesText contents failures (lines_at form depth m locate) old (Ok tt) old
  nothing_listed contents failures old there =
      subst (λ text. WritesText contents failures text old (Ok tt) old) (ap (listed_lines form depth (Content.orders m) locate) there) (Appends-nil (contents old), refl)

module _ (m market : Content) (next : ℕ) (left : IsLaid m market) where
  same_listings : Content.securities market ≡ Content.securities m
  same_listings = ap Content.securities left.in_order

  -- the directory has each locate of a set
  pub listed : (only : Option Wanted) (reads : Result (Content × ℕ) ToolFault → Type 0) → reads (Ok (m, next)) → AreListed only (Content.securities market)
      → ReadsListed only reads (Ok (m, next))
  listed only reads read all = (read, subst (AreListed only) same_listings all)

  -- or lacks one
  pub unlisted : (only : Option Wanted) → IsUnlisted only (Content.securities market) → IsUnlisted only (Content.securities m)
  unlisted only one = subst (IsUnlisted only) same_listings one

  -- the directory has an entry at a locate
  pub entry_read : (locate : ℕ) (reads : Result (Content × ℕ) ToolFault → Type 0) (s : Listing) → reads (Ok (m, next)) → Some s ≡ finite.get (Content.securities market) locate
      → ReadsEntry locate reads (Ok (m, next))
  entry_read locate reads s read there = (read, subst IsSome (there ∙ ap (λ (listings : Securities). finite.get listings locate) same_listings) refl)

  -- or not
  pub no_entry : (locate : ℕ) → None ≡ finite.get (Content.securities market) locate → finite.get (Content.securities m) locate ≡ None
  no_entry locate none = sym (none ∙ ap (λ (listings : Securities). finite.get listings locate) same_listings)

  pub lines_left : {W : Type 0} (contents : W → Option (List ℕ)) (failures : W → Failures) (form : BookForm) (depth : Option ℕ) (locate : ℕ) (old new : W) (result : Result (Unit {0}) ToolFault)
      → WritesText contents failures (lines_at form depth market locate) old result new → WritesText contents failures (lines_at form depth m locate) old result new
  lines_left contents failures form depth locate old new result wrote =
      subst (λ text. WritesText contents failures text old result new)
      (ap (λ (n : Content). lines_at form depth n locate) left.in_order
      ∙ listed-laid form depth (Content.orders m) locate (finite.get (Content.securities m) locate) (live_fit (Content.orders m) left.good.live)) wrote

  pub books_left : {W : Type 0} (contents : W → Option (List ℕ)) (failures : W → Failures) (form : BookForm) (depth : Option ℕ) (wanted : ℕ → Bool) (old new : W) (result : Result (Unit {0}) ToolFault)
      → WritesText contents failures (books_of form depth wanted market) old result new → WritesText contents failures (books_of form depth wanted m) old result new
  books_left contents failures form depth wanted old new result wrote =
      subst (λ text. WritesText contents failures text old result new)
      (ap (books_of form depth wanted) left.in_order ∙ books-laid form depth wanted m (live_fit (Content.orders m) left.good.live)) wrote

  -- the directory has each of these stocks
  pub stocks_listed : (names : List (List ℕ)) → are_known (Content.securities market) names ≡ true → are_known (Content.securities m) names ≡ true
  stocks_listed names known = subst (λ listings. are_known listings names ≡ true) same_listings known

  -- or not
  pub stocks_unlisted : (names : List (List ℕ)) (fault : ToolFault) → IsStockFault (Content.securities market) names fault → IsStockFault (Content.securities m) names fault
  stocks_unlisted names fault unknown = subst (λ listings. IsStockFault listings names fault) same_listings unknown

  pub stocks_left : {W : Type 0} (contents : W → Option (List ℕ)) (failures : W → Failures) (form : BookForm) (depth : Option ℕ) (wanted : ℕ → Bool) (names : List (List ℕ)) (old new : W)
      (result : Result (Unit {0}) ToolFault) → ((l : ℕ) → wanted l ≡ has_one_of (Content.securities market) names l)
      → WritesText contents failures (books_of form depth wanted market) old result new
      → WritesText contents failures (books_of form depth (has_one_of (Content.securities m) names) m) old result new
  stocks_left contents failures form depth wanted names old new result members wrote =
      let named : wanted ≡ has_one_of (Content.securities market) names = λ i l. members l i in
      let same : wanted ≡ has_one_of (Content.securities m) names = named ∙ ap (λ listings. has_one_of listings names) same_listings in
      books_left contents failures form depth (has_one_of (Content.securities m) names) old new result
      (subst (λ (w : ℕ → Bool). WritesText contents failures (books_of form depth w market) old result new) same wrote)
