-- The books of selected locates are those of the market of these locates.
use Rattle.std.proofs.Common.{◌≡◌, ℕ, ◌||◌, ◌&&◌, Bool, true, false, List, [], ◌∷◌, ◌++◌, bytes_eq, Option, None, Some, IsSome, option_map, Result, inl, inr, refl, sym, ap, ap₂, ◌∙◌, subst}
use Rattle.std.specs.List.{filter, flat_map, list_any}
use Rattle.std.specs.FinMap as finite
use Rattle.itch_codec.specs.Text.{before_spaces}
use Rattle.itch_codec.specs.declared.orders.Side.TheVariants.{Buy, Sell}
use Rattle.itch_frame.specs.declared.tally.Failures.{Failures}
use Rattle.itch_book.specs.Orders.{queue}
use Rattle.itch_book.proofs.Lists.{by_test}
use Rattle.itch_market.specs.Content.{Content, Listing}
use Rattle.itch_market.specs.Wanted.{Wanted, has}
use Rattle.itch_commands.specs.Books.{AreListed, IsUnlisted, side_lines, wanted_by}
use Rattle.itch_commands.specs.Outputs.{Outputs, WritesOutput}
use Rattle.itch_commands.specs.Stocks.{IsStockFault, are_known, has_one_of, has_stock, is_known, is_named, names_of}
use Rattle.itch_commands.specs.declared.fault.ToolFault.{ToolFault}
use Rattle.itch_commands.specs.declared.form.BookForm.{BookForm}
use Rattle.itch_commands.specs.declared.selection.Selection.{Selection}
use Rattle.itch_commands.specs.declared.selection.Selection.TheVariants.{All, Locates, Stocks}
use Rattle.itch_depth.specs.Own.{Apart, Fits, FitsOne, IsApart, IsApartBy, IsOwn, are_none, is_neither, is_one, is_own, own_stock, stock_at}
use Rattle.itch_depth.specs.Series.{ListsSelected, SelectsSet, SelectsStocks}
use Rattle.itch_depth.specs.Timed.{timed_at, timed_book, timed_books, timed_listed, timed_row, timed_title}
use Rattle.itch_depth.proofs.OwnQueues.{own_keys, own_queue}
use Rattle.itch_depth.proofs.OwnMarkets.{kept_in}

-- ---- lists

-- the lines of what is kept, where a further test passes it and the lines are the same
lines_kept : (f g : ℕ → List ℕ) (p q : ℕ → Bool) → ((l : ℕ) → q l ≡ true → p l ≡ true) → ((l : ℕ) → q l ≡ true → f l ≡ g l) → (ks : List ℕ)
    → flat_map f (filter p (filter q ks)) ≡ flat_map g (filter q ks)
lines_kept f g p q passes same [] = refl
lines_kept f g p q passes same (k ∷ ks) =
    let rest = lines_kept f g p q passes same ks in
    by_test (q k) (λ on. let further = passes k on in simp (on, further) (ap₂ ◌++◌ (same k on) rest)) (λ off. simp off rest)

-- a property of one that is kept
any_kept : (f g q : ℕ → Bool) → ((l : ℕ) → q l ≡ true → f l ≡ g l) → ((l : ℕ) → q l ≡ false → g l ≡ false) → (ks : List ℕ) → list_any f (filter q ks) ≡ list_any g ks
any_kept f g q same out [] = refl
any_kept f g q same out (k ∷ ks) =
    let rest = any_kept f g q same out ks in
    by_test (q k) (λ on. simp on (ap₂ ◌||◌ (same k on) rest)) (λ off. let no = out k off in simp (off, no) rest)

neither : (a b : Bool) → (a || b) ≡ false → (a ≡ false) × (b ≡ false)
neither true b none = absurd (cc none)
neither false b none = (refl, none)

none_of : (names : List (List ℕ)) → list_any (λ name. false) names ≡ false
none_of [] = refl
none_of (name ∷ names) = none_of names

-- ---- the books of the locates

module _ (w : ℕ → Option (List ℕ) → Bool) (m own : Content) (is_own : IsOwn w m own) where
  same_stock : (l : ℕ) → kept_in w m l ≡ true → stock_at own l ≡ stock_at m l
  same_stock l has_it = IsOwn.listed is_own l ∙ ap (λ b. own_stock b (stock_at m l)) has_it

  module _ (form : BookForm) (time : ℕ) (depth : Option ℕ) where
    by_listing : (l : ℕ) (o p : Option Listing) → option_map (λ (s : Listing). s.entry.stock) p ≡ option_map (λ (s : Listing). s.entry.stock) o
        → queue m.orders l Buy ≡ queue own.orders l Buy → queue m.orders l Sell ≡ queue own.orders l Sell
        → timed_listed form time depth own.orders l p ≡ timed_listed form time depth m.orders l o
    by_listing l None None is bids asks = refl
    by_listing l None (Some t) is bids asks = absurd (cc is)
    by_listing l (Some s) None is bids asks = absurd (cc is)
    by_listing l (Some s) (Some t) is bids asks =
        let same : t.entry.stock ≡ s.entry.stock = cc in
        let stock : before_spaces t.entry.stock ≡ before_spaces s.entry.stock = ap before_spaces same in
        ap (λ text. timed_book form time l depth text own.orders) stock
        ∙ ap₂ (λ b a. timed_title form time l (before_spaces s.entry.stock) ++ (side_lines (timed_row form time l (before_spaces s.entry.stock)) depth Buy b ++ side_lines (timed_row form time l (before_spaces s.entry.stock)) depth Sell a))
        (sym bids) (sym asks)

    same_lines : (l : ℕ) → kept_in w m l ≡ true → timed_at form time depth own l ≡ timed_at form time depth m l
    same_lines l has_it =
        by_listing l (finite.get m.securities l) (finite.get own.securities l) (same_stock l has_it) (own_queue w m own is_own l Buy has_it) (own_queue w m own is_own l Sell has_it)

    -- the books of those of them that pass a further test, which all do
    same_books : (picked : ℕ → Bool) → ((l : ℕ) → kept_in w m l ≡ true → picked l ≡ true) → timed_books form time depth picked own ≡ timed_books form time depth (kept_in w m) m
    same_books picked passes =
        ap (λ ks. flat_map (timed_at form time depth own) (filter picked ks)) (own_keys w m own is_own)
        ∙ lines_kept (timed_at form time depth own) (timed_at form time depth m) picked (kept_in w m) passes same_lines (finite.keys m.securities)

-- ---- locates by their stocks

-- the locates that have one of the names
named_kept : (text : List ℕ) (set : Option Wanted) (m : Content) (l : ℕ) → has_one_of m.securities (names_of text) l ≡ kept_in (is_one (Some text) set) m l
named_kept text set m l = by_listing (finite.get m.securities l) where
  by_listing : (o : Option Listing) → list_any (λ name. is_named name o) (names_of text) ≡ is_one (Some text) set l (option_map (λ (s : Listing). s.entry.stock) o)
  by_listing None = none_of (names_of text)
  by_listing (Some s) = refl

module _ (text : List ℕ) (set : Option Wanted) (m own : Content) (is_own : IsOwn (is_one (Some text) set) m own) where
  abbrev kept : ℕ → Bool
  kept = kept_in (is_one (Some text) set) m

  still_named : (l : ℕ) → kept l ≡ true → has_one_of own.securities (names_of text) l ≡ true
  still_named l has_it =
      named_kept text set own l ∙ ap (is_one (Some text) set l) (same_stock (is_one (Some text) set) m own is_own l has_it) ∙ has_it

  same_name : (name : List ℕ) (l : ℕ) → kept l ≡ true → has_stock own.securities name l ≡ has_stock m.securities name l
  same_name name l has_it = by_listing (finite.get m.securities l) (finite.get own.securities l) (same_stock (is_one (Some text) set) m own is_own l has_it) where
    by_listing : (o p : Option Listing) → option_map (λ (s : Listing). s.entry.stock) p ≡ option_map (λ (s : Listing). s.entry.stock) o → is_named name p ≡ is_named name o
    by_listing None None is = refl
    by_listing None (Some t) is = absurd (cc is)
    by_listing (Some s) None is = absurd (cc is)
    by_listing (Some s) (Some t) is = let same : t.entry.stock ≡ s.entry.stock = cc in ap (λ stock. bytes_eq (before_spaces stock) name) same

  -- the directory knows the same ones of the names
  known_too : (names : List (List ℕ)) → ((l : ℕ) → kept l ≡ false → has_one_of m.securities names l ≡ false) → are_known own.securities names ≡ are_known m.securities names
  known_too [] out = refl
  known_too (name ∷ names) out = ap₂ ◌&&◌ first (known_too names (λ l off. (apart l off).1)) where
    apart : (l : ℕ) → kept l ≡ false → (has_stock m.securities name l ≡ false) × (has_one_of m.securities names l ≡ false)
    apart l off = neither (has_stock m.securities name l) (has_one_of m.securities names l) (out l off)

    first : is_known own.securities name ≡ is_known m.securities name
    first =
        ap (list_any (has_stock own.securities name)) (own_keys (is_one (Some text) set) m own is_own)
        ∙ any_kept (has_stock own.securities name) (has_stock m.securities name) kept (same_name name) (λ l off. (apart l off).0) (finite.keys m.securities)

  same_known : are_known own.securities (names_of text) ≡ are_known m.securities (names_of text)
  same_known = known_too (names_of text) (λ l off. named_kept text set m l ∙ off)

  named_fault : (fault : ToolFault) → IsStockFault own.securities (names_of text) fault → IsStockFault m.securities (names_of text) fault
  named_fault fault (inl (is, unknown)) = inl (is, sym same_known ∙ unknown)
  named_fault fault (inr memory) = inr memory

-- ---- locates of a set

module _ (set : Wanted) (m own : Content) (is_own : IsOwn (is_one None (Some set)) m own) where
  same_there : (l : ℕ) → has set l ≡ true → option_map (λ (s : Listing). s.entry.stock) (finite.get own.securities l) ≡ option_map (λ (s : Listing). s.entry.stock) (finite.get m.securities l)
  same_there l has_it = same_stock (is_one None (Some set)) m own is_own l has_it

  all_there : AreListed (Some set) own.securities → AreListed (Some set) m.securities
  all_there each l below has_it = by_listing (finite.get m.securities l) (finite.get own.securities l) (same_there l has_it) (each l below has_it) where
    by_listing : (o p : Option Listing) → option_map (λ (s : Listing). s.entry.stock) p ≡ option_map (λ (s : Listing). s.entry.stock) o → IsSome p → IsSome o
    by_listing o None is some = absurd (cc some)
    by_listing None (Some t) is some = absurd (cc is)
    by_listing (Some s) (Some t) is some = refl

  one_lacks : IsUnlisted (Some set) own.securities → IsUnlisted (Some set) m.securities
  one_lacks (l, below, has_it, none) = (l, below, has_it, by_listing (finite.get m.securities l) (finite.get own.securities l) (same_there l has_it) none) where
    by_listing : (o p : Option Listing) → option_map (λ (s : Listing). s.entry.stock) p ≡ option_map (λ (s : Listing). s.entry.stock) o → p ≡ None → o ≡ None
    by_listing None p is none = refl
    by_listing (Some s) None is none = absurd (cc is)
    by_listing (Some s) (Some t) is none = absurd (cc none)

-- ---- selected books

module _ {W : Type 0} (contents : W → Option (List ℕ)) (failed_writes : W → Failures) (depth : Option ℕ) (form : BookForm) (m own : Content) (time : ℕ) (old : W) (result : Result Bool ToolFault) (new : W) where
  -- the lines of the books of these locates of a market, if they are selected
  abbrev Lists : (Content → Result Content ToolFault → Type 0) → (Content → ℕ → Bool) → Content → Type 0
  Lists selects picked n = Outputs contents failed_writes (selects n) (λ (k : Content). timed_books form time depth (picked k) k) (λ _. true) old result new

  by_names : (text names : List ℕ) (set : Option Wanted) → text ≡ names → IsOwn (is_one (Some text) set) m own
      → Lists (SelectsStocks (names_of names)) (λ k. has_one_of (Content.securities k) (names_of names)) own
      → Lists (SelectsStocks (names_of names)) (λ k. has_one_of (Content.securities k) (names_of names)) m
  by_names text names set is is_own (inl (fault, fails, unknown, kept)) =
      inl (fault, fails, subst (λ t. IsStockFault m.securities (names_of t) fault) is (named_fault text set m own is_own fault (subst (λ t. IsStockFault own.securities (names_of t) fault) (sym is) unknown)), kept)
  by_names text names set is is_own (inr (n, (same, known), wrote)) =
      let w = is_one (Some text) set in
      let mine : timed_books form time depth (has_one_of own.securities (names_of text)) own ≡ timed_books form time depth (has_one_of m.securities (names_of text)) m =
      same_books w m own is_own form time depth (has_one_of own.securities (names_of text)) (still_named text set m own is_own)
      ∙ ap (λ (picked : ℕ → Bool). timed_books form time depth picked m) (λ i l. sym (named_kept text set m l) i) in
      let lines : timed_books form time depth (has_one_of n.securities (names_of names)) n ≡ timed_books form time depth (has_one_of m.securities (names_of names)) m =
      ap (λ (c : Content). timed_books form time depth (has_one_of c.securities (names_of names)) c) same
      ∙ subst (λ t. timed_books form time depth (has_one_of own.securities (names_of t)) own ≡ timed_books form time depth (has_one_of m.securities (names_of t)) m) is mine in
      inr (
        m,
        (refl, subst (λ t. are_known m.securities (names_of t) ≡ true) is (sym (same_known text set m own is_own) ∙ subst (λ t. are_known own.securities (names_of t) ≡ true) (sym is) known)),
        subst (λ bytes. WritesOutput contents failed_writes bytes true old result new) lines wrote,
      )

  by_set : (set : Wanted) (only : Option Wanted) → only ≡ Some set → IsOwn (is_one None (Some set)) m own → Lists (SelectsSet only) (λ k. wanted_by only) own → Lists (SelectsSet only) (λ k. wanted_by only) m
  by_set set only is is_own (inl (fault, fails, (unknown, lacks), kept)) =
      inl (fault, fails, (unknown, subst (λ (o : Option Wanted). IsUnlisted o m.securities) (sym is) (one_lacks set m own is_own (subst (λ (o : Option Wanted). IsUnlisted o own.securities) is lacks))), kept)
  by_set set only is is_own (inr (n, (same, each), wrote)) =
      let mine : timed_books form time depth (wanted_by (Some set)) own ≡ timed_books form time depth (wanted_by (Some set)) m =
      same_books (is_one None (Some set)) m own is_own form time depth (wanted_by (Some set)) (λ l has_it. has_it) in
      let lines : timed_books form time depth (wanted_by only) n ≡ timed_books form time depth (wanted_by only) m =
      ap (timed_books form time depth (wanted_by only)) same
      ∙ subst (λ (o : Option Wanted). timed_books form time depth (wanted_by o) own ≡ timed_books form time depth (wanted_by o) m) (sym is) mine in
      inr (
        m,
        (refl, subst (λ (o : Option Wanted). AreListed o m.securities) (sym is) (all_there set m own is_own (subst (λ (o : Option Wanted). AreListed o own.securities) is each))),
        subst (λ bytes. WritesOutput contents failed_writes bytes true old result new) lines wrote,
      )

  by_selection : (names : Option (List ℕ)) (set : Option Wanted) (selection : Selection) (only : Option Wanted) → is_neither names set ≡ false → FitsOne names set selection only → IsOwn (is_one names set) m own
      → ListsSelected contents failed_writes selection only depth form own time old result new → ListsSelected contents failed_writes selection only depth form m time old result new
  by_selection None None selection only some fits is_own lists = absurd (cc some)
  by_selection (Some text) set All only some fits is_own lists = absurd fits
  by_selection (Some text) set (Locates list) only some fits is_own lists = absurd fits
  by_selection (Some text) set (Stocks names) only some fits is_own lists = by_names text names.now set fits is_own lists
  by_selection None (Some set) (Stocks names) only some fits is_own lists = absurd fits
  by_selection None (Some set) All only some fits is_own lists = by_set set only fits is_own lists
  by_selection None (Some set) (Locates list) only some fits is_own lists = by_set set only fits is_own lists

  -- the selected books of a market are those of the market of these locates
  pub own_lists : (apart : Apart) (selection : Selection) (only : Option Wanted) → are_none apart ≡ false → Fits apart selection only → IsApart apart m own
      → ListsSelected contents failed_writes selection only depth form own time old result new → ListsSelected contents failed_writes selection only depth form m time old result new
  own_lists apart selection only some fits is_apart lists =
      by_selection apart.names apart.set selection only some fits (subst (λ b. IsApartBy b apart m own) some is_apart) lists
