-- The lines of books, with a time at the beginning of each and without.
use Rattle.std.proofs.Common.{◌≡◌, ℕ, Bool, List, [], ◌∷◌, ◌++◌, map, Option, None, Some, refl, sym, ap, ap₂, ◌∙◌, append-nil}
use Rattle.std.specs.List.{filter, flat_map}
use Rattle.std.specs.FinMap as finite
use Rattle.std.proofs.lemmas.Grind.{flat_map-append}
use Rattle.itch_codec.specs.Text.{before_spaces}
use Rattle.itch_codec.specs.declared.orders.Side.TheVariants.{Buy, Sell}
use Rattle.itch_book.specs.declared.order.Order.{Order}
use Rattle.itch_book.specs.Orders.{queue}
use Rattle.itch_book.specs.Prices.{prices}
use Rattle.itch_market.specs.Content.{Content, Listing}
use Rattle.itch_commands.specs.Books.{book_lines, books_of, first_of, lines_at, listed_lines, price_line}
use Rattle.itch_commands.specs.Forms.{head, row, title}
use Rattle.itch_commands.specs.declared.form.BookForm.{BookForm}
use Rattle.itch_commands.specs.declared.form.BookForm.TheVariants as book
use Rattle.itch_depth.specs.Timed.{book_list, books_list, joined, joined_at, list_at, listed_list, side_list, timed, timed_at, timed_book, timed_books, timed_listed, timed_title, titles}

module _ (g : List ℕ → List ℕ) where
  -- the lines of a list
  of_map : (f : ℕ → List ℕ) (xs : List ℕ) → flat_map g (map f xs) ≡ flat_map (λ x. g (f x)) xs
  of_map f [] = refl
  of_map f (x ∷ xs) = ap (λ lines. g (f x) ++ lines) (of_map f xs)

  -- those of several lists
  of_lists : (h : ℕ → List (List ℕ)) (ks : List ℕ) → flat_map g (flat_map h ks) ≡ flat_map (λ k. flat_map g (h k)) ks
  of_lists h [] = refl
  of_lists h (k ∷ ks) = flat_map-append g (h k) (flat_map h ks) ∙ ap (λ lines. flat_map g (h k) ++ lines) (of_lists h ks)

  -- those of a book
  of_book : (form : BookForm) (locate : ℕ) (depth : Option ℕ) (stock : List ℕ) (orders : List Order)
      → flat_map g (book_list form locate depth stock orders)
      ≡ flat_map g (titles form locate stock)
      ++ (flat_map (λ p. g (price_line (row form locate stock) Buy (queue orders locate Buy) p)) (first_of depth (prices (queue orders locate Buy)))
      ++ flat_map (λ p. g (price_line (row form locate stock) Sell (queue orders locate Sell) p)) (first_of depth (prices (queue orders locate Sell))))
  of_book form locate depth stock orders =
      let bids : List (List ℕ) = side_list (row form locate stock) depth Buy (queue orders locate Buy) in
      let asks : List (List ℕ) = side_list (row form locate stock) depth Sell (queue orders locate Sell) in
      flat_map-append g (titles form locate stock) (bids ++ asks)
      ∙ ap (λ lines. flat_map g (titles form locate stock) ++ lines)
      (flat_map-append g bids asks
      ∙ ap₂ (λ b s. b ++ s) (of_map (price_line (row form locate stock) Buy (queue orders locate Buy)) (first_of depth (prices (queue orders locate Buy))))
      (of_map (price_line (row form locate stock) Sell (queue orders locate Sell)) (first_of depth (prices (queue orders locate Sell)))))

-- without a time
plain_titles : (form : BookForm) (locate : ℕ) (stock : List ℕ) → joined (titles form locate stock) ≡ title form locate stock
plain_titles book.Text locate stock = append-nil (title book.Text locate stock)
plain_titles book.Json locate stock = refl
plain_titles book.Csv locate stock = refl

plain_book : (form : BookForm) (locate : ℕ) (depth : Option ℕ) (stock : List ℕ) (orders : List Order)
    → joined (book_list form locate depth stock orders) ≡ book_lines form locate depth stock orders
plain_book form locate depth stock orders =
    of_book (λ line. line) form locate depth stock orders
    ∙ ap (λ text. text ++ (flat_map (price_line (row form locate stock) Buy (queue orders locate Buy)) (first_of depth (prices (queue orders locate Buy)))
    ++ flat_map (price_line (row form locate stock) Sell (queue orders locate Sell)) (first_of depth (prices (queue orders locate Sell))))) (plain_titles form locate stock)

plain_listed : (form : BookForm) (depth : Option ℕ) (orders : List Order) (locate : ℕ) (s : Option Listing)
    → joined (listed_list form depth orders locate s) ≡ listed_lines form depth orders locate s
plain_listed form depth orders locate None = refl
plain_listed form depth orders locate (Some s) = plain_book form locate depth (before_spaces s.entry.stock) orders

pub plain_books : (form : BookForm) (depth : Option ℕ) (wanted : ℕ → Bool) (m : Content) → books_of form depth wanted m ≡ head form ++ joined (books_list form depth wanted m)
plain_books form depth wanted m =
    let each : (λ locate. joined (list_at form depth m locate)) ≡ lines_at form depth m =
    λ i locate. plain_listed form depth (Content.orders m) locate (finite.get (Content.securities m) locate) i in
    let keys : List ℕ = filter wanted (finite.keys (Content.securities m)) in
    sym (ap (λ text. head form ++ text) (of_lists (λ line. line) (list_at form depth m) keys ∙ ap (λ (lines : ℕ → List ℕ). flat_map lines keys) each))

-- with a time
timed_titles : (form : BookForm) (time locate : ℕ) (stock : List ℕ) → joined_at form time (titles form locate stock) ≡ timed_title form time locate stock
timed_titles book.Text time locate stock = append-nil (timed book.Text time (title book.Text locate stock))
timed_titles book.Json time locate stock = refl
timed_titles book.Csv time locate stock = refl

book_with_time : (form : BookForm) (time locate : ℕ) (depth : Option ℕ) (stock : List ℕ) (orders : List Order)
    → joined_at form time (book_list form locate depth stock orders) ≡ timed_book form time locate depth stock orders
book_with_time form time locate depth stock orders =
    of_book (timed form time) form locate depth stock orders
    ∙ ap (λ text. text ++ (flat_map (λ p. timed form time (price_line (row form locate stock) Buy (queue orders locate Buy) p)) (first_of depth (prices (queue orders locate Buy)))
    ++ flat_map (λ p. timed form time (price_line (row form locate stock) Sell (queue orders locate Sell) p)) (first_of depth (prices (queue orders locate Sell)))))
    (timed_titles form time locate stock)

listed_with_time : (form : BookForm) (time : ℕ) (depth : Option ℕ) (orders : List Order) (locate : ℕ) (s : Option Listing)
    → joined_at form time (listed_list form depth orders locate s) ≡ timed_listed form time depth orders locate s
listed_with_time form time depth orders locate None = refl
listed_with_time form time depth orders locate (Some s) = book_with_time form time locate depth (before_spaces s.entry.stock) orders

pub books_with_time : (form : BookForm) (time : ℕ) (depth : Option ℕ) (wanted : ℕ → Bool) (m : Content)
    → timed_books form time depth wanted m ≡ joined_at form time (books_list form depth wanted m)
books_with_time form time depth wanted m =
    let each : (λ locate. joined_at form time (list_at form depth m locate)) ≡ timed_at form time depth m =
    λ i locate. listed_with_time form time depth (Content.orders m) locate (finite.get (Content.securities m) locate) i in
    let keys : List ℕ = filter wanted (finite.keys (Content.securities m)) in
    sym (of_lists (timed form time) (list_at form depth m) keys ∙ ap (λ (lines : ℕ → List ℕ). flat_map lines keys) each)
