-- The best prices of a locate, and the lines that `book` writes of it.
use Rattle.std.proofs.Common.{◌≡◌, ℕ, List, [], ◌∷◌, ◌++◌, map, take, Some, refl, sym, ap, ap₂, ◌∙◌, append_assoc}
use Rattle.std.specs.List.{flat_map}
use Rattle.std.specs.FinMap as finite
use Rattle.std.proofs.lemmas.Grind.{flat_map-append}
use Rattle.itch_codec.specs.Text.{before_spaces}
use Rattle.itch_codec.specs.declared.orders.Side.{Side}
use Rattle.itch_codec.specs.declared.orders.Side.TheVariants.{Buy, Sell}
use Rattle.itch_book.specs.declared.order.Order.{Order}
use Rattle.itch_book.specs.Orders.{queue}
use Rattle.itch_book.specs.Prices.{prices}
use Rattle.itch_market.specs.Content.{Content, Listing}
use Rattle.itch_commands.specs.Forms.{level_line, row, title_line}
use Rattle.itch_commands.specs.declared.form.BookForm.TheVariants as book
use Rattle.itch_depth.specs.declared.changes.best.DepthLevel.{DepthLevel}
use Rattle.itch_depth.specs.Changes.{best_of, front, level_lines, level_of, levels, text_lines}
use Rattle.itch_depth.specs.Timed.{book_list, list_at, listed_list, side_list}

-- the lines of prices, and the prices
of_prices : (line : Side → ℕ → ℕ → ℕ → List ℕ) (side : Side) (orders : List Order) (ps : List ℕ)
    → map (λ p. line side (level_of orders p).price (level_of orders p).shares (level_of orders p).orders) ps
    ≡ map (λ (x : DepthLevel). line side x.price x.shares x.orders) (map (level_of orders) ps)
of_prices line side orders [] = refl
of_prices line side orders (p ∷ ps) = ap (λ rest. line side (level_of orders p).price (level_of orders p).shares (level_of orders p).orders ∷ rest) (of_prices line side orders ps)

pub of_levels : (line : Side → ℕ → ℕ → ℕ → List ℕ) (depth : ℕ) (side : Side) (orders : List Order)
    → side_list line (Some depth) side orders ≡ map (λ (x : DepthLevel). line side x.price x.shares x.orders) (levels depth orders)
of_levels line depth side orders = of_prices line side orders (take depth (prices orders))

-- text in front of lines
in_front : (ahead : List ℕ) (line : DepthLevel → List ℕ) (xs : List DepthLevel) → flat_map (λ text. ahead ++ text) (map line xs) ≡ flat_map (λ x. ahead ++ line x) xs
in_front ahead line [] = refl
in_front ahead line (x ∷ xs) = ap (λ rest. (ahead ++ line x) ++ rest) (in_front ahead line xs)

side_front : (ahead : List ℕ) (locate : ℕ) (stock : List ℕ) (depth : ℕ) (side : Side) (orders : List Order)
    → level_lines ahead side (levels depth orders) ≡ flat_map (λ text. ahead ++ text) (side_list (row book.Text locate stock) (Some depth) side orders)
side_front ahead locate stock depth side orders =
    sym (ap (flat_map (λ text. ahead ++ text)) (of_levels (row book.Text locate stock) depth side orders)
    ∙ in_front ahead (λ (x : DepthLevel). level_line side x.price x.shares x.orders) (levels depth orders))

book_front : (ahead : List ℕ) (locate : ℕ) (stock : List ℕ) (depth : ℕ) (orders : List Order)
    → flat_map (λ text. ahead ++ text) (book_list book.Text locate (Some depth) stock orders)
    ≡ (ahead ++ title_line locate stock) ++ (level_lines ahead Buy (levels depth (queue orders locate Buy)) ++ level_lines ahead Sell (levels depth (queue orders locate Sell)))
book_front ahead locate stock depth orders =
    let line = row book.Text locate stock in
    let bids : List (List ℕ) = side_list line (Some depth) Buy (queue orders locate Buy) in
    let asks : List (List ℕ) = side_list line (Some depth) Sell (queue orders locate Sell) in
    ap (λ rest. (ahead ++ title_line locate stock) ++ rest)
    (flat_map-append (λ text. ahead ++ text) bids asks
    ∙ ap₂ (λ a b. a ++ b) (sym (side_front ahead locate stock depth Buy (queue orders locate Buy))) (sym (side_front ahead locate stock depth Sell (queue orders locate Sell))))

pub changed_book : (number time depth locate : ℕ) (m : Content) (s : Listing) → finite.get m.securities locate ≡ Some s
    → text_lines number time locate (before_spaces s.entry.stock) (best_of depth m.orders locate)
    ≡ flat_map (λ line. front book.Text number time ++ line) (list_at book.Text (Some depth) m locate)
changed_book number time depth locate m s there =
    let ahead : List ℕ = front book.Text number time in
    let stock : List ℕ = before_spaces s.entry.stock in
    let title : List ℕ = title_line locate stock in
    let bids : List ℕ = level_lines ahead Buy (levels depth (queue m.orders locate Buy)) in
    let asks : List ℕ = level_lines ahead Sell (levels depth (queue m.orders locate Sell)) in
    sym (ap (λ found. flat_map (λ line. ahead ++ line) (listed_list book.Text (Some depth) m.orders locate found)) there
    ∙ book_front ahead locate stock depth m.orders ∙ append_assoc ahead title (bids ++ asks))
