-- The lines of books at a time, with the time at the beginning of each line.
use Rattle.std.specs.Prelude.{ℕ, Bool, List, [], ◌∷◌, ◌++◌, codes, map, Option, None, Some}
use Rattle.std.specs.List.{filter, flat_map}
use Rattle.std.specs.FinMap as finite
use Rattle.itch_codec.specs.Clock.{clock}
use Rattle.itch_codec.specs.Text.{before_spaces}
use Rattle.itch_codec.specs.declared.orders.Side.{Side}
use Rattle.itch_codec.specs.declared.orders.Side.TheVariants.{Buy, Sell}
use Rattle.itch_book.specs.declared.order.Order.{Order}
use Rattle.itch_book.specs.Orders.{queue}
use Rattle.itch_book.specs.Prices.{prices}
use Rattle.itch_market.specs.Content.{Content, Listing}
use Rattle.itch_commands.specs.Books.{first_of, price_line, side_lines}
use Rattle.itch_commands.specs.Forms.{row, title}
use Rattle.itch_commands.specs.declared.form.BookForm.{BookForm}
use Rattle.itch_commands.specs.declared.form.BookForm.TheVariants as book

-- the time at the beginning of a line
abbrev pub stamp : BookForm → ℕ → List ℕ
stamp book.Text time = clock time ++ 32 ∷ []
stamp book.Json time = codes "{\"time\":\"" ++ clock time ++ codes "\","
stamp book.Csv time = clock time ++ 44 ∷ []

-- the part of a line after the time: an object of JSON without its first brace
abbrev pub rest : BookForm → List ℕ → List ℕ
rest book.Json (brace ∷ line) = line
rest form line = line

-- a line with the time at its beginning
abbrev pub timed : BookForm → ℕ → List ℕ → List ℕ
timed form time line = stamp form time ++ rest form line

-- the heading of all books of all times
abbrev pub timed_head : BookForm → List ℕ
timed_head book.Text = []
timed_head book.Json = []
timed_head book.Csv = codes "time,locate,stock,side,price,shares,orders\n"

-- the title of the book of a locate, in the form that has one
abbrev pub timed_title : BookForm → ℕ → ℕ → List ℕ → List ℕ
timed_title book.Text time locate stock = timed book.Text time (title book.Text locate stock)
timed_title book.Json time locate stock = []
timed_title book.Csv time locate stock = []

-- the line of a price
abbrev pub timed_row : BookForm → ℕ → ℕ → List ℕ → Side → ℕ → ℕ → ℕ → List ℕ
timed_row form time locate stock side price shares orders = timed form time (row form locate stock side price shares orders)

-- the lines of the book of a locate: its title, the bids, and the asks
abbrev pub timed_book : BookForm → ℕ → ℕ → Option ℕ → List ℕ → List Order → List ℕ
timed_book form time locate depth stock orders =
    timed_title form time locate stock
    ++ (side_lines (timed_row form time locate stock) depth Buy (queue orders locate Buy) ++ side_lines (timed_row form time locate stock) depth Sell (queue orders locate Sell))

-- the same for a locate with this entry in the directory, if there is one
abbrev pub timed_listed : BookForm → ℕ → Option ℕ → List Order → ℕ → Option Listing → List ℕ
timed_listed form time depth orders locate None = []
timed_listed form time depth orders locate (Some s) = timed_book form time locate depth (before_spaces s.entry.stock) orders

-- the lines of the book of a locate of a market
abbrev pub timed_at : BookForm → ℕ → Option ℕ → Content → ℕ → List ℕ
timed_at form time depth m locate = timed_listed form time depth m.orders locate (finite.get m.securities locate)

-- the books of the requested locates of the directory, in ascending order
abbrev pub timed_books : BookForm → ℕ → Option ℕ → (ℕ → Bool) → Content → List ℕ
timed_books form time depth wanted m = flat_map (timed_at form time depth m) (filter wanted (finite.keys m.securities))

-- The lines that `book` writes of the same books, as a list.

-- the title, in the form that has one
abbrev pub titles : BookForm → ℕ → List ℕ → List (List ℕ)
titles book.Text locate stock = title book.Text locate stock ∷ []
titles book.Json locate stock = []
titles book.Csv locate stock = []

-- the lines of a side
abbrev pub side_list : (Side → ℕ → ℕ → ℕ → List ℕ) → Option ℕ → Side → List Order → List (List ℕ)
side_list line depth side orders = map (price_line line side orders) (first_of depth (prices orders))

-- the lines of the book of a locate
abbrev pub book_list : BookForm → ℕ → Option ℕ → List ℕ → List Order → List (List ℕ)
book_list form locate depth stock orders =
    titles form locate stock
    ++ (side_list (row form locate stock) depth Buy (queue orders locate Buy) ++ side_list (row form locate stock) depth Sell (queue orders locate Sell))

abbrev pub listed_list : BookForm → Option ℕ → List Order → ℕ → Option Listing → List (List ℕ)
listed_list form depth orders locate None = []
listed_list form depth orders locate (Some s) = book_list form locate depth (before_spaces s.entry.stock) orders

abbrev pub list_at : BookForm → Option ℕ → Content → ℕ → List (List ℕ)
list_at form depth m locate = listed_list form depth m.orders locate (finite.get m.securities locate)

-- the lines of the books of the requested locates, without the heading
abbrev pub books_list : BookForm → Option ℕ → (ℕ → Bool) → Content → List (List ℕ)
books_list form depth wanted m = flat_map (list_at form depth m) (filter wanted (finite.keys m.securities))

-- lines, one after another
abbrev pub joined : List (List ℕ) → List ℕ
joined lines = flat_map (λ line. line) lines

-- the same with the time at the beginning of each
abbrev pub joined_at : BookForm → ℕ → List (List ℕ) → List ℕ
joined_at form time lines = flat_map (timed form time) lines
