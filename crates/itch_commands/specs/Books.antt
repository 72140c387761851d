-- The lines of the books of locates.
use Rattle.std.specs.Prelude.{◌≡◌, ℕ, zero, suc, ◌<◌, ◌⊎◌, ⊤, Bool, true, List, [], ◌++◌, length, take, Option, None, Some, IsSome, Result, Ok, Err}
use Rattle.std.specs.List.{filter, sum_by, flat_map}
use Rattle.std.specs.FinMap as finite
use Rattle.itch_codec.specs.Text.{before_spaces}
use Rattle.itch_codec.specs.declared.orders.Side.{Side}
use Rattle.itch_codec.specs.declared.orders.Side.TheVariants.{Buy, Sell}
use Rattle.itch_book.specs.declared.order.Order.{Order}
use Rattle.itch_book.specs.Orders.{queue, is_at_price}
use Rattle.itch_book.specs.Prices.{prices}
use Rattle.itch_market.specs.Content.{Content, Listing, Securities}
use Rattle.itch_market.specs.Wanted.{Wanted, has}
use Rattle.itch_commands.specs.Forms.{head, title, row}
use Rattle.itch_commands.specs.declared.fault.ToolFault.{ToolFault}
use Rattle.itch_commands.specs.declared.fault.ToolFault.TheVariants as tool
use Rattle.itch_commands.specs.declared.form.BookForm.{BookForm}

-- the line of a price: all shares at it, and the number of its orders
abbrev pub price_line : (Side → ℕ → ℕ → ℕ → List ℕ) → Side → List Order → ℕ → List ℕ
price_line line side orders price =
    line side price (sum_by (λ x. x.shares) (filter (is_at_price price) orders)) (length (filter (is_at_price price) orders))

-- the first of these prices, as many as requested; or all of them
abbrev pub first_of : Option ℕ → List ℕ → List ℕ
first_of None ps = ps
first_of (Some depth) ps = take depth ps

-- the next price of a side, unless no more are requested
abbrev pub next_wanted : Option ℕ → Option ℕ → Option ℕ
next_wanted None price = price
next_wanted (Some zero) price = None
next_wanted (Some (suc more)) price = price

-- the lines of a side, whose orders are in priority order: the best price first, and as many prices as requested
abbrev pub side_lines : (Side → ℕ → ℕ → ℕ → List ℕ) → Option ℕ → Side → List Order → List ℕ
side_lines line depth side orders = flat_map (price_line line side orders) (first_of depth (prices orders))

-- the lines of the book of a locate in a form: its title, the bids, and the asks
abbrev pub book_lines : BookForm → ℕ → Option ℕ → List ℕ → List Order → List ℕ
book_lines form locate depth stock orders =
    title form locate stock
    ++ (side_lines (row form locate stock) depth Buy (queue orders locate Buy) ++ side_lines (row form locate stock) depth Sell (queue orders locate Sell))

-- the same for a locate with this entry in the directory, if there is one
abbrev pub listed_lines : BookForm → Option ℕ → List Order → ℕ → Option Listing → List ℕ
listed_lines form depth orders locate None = []
listed_lines form depth orders locate (Some s) = book_lines form locate depth (before_spaces s.entry.stock) orders

-- the lines of the book of a locate of a market
abbrev pub lines_at : BookForm → Option ℕ → Content → ℕ → List ℕ
lines_at form depth m locate = listed_lines form depth m.orders locate (finite.get m.securities locate)

-- the books of the requested locates of the directory, in ascending order, below one heading
abbrev pub books_of : BookForm → Option ℕ → (ℕ → Bool) → Content → List ℕ
books_of form depth wanted m = head form ++ flat_map (lines_at form depth m) (filter wanted (finite.keys m.securities))

-- the requested locates: those of a set, or all if there is no set
abbrev pub wanted_by : Option Wanted → ℕ → Bool
wanted_by None locate = true
wanted_by (Some set) locate = has set locate

-- the directory has each locate of a set
abbrev pub AreListed : Option Wanted → Securities → Type 0
AreListed None listings = ⊤
AreListed (Some set) listings = (locate : ℕ) → locate < 65536 → has set locate ≡ true → IsSome (finite.get listings locate)

-- the directory lacks a locate of a set
abbrev pub IsUnlisted : Option Wanted → Securities → Type 0
IsUnlisted None listings = ⊥
IsUnlisted (Some set) listings = (locate : ℕ) × (locate < 65536) × (has set locate ≡ true) × (finite.get listings locate ≡ None)

-- a file is read, and the directory has each requested locate; or the file is refused, or the directory lacks one
abbrev pub ReadsListed : Option Wanted → (Result (Content × ℕ) ToolFault → Type 0) → Result (Content × ℕ) ToolFault → Type 0
ReadsListed only reads (Ok done) = reads (Ok done) × AreListed only (Content.securities done.0)
ReadsListed only reads (Err fault) =
    reads (Err fault)
    ⊎ ((fault ≡ tool.UnknownLocate) × ((done : Content × ℕ) × reads (Ok done) × IsUnlisted only (Content.securities done.0)))

-- a file is read, and the directory has an entry at this locate; or the file is refused, or the directory has none
abbrev pub ReadsEntry : ℕ → (Result (Content × ℕ) ToolFault → Type 0) → Result (Content × ℕ) ToolFault → Type 0
ReadsEntry locate reads (Ok done) = reads (Ok done) × IsSome (finite.get (Content.securities done.0) locate)
ReadsEntry locate reads (Err fault) =
    reads (Err fault)
    ⊎ ((fault ≡ tool.UnknownLocate) × ((done : Content × ℕ) × reads (Ok done) × (finite.get (Content.securities done.0) locate ≡ None)))
