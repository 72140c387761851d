-- Links by key, in pages of 128 neighbouring keys, which are found by their numbers. The only public clause that cites this module is that of
-- `Table::has_room`.
use Rattle.std.specs.Prelude.{◌≡◌, ℕ, ◌/◌, ◌%◌, ◌^◌, ◌<◌, ◌≤◌, List, [], length, eqb, cond, Option, Some, None, is_some, count_by, slice_index_or}
use Rattle.itch_book.specs.declared.table.pages.Page.{Page}

-- the value where no page exists
abbrev pub no_page : Page
no_page = record { live = 0; number = 0; links = [] }

-- the page at a place
abbrev pub page_at : List Page → ℕ → Page
page_at pages p = slice_index_or pages p no_page

-- the place of the page with this number
abbrev pub place_at : List (Option ℕ) → ℕ → Option ℕ
place_at directory n = slice_index_or directory n None

-- the links of the page at a place, if there is one
abbrev pub links_of : List Page → Option ℕ → List (Option ℕ)
links_of pages None = []
links_of pages (Some p) = (page_at pages p).links

-- pages, and the place of each page number
pub record Paged : Type 0 where
  pub directory : List (Option ℕ)
  pub pages : List Page

-- the link of a key
abbrev pub link_at : Paged → ℕ → Option ℕ
link_at t k = slice_index_or (links_of t.pages (place_at t.directory (k / 128))) (k % 128) None

-- a page with its number: it has a link, and counts its links
pub record IsPage (n : ℕ) (page : Page) : Type 0 where
  pub size : length page.links ≡ 128
  pub live : page.live ≡ count_by is_some page.links
  pub number : page.number ≡ n
  pub busy : 0 < page.live

-- the directory refers to pages, each with its own number
pub record IsPaged (directory : List (Option ℕ)) (pages : List Page) : Type 0 where
  pub few : length pages < 2 ^ 32
  pub inside : (n p : ℕ) → place_at directory n ≡ Some p → p < length pages
  pub page : (n p : ℕ) → place_at directory n ≡ Some p → IsPage n (page_at pages p)

-- 1 if there is a link
abbrev pub one_if : Option ℕ → ℕ
one_if None = 0
one_if (Some x) = 1

-- a page was stored at a place to which no number refers
pub record IsOpened (old : List Page) (p : ℕ) (page : Page) (new : List Page) : Type 0 where
  pub vacant : (page_at old p).live ≡ 0
  pub inside : p < length new
  pub few : length new < 2 ^ 32
  pub longer : length old ≤ length new
  pub pages : (q : ℕ) → page_at new q ≡ cond (eqb p q) page (page_at old q)
