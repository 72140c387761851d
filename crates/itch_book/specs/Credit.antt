-- The credit that new keys spend on pages.
use Rattle.std.specs.Prelude.{ℕ, Bool, true, false, cond, leb, ⊤}
use Rattle.itch_book.specs.declared.table.credit.Cost.{Cost}
use Rattle.itch_book.specs.declared.table.credit.Cost.TheVariants.{Nothing, Bytes, Beyond}

-- the page exists
abbrev pub is_nothing : Cost → Bool
is_nothing Nothing = true
is_nothing (Bytes cost) = false
is_nothing Beyond = false

-- a key gets an existing page, or a new one that the credit covers
abbrev pub is_paid : ℕ → Cost → Bool
is_paid credit Nothing = true
is_paid credit (Bytes cost) = leb cost credit
is_paid credit Beyond = false

-- the credit that a key spends
abbrev pub spent : ℕ → Cost → ℕ
spent credit Nothing = 0
spent credit (Bytes cost) = cond (leb cost credit) cost 0
spent credit Beyond = 0

-- this holds if a page can be paid in bytes
abbrev pub OnBytes : Cost → Type 0 → Type 0
OnBytes Nothing P = ⊤
OnBytes (Bytes cost) P = P
OnBytes Beyond P = ⊤
