-- A part of a list without its front.
use Rattle.std.proofs.Common.{◌≡◌, ℕ, ◌+◌, List, take, drop, slice_range, ap, ◌∙◌, sym}
use Rattle.std.proofs.lemmas.List.{drop-drop}
use Rattle.std.proofs.lemmas.Slice.{between_is}

pub front_passed : (xs : List ℕ) (from to count : ℕ) → slice_range xs (from + count) to ≡ drop count (slice_range xs from to)
front_passed xs from to count =
    between_is xs (from + count) to ∙ sym (ap (drop count) (between_is xs from to) ∙ drop-drop count from (take to xs))
