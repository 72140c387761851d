-- Parts of a day file in ascending order.
use Rattle.std.specs.Prelude.{ℕ, nat_le, ◌&&◌, not, Bool, true, false, List, [], ◌∷◌, Option, None, Some}
use Rattle.itch_day.specs.declared.limit.Limit.{Limit}

-- an end of a part comes no later than another one: without an end, a part ends with the file
abbrev pub ends_by : Option ℕ → Option ℕ → Bool
ends_by end None = true
ends_by None (Some other) = false
ends_by (Some end) (Some other) = nat_le end other

-- neither end of a part comes later than that of another part, so it is a beginning of that part, whatever the file
abbrev pub is_within : Limit → Limit → Bool
is_within limit other = ends_by limit.after other.after && ends_by limit.until other.until

-- a part is longer than another one: neither of its ends comes earlier, and one comes later
abbrev pub is_longer : Limit → Limit → Bool
is_longer before limit = is_within before limit && not (is_within limit before)

-- each part is longer than the one before
abbrev pub ascend_after : Option Limit → List Limit → Bool
ascend_after before [] = true
ascend_after None (limit ∷ limits) = ascend_after (Some limit) limits
ascend_after (Some before) (limit ∷ limits) = is_longer before limit && ascend_after (Some limit) limits

abbrev pub ascend : List Limit → Bool
ascend limits = ascend_after None limits
