-- The comparison of two files.
use Rattle.std.specs.Prelude.{ℕ, List, ◌++◌, codes, decimal, Option, None, Some, Result, Ok, Err}
use Rattle.itch_market.specs.Content.{Content}
use Rattle.itch_snapshot.specs.PartPlaces.{IsPartPlace}
use Rattle.itch_commands.specs.declared.fault.ToolFault.{ToolFault}
use Rattle.itch_commands.specs.Readings.{Then}

-- The reading of two files, the first completely before the second. If the first is refused, the second is unchanged.
abbrev pub ReadsBoth : {X Y : Type 0} → (Result X ToolFault → Type 0) → Type 0 → (Result Y ToolFault → Type 0) → Result (X × Y) ToolFault → Type 0
ReadsBoth first untouched second = Then first untouched (λ _. second)

-- the place where the markets after two files differ
abbrev pub PartsAt : (Result ((Content × ℕ) × (Content × ℕ)) ToolFault → Type 0) → Result (Option ℕ) ToolFault → Type 0
PartsAt reads (Ok place) = (both : (Content × ℕ) × (Content × ℕ)) × reads (Ok both) × IsPartPlace both.0.0 both.1.0 place
PartsAt reads (Err fault) = reads (Err fault)

-- the line with this place, or the line that reports that the markets are the same
abbrev pub place_line : Option ℕ → List ℕ
place_line None = codes "same\n"
place_line (Some place) = codes "different at " ++ decimal place ++ codes "\n"
