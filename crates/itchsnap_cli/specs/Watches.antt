-- The notes of a watched reader.
use Rattle.std.specs.Prelude.{ℕ, List, Option, Some, None}
use Rattle.itchsnap_cli.specs.declared.input.progress.Watch.{Watch}
use Rattle.itchsnap_cli.specs.Tallies.{CountsOn}

-- the tally, if there is one, also counts these bytes
abbrev pub Notes : {P : Type 0} → Option (Watch P) → List ℕ → Option (Watch P) → Type 0
Notes None piece None = Unit {0}
Notes (Some old) piece (Some new) = CountsOn old.tally piece new.tally
Notes old piece new = ⊥
