use Rattle.std.proofs.Common.{◌<◌, ◌≤◌, ◌^◌, SomeIff, ◌≡◌, ℕ, ◌+◌, ◌-◌, ◌*◌, length, take}
use Rattle.std.specs.Str.Parse.{digits_value, IsNumeral, AllDigits}
use Rattle.itchsnap_cli.proofs.command_line.time.few_digits.Given as goal

abbrev pub invariant-loop-place : goal.invariant-loop-place
invariant-loop-place l = (l.number ≡ digits_value 10 (take l.place l.digits)) × AllDigits 10 (take l.place l.digits)
