-- A number of events (docs/PROGRAM.md).
use Rattle.std.specs.Prelude.{ℕ, ◌<◌, ◌^◌, List}
use Rattle.std.specs.Str.Parse.{IsNumeral, digits_value}

-- one decimal digit or more, leading zeros allowed, with a value of at most 32 bits
abbrev pub IsSteps : List ℕ → Type 0
IsSteps text = IsNumeral 10 text × (digits_value 10 text < 2 ^ 32)
