-- Integers and their negations.
use Rattle.std.specs.Prelude.{Bool, ℤ, neg_ℤ, if◌then◌else◌}

-- the integer, or its negation
abbrev pub signed : Bool → ℤ → ℤ
signed negated z = if negated then neg_ℤ z else z
