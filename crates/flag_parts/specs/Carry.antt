-- The carry that a row's parts tell (docs/CHECKER.md, "Conditions of a step").
use Rattle.std.specs.Prelude.{Bool, true, false, List, [], ◌∷◌, Option, Some, None, int_lt, int_le, ℤ, pos, if◌then◌else◌}
use Rattle.loop_bounds.specs.Ranges.{Box}
use Rattle.linear_limits.specs.Extremes.{least_value, greatest_value}
use Rattle.flag_letters.specs.declared.letter.Letter.{Letter}
use Rattle.flag_letters.specs.declared.letter.Letter.TheVariants.{Zero, ZeroIfBelow, CarryIfBelow, SignIfBelow}
use Rattle.flag_letters.specs.declared.part.FlagPart.{FlagPart}

-- all values from the least to the greatest are below 0, or none is
abbrev pub told_sign : ℤ → ℤ → Option Bool
told_sign least greatest = if int_lt greatest (pos 0) then Some true else (if int_le (pos 0) least then Some false else None)

-- what a letter tells of C, given the least and the greatest value of its linear
abbrev pub carry_from : Letter → ℤ → ℤ → Option Bool
carry_from CarryIfBelow least greatest = told_sign least greatest
carry_from Zero least greatest = None
carry_from ZeroIfBelow least greatest = None
carry_from SignIfBelow least greatest = None

-- the C flag, if the part tells it, each variable ranging by itself
abbrev pub told_carry : Box → FlagPart → Option Bool
told_carry box part = carry_from part.letter (least_value box part.linear) (greatest_value box part.linear)

-- the first that is there
abbrev pub or_else : Option Bool → Option Bool → Option Bool
or_else None b = b
or_else (Some a) b = Some a

-- the C flag, if a part tells it
abbrev pub known_carry : Box → List FlagPart → Option Bool
known_carry box [] = None
known_carry box (part ∷ parts) = or_else (told_carry box part) (known_carry box parts)
