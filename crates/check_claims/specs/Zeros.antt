-- Sums that are 0 by the facts of a row (docs/CHECKER.md, "Claims").
use Rattle.std.specs.Prelude.{◌⊎◌, Bool, not, List, [], Contains, pos}
use Rattle.linear_sums.specs.Canon.{IsMultipleIn, IsZeroIn}
use Rattle.linear_sums.specs.Sum.{plus_multiple, sign}
use Rattle.loop_bounds.specs.Linear.{LinearView}
use Rattle.loop_bounds.specs.Ranges.{Box}

-- the sum of nothing
abbrev pub no_sum : LinearView
no_sum = record { constant = pos 0; terms = [] }

-- the first less the second, or less its negation
abbrev pub less : LinearView → Bool → LinearView → LinearView
less s negated t = plus_multiple s (sign (not negated)) t

-- the canon is 0 or a multiple of that of one of the facts
pub record IsMultipleOfFact (facts : List LinearView) (box : Box) (s : LinearView) : Type 0 where
  pub given : LinearView
  pub known : Contains facts given
  pub is : IsMultipleIn box s given

-- the canon is 0, or a multiple of that of one of the facts
abbrev pub IsZeroBy : List LinearView → Box → LinearView → Type 0
IsZeroBy facts box s = IsZeroIn box s ⊎ IsMultipleOfFact facts box s
