-- The least and the greatest value of a linear, each variable ranging by itself (docs/CHECKER.md, "Narrowing by parts").
use Rattle.std.specs.Prelude.{ℤ, ◌+ℤ◌}
use Rattle.loop_bounds.specs.Form.{least_total}
use Rattle.loop_bounds.specs.Linear.{LinearView}
use Rattle.loop_bounds.specs.Ranges.{Box}
use Rattle.loop_bounds.specs.Tighten.{greatest_total}

-- each term at the end of its range where it is least
abbrev pub least_value : Box → LinearView → ℤ
least_value box linear = linear.constant +ℤ least_total box linear.terms

-- each term at the end of its range where it is greatest
abbrev pub greatest_value : Box → LinearView → ℤ
greatest_value box linear = linear.constant +ℤ greatest_total box linear.terms
