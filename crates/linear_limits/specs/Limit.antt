-- Limits: the cuts that an inequality between a linear and 0 makes (docs/CHECKER.md, "Narrowing by parts").
use Rattle.std.specs.Prelude.{Bool, List, [], ◌∷◌, ℤ, pos, neg_ℤ, ◌+ℤ◌, ◌-ℤ◌, ◌*ℤ◌, ◌≤ℤ◌, int_lt, int_le, Option, Some, None, option_and_then, if◌then◌else◌}
use Rattle.intervals.specs.Range.{RangeView}
use Rattle.linear_limits.specs.declared.limiting.SideOfZero.{SideOfZero}
use Rattle.linear_limits.specs.declared.limiting.SideOfZero.TheVariants.{Below, NotBelow}
use Rattle.loop_bounds.specs.Form.{end_of}
use Rattle.loop_bounds.specs.Linear.{LinearView}
use Rattle.loop_bounds.specs.Ranges.{Box}
use Rattle.loop_bounds.specs.Tighten.{top_of}
use Rattle.loop_bounds.specs.declared.linear.Term.{Term}
use Rattle.loop_bounds.specs.declared.variable.Variable.{Variable}
use Rattle.linear_limits.specs.Extremes.{least_value, greatest_value}
use Rattle.linear_limits.specs.Products.{products_up_to, products_from}

-- the integer lies on the side
abbrev pub IsOnSide : SideOfZero → ℤ → Type 0
IsOnSide Below n = (n +ℤ pos 1) ≤ℤ pos 0
IsOnSide NotBelow n = pos 0 ≤ℤ n

-- some value of the linear lies on the side, each variable ranging by itself
abbrev pub reaches_side : SideOfZero → LinearView → Box → Bool
reaches_side Below linear box = int_lt (least_value box linear) (pos 0)
reaches_side NotBelow linear box = int_le (pos 0) (greatest_value box linear)

-- the least sum of the constant and the other terms
abbrev pub least_of_others : LinearView → Box → Term → ℤ
least_of_others linear box t = least_value box linear -ℤ t.coefficient *ℤ pos (end_of (box t.variable) t.coefficient)

-- the greatest sum of the constant and the other terms
abbrev pub greatest_of_others : LinearView → Box → Term → ℤ
greatest_of_others linear box t = greatest_value box linear -ℤ t.coefficient *ℤ pos (top_of (box t.variable) t.coefficient)

-- what the constant and the other terms leave of a term's range
abbrev pub limit_left : SideOfZero → LinearView → Box → Term → Option RangeView
limit_left Below linear box t = products_up_to t.coefficient (neg_ℤ (pos 1) -ℤ least_of_others linear box t) (box t.variable)
limit_left NotBelow linear box t = products_from t.coefficient (pos 0 -ℤ greatest_of_others linear box t) (box t.variable)

-- terms of the linear are cut in their order, and each cut sees the ones before it; None if nothing is left
abbrev pub limited_by : {S : Type 0} → (S → Box) → (S → Variable → RangeView → Option S) → SideOfZero → LinearView → List Term → S → Option S
limited_by range_of cut_to side linear [] s = Some s
limited_by range_of cut_to side linear (t ∷ ts) s =
    option_and_then (λ left.
    option_and_then (limited_by range_of cut_to side linear ts) (cut_to s t.variable left))
    (limit_left side linear (range_of s) t)

-- the state where the linear lies on the side; None if nothing is left
abbrev pub limited : {S : Type 0} → (S → Box) → (S → Variable → RangeView → Option S) → SideOfZero → LinearView → S → Option S
limited range_of cut_to side linear s =
    if reaches_side side linear (range_of s) then limited_by range_of cut_to side linear linear.terms s else None
