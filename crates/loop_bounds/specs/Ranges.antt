-- Ranges of the variables (docs/CHECKER.md, "Linear bounds, effects and tightening").
use Rattle.std.specs.Prelude.{ℕ, ◌≤◌}
use Rattle.intervals.specs.Range.{RangeView, Within, full}
use Rattle.loop_bounds.specs.declared.variable.Variable.{Variable}

-- a range for each variable
abbrev pub Box : Type 0
Box = Variable → RangeView

-- nothing is known of any variable
abbrev pub full_box : Box
full_box v = full 65536

-- Each value lies in the range of its variable. An empty interval, which no `WordRange` is, constrains nothing.
abbrev pub LiesIn : Box → (Variable → ℕ) → Type 0
LiesIn box x = (v : Variable) → (box v).low ≤ (box v).high → Within (box v) (x v)
