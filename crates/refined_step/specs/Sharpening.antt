-- A successor with a variable cut, as to the values of a linear effect (docs/CHECKER.md, "The refined step").
use Rattle.std.specs.Prelude.{ℕ, min, ℤ, pos, negsuc, Option, Some, None, option_and_then}
use Rattle.intervals.specs.Range.{RangeView, between}
use Rattle.linear_limits.specs.Extremes.{least_value, greatest_value}
use Rattle.loop_bounds.specs.Linear.{LinearView}
use Rattle.loop_bounds.specs.Ranges.{Box}
use Rattle.loop_bounds.specs.declared.variable.Variable.{Variable}
use Rattle.abs_state.specs.Variables.{range_of, cut_to}
use Rattle.abs_state.specs.declared.state.AbsState.{AbsState}
use Rattle.abs_draft.specs.Outcomes.{settled}
use Rattle.abs_step.specs.declared.next.Next.{Next}
use Rattle.linear_effects.specs.declared.variable_effect.LinearEffect.{LinearEffect}

-- the word nearest to an integer
abbrev pub to_word : ℤ → ℕ
to_word (pos n) = min n 65535
to_word (negsuc n) = 0

-- the words from the least to the greatest value of a linear, each variable ranging by itself
abbrev pub value_range : Box → LinearView → Option RangeView
value_range box linear = between (to_word (least_value box linear)) (to_word (greatest_value box linear))

-- a successor with its state cut, and constants by that state; as it was where nothing is left
abbrev pub with_cut_state : Next → Option AbsState → Next
with_cut_state n None = n
with_cut_state n (Some t) = record n { state = t; effect = settled t n.moved }

-- a successor, with a variable cut to a range, if there is one
abbrev pub cut_successor : Variable → Option RangeView → Next → Next
cut_successor v range n = with_cut_state n (option_and_then (cut_to n.state v) range)

-- a successor, with the variable of the linear effect cut to the values of the linear over the row's ranges
abbrev pub sharpened : AbsState → LinearEffect → Next → Next
sharpened s e = cut_successor e.variable (value_range (range_of s) e.linear)
