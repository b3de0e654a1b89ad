use Rattle.std.proofs.Common.{ℕ, ◌<◌, get_or}
use Rattle.abs_state.specs.Variables.{range_of}
use Rattle.linear_sums.specs.Canon.{IsMultipleIn}
use Rattle.loop_bounds.specs.Linear.{LinearView}
use Rattle.check_claims.proofs.zeros.is_multiple_of_fact.Given as goal

-- of none of the facts so far
abbrev pub invariant-loop-fact : goal.invariant-loop-fact
invariant-loop-fact l = (k : ℕ) (given : LinearView) → k < l.fact-index → IsMultipleIn (range_of l.before) l.sum (get_or l.facts k given) → ⊥
