use Rattle.std.proofs.Common.{ℕ, ◌<◌, ◌⊎◌, get_or}
use Rattle.abs_state.specs.Variables.{range_of}
use Rattle.loop_bounds.specs.Bounds.{Becomes, BecomesNegation}
use Rattle.loop_bounds.specs.Linear.{LinearView}
use Rattle.check_cover.proofs.knowing.is_known.Given as goal

-- none of the given facts so far is the rewritten one or its negation
abbrev pub invariant-loop-given : goal.invariant-loop-given
invariant-loop-given l = (k : ℕ) (given : LinearView) → k < l.given-index →
    Becomes l.fact l.effect (range_of l.before) (get_or l.facts k given) ⊎ BecomesNegation l.fact l.effect (range_of l.before) (get_or l.facts k given) → ⊥
