-- What a potential pays over a step in version 3 (docs/CHECKER.md, "Paying").
use Rattle.std.specs.Prelude.{ℕ, ◌==◌, ◌⊎◌, Option, Some, None, if◌then◌else◌, ℤ, pos, ◌-ℤ◌, ◌≤ℤ◌}
use Rattle.linear_effects.specs.declared.variable_effect.LinearEffect.{LinearEffect}
use Rattle.linear_sums.specs.declared.rewriting.LinearChange.{LinearChange}
use Rattle.loop_bounds.specs.Effect.{Valuation, after, whole}
use Rattle.loop_bounds.specs.Linear.{LinearView, value}
use Rattle.loop_bounds.specs.Ranges.{Box, LiesIn}
use Rattle.loop_bounds.specs.Variable.{rank_of}
use Rattle.loop_bounds.specs.declared.effect.Effect.{Effect}
use Rattle.loop_bounds.specs.declared.variable.Variable.{Variable}
use Rattle.check_claims.specs.Rewritings.{constants_first, variables_first}
use Rattle.check_claims.specs.declared.rewritings.Rewriting.{Rewriting}

-- the values after a step: that of the linear change by its linear, the others by the effect
abbrev pub after_with : Effect → Option LinearChange → Valuation → Valuation → Variable → ℤ
after_with effect None before free v = after effect before free v
after_with effect (Some c) before free v =
    if rank_of c.variable == rank_of v then value (whole before) c.value else after effect before free v

-- the value of `from` pays the cost and leaves `to`, rewritten, at all values of the source box and, for unknown
-- variables, of the target box
abbrev pub PaysRewritten : LinearView → LinearView → ℕ → Rewriting → Box → Box → Type 0
PaysRewritten from to cost r source target =
    (before free : Valuation) → LiesIn source before → LiesIn target free →
    pos 0 ≤ℤ (value (whole before) from -ℤ pos cost -ℤ value (after_with r.effect r.change before free) to)

-- it does with constants first or with variables first
abbrev pub PaysEitherWay : LinearView → LinearView → ℕ → Effect → Effect → Option LinearEffect → Box → Box → Type 0
PaysEitherWay from to cost settled moved linear source target =
    PaysRewritten from to cost (constants_first settled linear) source target
    ⊎ PaysRewritten from to cost (variables_first settled moved linear) source target
