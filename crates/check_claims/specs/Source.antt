-- What a step starts from and what it makes (docs/CHECKER.md, "Claims").
use Rattle.std.specs.Prelude.{List, Option}
use Rattle.abs_state.specs.declared.state.AbsState.{AbsState}
use Rattle.flag_conditions.specs.Conditions.{StepConditionsView}
use Rattle.linear_effects.specs.declared.variable_effect.LinearEffect.{LinearEffect}
use Rattle.loop_bounds.specs.Linear.{LinearView}
use Rattle.loop_bounds.specs.declared.effect.Effect.{Effect}

-- the facts and the state of the row before, the effect with and without priority for constants, the linear effect, and
-- the conditions of the step
pub record StepSourceView : Type 0 where
  pub facts : List LinearView
  pub before : AbsState
  pub settled : Effect
  pub moved : Effect
  pub linear : Option LinearEffect
  pub conditions : StepConditionsView
