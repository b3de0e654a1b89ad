-- What the refined step says beside its answer (docs/CHECKER.md, "The refined step").
use Rattle.std.specs.Prelude.{[], Option, None}
use Rattle.flag_conditions.specs.Conditions.{StepConditionsView}
use Rattle.linear_effects.specs.declared.variable_effect.LinearEffect.{LinearEffect}

-- what the refined step says beside its answer: the linear effect and the conditions
pub record StepToldView : Type 0 where
  pub linear : Option LinearEffect
  pub conditions : StepConditionsView

-- no linear effect and no conditions
abbrev pub untold : StepToldView
untold = record { linear = None; conditions = record { before = []; after = [] } }
