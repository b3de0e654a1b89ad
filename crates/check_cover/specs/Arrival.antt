-- Where a state arrives, and from where it comes (docs/CHECKER.md, "Covering").
use Rattle.std.specs.Prelude.{ℕ, List, [], Option, Some, None}
use Rattle.abs_state.specs.declared.state.AbsState.{AbsState}
use Rattle.cert_lines.specs.declared.version.Version.{Version}
use Rattle.cert_lines.specs.declared.version.Version.TheVariants.{One, Two, Three}
use Rattle.flag_conditions.specs.Conditions.{StepConditionsView}
use Rattle.linear_effects.specs.declared.variable_effect.LinearEffect.{LinearEffect}
use Rattle.loop_bounds.specs.Effect.{unchanged}
use Rattle.loop_bounds.specs.Linear.{LinearView}
use Rattle.loop_bounds.specs.declared.effect.Effect.{Effect}
use Rattle.check_claims.specs.Source.{StepSourceView}

-- what version 3 adds to a step: the effect without priority for constants, the linear effect, and the conditions
pub record RefinementView : Type 0 where
  pub moved : Effect
  pub linear : Option LinearEffect
  pub conditions : StepConditionsView

-- a state arrives at an address of a procedure, from a row with these facts and the state `before`, by a step with this
-- effect, and in version 3 with what that version adds
pub record ArrivalView : Type 0 where
  pub proc : ℕ
  pub address : ℕ
  pub facts : List LinearView
  pub before : AbsState
  pub effect : Effect
  pub refined : Option RefinementView

-- a step that changes nothing and tells nothing of the flags
abbrev pub no_refinement : RefinementView
no_refinement = record { moved = unchanged; linear = None; conditions = record { before = []; after = [] } }

abbrev pub entry_refinement : Version → Option RefinementView
entry_refinement One = None
entry_refinement Two = None
entry_refinement Three = Some no_refinement

-- at an entry no row is before: there are no facts, and the state itself stands for the state before
abbrev pub first_arrival : Version → ℕ → ℕ → AbsState → ArrivalView
first_arrival version proc address state = record {
  proc = proc;
  address = address;
  facts = [];
  before = state;
  effect = unchanged;
  refined = entry_refinement version;
}

-- what claims after the step are judged by
abbrev pub source_of : ArrivalView → RefinementView → StepSourceView
source_of a r = record {
  facts = a.facts;
  before = a.before;
  settled = a.effect;
  moved = r.moved;
  linear = r.linear;
  conditions = r.conditions;
}
