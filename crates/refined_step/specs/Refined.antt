-- The refined step of a row with flag parts (docs/CHECKER.md, "The refined step").
use Rattle.std.specs.Prelude.{ℕ, Bool, false, List, map, Option, Some, None, Result}
use Rattle.intervals.specs.Range.{RangeView}
use Rattle.loop_bounds.specs.declared.variable.Variable.TheVariants as variables
use Rattle.abs_state.specs.Variables.{range_of}
use Rattle.abs_state.specs.declared.state.AbsState.{AbsState}
use Rattle.abs_draft.specs.Ground.{GroundView}
use Rattle.abs_step.specs.Successors.{answer_by, nexts_by, nexts_of, operand_of, refusal}
use Rattle.abs_step.specs.declared.next.Next.{Next}
use Rattle.abs_step.specs.declared.reason.Reason.{Reason}
use Rattle.z80_decode.specs.declared.instr.Instr.{Instr}
use Rattle.z80_decode.specs.declared.kinds.Condition.{Condition}
use Rattle.flag_parts.specs.Carry.{known_carry}
use Rattle.flag_letters.specs.declared.part.FlagPart.{FlagPart}
use Rattle.flag_conditions.specs.Conditions.{StepConditionsView, conditions_of}
use Rattle.linear_effects.specs.Carried.{carried_range}
use Rattle.linear_effects.specs.Effects.{effect_of}
use Rattle.linear_effects.specs.declared.variable_effect.LinearEffect.{LinearEffect}
use Rattle.refined_step.specs.Conditionals.{tested_condition, conditional_nexts}
use Rattle.refined_step.specs.Sharpening.{cut_successor, sharpened}
use Rattle.refined_step.specs.Told.{StepToldView}

-- the conditions of the step of a row
abbrev pub step_conditions : GroundView → ℕ → Bool → Instr → List FlagPart → AbsState → StepConditionsView
step_conditions g address inline instr parts s =
    conditions_of instr (operand_of g address inline s instr) parts (known_carry (range_of s) parts)

-- the linear effect of the step of a row
abbrev pub step_effect : GroundView → ℕ → Bool → Instr → List FlagPart → AbsState → Option LinearEffect
step_effect g address inline instr parts s =
    effect_of instr s.pairs (operand_of g address inline s instr) (known_carry (range_of s) parts)

-- what the step of a row says beside its answer
abbrev pub step_told : GroundView → ℕ → Bool → Instr → List FlagPart → AbsState → StepToldView
step_told g address inline instr parts s = record {
  linear = step_effect g address inline instr parts s;
  conditions = step_conditions g address inline instr parts s;
}

-- the values of A after the step of a row where the known carry tells them
abbrev pub step_carried : GroundView → ℕ → Bool → Instr → List FlagPart → AbsState → Option RangeView
step_carried g address inline instr parts s =
    carried_range instr s.pairs (operand_of g address inline s instr) (known_carry (range_of s) parts)

-- With a linear effect the sharpened successor, with a known carry the one with A cut; such an instruction has no test.
abbrev pub sharpened_nexts : GroundView → ℕ → Bool → Bool → Instr → Option LinearEffect → Option RangeView → AbsState → List Next
sharpened_nexts g address main inline instr (Some e) carried s =
    map (sharpened s e) (nexts_by g address main inline instr s false)
sharpened_nexts g address main inline instr None (Some r) s =
    map (cut_successor variables.A (Some r)) (nexts_by g address main inline instr s false)
sharpened_nexts g address main inline instr None None s = nexts_of g address main inline instr s

-- with a condition, the successors narrowed by the parts; else those sharpened by the linear effect or the known carry
abbrev pub refined_by : Option Condition → GroundView → ℕ → Bool → Bool → Instr → List FlagPart → AbsState → List Next
refined_by (Some condition) g address main inline instr parts s =
    conditional_nexts g address main inline instr condition parts s
refined_by None g address main inline instr parts s =
    sharpened_nexts g address main inline instr (step_effect g address inline instr parts s) (step_carried g address inline instr parts s) s

-- the refined successors of a row at an instruction
abbrev pub refined_nexts : GroundView → ℕ → Bool → Bool → Instr → List FlagPart → AbsState → List Next
refined_nexts g address main inline instr parts s = refined_by (tested_condition instr) g address main inline instr parts s

-- the refined successors, or the lowest reason that refuses the row for itself, which the parts don't change
abbrev pub refined_answer : GroundView → ℕ → Bool → Bool → Instr → List FlagPart → AbsState → Result (List Next) Reason
refined_answer g address main inline instr parts s =
    answer_by (refusal main inline instr s) (refined_nexts g address main inline instr parts s)
