-- That what is known to hold after a step is true (docs/CHECKER.md, "Claims").
use Rattle.std.specs.Prelude.{◌≡◌, pos, IfSome}
use Rattle.std.specs.List.{All}
use Rattle.abs_state.specs.Variables.{range_of}
use Rattle.abs_state.specs.declared.state.AbsState.{AbsState}
use Rattle.flag_letters.specs.declared.part.FlagPart.{FlagPart}
use Rattle.flag_parts.specs.Parts.{HoldsPart, HoldsParts}
use Rattle.linear_sums.specs.Bytes.{AgreesWithBytes}
use Rattle.linear_sums.specs.Canon.{HasOneValues}
use Rattle.loop_bounds.specs.Effect.{Valuation, change_of, changed, whole}
use Rattle.loop_bounds.specs.Linear.{LinearView, value}
use Rattle.loop_bounds.specs.declared.variable.Variable.{Variable}
use Rattle.z80_alu.specs.declared.flags.Flags.{Flags}
use Rattle.check_claims.specs.Source.{StepSourceView}

-- a variable's value after the step is what both effects make of the values before it
pub record ComesBoth (s : StepSourceView) (x y : Valuation) (v : Variable) : Type 0 where
  pub settled : changed (change_of s.settled v) x (pos (y v)) ≡ pos (y v)
  pub moved : changed (change_of s.moved v) x (pos (y v)) ≡ pos (y v)

-- so is that of each variable of a linear
abbrev pub ComeBoth : StepSourceView → Valuation → Valuation → LinearView → Type 0
ComeBoth s x y linear = All (λ t. ComesBoth s x y t.variable) linear.terms

-- The values before a step are those of a machine in the state, at which the facts are 0. The linear effect is true.
pub record IsTrueSource (s : StepSourceView) (x y : Valuation) : Type 0 where
  pub bytes : AgreesWithBytes x
  pub ones : HasOneValues (range_of s.before) x
  pub facts : All (λ fact. value (whole x) fact ≡ pos 0) s.facts
  pub becomes : IfSome s.linear (λ e. pos (y e.variable) ≡ value (whole x) e.linear)

-- The values after a step are those of a machine in the state after it, and the conditions hold of its flags. Each
-- variable that a condition after the step names comes by both effects.
pub record AreTrueConditions (s : StepSourceView) (after : AbsState) (flags : Flags) (x y : Valuation) : Type 0 where
  pub bytes : AgreesWithBytes y
  pub ones : HasOneValues (range_of after) y
  pub holds_before : HoldsParts s.conditions.before flags x
  pub holds_after : HoldsParts s.conditions.after flags y
  pub come : All (λ condition. ComeBoth s x y condition.linear) s.conditions.after

-- the fact is 0 after each such step
abbrev pub FactLaw : StepSourceView → LinearView → Type 0
FactLaw s fact = (x y : Valuation) → IsTrueSource s x y → ComeBoth s x y fact → value (whole y) fact ≡ pos 0

-- the part holds of the flags and the values after each such step
abbrev pub PartLaw : StepSourceView → AbsState → FlagPart → Type 0
PartLaw s after part =
    (flags : Flags) (x y : Valuation) → IsTrueSource s x y → AreTrueConditions s after flags x y → ComeBoth s x y part.linear
    → HoldsPart part flags y
