-- Which facts and flag parts are known to hold after a step (docs/CHECKER.md, "Claims").
use Rattle.std.specs.Prelude.{◌≡◌, ◌⊎◌, Bool, true, false, List, Contains, IsSomeAnd, Option}
use Rattle.abs_state.specs.Variables.{range_of}
use Rattle.abs_state.specs.declared.state.AbsState.{AbsState}
use Rattle.flag_letters.specs.declared.letter.Letter.{Letter}
use Rattle.flag_letters.specs.declared.letter.Letter.TheVariants.{Zero, ZeroIfBelow, CarryIfBelow, SignIfBelow}
use Rattle.flag_letters.specs.declared.part.FlagPart.{FlagPart}
use Rattle.linear_effects.specs.declared.variable_effect.LinearEffect.{LinearEffect}
use Rattle.linear_sums.specs.Canon.{IsZeroIn}
use Rattle.linear_sums.specs.Rewriting.{rewritten}
use Rattle.loop_bounds.specs.Linear.{LinearView}
use Rattle.loop_bounds.specs.Ranges.{Box}
use Rattle.loop_bounds.specs.declared.effect.Effect.{Effect}
use Rattle.check_claims.specs.Rewritings.{constants_first, variables_first}
use Rattle.check_claims.specs.Source.{StepSourceView}
use Rattle.check_claims.specs.Zeros.{less, IsZeroBy}
use Rattle.check_claims.specs.declared.rewritings.Rewriting.{Rewriting}

-- ---- facts

-- rewritten, the fact is known, and it is 0 by these facts
abbrev pub BecomesZero : List LinearView → Box → Rewriting → LinearView → Type 0
BecomesZero facts box r fact = IsSomeAnd (rewritten r.effect r.change fact) (IsZeroBy facts box)

-- it does with constants first or with variables first
abbrev pub BecomesZeroEitherWay : List LinearView → Box → Effect → Effect → Option LinearEffect → LinearView → Type 0
BecomesZeroEitherWay facts box settled moved linear fact =
    BecomesZero facts box (constants_first settled linear) fact ⊎ BecomesZero facts box (variables_first settled moved linear) fact

-- a fact is known to hold after a step
abbrev pub IsClaimedFact : StepSourceView → LinearView → Type 0
IsClaimedFact s fact = BecomesZeroEitherWay s.facts (range_of s.before) s.settled s.moved s.linear fact

-- ---- flag parts

-- The linear of a condition tells that of a part as it is, or with its sign turned. The sign does not matter only where
-- the letter says that a linear is 0.
abbrev pub AtSign : Letter → (Bool → Type 0) → Type 0
AtSign Zero Tells = Tells false ⊎ Tells true
AtSign ZeroIfBelow Tells = Tells false
AtSign CarryIfBelow Tells = Tells false
AtSign SignIfBelow Tells = Tells false

-- a condition has the letter and tells the linear
abbrev pub IsConveyedBy : Letter → (Bool → LinearView → Type 0) → FlagPart → Type 0
IsConveyedBy letter Tells condition =
    (condition.letter ≡ letter) × AtSign letter (λ negated. Tells negated condition.linear)

-- one of the conditions does
pub record IsConveyed (letter : Letter) (Tells : Bool → LinearView → Type 0) (conditions : List FlagPart) : Type 0 where
  pub condition : FlagPart
  pub listed : Contains conditions condition
  pub by : IsConveyedBy letter Tells condition

-- rewritten, the part's linear is known, and it is a linear over the variables before
abbrev pub TellsBefore : List LinearView → Box → Rewriting → LinearView → Bool → LinearView → Type 0
TellsBefore facts box r linear negated told =
    IsSomeAnd (rewritten r.effect r.change linear) (λ s. IsZeroBy facts box (less s negated told))

-- in the ranges after the step the part's linear has the canon of a linear over the variables after
abbrev pub TellsAfter : Box → LinearView → Bool → LinearView → Type 0
TellsAfter box linear negated told = IsZeroIn box (less linear negated told)

-- rewritten, both are known and equal
abbrev pub TellsBack : List LinearView → Box → Rewriting → LinearView → Bool → LinearView → Type 0
TellsBack facts box r linear negated told =
    IsSomeAnd (rewritten r.effect r.change linear) (λ s. IsSomeAnd (rewritten r.effect r.change told) (λ t. IsZeroBy facts box (less s negated t)))

-- a condition over the variables before the step tells the part
abbrev pub IsToldBefore : List LinearView → Box → Rewriting → FlagPart → List FlagPart → Type 0
IsToldBefore facts box r part conditions = IsConveyed part.letter (TellsBefore facts box r part.linear) conditions

-- a condition over the variables after the step tells the part, by the ranges after it
abbrev pub IsToldAfter : Box → FlagPart → List FlagPart → Type 0
IsToldAfter box part conditions = IsConveyed part.letter (TellsAfter box part.linear) conditions

-- a condition over the variables after the step tells the part, when both are rewritten
abbrev pub IsToldBack : List LinearView → Box → Rewriting → FlagPart → List FlagPart → Type 0
IsToldBack facts box r part conditions = IsConveyed part.letter (TellsBack facts box r part.linear) conditions

-- a condition before the step tells the part with constants first or with variables first
abbrev pub IsToldBeforeEitherWay : List LinearView → Box → Effect → Effect → Option LinearEffect → FlagPart → List FlagPart → Type 0
IsToldBeforeEitherWay facts box settled moved linear part conditions =
    IsToldBefore facts box (constants_first settled linear) part conditions
    ⊎ IsToldBefore facts box (variables_first settled moved linear) part conditions

-- a condition after the step tells the part by the ranges after it, or with variables first
abbrev pub IsToldAfterEitherWay : List LinearView → Box → Effect → Effect → Option LinearEffect → Box → FlagPart → List FlagPart → Type 0
IsToldAfterEitherWay facts box settled moved linear after part conditions =
    IsToldAfter after part conditions ⊎ IsToldBack facts box (variables_first settled moved linear) part conditions

-- a flag part is known to hold after a step to a state
abbrev pub IsClaimedPart : StepSourceView → AbsState → FlagPart → Type 0
IsClaimedPart s after part =
    IsToldBeforeEitherWay s.facts (range_of s.before) s.settled s.moved s.linear part s.conditions.before
    ⊎ IsToldAfterEitherWay s.facts (range_of s.before) s.settled s.moved s.linear (range_of after) part s.conditions.after
