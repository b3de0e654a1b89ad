-- The condition that is met at an outcome.
use Rattle.std.proofs.Common.{◌≡◌, Bool, true, false, not, List, refl, ◌∙◌, ap, rules, IsTrue, IsSomeAnd}
use Rattle.intervals.specs.Domain.{Entry}
use Rattle.z80_alu.specs.Flags.{flags_of}
use Rattle.z80_draft.specs.Registers.{IsRegs}
use Rattle.abs_state.specs.Holds.{Holds}
use Rattle.abs_state.specs.Seen.{Seen}
use Rattle.abs_state.specs.declared.cell.KeptCell.{KeptCell}
use Rattle.abs_state.specs.declared.state.AbsState.{AbsState}
use Rattle.flag_parts.specs.Narrowing.{narrowed}
use Rattle.flag_parts.specs.Parts.{AreSeen}
use Rattle.flag_letters.specs.declared.part.FlagPart.{FlagPart}
use Rattle.z80_alu.specs.declared.flags.Flags.{Flags}
use Rattle.z80_decode.specs.declared.kinds.Condition.{Condition}
use Rattle.z80_decode.specs.declared.kinds.Condition.TheVariants as conditions
use Rattle.z80_draft.specs.Arithmetic.{holds}
use Rattle.refined_step.specs.Conditionals.{NarrowsSoundly, met, opposite}

twice : (b : Bool) → b ≡ not (not b)
twice true = refl
twice false = refl

opposite_is : (condition : Condition) (f : Flags) → holds (opposite condition) f ≡ not (holds condition f)
opposite_is conditions.NotZero f = twice f.zero
opposite_is conditions.Zero f = refl
opposite_is conditions.NotCarry f = twice f.carry
opposite_is conditions.Carry f = refl
opposite_is conditions.ParityOdd f = twice f.parity_overflow
opposite_is conditions.ParityEven f = refl
opposite_is conditions.Plus f = twice f.sign
opposite_is conditions.Minus f = refl

is_true : (b : Bool) → b ≡ true → IsTrue b
is_true true e = search rules
is_true false e = absurd (cc)

pub outcome_met : (condition : Condition) (f : Flags) (taken : Bool) → holds condition f ≡ taken → IsTrue (holds (met condition taken) f)
outcome_met condition f true e = is_true (holds condition f) e
outcome_met condition f false e = is_true (holds (opposite condition) f) (opposite_is condition f ∙ ap not e)

-- what narrowing leaves at one outcome holds of a machine with that outcome
abbrev pub NarrowsAt : Condition → Bool → List FlagPart → AbsState → Type 0
NarrowsAt condition taken parts s =
    (cells : List KeptCell) (entry : Entry) (m : Seen) → IsRegs m.regs → Holds s cells entry m → AreSeen parts m
    → IsTrue (holds (met condition taken) (flags_of m.regs.main.f)) → IsSomeAnd (narrowed (met condition taken) parts s) (λ t. Holds t cells entry m)

pub both_narrow : (condition : Condition) (parts : List FlagPart) (s : AbsState) → NarrowsAt condition true parts s → NarrowsAt condition false parts s → NarrowsSoundly condition parts s
both_narrow condition parts s first second true cells entry m i h seen e = first cells entry m i h seen (outcome_met condition (flags_of m.regs.main.f) true e)
both_narrow condition parts s first second false cells entry m i h seen e = second cells entry m i h seen (outcome_met condition (flags_of m.regs.main.f) false e)
