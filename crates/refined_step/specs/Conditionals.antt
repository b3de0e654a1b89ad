-- The condition of an instruction, and the successors of its two outcomes (docs/CHECKER.md, "The refined step").
use Rattle.std.specs.Prelude.{◌≡◌, ℕ, Bool, true, false, List, [], ◌++◌, Option, Some, None, IsSomeAnd}
use Rattle.intervals.specs.Domain.{Entry}
use Rattle.z80_alu.specs.Flags.{flags_of}
use Rattle.z80_decode.specs.declared.instr.Instr.{Instr}
use Rattle.z80_decode.specs.declared.instr.Instr.TheVariants.{JumpIf, JumpRelativeIf, CallIf, ReturnIf}
use Rattle.z80_decode.specs.declared.kinds.Condition.{Condition}
use Rattle.z80_decode.specs.declared.kinds.Condition.TheVariants as conditions
use Rattle.z80_draft.specs.Arithmetic.{holds}
use Rattle.z80_draft.specs.Registers.{IsRegs}
use Rattle.z80_moves.specs.Operands.{long_condition}
use Rattle.abs_state.specs.Holds.{Holds}
use Rattle.abs_state.specs.Seen.{Seen}
use Rattle.abs_state.specs.declared.cell.KeptCell.{KeptCell}
use Rattle.abs_state.specs.declared.state.AbsState.{AbsState}
use Rattle.abs_draft.specs.Ground.{GroundView}
use Rattle.abs_step.specs.Successors.{nexts_by}
use Rattle.abs_step.specs.declared.next.Next.{Next}
use Rattle.flag_parts.specs.Narrowing.{narrowed}
use Rattle.flag_parts.specs.Parts.{AreSeen}
use Rattle.flag_letters.specs.declared.part.FlagPart.{FlagPart}

-- the condition of JP cc, JR cc, CALL cc and RET cc
abbrev pub tested_condition : Instr → Option Condition
tested_condition (JumpIf condition nn) = Some condition
tested_condition (JumpRelativeIf condition e) = Some (long_condition condition)
tested_condition (CallIf condition nn) = Some condition
tested_condition (ReturnIf condition) = Some condition
tested_condition _ = None

-- the condition that is met where this one is not
abbrev pub opposite : Condition → Condition
opposite conditions.NotZero = conditions.Zero
opposite conditions.Zero = conditions.NotZero
opposite conditions.NotCarry = conditions.Carry
opposite conditions.Carry = conditions.NotCarry
opposite conditions.ParityOdd = conditions.ParityEven
opposite conditions.ParityEven = conditions.ParityOdd
opposite conditions.Plus = conditions.Minus
opposite conditions.Minus = conditions.Plus

-- the condition that is met at an outcome
abbrev pub met : Condition → Bool → Condition
met condition true = condition
met condition false = opposite condition

-- the successor of an outcome, from the state that the parts leave there
abbrev pub from_narrowed : GroundView → ℕ → Bool → Bool → Instr → Option AbsState → Bool → List Next
from_narrowed g address main inline instr None taken = []
from_narrowed g address main inline instr (Some s) taken = nexts_by g address main inline instr s taken

-- the successor of each outcome of a condition
abbrev pub conditional_way : GroundView → ℕ → Bool → Bool → Instr → Condition → List FlagPart → AbsState → Bool → List Next
conditional_way g address main inline instr condition parts s taken =
    from_narrowed g address main inline instr (narrowed (met condition taken) parts s) taken

-- the successors where the condition is met, and where it is not
abbrev pub conditional_nexts : GroundView → ℕ → Bool → Bool → Instr → Condition → List FlagPart → AbsState → List Next
conditional_nexts g address main inline instr condition parts s =
    conditional_way g address main inline instr condition parts s true ++ conditional_way g address main inline instr condition parts s false

-- the state that the parts leave at the outcome of a machine holds of it
abbrev pub NarrowsSoundly : Condition → List FlagPart → AbsState → Type 0
NarrowsSoundly condition parts s =
    (taken : Bool) (cells : List KeptCell) (entry : Entry) (m : Seen) → IsRegs m.regs → Holds s cells entry m → AreSeen parts m
    → holds condition (flags_of m.regs.main.f) ≡ taken → IsSomeAnd (narrowed (met condition taken) parts s) (λ t. Holds t cells entry m)
