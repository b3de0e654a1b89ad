-- The conditions over the variables after an instruction name registers alone: the contract of
-- `conditions_name_registers`.
use Rattle.std.specs.Prelude.{Bool, List, Option}
use Rattle.std.specs.List.{All}
use Rattle.flag_conditions.specs.Conditions.{conditions_of}
use Rattle.flag_letters.specs.declared.part.FlagPart.{FlagPart}
use Rattle.intervals.specs.Range.{RangeView}
use Rattle.loop_bounds.specs.Linear.{LinearView}
use Rattle.loop_bounds.specs.declared.variable.Variable.{Variable}
use Rattle.loop_bounds.specs.declared.variable.Variable.TheVariants.{Slot}
use Rattle.z80_decode.specs.declared.instr.Instr.{Instr}

-- the variable is no slot, nor a byte of one
abbrev pub IsRegister : Variable → Type 0
IsRegister (Slot number part) = ⊥
IsRegister _ = Unit {0}

-- so is each variable of a linear
abbrev pub NamesRegisters : LinearView → Type 0
NamesRegisters linear = All (λ t. IsRegister t.variable) linear.terms

abbrev pub ConditionsNameRegisters : Type 0
ConditionsNameRegisters =
    (instr : Instr) (byte : RangeView) (parts : List FlagPart) (carry : Option Bool)
    → All (λ condition. NamesRegisters condition.linear) (conditions_of instr byte parts carry).after
