-- What an operand is in a linear: a variable or a number (docs/CHECKER.md, "Conditions of a step").
use Rattle.std.specs.Prelude.{if◌then◌else◌, Option, Some, None}
use Rattle.intervals.specs.Logic.{is_single}
use Rattle.intervals.specs.Range.{RangeView}
use Rattle.loop_bounds.specs.declared.variable.Variable.{Variable}
use Rattle.loop_bounds.specs.declared.variable.Variable.TheVariants as variables
use Rattle.z80_decode.specs.declared.operands.Index.{Index}
use Rattle.z80_decode.specs.declared.operands.Index.TheVariants as indexes
use Rattle.z80_decode.specs.declared.operands.IndexPair.{IndexPair}
use Rattle.z80_decode.specs.declared.operands.IndexPair.TheVariants as index_pairs
use Rattle.z80_decode.specs.declared.operands.Operand.{Operand}
use Rattle.z80_decode.specs.declared.operands.Operand.TheVariants as operands
use Rattle.z80_decode.specs.declared.operands.OperandPair.{OperandPair}
use Rattle.z80_decode.specs.declared.operands.OperandPair.TheVariants as operand_pairs
use Rattle.z80_decode.specs.declared.operands.Place.TheVariants as places
use Rattle.z80_decode.specs.declared.operands.Register8.{Register8}
use Rattle.z80_decode.specs.declared.operands.Register8.TheVariants as registers
use Rattle.flag_conditions.specs.declared.byte_operand.OperandTerm.{OperandTerm}
use Rattle.flag_conditions.specs.declared.byte_operand.OperandTerm.TheVariants.{A, Other, Number}
use Rattle.flag_conditions.specs.declared.byte_operand.OtherRegister.{OtherRegister}
use Rattle.flag_conditions.specs.declared.byte_operand.OtherRegister.TheVariants as others
use Rattle.flag_conditions.specs.declared.word_operand.OperandWord.{OperandWord}
use Rattle.flag_conditions.specs.declared.word_operand.OperandWord.TheVariants.{Bc, De, Own}

-- the variable of a register
abbrev pub register_variable_of : Register8 → Variable
register_variable_of registers.B = variables.B
register_variable_of registers.C = variables.C
register_variable_of registers.D = variables.D
register_variable_of registers.E = variables.E
register_variable_of registers.H = variables.H
register_variable_of registers.L = variables.L
register_variable_of registers.A = variables.A

-- the variable of a register other than A
abbrev pub variable_of_other : OtherRegister → Variable
variable_of_other others.B = variables.B
variable_of_other others.C = variables.C
variable_of_other others.D = variables.D
variable_of_other others.E = variables.E
variable_of_other others.H = variables.H
variable_of_other others.L = variables.L

-- a register as an operand
abbrev pub term_of_register : Register8 → OperandTerm
term_of_register registers.B = Other others.B
term_of_register registers.C = Other others.C
term_of_register registers.D = Other others.D
term_of_register registers.E = Other others.E
term_of_register registers.H = Other others.H
term_of_register registers.L = Other others.L
term_of_register registers.A = A

-- a byte in memory counts only where its range has one value
abbrev pub term_of_memory : RangeView → Option OperandTerm
term_of_memory byte = if is_single byte then Some (Number byte.low) else None

-- the operand of 8-bit arithmetic, given the range of the byte in work
abbrev pub operand_term_of : Operand → RangeView → Option OperandTerm
operand_term_of (operands.Immediate n) byte = Some (Number n)
operand_term_of (operands.Place (places.Register r)) byte = Some (term_of_register r)
operand_term_of (operands.Place (places.Memory m)) byte = term_of_memory byte

-- the word that ADD, ADC and SBC add to HL or take from it; none for SP, which is no variable
abbrev pub word_of_pair : OperandPair → Option OperandWord
word_of_pair operand_pairs.Bc = Some Bc
word_of_pair operand_pairs.De = Some De
word_of_pair operand_pairs.Hl = Some Own
word_of_pair operand_pairs.Sp = None

-- the word that ADD adds to an index register
abbrev pub word_of_index_pair : IndexPair → Option OperandWord
word_of_index_pair index_pairs.Bc = Some Bc
word_of_index_pair index_pairs.De = Some De
word_of_index_pair index_pairs.Own = Some Own
word_of_index_pair index_pairs.Sp = None

-- the variable of an index register
abbrev pub variable_of_index : Index → Variable
variable_of_index indexes.Ix = variables.Ix
variable_of_index indexes.Iy = variables.Iy
