-- The new conditions of each instruction (docs/CHECKER.md, "Conditions of a step").
use Rattle.std.specs.Prelude.{◌==◌, Bool, true, false, if◌then◌else◌, List, [], ◌∷◌, ◌++◌, Option, Some, None, pos, negsuc}
use Rattle.std.specs.Option.{option_to_list}
use Rattle.intervals.specs.Range.{RangeView}
use Rattle.flag_letters.specs.declared.letter.Letter.TheVariants as letters
use Rattle.flag_letters.specs.declared.part.FlagPart.{FlagPart}
use Rattle.loop_bounds.specs.Linear.{LinearView}
use Rattle.loop_bounds.specs.declared.variable.Variable.{Variable}
use Rattle.loop_bounds.specs.declared.variable.Variable.TheVariants as variables
use Rattle.z80_decode.specs.declared.instr.Instr.{Instr}
use Rattle.z80_decode.specs.declared.instr.Instr.TheVariants.{LoadASpecial, Arithmetic, Increment, Decrement, DecimalAdjust, Negate, SetCarry, AddHl, AdcHl, SbcHl, AddIndex, RotateA, Shift, RotateDigitsLeft, RotateDigitsRight, TestBit}
use Rattle.z80_decode.specs.declared.kinds.AccumulatorRotate.{AccumulatorRotate}
use Rattle.z80_decode.specs.declared.kinds.AccumulatorRotate.TheVariants as rotates
use Rattle.z80_decode.specs.declared.kinds.ArithmeticKind.{ArithmeticKind}
use Rattle.z80_decode.specs.declared.kinds.ArithmeticKind.TheVariants as operations
use Rattle.z80_decode.specs.declared.kinds.Bit.{Bit}
use Rattle.z80_decode.specs.declared.kinds.Bit.TheVariants as bits
use Rattle.z80_decode.specs.declared.kinds.ShiftKind.{ShiftKind}
use Rattle.z80_decode.specs.declared.kinds.ShiftKind.TheVariants as shifts
use Rattle.z80_decode.specs.declared.operands.Operand.{Operand}
use Rattle.z80_decode.specs.declared.operands.Operand.TheVariants as operands
use Rattle.z80_decode.specs.declared.operands.Place.TheVariants as places
use Rattle.z80_decode.specs.declared.operands.Register8.{Register8}
use Rattle.z80_decode.specs.declared.operands.Register8.TheVariants as registers
use Rattle.flag_conditions.specs.Linears.{no_terms, only, left_of_127, above_128, one_term, byte_left, byte_excess, weighted, word_left, word_excess}
use Rattle.flag_conditions.specs.OperandTerm.{operand_term_of, register_variable_of, variable_of_index, word_of_pair, word_of_index_pair}
use Rattle.flag_conditions.specs.declared.byte_operand.OperandTerm.{OperandTerm}
use Rattle.flag_conditions.specs.declared.byte_operand.OperandTerm.TheVariants.{A, Other, Number}
use Rattle.flag_conditions.specs.declared.word_operand.OperandWord.{OperandWord}
use Rattle.flag_conditions.specs.declared.word_operand.OperandWord.TheVariants as operand_words

-- ---- parts

abbrev pub zero : LinearView → FlagPart
zero s = record { letter = letters.Zero; linear = s }

abbrev pub zero_if_below : LinearView → FlagPart
zero_if_below s = record { letter = letters.ZeroIfBelow; linear = s }

abbrev pub carry_if_below : LinearView → FlagPart
carry_if_below s = record { letter = letters.CarryIfBelow; linear = s }

abbrev pub sign_if_below : LinearView → FlagPart
sign_if_below s = record { letter = letters.SignIfBelow; linear = s }

-- Z and S of a byte in a register: it is 0, and it is above 127
abbrev pub of_byte : Variable → List FlagPart
of_byte v = zero (only v) ∷ sign_if_below (left_of_127 v) ∷ []

-- C is clear
abbrev pub no_carry : FlagPart
no_carry = carry_if_below (no_terms (pos 0))

-- ---- 8-bit arithmetic and logic: the operand and the carry, where they are known

-- over the variables before

abbrev pub sum_before : Option OperandTerm → Option Bool → List FlagPart
sum_before (Some x) (Some k) = carry_if_below (byte_left k x) ∷ []
sum_before _ _ = []

-- with a carry of 1 a difference of 256 is 0 too, so Z tells nothing
abbrev pub difference_before : Option OperandTerm → Option Bool → List FlagPart
difference_before (Some x) (Some false) = carry_if_below (byte_excess false x) ∷ zero (byte_excess false x) ∷ []
difference_before (Some x) (Some true) = carry_if_below (byte_excess true x) ∷ []
difference_before _ _ = []

-- AND A; AND 80h
abbrev pub and_before : Operand → List FlagPart
and_before (operands.Immediate n) = if n == 0x80 then zero_if_below (above_128 variables.A) ∷ [] else []
and_before (operands.Place (places.Register registers.A)) = of_byte variables.A
and_before (operands.Place place) = []

abbrev pub xor_before : Option OperandTerm → List FlagPart
xor_before (Some x) = zero (byte_excess false x) ∷ []
xor_before None = []

-- OR A; OR r: both are 0 exactly if such a sum is
abbrev pub or_before : Option OperandTerm → List FlagPart
or_before (Some A) = of_byte variables.A
or_before (Some (Other r)) = zero (weighted 256 1 r) ∷ zero (weighted 1 256 r) ∷ []
or_before _ = []

abbrev pub arithmetic_before : ArithmeticKind → Operand → Option OperandTerm → Option Bool → List FlagPart
arithmetic_before operations.Add s x carry = sum_before x (Some false)
arithmetic_before operations.Adc s x carry = sum_before x carry
arithmetic_before operations.Sub s x carry = difference_before x (Some false)
arithmetic_before operations.Sbc s x carry = difference_before x carry
arithmetic_before operations.And s x carry = no_carry ∷ and_before s
arithmetic_before operations.Xor s x carry = no_carry ∷ xor_before x
arithmetic_before operations.Or s x carry = no_carry ∷ or_before x
arithmetic_before operations.Compare s x carry = difference_before x (Some false)

-- over the variables after: C of a sum or a difference without carry, told by the result and an operand other than A

abbrev pub sum_after : Option OperandTerm → Option Bool → Option FlagPart
sum_after (Some (Other r)) (Some false) = Some (carry_if_below (byte_excess false (Other r)))
sum_after (Some (Number n)) (Some false) = Some (carry_if_below (byte_excess false (Number n)))
sum_after _ _ = None

abbrev pub difference_after : Option OperandTerm → Option Bool → Option FlagPart
difference_after (Some (Other r)) (Some false) = Some (carry_if_below (byte_left false (Other r)))
difference_after (Some (Number n)) (Some false) = Some (carry_if_below (byte_left false (Number n)))
difference_after _ _ = None

-- Z and S of a byte, and perhaps one more part
abbrev pub of_byte_and : Variable → Option FlagPart → List FlagPart
of_byte_and v more = of_byte v ++ option_to_list more

abbrev pub arithmetic_after : ArithmeticKind → Option OperandTerm → Option Bool → List FlagPart
arithmetic_after operations.Add x carry = of_byte_and variables.A (sum_after x (Some false))
arithmetic_after operations.Adc x carry = of_byte_and variables.A (sum_after x carry)
arithmetic_after operations.Sub x carry = of_byte_and variables.A (difference_after x (Some false))
arithmetic_after operations.Sbc x carry = of_byte_and variables.A (difference_after x carry)
arithmetic_after operations.And x carry = of_byte variables.A
arithmetic_after operations.Xor x carry = of_byte variables.A
arithmetic_after operations.Or x carry = of_byte variables.A
arithmetic_after operations.Compare x carry = []

-- ---- 16-bit arithmetic: the word that changes, its operand, and the carry, where they are known

abbrev pub word_sum_before : Variable → Option OperandWord → Option Bool → List FlagPart
word_sum_before v (Some x) (Some k) = carry_if_below (word_left k v x) ∷ []
word_sum_before v _ _ = []

abbrev pub word_difference_before : Variable → Option OperandWord → Option Bool → List FlagPart
word_difference_before v (Some x) (Some false) = carry_if_below (word_excess false v x) ∷ zero (word_excess false v x) ∷ []
word_difference_before v (Some x) (Some true) = carry_if_below (word_excess true v x) ∷ []
word_difference_before v _ _ = []

-- C of a sum, told by the result and an operand other than the word itself
abbrev pub word_sum_after : Variable → Option OperandWord → List FlagPart
word_sum_after v (Some operand_words.Bc) = carry_if_below (word_excess false v operand_words.Bc) ∷ []
word_sum_after v (Some operand_words.De) = carry_if_below (word_excess false v operand_words.De) ∷ []
word_sum_after v _ = []

-- Z and S of HL
abbrev pub of_hl : List FlagPart
of_hl = zero (only variables.Hl) ∷ sign_if_below (left_of_127 variables.H) ∷ []

-- ---- rotates, shifts, bits

-- C of a rotate of A to the left
abbrev pub rotate_before : AccumulatorRotate → List FlagPart
rotate_before rotates.Rlca = carry_if_below (left_of_127 variables.A) ∷ []
rotate_before rotates.Rrca = []
rotate_before rotates.Rla = carry_if_below (left_of_127 variables.A) ∷ []
rotate_before rotates.Rra = []

-- C of a shift or rotate to the left
abbrev pub shift_before : ShiftKind → Register8 → List FlagPart
shift_before shifts.Rlc r = carry_if_below (left_of_127 (register_variable_of r)) ∷ []
shift_before shifts.Rl r = carry_if_below (left_of_127 (register_variable_of r)) ∷ []
shift_before shifts.Sla r = carry_if_below (left_of_127 (register_variable_of r)) ∷ []
shift_before kind r = []

-- BIT 7,r
abbrev pub test_before : Bit → Register8 → List FlagPart
test_before bits.Seven r = zero_if_below (above_128 (register_variable_of r)) ∷ []
test_before b r = []

-- ---- the tables

-- the new conditions over the variables before the instruction, given the range of the byte in work and the carry
unfoldable pub new_before : Instr → RangeView → Option Bool → List FlagPart
new_before (Arithmetic kind s) byte carry = arithmetic_before kind s (operand_term_of s byte) carry
new_before Negate byte carry =
    carry_if_below (one_term (pos 0) (negsuc 0) variables.A) ∷ zero (only variables.A) ∷ []
new_before SetCarry byte carry = carry_if_below (no_terms (negsuc 0)) ∷ []
new_before (AddHl ss) byte carry = word_sum_before variables.Hl (word_of_pair ss) (Some false)
new_before (AdcHl ss) byte carry = word_sum_before variables.Hl (word_of_pair ss) carry
new_before (SbcHl ss) byte carry = word_difference_before variables.Hl (word_of_pair ss) carry
new_before (AddIndex index pp) byte carry = word_sum_before (variable_of_index index) (word_of_index_pair pp) (Some false)
new_before (RotateA kind) byte carry = rotate_before kind
new_before (Shift kind (places.Register r)) byte carry = shift_before kind r
new_before (TestBit b (places.Register r)) byte carry = test_before b r
new_before _ byte carry = []

-- the new conditions over the variables after it
unfoldable pub new_after : Instr → RangeView → Option Bool → List FlagPart
new_after (LoadASpecial special) byte carry = of_byte variables.A
new_after (Arithmetic kind s) byte carry = arithmetic_after kind (operand_term_of s byte) carry
new_after (Increment (places.Register r)) byte carry = of_byte (register_variable_of r)
new_after (Decrement (places.Register r)) byte carry = of_byte (register_variable_of r)
new_after DecimalAdjust byte carry = of_byte variables.A
new_after Negate byte carry = of_byte variables.A
new_after (AddHl ss) byte carry = word_sum_after variables.Hl (word_of_pair ss)
new_after (AdcHl ss) byte carry = of_hl
new_after (SbcHl ss) byte carry = of_hl
new_after (AddIndex index pp) byte carry = word_sum_after (variable_of_index index) (word_of_index_pair pp)
new_after (Shift kind (places.Register r)) byte carry = of_byte (register_variable_of r)
new_after RotateDigitsLeft byte carry = of_byte variables.A
new_after RotateDigitsRight byte carry = of_byte variables.A
new_after _ byte carry = []
