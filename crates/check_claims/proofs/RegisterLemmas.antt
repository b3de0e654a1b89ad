-- The variables that the conditions after an instruction name.
use Rattle.std.proofs.Common.{Bool, false, List, [], ◌∷◌, All, Option, Some, None, IfSome, ℤ}
use Rattle.std.proofs.lemmas.List.Elements.{All-cons, All-nil}
use Rattle.flag_conditions.specs.NewConditions.{arithmetic_after, difference_after, new_after, of_byte_and, of_hl, sign_if_below, sum_after, word_sum_after, zero}
use Rattle.flag_conditions.specs.Linears.{left_of_127, only}
use Rattle.flag_conditions.specs.OperandTerm.{operand_term_of, register_variable_of, variable_of_index, variable_of_other, word_of_index_pair, word_of_pair}
use Rattle.flag_conditions.specs.declared.byte_operand.OperandTerm.{OperandTerm}
use Rattle.flag_conditions.specs.declared.byte_operand.OperandTerm.TheVariants.{Other, Number}
use Rattle.flag_conditions.specs.declared.byte_operand.OtherRegister.{OtherRegister}
use Rattle.flag_conditions.specs.declared.byte_operand.OtherRegister.TheVariants as others
use Rattle.flag_conditions.specs.declared.word_operand.OperandWord.{OperandWord}
use Rattle.flag_conditions.specs.declared.word_operand.OperandWord.TheVariants.{Bc, De, Own}
use Rattle.flag_letters.specs.declared.part.FlagPart.{FlagPart}
use Rattle.intervals.specs.Range.{RangeView}
use Rattle.loop_bounds.specs.declared.linear.Term.{Term}
use Rattle.loop_bounds.specs.declared.variable.Variable.{Variable}
use Rattle.loop_bounds.specs.declared.variable.Variable.TheVariants as variables
use Rattle.z80_decode.specs.declared.instr.Instr.{Instr}
use Rattle.z80_decode.specs.declared.instr.Instr.TheVariants.{LoadASpecial, Arithmetic, Increment, Decrement, DecimalAdjust, Negate, AddHl, AdcHl, SbcHl, AddIndex, Shift, RotateDigitsLeft, RotateDigitsRight}
use Rattle.z80_decode.specs.declared.kinds.ArithmeticKind.{ArithmeticKind}
use Rattle.z80_decode.specs.declared.kinds.ArithmeticKind.TheVariants as operations
use Rattle.z80_decode.specs.declared.operands.Index.{Index}
use Rattle.z80_decode.specs.declared.operands.Index.TheVariants as indexes
use Rattle.z80_decode.specs.declared.operands.Place.TheVariants as places
use Rattle.z80_decode.specs.declared.operands.Register8.{Register8}
use Rattle.z80_decode.specs.declared.operands.Register8.TheVariants as registers
use Rattle.check_claims.specs.RegisterLaws.{IsRegister, NamesRegisters}

abbrev IsNamed : Term → Type 0
IsNamed t = IsRegister t.variable

-- the linear of a condition names registers
abbrev pub IsOfRegisters : FlagPart → Type 0
IsOfRegisters condition = NamesRegisters condition.linear

-- ---- one term, and two

one_named : (k : ℤ) (v : Variable) → IsRegister v → All IsNamed (record { coefficient = k; variable = v } ∷ [])
one_named k v h = All-cons IsNamed (record { coefficient = k; variable = v }) [] h (All-nil IsNamed)

two_named : (k : ℤ) (v : Variable) (j : ℤ) (w : Variable) → IsRegister v → IsRegister w → All IsNamed (record { coefficient = k; variable = v } ∷ record { coefficient = j; variable = w } ∷ [])
two_named k v j w h i = All-cons IsNamed (record { coefficient = k; variable = v }) (record { coefficient = j; variable = w } ∷ []) h (one_named j w i)

-- ---- lists of conditions

no_parts : All IsOfRegisters []
no_parts = All-nil IsOfRegisters

one_part : (p : FlagPart) → IsOfRegisters p → All IsOfRegisters (p ∷ [])
one_part p h = All-cons IsOfRegisters p [] h no_parts

byte_parts : (v : Variable) → IsRegister v → (ps : List FlagPart) → All IsOfRegisters ps → All IsOfRegisters (zero (only v) ∷ sign_if_below (left_of_127 v) ∷ ps)
byte_parts v h ps rest =
    All-cons IsOfRegisters (zero (only v)) (sign_if_below (left_of_127 v) ∷ ps) (one_named _ v h)
    (All-cons IsOfRegisters (sign_if_below (left_of_127 v)) ps (one_named _ v h) rest)

with_more : (v : Variable) → IsRegister v → (more : Option FlagPart) → IfSome more IsOfRegisters → All IsOfRegisters (of_byte_and v more)
with_more v h None rest = byte_parts v h [] no_parts
with_more v h (Some p) rest = byte_parts v h (p ∷ []) (one_part p rest)

-- ---- operands

other_is_register : (r : OtherRegister) → IsRegister (variable_of_other r)
other_is_register others.B = tt
other_is_register others.C = tt
other_is_register others.D = tt
other_is_register others.E = tt
other_is_register others.H = tt
other_is_register others.L = tt

is_register : (r : Register8) → IsRegister (register_variable_of r)
is_register registers.B = tt
is_register registers.C = tt
is_register registers.D = tt
is_register registers.E = tt
is_register registers.H = tt
is_register registers.L = tt
is_register registers.A = tt

sum_named : (x : Option OperandTerm) (carry : Option Bool) → IfSome (sum_after x carry) IsOfRegisters
sum_named (Some (Other r)) (Some false) = two_named _ variables.A _ (variable_of_other r) tt (other_is_register r)
sum_named (Some (Number n)) (Some false) = one_named _ variables.A tt
sum_named _ _ = tt

difference_named : (x : Option OperandTerm) (carry : Option Bool) → IfSome (difference_after x carry) IsOfRegisters
difference_named (Some (Other r)) (Some false) = two_named _ variables.A _ (variable_of_other r) tt (other_is_register r)
difference_named (Some (Number n)) (Some false) = one_named _ variables.A tt
difference_named _ _ = tt

arithmetic_named : (kind : ArithmeticKind) (x : Option OperandTerm) (carry : Option Bool) → All IsOfRegisters (arithmetic_after kind x carry)
arithmetic_named operations.Add x carry = with_more variables.A tt (sum_after x (Some false)) (sum_named x (Some false))
arithmetic_named operations.Adc x carry = with_more variables.A tt (sum_after x carry) (sum_named x carry)
arithmetic_named operations.Sub x carry = with_more variables.A tt (difference_after x (Some false)) (difference_named x (Some false))
arithmetic_named operations.Sbc x carry = with_more variables.A tt (difference_after x carry) (difference_named x carry)
arithmetic_named operations.And x carry = byte_parts variables.A tt [] no_parts
arithmetic_named operations.Xor x carry = byte_parts variables.A tt [] no_parts
arithmetic_named operations.Or x carry = byte_parts variables.A tt [] no_parts
arithmetic_named operations.Compare x carry = no_parts

word_named : (v : Variable) (x : Option OperandWord) → IsRegister v → All IsOfRegisters (word_sum_after v x)
word_named v (Some Bc) h = one_part _ (two_named _ variables.Bc _ v tt h)
word_named v (Some De) h = one_part _ (two_named _ variables.De _ v tt h)
word_named v (Some Own) h = no_parts
word_named v None h = no_parts

index_named : (index : Index) (x : Option OperandWord) → All IsOfRegisters (word_sum_after (variable_of_index index) x)
index_named indexes.Ix x = word_named variables.Ix x tt
index_named indexes.Iy x = word_named variables.Iy x tt

of_hl_named : All IsOfRegisters of_hl
of_hl_named =
    All-cons IsOfRegisters (zero (only variables.Hl)) (sign_if_below (left_of_127 variables.H) ∷ []) (one_named _ variables.Hl tt)
    (one_part (sign_if_below (left_of_127 variables.H)) (one_named _ variables.H tt))

-- ---- the table

pub after_named : (instr : Instr) (byte : RangeView) (carry : Option Bool) → All IsOfRegisters (new_after instr byte carry)
unfolding new_after
after_named (LoadASpecial special) byte carry = byte_parts variables.A tt [] no_parts
after_named (Arithmetic kind s) byte carry = arithmetic_named kind (operand_term_of s byte) carry
after_named (Increment (places.Register r)) byte carry = byte_parts (register_variable_of r) (is_register r) [] no_parts
after_named (Decrement (places.Register r)) byte carry = byte_parts (register_variable_of r) (is_register r) [] no_parts
after_named DecimalAdjust byte carry = byte_parts variables.A tt [] no_parts
after_named Negate byte carry = byte_parts variables.A tt [] no_parts
after_named (AddHl ss) byte carry = word_named variables.Hl (word_of_pair ss) tt
after_named (AdcHl ss) byte carry = of_hl_named
after_named (SbcHl ss) byte carry = of_hl_named
after_named (AddIndex index pp) byte carry = index_named index (word_of_index_pair pp)
after_named (Shift kind (places.Register r)) byte carry = byte_parts (register_variable_of r) (is_register r) [] no_parts
after_named RotateDigitsLeft byte carry = byte_parts variables.A tt [] no_parts
after_named RotateDigitsRight byte carry = byte_parts variables.A tt [] no_parts
after_named _ byte carry = no_parts
