-- A after 8-bit arithmetic and logic as a linear over the variables before (docs/CHECKER.md, "Linear effects").
use Rattle.std.specs.Prelude.{ℕ, ◌+◌, ◌-◌, ◌*◌, Bool, false, if◌then◌else◌, ℤ, pos, negsuc, ◌+ℤ◌, ◌-ℤ◌, Option, Some, None, option_map}
use Rattle.std.specs.Int.{from_bool}
use Rattle.intervals.specs.Range.{RangeView, single}
use Rattle.loop_bounds.specs.Linear.{LinearView}
use Rattle.loop_bounds.specs.declared.variable.Variable.TheVariants as variables
use Rattle.z80_decode.specs.declared.kinds.ArithmeticKind.{ArithmeticKind}
use Rattle.z80_decode.specs.declared.kinds.ArithmeticKind.TheVariants as operations
use Rattle.z80_decode.specs.declared.operands.Operand.{Operand}
use Rattle.z80_decode.specs.declared.operands.Operand.TheVariants as operands
use Rattle.z80_decode.specs.declared.operands.Place.TheVariants as places
use Rattle.abs_state.specs.Registers.{byte_of}
use Rattle.abs_state.specs.declared.pairs.Pairs.{Pairs}
use Rattle.flag_conditions.specs.Linears.{no_terms, one_term, only, two_terms}
use Rattle.flag_conditions.specs.OperandTerm.{variable_of_other}
use Rattle.flag_conditions.specs.declared.byte_operand.OperandTerm.{OperandTerm}
use Rattle.flag_conditions.specs.declared.byte_operand.OperandTerm.TheVariants.{A, Other, Number}
use Rattle.linear_effects.specs.Bits.{is_above, has_all}
use Rattle.linear_effects.specs.Windows.{window_number}

-- the range of an operand, given that of the byte in work
abbrev pub operand_range : Operand → Pairs → RangeView → RangeView
operand_range (operands.Immediate n) pairs byte = single n
operand_range (operands.Place (places.Register r)) pairs byte = byte_of r pairs
operand_range (operands.Place (places.Memory m)) pairs byte = byte

-- ---- sums and differences: q is the number of the window

-- A + x + k - 256*q
abbrev pub byte_sum : Bool → OperandTerm → ℕ → LinearView
byte_sum k A q = one_term (pos (from_bool k) -ℤ pos (256 * q)) (pos 2) variables.A
byte_sum k (Other r) q = two_terms (pos (from_bool k) -ℤ pos (256 * q)) (pos 1) variables.A (pos 1) (variable_of_other r)
byte_sum k (Number n) q = one_term (pos (from_bool k) +ℤ pos n -ℤ pos (256 * q)) (pos 1) variables.A

-- 256 - k - 256*q
abbrev pub difference_start : Bool → ℕ → ℤ
difference_start k q = pos 256 -ℤ pos (from_bool k) -ℤ pos (256 * q)

-- 256 + A - x - k - 256*q: differences are taken one window higher, so that they are not negative
abbrev pub byte_difference : Bool → OperandTerm → ℕ → LinearView
byte_difference k A q = no_terms (difference_start k q)
byte_difference k (Other r) q =
    two_terms (difference_start k q) (pos 1) variables.A (negsuc 0) (variable_of_other r)
byte_difference k (Number n) q = one_term (difference_start k q -ℤ pos n) (pos 1) variables.A

-- the operand, the carry, and the ranges of A and the operand
abbrev pub sum_effect : Option OperandTerm → Option Bool → RangeView → RangeView → Option LinearView
sum_effect (Some x) (Some k) a b =
    option_map (byte_sum k x) (window_number 256 (a.low + b.low + from_bool k) (a.high + b.high + from_bool k))
sum_effect _ _ a b = None

abbrev pub difference_with : OperandTerm → Bool → RangeView → RangeView → Option LinearView
difference_with x k a b =
    option_map (byte_difference k x) (window_number 256 (256 + a.low - b.high - from_bool k) (256 + a.high - b.low - from_bool k))

-- A minus A is 0, less the carry, whatever A is
abbrev pub difference_effect : Option OperandTerm → Option Bool → RangeView → RangeView → Option LinearView
difference_effect (Some A) (Some k) a b = Some (byte_difference k A (if k then 0 else 1))
difference_effect (Some x) (Some k) a b = difference_with x k a b
difference_effect _ _ a b = None

-- ---- logic

-- AND A; AND with a number that has all bits that A may have
abbrev pub and_effect : Option OperandTerm → RangeView → RangeView → Option LinearView
and_effect (Some A) a b = Some (only variables.A)
and_effect x a b = if has_all a b then Some (only variables.A) else None

-- OR and XOR with a number whose bits are above those of A
abbrev pub above_effect : RangeView → RangeView → Option LinearView
above_effect a b = if is_above a b then Some (one_term (pos b.low) (pos 1) variables.A) else None

-- OR A
abbrev pub or_effect : Option OperandTerm → RangeView → RangeView → Option LinearView
or_effect (Some A) a b = Some (only variables.A)
or_effect x a b = above_effect a b

-- XOR A gives 0, which its range says
abbrev pub xor_effect : Option OperandTerm → RangeView → RangeView → Option LinearView
xor_effect (Some A) a b = None
xor_effect x a b = above_effect a b

-- ---- the table

-- A after an operation, given the operand, the carry, and the ranges of A and the operand
abbrev pub arithmetic_effect : ArithmeticKind → Option OperandTerm → Option Bool → RangeView → RangeView → Option LinearView
arithmetic_effect operations.Add x carry a b = sum_effect x (Some false) a b
arithmetic_effect operations.Adc x carry a b = sum_effect x carry a b
arithmetic_effect operations.Sub x carry a b = difference_effect x (Some false) a b
arithmetic_effect operations.Sbc x carry a b = difference_effect x carry a b
arithmetic_effect operations.And x carry a b = and_effect x a b
arithmetic_effect operations.Xor x carry a b = xor_effect x a b
arithmetic_effect operations.Or x carry a b = or_effect x a b
arithmetic_effect operations.Compare x carry a b = None

-- NEG: 256 - A - 256*q
abbrev pub negate_effect : RangeView → Option LinearView
negate_effect a =
    option_map (λ q. one_term (pos 256 -ℤ pos (256 * q)) (negsuc 0) variables.A) (window_number 256 (256 - a.high) (256 - a.low))

-- CPL: 255 - A
abbrev pub complemented : LinearView
complemented = one_term (pos 255) (negsuc 0) variables.A
