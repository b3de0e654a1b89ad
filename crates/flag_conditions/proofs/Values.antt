-- The values of the linears of conditions, and what flags say of differences.
use Rattle.std.proofs.Common.{◌≡◌, ℕ, ◌+◌, ◌*◌, Bool, eqb, ltb, arith}
use Rattle.std.specs.Prelude.{IsTrue, ◌↔◌, ℤ, pos, ◌-ℤ◌, ◌<ℤ◌}
use Rattle.std.specs.Int.{from_bool}
use Rattle.std.proofs.lemmas.Bool.Decides.{nat_tests}
use Rattle.std.proofs.lemmas.Int.{ints}
use Rattle.loop_bounds.specs.Effect.{Valuation, whole}
use Rattle.loop_bounds.specs.Linear.{value}
use Rattle.loop_bounds.specs.declared.variable.Variable.{Variable}
use Rattle.loop_bounds.specs.declared.variable.Variable.TheVariants as variables
use Rattle.flag_conditions.specs.Linears.{only, left_of_127, above_128, byte_left, byte_excess, weighted, word_left, word_excess}
use Rattle.flag_conditions.specs.OperandTerm.{variable_of_other}
use Rattle.flag_conditions.specs.declared.byte_operand.OperandTerm.{OperandTerm}
use Rattle.flag_conditions.specs.declared.byte_operand.OperandTerm.TheVariants.{A, Other, Number}
use Rattle.flag_conditions.specs.declared.byte_operand.OtherRegister.{OtherRegister}
use Rattle.flag_conditions.specs.declared.word_operand.OperandWord.{OperandWord}
use Rattle.flag_conditions.specs.declared.word_operand.OperandWord.TheVariants.{Bc, De, Own}

-- ---- a flag that is a test of two numbers, and an integer that is their difference

pub below_at : (b : Bool) (z : ℤ) (m n : ℕ) → b ≡ ltb m n → z ≡ pos m -ℤ pos n → IsTrue b ↔ (z <ℤ pos 0)
below_at b z m n e f = grind (arith, ints, nat_tests)

pub zero_at : (b : Bool) (z : ℤ) (m n : ℕ) → b ≡ eqb m n → z ≡ pos m -ℤ pos n → IsTrue b ↔ (z ≡ pos 0)
zero_at b z m n e f = grind (arith, ints, nat_tests)

-- ---- the values of operands

-- the value of an operand of 8-bit arithmetic
abbrev pub amount : OperandTerm → Valuation → ℕ
amount A x = x variables.A
amount (Other r) x = x (variable_of_other r)
amount (Number n) x = n

-- the value of an operand of 16-bit arithmetic, given the variable of the word that changes
abbrev pub word_amount : OperandWord → Variable → Valuation → ℕ
word_amount Bc v x = x variables.Bc
word_amount De v x = x variables.De
word_amount Own v x = x v

-- ---- the values of linears

pub only_value : (v : Variable) (x : Valuation) → value (whole x) (only v) ≡ pos (x v) -ℤ pos 0
only_value v x = omega (arith, ints)

pub left_of_127_value : (v : Variable) (x : Valuation) → value (whole x) (left_of_127 v) ≡ pos 127 -ℤ pos (x v)
left_of_127_value v x = omega (arith, ints)

pub above_128_value : (v : Variable) (x : Valuation) → value (whole x) (above_128 v) ≡ pos (x v) -ℤ pos 128
above_128_value v x = omega (arith, ints)

pub byte_left_value : (k : Bool) (y : OperandTerm) (x : Valuation) → value (whole x) (byte_left k y) ≡ pos 255 -ℤ pos (x variables.A + amount y x + from_bool k)
byte_left_value k A x = omega (arith, ints)
byte_left_value k (Other r) x = omega (arith, ints)
byte_left_value k (Number n) x = omega (arith, ints)

pub byte_excess_value : (k : Bool) (y : OperandTerm) (x : Valuation) → value (whole x) (byte_excess k y) ≡ pos (x variables.A) -ℤ pos (amount y x + from_bool k)
byte_excess_value k A x = omega (arith, ints)
byte_excess_value k (Other r) x = omega (arith, ints)
byte_excess_value k (Number n) x = omega (arith, ints)

pub weighted_value : (a b : ℕ) (r : OtherRegister) (x : Valuation) → value (whole x) (weighted a b r) ≡ pos (a * x variables.A + b * x (variable_of_other r)) -ℤ pos 0
weighted_value a b r x = omega (arith, ints)

pub word_left_value : (k : Bool) (v : Variable) (y : OperandWord) (x : Valuation) → value (whole x) (word_left k v y) ≡ pos 65535 -ℤ pos (x v + word_amount y v x + from_bool k)
word_left_value k v Bc x = omega (arith, ints)
word_left_value k v De x = omega (arith, ints)
word_left_value k v Own x = omega (arith, ints)

pub word_excess_value : (k : Bool) (v : Variable) (y : OperandWord) (x : Valuation) → value (whole x) (word_excess k v y) ≡ pos (x v) -ℤ pos (word_amount y v x + from_bool k)
word_excess_value k v Bc x = omega (arith, ints)
word_excess_value k v De x = omega (arith, ints)
word_excess_value k v Own x = omega (arith, ints)
