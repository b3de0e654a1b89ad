-- The linears of conditions, their terms in the order of variables (docs/CHECKER.md, "Conditions of a step").
use Rattle.std.specs.Prelude.{ℕ, Bool, [], ◌∷◌, ℤ, pos, negsuc, ◌-ℤ◌}
use Rattle.std.specs.Int.{from_bool}
use Rattle.loop_bounds.specs.Linear.{LinearView}
use Rattle.loop_bounds.specs.declared.variable.Variable.{Variable}
use Rattle.loop_bounds.specs.declared.variable.Variable.TheVariants as variables
use Rattle.flag_conditions.specs.OperandTerm.{variable_of_other}
use Rattle.flag_conditions.specs.declared.byte_operand.OperandTerm.{OperandTerm}
use Rattle.flag_conditions.specs.declared.byte_operand.OperandTerm.TheVariants.{A, Other, Number}
use Rattle.flag_conditions.specs.declared.byte_operand.OtherRegister.{OtherRegister}
use Rattle.flag_conditions.specs.declared.word_operand.OperandWord.{OperandWord}
use Rattle.flag_conditions.specs.declared.word_operand.OperandWord.TheVariants.{Bc, De, Own}

-- ---- by their number of terms

-- a constant
abbrev pub no_terms : ℤ → LinearView
no_terms c = record { constant = c; terms = [] }

-- c + k*v
abbrev pub one_term : ℤ → ℤ → Variable → LinearView
one_term c k v = record { constant = c; terms = record { coefficient = k; variable = v } ∷ [] }

-- c + k*v + j*w, where v comes before w
abbrev pub two_terms : ℤ → ℤ → Variable → ℤ → Variable → LinearView
two_terms c k v j w = record {
  constant = c;
  terms = record { coefficient = k; variable = v } ∷ record { coefficient = j; variable = w } ∷ [];
}

-- v
abbrev pub only : Variable → LinearView
only v = one_term (pos 0) (pos 1) v

-- 127 - v
abbrev pub left_of_127 : Variable → LinearView
left_of_127 v = one_term (pos 127) (negsuc 0) v

-- v - 128
abbrev pub above_128 : Variable → LinearView
above_128 v = one_term (negsuc 127) (pos 1) v

-- ---- A and an operand, with a carry k

-- 255 - A - x - k
abbrev pub byte_left : Bool → OperandTerm → LinearView
byte_left k A = one_term (pos 255 -ℤ pos (from_bool k)) (negsuc 1) variables.A
byte_left k (Other r) = two_terms (pos 255 -ℤ pos (from_bool k)) (negsuc 0) variables.A (negsuc 0) (variable_of_other r)
byte_left k (Number n) = one_term (pos 255 -ℤ pos (from_bool k) -ℤ pos n) (negsuc 0) variables.A

-- A - x - k
abbrev pub byte_excess : Bool → OperandTerm → LinearView
byte_excess k A = no_terms (pos 0 -ℤ pos (from_bool k))
byte_excess k (Other r) = two_terms (pos 0 -ℤ pos (from_bool k)) (pos 1) variables.A (negsuc 0) (variable_of_other r)
byte_excess k (Number n) = one_term (pos 0 -ℤ pos (from_bool k) -ℤ pos n) (pos 1) variables.A

-- a*A + b*r
abbrev pub weighted : ℕ → ℕ → OtherRegister → LinearView
weighted a b r = two_terms (pos 0) (pos a) variables.A (pos b) (variable_of_other r)

-- ---- a word and an operand, with a carry k

-- 65,535 - v - x - k
abbrev pub word_left : Bool → Variable → OperandWord → LinearView
word_left k v Bc = two_terms (pos 65535 -ℤ pos (from_bool k)) (negsuc 0) variables.Bc (negsuc 0) v
word_left k v De = two_terms (pos 65535 -ℤ pos (from_bool k)) (negsuc 0) variables.De (negsuc 0) v
word_left k v Own = one_term (pos 65535 -ℤ pos (from_bool k)) (negsuc 1) v

-- v - x - k
abbrev pub word_excess : Bool → Variable → OperandWord → LinearView
word_excess k v Bc = two_terms (pos 0 -ℤ pos (from_bool k)) (negsuc 0) variables.Bc (pos 1) v
word_excess k v De = two_terms (pos 0 -ℤ pos (from_bool k)) (negsuc 0) variables.De (pos 1) v
word_excess k v Own = no_terms (pos 0 -ℤ pos (from_bool k))
