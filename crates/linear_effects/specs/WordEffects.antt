-- HL, IX and IY after 16-bit arithmetic as linears over the variables before (docs/CHECKER.md, "Linear effects").
use Rattle.std.specs.Prelude.{ℕ, ◌+◌, ◌-◌, ◌*◌, Bool, if◌then◌else◌, pos, negsuc, ◌-ℤ◌, Option, Some, None, option_map}
use Rattle.std.specs.Int.{from_bool}
use Rattle.intervals.specs.Range.{RangeView}
use Rattle.loop_bounds.specs.Linear.{LinearView}
use Rattle.loop_bounds.specs.declared.variable.Variable.{Variable}
use Rattle.loop_bounds.specs.declared.variable.Variable.TheVariants as variables
use Rattle.z80_decode.specs.declared.operands.Index.{Index}
use Rattle.z80_decode.specs.declared.operands.Index.TheVariants as indexes
use Rattle.abs_state.specs.declared.pairs.Pairs.{Pairs}
use Rattle.flag_conditions.specs.Linears.{no_terms, one_term, two_terms}
use Rattle.flag_conditions.specs.declared.word_operand.OperandWord.{OperandWord}
use Rattle.flag_conditions.specs.declared.word_operand.OperandWord.TheVariants.{Bc, De, Own}
use Rattle.linear_effects.specs.Windows.{window_number}

-- the range of an operand, given that of the word that changes
abbrev pub word_operand_range : OperandWord → RangeView → Pairs → RangeView
word_operand_range Bc own pairs = pairs.bc.word
word_operand_range De own pairs = pairs.de.word
word_operand_range Own own pairs = own

-- the range of an index register
abbrev pub index_range : Index → Pairs → RangeView
index_range indexes.Ix pairs = pairs.ix.word
index_range indexes.Iy pairs = pairs.iy.word

-- v + x + k - 65,536*q, where q is the number of the window
abbrev pub word_sum : Bool → Variable → OperandWord → ℕ → LinearView
word_sum k v Bc q = two_terms (pos (from_bool k) -ℤ pos (65536 * q)) (pos 1) variables.Bc (pos 1) v
word_sum k v De q = two_terms (pos (from_bool k) -ℤ pos (65536 * q)) (pos 1) variables.De (pos 1) v
word_sum k v Own q = one_term (pos (from_bool k) -ℤ pos (65536 * q)) (pos 2) v

-- 65,536 + v - x - k - 65,536*q
abbrev pub word_difference : Bool → Variable → OperandWord → ℕ → LinearView
word_difference k v Bc q = two_terms (pos 65536 -ℤ pos (from_bool k) -ℤ pos (65536 * q)) (negsuc 0) variables.Bc (pos 1) v
word_difference k v De q = two_terms (pos 65536 -ℤ pos (from_bool k) -ℤ pos (65536 * q)) (negsuc 0) variables.De (pos 1) v
word_difference k v Own q = no_terms (pos 65536 -ℤ pos (from_bool k) -ℤ pos (65536 * q))

-- the variable and range of the word that changes, its operand, the carry, and the ranges of all pairs
abbrev pub word_sum_effect : Variable → RangeView → Option OperandWord → Option Bool → Pairs → Option LinearView
word_sum_effect v own (Some x) (Some k) pairs =
    (let b = word_operand_range x own pairs in
    option_map (word_sum k v x) (window_number 65536 (own.low + b.low + from_bool k) (own.high + b.high + from_bool k)))
word_sum_effect v own _ _ pairs = None

abbrev pub word_difference_with : Variable → RangeView → OperandWord → Bool → Pairs → Option LinearView
word_difference_with v own x k pairs =
    (let b = word_operand_range x own pairs in
    option_map (word_difference k v x) (window_number 65536 (65536 + own.low - b.high - from_bool k) (65536 + own.high - b.low - from_bool k)))

-- HL minus HL is 0, less the carry, whatever HL is
abbrev pub word_difference_effect : Variable → RangeView → Option OperandWord → Option Bool → Pairs → Option LinearView
word_difference_effect v own (Some Own) (Some k) pairs = Some (word_difference k v Own (if k then 0 else 1))
word_difference_effect v own (Some x) (Some k) pairs = word_difference_with v own x k pairs
word_difference_effect v own _ _ pairs = None
