-- The conditions of operations on words are true.
use Rattle.std.proofs.Common.{◌≡◌, ◌∙◌, ℕ, ◌+◌, ◌-◌, ◌/◌, ◌%◌, ◌<◌, Bool, true, false, eqb, ltb, leb, Option, Some, None, sym, ap, arith}
use Rattle.std.specs.Prelude.{IfSome}
use Rattle.std.specs.Int.{from_bool}
use Rattle.std.proofs.lemmas.Bool.Decides.{nat_tests}
use Rattle.loop_bounds.specs.Effect.{Valuation}
use Rattle.loop_bounds.specs.declared.variable.Variable.{Variable}
use Rattle.loop_bounds.specs.declared.variable.Variable.TheVariants as variables
use Rattle.z80_alu.specs.declared.flags.Flags.{Flags}
use Rattle.flag_parts.specs.Parts.{HoldsParts}
use Rattle.flag_conditions.specs.NewConditions.{word_sum_before, word_difference_before, word_sum_after, of_hl}
use Rattle.flag_conditions.specs.declared.word_operand.OperandWord.{OperandWord}
use Rattle.flag_conditions.specs.declared.word_operand.OperandWord.TheVariants.{Bc, De}
use Rattle.flag_conditions.proofs.Values.{below_at, zero_at, word_amount, only_value, left_of_127_value, word_left_value, word_excess_value}
use Rattle.flag_conditions.proofs.Operations.{none_hold, one_holds, two_hold}

-- a difference of words is 0 exactly if they are equal
pub words_equal : (a b : ℕ) → a < 65536 → b < 65536 → eqb ((65536 + a - b - 0) % 65536) 0 ≡ eqb a b
words_equal a b h k = grind (arith, nat_tests)

-- a sum of words wrapped exactly if it is below an operand
pub word_wraps : (a b s m : ℕ) → a < 65536 → b < 65536 → s ≡ (a + b + 0) % 65536 → m ≡ b → leb 65536 (a + b) ≡ ltb s (m + 0)
word_wraps a b s m h k e f = grind (arith, nat_tests)

-- bit 15 of a word is bit 7 of its high byte
pub high_sign : (s : ℕ) → leb 32768 s ≡ leb 128 (s / 256)
high_sign s = grind (arith, nat_tests)

module _ (flags : Flags) (x : Valuation) (v : Variable) (b : ℕ) (c : Bool) where
  abbrev IsWord : Option OperandWord → Type 0
  IsWord y = IfSome y (λ z. word_amount z v x ≡ b)

  abbrev IsCarryOf : Option Bool → Type 0
  IsCarryOf carry = IfSome carry (λ k. c ≡ k)

  pub word_sum_told : (y : Option OperandWord) (carry : Option Bool) → IsWord y → IsCarryOf carry → flags.carry ≡ leb 65536 (x v + b + from_bool c) → HoldsParts (word_sum_before v y carry) flags x
  word_sum_told None carry h k f = none_hold flags x
  word_sum_told (Some z) None h k f = none_hold flags x
  word_sum_told (Some z) (Some q) h k f =
      one_holds flags x _
      (below_at flags.carry _ 65535 (x v + word_amount z v x + from_bool q)
      (f ∙ ap (λ (m : ℕ). leb 65536 (x v + m + from_bool c)) (sym h) ∙ ap (λ (t : Bool). leb 65536 (x v + word_amount z v x + from_bool t)) k)
      (word_left_value q v z x))

  excess_told : (z : OperandWord) (q : Bool) → word_amount z v x ≡ b → c ≡ q → flags.carry ≡ ltb (x v) (b + from_bool c) → flags.carry ≡ ltb (x v) (word_amount z v x + from_bool q)
  excess_told z q h k f =
      f ∙ ap (λ (m : ℕ). ltb (x v) (m + from_bool c)) (sym h) ∙ ap (λ (t : Bool). ltb (x v) (word_amount z v x + from_bool t)) k

  pub word_difference_told : (y : Option OperandWord) (carry : Option Bool) → IsWord y → IsCarryOf carry → flags.carry ≡ ltb (x v) (b + from_bool c) → (c ≡ false → flags.zero ≡ eqb (x v) b)
      → HoldsParts (word_difference_before v y carry) flags x
  word_difference_told None carry h k f g = none_hold flags x
  word_difference_told (Some z) None h k f g = none_hold flags x
  word_difference_told (Some z) (Some true) h k f g =
      one_holds flags x _ (below_at flags.carry _ (x v) (word_amount z v x + 1) (excess_told z true h k f) (word_excess_value true v z x))
  word_difference_told (Some z) (Some false) h k f g =
      two_hold flags x _ _
      (below_at flags.carry _ (x v) (word_amount z v x + 0) (excess_told z false h k f) (word_excess_value false v z x))
      (zero_at flags.zero _ (x v) (word_amount z v x + 0) (g k ∙ ap (eqb (x v)) (omega arith)) (word_excess_value false v z x))

-- over the variables after a sum
module _ (flags : Flags) (y : Valuation) (v : Variable) (a b : ℕ) (a_small : a < 65536) (b_small : b < 65536) (is_sum : y v ≡ (a + b + 0) % 65536) (carry_is : flags.carry ≡ leb 65536 (a + b)) where
  pub sum_with_bc : y variables.Bc ≡ b → HoldsParts (word_sum_after v (Some Bc)) flags y
  sum_with_bc e =
      one_holds flags y _ (below_at flags.carry _ (y v) (y variables.Bc + 0) (carry_is ∙ word_wraps a b (y v) (y variables.Bc) a_small b_small is_sum e) (word_excess_value false v Bc y))

  pub sum_with_de : y variables.De ≡ b → HoldsParts (word_sum_after v (Some De)) flags y
  sum_with_de e =
      one_holds flags y _ (below_at flags.carry _ (y v) (y variables.De + 0) (carry_is ∙ word_wraps a b (y v) (y variables.De) a_small b_small is_sum e) (word_excess_value false v De y))

-- Z and S of HL
pub hl_told : (flags : Flags) (y : Valuation) (s : ℕ) → y variables.Hl ≡ s → y variables.H ≡ s / 256 → flags.zero ≡ eqb s 0 → flags.sign ≡ leb 32768 s → HoldsParts of_hl flags y
hl_told flags y s e f z g =
    two_hold flags y _ _ (zero_at flags.zero _ (y variables.Hl) 0 (z ∙ ap (λ (m : ℕ). eqb m 0) (sym e)) (only_value variables.Hl y))
    (below_at flags.sign _ 127 (y variables.H) (g ∙ high_sign s ∙ ap (leb 128) (sym f)) (left_of_127_value variables.H y))
