-- HL, IX and IY after operations on words are the linears of the table.
use Rattle.std.proofs.Common.{◌≡◌, ◌∙◌, ℕ, ◌+◌, ◌-◌, ◌*◌, ◌/◌, ◌<◌, ◌≤◌, Bool, true, false, cond, Option, Some, None, sym, ap, subst, arith}
use Rattle.std.specs.Prelude.{IfSome, pos, ◌-ℤ◌}
use Rattle.std.specs.Int.{from_bool}
use Rattle.std.proofs.lemmas.Int.{ints}
use Rattle.intervals.specs.Range.{RangeView, Within}
use Rattle.loop_bounds.specs.Effect.{Valuation, whole}
use Rattle.loop_bounds.specs.Linear.{LinearView, value}
use Rattle.loop_bounds.specs.declared.variable.Variable.{Variable}
use Rattle.loop_bounds.specs.declared.variable.Variable.TheVariants as variables
use Rattle.z80_alu.specs.Words.{sum16, difference16}
use Rattle.abs_state.specs.declared.pairs.Pairs.{Pairs}
use Rattle.flag_conditions.specs.declared.word_operand.OperandWord.{OperandWord}
use Rattle.flag_conditions.specs.declared.word_operand.OperandWord.TheVariants.{Bc, De, Own}
use Rattle.linear_effects.specs.WordEffects.{word_operand_range, word_sum, word_difference, word_sum_effect, word_difference_with, word_difference_effect}
use Rattle.linear_effects.specs.Windows.{window_number}
use Rattle.linear_effects.proofs.Numbers.{map_some, if_window, in_window_of_words}

-- the value of an operand, given the variable of the word that changes
abbrev pub word_worth : OperandWord → Variable → Valuation → ℕ
word_worth Bc v x = x variables.Bc
word_worth De v x = x variables.De
word_worth Own v x = x v

word_sum_value : (k : Bool) (v : Variable) (t : OperandWord) (q : ℕ) (x : Valuation) → value (whole x) (word_sum k v t q) ≡ pos (x v + word_worth t v x + from_bool k) -ℤ pos (65536 * q)
word_sum_value k v Bc q x = omega (arith, ints)
word_sum_value k v De q x = omega (arith, ints)
word_sum_value k v Own q x = omega (arith, ints)

word_difference_value : (k : Bool) (v : Variable) (t : OperandWord) (q : ℕ) (x : Valuation) → value (whole x) (word_difference k v t q) ≡ pos (65536 + x v) -ℤ pos (word_worth t v x + from_bool k + 65536 * q)
word_difference_value k v Bc q x = omega (arith, ints)
word_difference_value k v De q x = omega (arith, ints)
word_difference_value k v Own q x = omega (arith, ints)

bool_small : (k : Bool) → from_bool k ≤ 1
bool_small true = omega arith
bool_small false = omega arith

word_sum_order : (a b : RangeView) (x n k : ℕ) → Within a x → Within b n → (a.low + b.low + k ≤ x + n + k) × (x + n + k ≤ a.high + b.high + k)
word_sum_order a b x n k h w = (omega arith, omega arith)

word_difference_order : (a b : RangeView) (x n k : ℕ) → Within a x → Within b n → (65536 + a.low - b.high - k ≤ 65536 + x - n - k) × (65536 + x - n - k ≤ 65536 + a.high - b.low - k)
word_difference_order a b x n k h w = (omega arith, omega arith)

taken_word : (x n k q : ℕ) → x < 65536 → n < 65536 → k ≤ 1 → pos (65536 + x - n - k) -ℤ pos (65536 * q) ≡ pos (65536 + x) -ℤ pos (n + k + 65536 * q)
taken_word x n k q h l m = omega (arith, ints)

-- an operand that is known has the word as its value, and its range holds the word
pub record IsKnownWord (x : Valuation) (v : Variable) (n : ℕ) (own : RangeView) (pairs : Pairs) (t : OperandWord) : Type 0 where
  pub is : word_worth t v x ≡ n
  pub within : Within (word_operand_range t own pairs) n

module _ (x : Valuation) (v : Variable) (n : ℕ) (own : RangeView) (pairs : Pairs) (v_small : x v < 65536) (n_small : n < 65536) (v_within : Within own (x v)) where
  abbrev IsWordValue : ℕ → LinearView → Type 0
  IsWordValue r s = pos r ≡ value (whole x) s

  abbrev IsWordWorth : Option OperandWord → Type 0
  IsWordWorth t = IfSome t (IsKnownWord x v n own pairs)

  abbrev IsWordCarry : Bool → Option Bool → Type 0
  IsWordCarry c carry = IfSome carry (λ k. c ≡ k)

  pub word_sum_is : (c : Bool) (t : Option OperandWord) (carry : Option Bool) → IsWordWorth t → IsWordCarry c carry → IfSome (word_sum_effect v own t carry pairs) (IsWordValue (sum16 (x v) n c))
  word_sum_is c None carry h e = tt
  word_sum_is c (Some t) None h e = tt
  word_sum_is c (Some t) (Some k) h e =
      let b : RangeView = word_operand_range t own pairs in
      let order = word_sum_order own b (x v) n (from_bool k) v_within h.within in
      subst (λ (q : Bool). IfSome (word_sum_effect v own (Some t) (Some k) pairs) (IsWordValue (sum16 (x v) n q))) (sym e)
      (map_some (word_sum k v t) (window_number 65536 (own.low + b.low + from_bool k) (own.high + b.high + from_bool k)) (IsWordValue (sum16 (x v) n k))
      (if_window 65536 (own.low + b.low + from_bool k) (own.high + b.high + from_bool k) (λ q. IsWordValue (sum16 (x v) n k) (word_sum k v t q))
      (λ w. in_window_of_words (own.low + b.low + from_bool k) (own.high + b.high + from_bool k) (x v + n + from_bool k) w order.0 order.1
      ∙ ap (λ (j : ℕ). pos (x v + j + from_bool k) -ℤ pos (65536 * ((own.low + b.low + from_bool k) / 65536))) (sym h.is) ∙ sym (word_sum_value k v t ((own.low + b.low + from_bool k) / 65536) x))))

  word_difference_with_is : (t : OperandWord) (k : Bool) → IsKnownWord x v n own pairs t → IfSome (word_difference_with v own t k pairs) (IsWordValue (difference16 (x v) n k))
  word_difference_with_is t k h =
      let b : RangeView = word_operand_range t own pairs in
      let order = word_difference_order own b (x v) n (from_bool k) v_within h.within in
      map_some (word_difference k v t) (window_number 65536 (65536 + own.low - b.high - from_bool k) (65536 + own.high - b.low - from_bool k)) (IsWordValue (difference16 (x v) n k))
      (if_window 65536 (65536 + own.low - b.high - from_bool k) (65536 + own.high - b.low - from_bool k) (λ q. IsWordValue (difference16 (x v) n k) (word_difference k v t q))
      (λ w. in_window_of_words (65536 + own.low - b.high - from_bool k) (65536 + own.high - b.low - from_bool k) (65536 + x v - n - from_bool k) w order.0 order.1
      ∙ taken_word (x v) n (from_bool k) ((65536 + own.low - b.high - from_bool k) / 65536) v_small n_small (bool_small k)
      ∙ ap (λ (j : ℕ). pos (65536 + x v) -ℤ pos (j + from_bool k + 65536 * ((65536 + own.low - b.high - from_bool k) / 65536))) (sym h.is) ∙ sym (word_difference_value k v t ((65536 + own.low - b.high - from_bool k) / 65536) x)))

  own_word_is : (k : Bool) → x v ≡ n → IsWordValue (difference16 (x v) n k) (word_difference k v Own (cond k 0 1))
  own_word_is true h = omega (arith, ints)
  own_word_is false h = omega (arith, ints)

  pub word_difference_is : (c : Bool) (t : Option OperandWord) (carry : Option Bool) → IsWordWorth t → IsWordCarry c carry → IfSome (word_difference_effect v own t carry pairs) (IsWordValue (difference16 (x v) n c))
  word_difference_is c None carry h e = tt
  word_difference_is c (Some Bc) None h e = tt
  word_difference_is c (Some De) None h e = tt
  word_difference_is c (Some Own) None h e = tt
  word_difference_is c (Some Own) (Some k) h e = subst (λ (q : Bool). IsWordValue (difference16 (x v) n q) (word_difference k v Own (cond k 0 1))) (sym e) (own_word_is k h.is)
  word_difference_is c (Some Bc) (Some k) h e =
      subst (λ (q : Bool). IfSome (word_difference_with v own Bc k pairs) (IsWordValue (difference16 (x v) n q))) (sym e) (word_difference_with_is Bc k h)
  word_difference_is c (Some De) (Some k) h e =
      subst (λ (q : Bool). IfSome (word_difference_with v own De k pairs) (IsWordValue (difference16 (x v) n q))) (sym e) (word_difference_with_is De k h)
