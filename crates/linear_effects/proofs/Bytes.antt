-- A after operations on bytes is the linear of the table.
use Rattle.std.proofs.Common.{◌≡◌, ◌∙◌, ℕ, ◌+◌, ◌-◌, ◌*◌, ◌/◌, ◌%◌, ◌<◌, ◌≤◌, Bool, true, false, cond, Option, Some, None, refl, sym, ap, subst, arith, bit_and, bit_or, bit_xor}
use Rattle.std.specs.Prelude.{IfSome, pos, negsuc, ◌-ℤ◌}
use Rattle.std.specs.Int.{from_bool}
use Rattle.std.proofs.lemmas.Int.{ints}
use lib.Bits.{and_self, or_self}
use Rattle.intervals.specs.Range.{RangeView, Within}
use Rattle.loop_bounds.specs.Effect.{Valuation, whole}
use Rattle.loop_bounds.specs.Linear.{LinearView, value}
use Rattle.loop_bounds.specs.declared.variable.Variable.TheVariants as variables
use Rattle.z80_alu.specs.Add.{sum8, difference8}
use Rattle.z80_decode.specs.declared.kinds.ArithmeticKind.{ArithmeticKind}
use Rattle.z80_decode.specs.declared.kinds.ArithmeticKind.TheVariants as operations
use Rattle.z80_draft.specs.Arithmetic.{value_of}
use Rattle.flag_conditions.specs.Linears.{one_term, only}
use Rattle.flag_conditions.specs.OperandTerm.{variable_of_other}
use Rattle.flag_conditions.specs.declared.byte_operand.OperandTerm.{OperandTerm}
use Rattle.flag_conditions.specs.declared.byte_operand.OperandTerm.TheVariants.{A, Other, Number}
use Rattle.linear_effects.specs.Bits.{is_above, has_all}
use Rattle.linear_effects.specs.ByteEffects.{byte_sum, byte_difference, sum_effect, difference_with, difference_effect, and_effect, above_effect, or_effect, xor_effect, arithmetic_effect, negate_effect, complemented}
use Rattle.linear_effects.specs.Windows.{window_number}
use Rattle.linear_effects.proofs.Numbers.{map_some, if_window, if_true, in_window_of_bytes, or_above, xor_above, and_kept, above_facts, all_facts}

-- the value of an operand
abbrev pub worth : OperandTerm → Valuation → ℕ
worth A x = x variables.A
worth (Other r) x = x (variable_of_other r)
worth (Number n) x = n

byte_sum_value : (k : Bool) (t : OperandTerm) (q : ℕ) (x : Valuation) → value (whole x) (byte_sum k t q) ≡ pos (x variables.A + worth t x + from_bool k) -ℤ pos (256 * q)
byte_sum_value k A q x = omega (arith, ints)
byte_sum_value k (Other r) q x = omega (arith, ints)
byte_sum_value k (Number n) q x = omega (arith, ints)

byte_difference_value : (k : Bool) (t : OperandTerm) (q : ℕ) (x : Valuation) → value (whole x) (byte_difference k t q) ≡ pos (256 + x variables.A) -ℤ pos (worth t x + from_bool k + 256 * q)
byte_difference_value k A q x = omega (arith, ints)
byte_difference_value k (Other r) q x = omega (arith, ints)
byte_difference_value k (Number n) q x = omega (arith, ints)

bool_small : (k : Bool) → from_bool k ≤ 1
bool_small true = omega arith
bool_small false = omega arith

sum_order : (a b : RangeView) (x n k : ℕ) → Within a x → Within b n → (a.low + b.low + k ≤ x + n + k) × (x + n + k ≤ a.high + b.high + k)
sum_order a b x n k h w = (omega arith, omega arith)

difference_order : (a b : RangeView) (x n k : ℕ) → Within a x → Within b n → (256 + a.low - b.high - k ≤ 256 + x - n - k) × (256 + x - n - k ≤ 256 + a.high - b.low - k)
difference_order a b x n k h w = (omega arith, omega arith)

taken : (x n k q : ℕ) → x < 256 → n < 256 → k ≤ 1 → pos (256 + x - n - k) -ℤ pos (256 * q) ≡ pos (256 + x) -ℤ pos (n + k + 256 * q)
taken x n k q h l m = omega (arith, ints)

module _ (x : Valuation) (n : ℕ) (a b : RangeView) (a_small : x variables.A < 256) (n_small : n < 256) (a_within : Within a (x variables.A)) (n_within : Within b n) where
  abbrev IsValue : ℕ → LinearView → Type 0
  IsValue r s = pos r ≡ value (whole x) s

  abbrev IsWorth : Option OperandTerm → Type 0
  IsWorth t = IfSome t (λ z. worth z x ≡ n)

  abbrev IsCarryIn : Bool → Option Bool → Type 0
  IsCarryIn c carry = IfSome carry (λ k. c ≡ k)

  sum_is : (c : Bool) (t : Option OperandTerm) (carry : Option Bool) → IsWorth t → IsCarryIn c carry → IfSome (sum_effect t carry a b) (IsValue (sum8 (x variables.A) n c))
  sum_is c None carry h e = tt
  sum_is c (Some t) None h e = tt
  sum_is c (Some t) (Some k) h e =
      let order = sum_order a b (x variables.A) n (from_bool k) a_within n_within in
      subst (λ (q : Bool). IfSome (sum_effect (Some t) (Some k) a b) (IsValue (sum8 (x variables.A) n q))) (sym e)
      (map_some (byte_sum k t) (window_number 256 (a.low + b.low + from_bool k) (a.high + b.high + from_bool k)) (IsValue (sum8 (x variables.A) n k))
      (if_window 256 (a.low + b.low + from_bool k) (a.high + b.high + from_bool k) (λ q. IsValue (sum8 (x variables.A) n k) (byte_sum k t q))
      (λ w. in_window_of_bytes (a.low + b.low + from_bool k) (a.high + b.high + from_bool k) (x variables.A + n + from_bool k) w order.0 order.1
      ∙ ap (λ (j : ℕ). pos (x variables.A + j + from_bool k) -ℤ pos (256 * ((a.low + b.low + from_bool k) / 256))) (sym h) ∙ sym (byte_sum_value k t ((a.low + b.low + from_bool k) / 256) x))))

  difference_with_is : (t : OperandTerm) (k : Bool) → worth t x ≡ n → IfSome (difference_with t k a b) (IsValue (difference8 (x variables.A) n k))
  difference_with_is t k h =
      let order = difference_order a b (x variables.A) n (from_bool k) a_within n_within in
      map_some (byte_difference k t) (window_number 256 (256 + a.low - b.high - from_bool k) (256 + a.high - b.low - from_bool k)) (IsValue (difference8 (x variables.A) n k))
      (if_window 256 (256 + a.low - b.high - from_bool k) (256 + a.high - b.low - from_bool k) (λ q. IsValue (difference8 (x variables.A) n k) (byte_difference k t q))
      (λ w. in_window_of_bytes (256 + a.low - b.high - from_bool k) (256 + a.high - b.low - from_bool k) (256 + x variables.A - n - from_bool k) w order.0 order.1
      ∙ taken (x variables.A) n (from_bool k) ((256 + a.low - b.high - from_bool k) / 256) a_small n_small (bool_small k)
      ∙ ap (λ (j : ℕ). pos (256 + x variables.A) -ℤ pos (j + from_bool k + 256 * ((256 + a.low - b.high - from_bool k) / 256))) (sym h) ∙ sym (byte_difference_value k t ((256 + a.low - b.high - from_bool k) / 256) x)))

  own_is : (k : Bool) → x variables.A ≡ n → IsValue (difference8 (x variables.A) n k) (byte_difference k A (cond k 0 1))
  own_is true h = omega (arith, ints)
  own_is false h = omega (arith, ints)

  difference_is : (c : Bool) (t : Option OperandTerm) (carry : Option Bool) → IsWorth t → IsCarryIn c carry → IfSome (difference_effect t carry a b) (IsValue (difference8 (x variables.A) n c))
  difference_is c None carry h e = tt
  difference_is c (Some A) None h e = tt
  difference_is c (Some t) None h e = tt
  difference_is c (Some A) (Some k) h e = subst (λ (q : Bool). IsValue (difference8 (x variables.A) n q) (byte_difference k A (cond k 0 1))) (sym e) (own_is k h)
  difference_is c (Some (Other r)) (Some k) h e =
      subst (λ (q : Bool). IfSome (difference_with (Other r) k a b) (IsValue (difference8 (x variables.A) n q))) (sym e) (difference_with_is (Other r) k h)
  difference_is c (Some (Number m)) (Some k) h e =
      subst (λ (q : Bool). IfSome (difference_with (Number m) k a b) (IsValue (difference8 (x variables.A) n q))) (sym e) (difference_with_is (Number m) k h)

  -- ---- logic

  same_a : (r : ℕ) → r ≡ x variables.A → pos r ≡ value (whole x) (only variables.A)
  same_a r e = omega (arith, ints)

  a_low : x variables.A ≤ 255
  a_low = omega arith

  masked : IfSome (cond (has_all a b) (Some (only variables.A)) None) (IsValue (bit_and (x variables.A) n))
  masked = if_true (has_all a b) (only variables.A) (IsValue (bit_and (x variables.A) n))
      (λ e. same_a (bit_and (x variables.A) n) (and_kept a.high (x variables.A) n a_within.1 a_low (all_facts a b n e n_within)))

  and_is : (t : Option OperandTerm) → IsWorth t → IfSome (and_effect t a b) (IsValue (bit_and (x variables.A) n))
  and_is (Some A) h = same_a (bit_and (x variables.A) n) (ap (bit_and (x variables.A)) (sym h) ∙ and_self (x variables.A))
  and_is (Some (Other r)) h = masked
  and_is (Some (Number m)) h = masked
  and_is None h = masked

  moved_a : (r : ℕ) → r ≡ x variables.A + n → n ≡ b.low → pos r ≡ value (whole x) (one_term (pos b.low) (pos 1) variables.A)
  moved_a r e f = omega (arith, ints)

  or_moved : IfSome (above_effect a b) (IsValue (bit_or (x variables.A) n))
  or_moved = if_true (is_above a b) (one_term (pos b.low) (pos 1) variables.A) (IsValue (bit_or (x variables.A) n))
      (λ e. let facts = above_facts a b n e n_within in moved_a (bit_or (x variables.A) n) (or_above a.high (x variables.A) n a_within.1 a_low facts.1) facts.0)

  xor_moved : IfSome (above_effect a b) (IsValue (bit_xor (x variables.A) n))
  xor_moved = if_true (is_above a b) (one_term (pos b.low) (pos 1) variables.A) (IsValue (bit_xor (x variables.A) n))
      (λ e. let facts = above_facts a b n e n_within in moved_a (bit_xor (x variables.A) n) (xor_above a.high (x variables.A) n a_within.1 a_low facts.1) facts.0)

  or_is : (t : Option OperandTerm) → IsWorth t → IfSome (or_effect t a b) (IsValue (bit_or (x variables.A) n))
  or_is (Some A) h = same_a (bit_or (x variables.A) n) (ap (bit_or (x variables.A)) (sym h) ∙ or_self (x variables.A))
  or_is (Some (Other r)) h = or_moved
  or_is (Some (Number m)) h = or_moved
  or_is None h = or_moved

  xor_is : (t : Option OperandTerm) → IsWorth t → IfSome (xor_effect t a b) (IsValue (bit_xor (x variables.A) n))
  xor_is (Some A) h = tt
  xor_is (Some (Other r)) h = xor_moved
  xor_is (Some (Number m)) h = xor_moved
  xor_is None h = xor_moved

  pub operation_is : (kind : ArithmeticKind) (t : Option OperandTerm) (c : Bool) (carry : Option Bool) → IsWorth t → IsCarryIn c carry
      → IfSome (arithmetic_effect kind t carry a b) (IsValue (value_of kind (x variables.A) n c))
  operation_is operations.Add t c carry h e = sum_is false t (Some false) h refl
  operation_is operations.Adc t c carry h e = sum_is c t carry h e
  operation_is operations.Sub t c carry h e = difference_is false t (Some false) h refl
  operation_is operations.Sbc t c carry h e = difference_is c t carry h e
  operation_is operations.And t c carry h e = and_is t h
  operation_is operations.Xor t c carry h e = xor_is t h
  operation_is operations.Or t c carry h e = or_is t h
  operation_is operations.Compare t c carry h e = tt

-- NEG and CPL
module _ (x : Valuation) (a : RangeView) (a_small : x variables.A < 256) (a_within : Within a (x variables.A)) where
  negated_order : (256 - a.high ≤ 256 - x variables.A) × (256 - x variables.A ≤ 256 - a.low)
  negated_order = (omega arith, omega arith)

  negated_value : (q : ℕ) → pos (256 - x variables.A) -ℤ pos (256 * q) ≡ value (whole x) (one_term (pos 256 -ℤ pos (256 * q)) (negsuc 0) variables.A)
  negated_value q = omega (arith, ints)

  negated_same : difference8 0 (x variables.A) false ≡ (256 - x variables.A) % 256
  negated_same = omega arith

  pub negation_is : IfSome (negate_effect a) (λ s. pos (difference8 0 (x variables.A) false) ≡ value (whole x) s)
  negation_is =
      map_some (λ q. one_term (pos 256 -ℤ pos (256 * q)) (negsuc 0) variables.A) (window_number 256 (256 - a.high) (256 - a.low)) (λ s. pos (difference8 0 (x variables.A) false) ≡ value (whole x) s)
      (if_window 256 (256 - a.high) (256 - a.low) (λ q. pos (difference8 0 (x variables.A) false) ≡ value (whole x) (one_term (pos 256 -ℤ pos (256 * q)) (negsuc 0) variables.A))
      (λ w. ap pos negated_same ∙ in_window_of_bytes (256 - a.high) (256 - a.low) (256 - x variables.A) w negated_order.0 negated_order.1 ∙ negated_value ((256 - a.high) / 256)))

  pub complement_is : pos (255 - x variables.A) ≡ value (whole x) complemented
  complement_is = omega (arith, ints)
