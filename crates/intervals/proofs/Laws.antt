-- Each definition of the table of results contains what the operation makes of the values of its operands. The
-- contracts of the functions say so of their results; these lemmas say so of the definitions, for the proofs of the
-- crates above.
use Rattle.std.proofs.Common.{◌≡◌, ◌≢◌, ℕ, ◌+◌, ◌-◌, ◌*◌, ◌/◌, ◌%◌, ◌≤◌, ◌&&◌, Bool, true, false, cond, refl, arith, rules, IsSomeAnd, bit_and, bit_or, bit_xor}
use Rattle.std.proofs.lemmas.Bool.Decides.{nat_tests}
use Rattle.std.proofs.lemmas.Nat.{and_le_l, and_le_r}
use Rattle.intervals.specs.Range.{RangeView, Within, single, full, intersection, without}
use Rattle.intervals.specs.Sums.{window, sum, sum_with_carry, difference, difference_with_carry, increment, decrement, negation, displacement_of, displacement}
use Rattle.intervals.proofs.Bytes.{or_within, xor_within}
use Rattle.intervals.specs.Logic.{is_single, conjunction, disjunction, exclusive_disjunction, complement, halves, doubles, of_single}

pub window_of_bytes : (low high x : ℕ) → low ≤ x → x ≤ high → Within (window 256 low high) (x % 256)
window_of_bytes low high x h k = grind (arith, nat_tests)

pub window_of_words : (low high x : ℕ) → low ≤ x → x ≤ high → Within (window 65536 low high) (x % 65536)
window_of_words low high x h k = grind (arith, nat_tests)

module _ (a b : RangeView) (x y : ℕ) (in_a : Within a x) (in_b : Within b y) where
  pub sum_of_bytes : Within (sum 256 a b) ((x + y) % 256)
  sum_of_bytes = window_of_bytes _ _ (x + y) (omega arith) (omega arith)

  pub sum_of_words : Within (sum 65536 a b) ((x + y) % 65536)
  sum_of_words = window_of_words _ _ (x + y) (omega arith) (omega arith)

  pub sum_with_carry_of_bytes : (carry : ℕ) → carry ≤ 1 → Within (sum_with_carry 256 a b) ((x + y + carry) % 256)
  sum_with_carry_of_bytes carry h = window_of_bytes _ _ (x + y + carry) (omega arith) (omega arith)

  pub sum_with_carry_of_words : (carry : ℕ) → carry ≤ 1 → Within (sum_with_carry 65536 a b) ((x + y + carry) % 65536)
  sum_with_carry_of_words carry h = window_of_words _ _ (x + y + carry) (omega arith) (omega arith)

  pub difference_of_bytes : Within (difference 256 a b) ((256 + x - y) % 256)
  difference_of_bytes = window_of_bytes _ _ (256 + x - y) (omega arith) (omega arith)

  pub difference_with_carry_of_bytes : (carry : ℕ) → carry ≤ 1 → Within (difference_with_carry 256 a b) ((256 + x - y - carry) % 256)
  difference_with_carry_of_bytes carry h = window_of_bytes _ _ (256 + x - y - carry) (omega arith) (omega arith)

  pub difference_with_carry_of_words : (carry : ℕ) → carry ≤ 1 → Within (difference_with_carry 65536 a b) ((65536 + x - y - carry) % 65536)
  difference_with_carry_of_words carry h = window_of_words _ _ (65536 + x - y - carry) (omega arith) (omega arith)

module _ (a : RangeView) (x : ℕ) (in_a : Within a x) where
  pub increment_of_bytes : Within (increment 256 a) ((x + 1) % 256)
  increment_of_bytes = window_of_bytes _ _ (x + 1) (omega arith) (omega arith)

  pub increment_of_words : Within (increment 65536 a) ((x + 1) % 65536)
  increment_of_words = window_of_words _ _ (x + 1) (omega arith) (omega arith)

  pub decrement_of_bytes : Within (decrement 256 a) ((256 + x - 1) % 256)
  decrement_of_bytes = window_of_bytes _ _ (256 + x - 1) (omega arith) (omega arith)

  pub decrement_of_words : Within (decrement 65536 a) ((65536 + x - 1) % 65536)
  decrement_of_words = window_of_words _ _ (65536 + x - 1) (omega arith) (omega arith)

  pub negation_of_bytes : Within (negation a) ((256 - x) % 256)
  negation_of_bytes = window_of_bytes _ _ (256 - x) (omega arith) (omega arith)

  pub displacement_of_words : (pattern : ℕ) → Within (displacement a pattern) ((x + displacement_of pattern) % 65536)
  displacement_of_words pattern = window_of_words _ _ (x + displacement_of pattern) (omega arith) (omega arith)

  pub complement_of_bytes : Within (complement a) (255 - x)
  complement_of_bytes = omega arith

  pub halves_of_bytes : Within (halves a) (x / 2)
  halves_of_bytes = omega arith

  pub doubles_of_bytes : Within (doubles a) (2 * x % 256)
  doubles_of_bytes = grind (arith, nat_tests)

  pub intersection_keeps : (b : RangeView) → Within b x → IsSomeAnd (intersection a b) (λ r. Within r x)
  intersection_keeps b in_b = grind (arith, nat_tests)

  pub without_keeps : (v : ℕ) → x ≢ v → IsSomeAnd (without a v) (λ r. Within r x)
  without_keeps v other = grind (arith, nat_tests)

-- ---- one value, and logic
is_value : (a : RangeView) (x : ℕ) → Within a x → is_single a ≡ true → x ≡ a.low
is_value a x h e = grind (arith, nat_tests)

pub of_single_holds : (f : ℕ → ℕ) (a : RangeView) (x : ℕ) → Within a x → f x ≤ 255 → Within (of_single f a) (f x)
of_single_holds f a x h low =
    let at : (t : Bool) → is_single a ≡ t → Within (cond t (single (f a.low)) (full 256)) (f x) =
    elim [
      | true ↦ λ e. let same = is_value a x h e in rw same (search rules)
      | false ↦ λ e. (omega arith, low)
    ] in
    at (is_single a) refl

module _ (a b : RangeView) (x y : ℕ) (in_a : Within a x) (in_b : Within b y) where
  both_values : (f : ℕ → ℕ → ℕ) (other : RangeView) → Within other (f x y) → Within (cond (is_single a && is_single b) (single (f a.low b.low)) other) (f x y)
  both_values f other h =
      let at : (s t : Bool) → is_single a ≡ s → is_single b ≡ t → Within (cond (s && t) (single (f a.low b.low)) other) (f x y) =
      elim [
        | true ↦ elim [
          | true ↦ λ e d. let first = is_value a x in_a e in let second = is_value b y in_b d in rw (first, second) (search rules)
          | false ↦ λ e d. h
        ]
        | false ↦ λ t e d. h
      ] in
      at (is_single a) (is_single b) refl refl

  pub conjunction_holds : Within (conjunction a b) (bit_and x y)
  conjunction_holds =
      let first = and_le_l x y in
      let second = and_le_r x y in
      both_values bit_and _ (omega arith)

  pub disjunction_holds : x ≤ 255 → y ≤ 255 → Within (disjunction a b) (bit_or x y)
  disjunction_holds p q = both_values bit_or _ (or_within a b _ refl x y p q in_a in_b)

  pub exclusive_disjunction_holds : x ≤ 255 → y ≤ 255 → Within (exclusive_disjunction a b) (bit_xor x y)
  exclusive_disjunction_holds p q = both_values bit_xor _ (xor_within a b _ refl x y p q in_a in_b)
