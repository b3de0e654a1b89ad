-- The results of operations on values lie in the results on ranges; and variables that are counted.
use Rattle.std.proofs.Common.{◌≡◌, ℕ, ◌+◌, ◌-◌, ◌%◌, ◌<◌, Bool, true, false, cond, ltb, refl, arith, rules, ◌∙◌, ap, pos, ◌+ℤ◌, ◌-ℤ◌}
use Rattle.std.proofs.lemmas.Int.{ints}
use Rattle.std.proofs.lemmas.Bool.Decides.{nat_tests}
use Rattle.z80_alu.proofs.BitTests.{from_bool_le}
use Rattle.z80_alu.specs.Add.{sum8, difference8}
use Rattle.z80_alu.specs.Words.{sum16, difference16}
use Rattle.z80_draft.specs.Draft.{displaced}
use Rattle.intervals.specs.Range.{RangeView, Within}
use Rattle.intervals.specs.Sums.{sum, sum_with_carry, difference, difference_with_carry, increment, decrement, negation, displacement, displacement_of}
use Rattle.intervals.proofs.Laws.{window_of_bytes, window_of_words, displacement_of_words}
use Rattle.loop_bounds.specs.Effect.{Valuation}
use Rattle.loop_bounds.specs.declared.effect.Change.{Change}
use Rattle.loop_bounds.specs.declared.effect.Change.TheVariants.{Old, Raised, Lowered, Unknown}
use Rattle.abs_draft.specs.AbsDraft.{raised_change, lowered}
use Rattle.abs_laws.specs.Fits.{FollowsChange}

-- ---- sums and differences; a difference below 0 only widens the range, so no bound is needed

pub wraps_byte : (n : ℕ) → n % 256 < 256
wraps_byte n = omega arith

pub wraps_word : (n : ℕ) → n % 65536 < 65536
wraps_word n = omega arith

module _ (a b : RangeView) (x y : ℕ) (carry : Bool) (h : Within a x) (k : Within b y) where
  pub byte_sum : Within (sum 256 a b) (sum8 x y false)
  byte_sum = window_of_bytes _ _ _ (omega arith) (omega arith)

  pub byte_sum_with_carry : Within (sum_with_carry 256 a b) (sum8 x y carry)
  byte_sum_with_carry = let small = from_bool_le carry in window_of_bytes _ _ _ (omega arith) (omega arith)

  pub byte_difference : Within (difference 256 a b) (difference8 x y false)
  byte_difference = window_of_bytes _ _ _ (omega arith) (omega arith)

  pub byte_difference_with_carry : Within (difference_with_carry 256 a b) (difference8 x y carry)
  byte_difference_with_carry = let small = from_bool_le carry in window_of_bytes _ _ _ (omega arith) (omega arith)

  pub word_sum : Within (sum 65536 a b) (sum16 x y false)
  word_sum = window_of_words _ _ _ (omega arith) (omega arith)

  pub word_sum_with_carry : Within (sum_with_carry 65536 a b) (sum16 x y carry)
  word_sum_with_carry = let small = from_bool_le carry in window_of_words _ _ _ (omega arith) (omega arith)

  pub word_difference_with_carry : Within (difference_with_carry 65536 a b) (difference16 x y carry)
  word_difference_with_carry = let small = from_bool_le carry in window_of_words _ _ _ (omega arith) (omega arith)

module _ (a : RangeView) (x : ℕ) (h : Within a x) where
  pub byte_increment : Within (increment 256 a) (sum8 x 1 false)
  byte_increment = window_of_bytes _ _ _ (omega arith) (omega arith)

  pub byte_decrement : Within (decrement 256 a) (difference8 x 1 false)
  byte_decrement = window_of_bytes _ _ _ (omega arith) (omega arith)

  pub word_increment : Within (increment 65536 a) (sum16 x 1 false)
  word_increment = window_of_words _ _ _ (omega arith) (omega arith)

  pub word_decrement : Within (decrement 65536 a) (difference16 x 1 false)
  word_decrement = window_of_words _ _ _ (omega arith) (omega arith)

  pub byte_negation : Within (negation a) (difference8 0 x false)
  byte_negation = window_of_bytes _ _ _ (omega arith) (omega arith)

same_displacement : (x pattern : ℕ) → displaced x pattern ≡ (x + displacement_of pattern) % 65536
same_displacement x pattern = grind (arith, nat_tests)

pub displaced_small : (x pattern : ℕ) → displaced x pattern < 65536
displaced_small x pattern = rw (same_displacement x pattern) (wraps_word _)

pub displaced_within : (a : RangeView) (x pattern : ℕ) → Within a x → Within (displacement a pattern) (displaced x pattern)
displaced_within a x pattern h = rw (same_displacement x pattern) (displacement_of_words a x h pattern)

-- ---- variables that are counted

one_more : (x n : ℕ) → pos x ≡ pos n → pos x +ℤ pos 1 ≡ pos (n + 1)
one_more x n h = omega (arith, ints)

one_less : (x n : ℕ) → 0 < n → pos x ≡ pos n → pos x -ℤ pos 1 ≡ pos (n - 1)
one_less x n k h = omega (arith, ints)

pub byte_raised : (range : RangeView) (change : Change) (before : Valuation) (n : ℕ) → Within range n → FollowsChange change before n → FollowsChange (raised_change range 255 change) before (sum8 n 1 false)
byte_raised range (Old v) before n h f =
    let at : (t : Bool) → ltb range.high 255 ≡ t → FollowsChange (cond t (Raised v) Unknown) before (sum8 n 1 false) =
    elim [
      | true ↦ λ e. let below : range.high < 255 = search rules in let same : n + 1 ≡ sum8 n 1 false = omega arith in one_more (before v) n f ∙ ap pos same
      | false ↦ λ e. refl
    ] in
    at (ltb range.high 255) refl
byte_raised range _ before n h f = refl

pub byte_lowered : (range : RangeView) (change : Change) (before : Valuation) (n : ℕ) → n < 256 → Within range n → FollowsChange change before n → FollowsChange (lowered range change) before (difference8 n 1 false)
byte_lowered range (Old v) before n small h f =
    let at : (t : Bool) → ltb 0 range.low ≡ t → FollowsChange (cond t (Lowered v) Unknown) before (difference8 n 1 false) =
    elim [
      | true ↦ λ e. let below : 0 < range.low = search rules in let same : n - 1 ≡ difference8 n 1 false = omega arith in one_less (before v) n (omega arith) f ∙ ap pos same
      | false ↦ λ e. refl
    ] in
    at (ltb 0 range.low) refl
byte_lowered range _ before n small h f = refl

pub word_raised : (range : RangeView) (change : Change) (before : Valuation) (n : ℕ) → Within range n → FollowsChange change before n → FollowsChange (raised_change range 65535 change) before (sum16 n 1 false)
word_raised range (Old v) before n h f =
    let at : (t : Bool) → ltb range.high 65535 ≡ t → FollowsChange (cond t (Raised v) Unknown) before (sum16 n 1 false) =
    elim [
      | true ↦ λ e. let below : range.high < 65535 = search rules in let same : n + 1 ≡ sum16 n 1 false = omega arith in one_more (before v) n f ∙ ap pos same
      | false ↦ λ e. refl
    ] in
    at (ltb range.high 65535) refl
word_raised range _ before n h f = refl

pub word_lowered : (range : RangeView) (change : Change) (before : Valuation) (n : ℕ) → n < 65536 → Within range n → FollowsChange change before n → FollowsChange (lowered range change) before (difference16 n 1 false)
word_lowered range (Old v) before n small h f =
    let at : (t : Bool) → ltb 0 range.low ≡ t → FollowsChange (cond t (Lowered v) Unknown) before (difference16 n 1 false) =
    elim [
      | true ↦ λ e. let below : 0 < range.low = search rules in let same : n - 1 ≡ difference16 n 1 false = omega arith in one_less (before v) n (omega arith) f ∙ ap pos same
      | false ↦ λ e. refl
    ] in
    at (ltb 0 range.low) refl
word_lowered range _ before n small h f = refl
