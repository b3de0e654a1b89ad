-- What a space spans, and when it has all values of another.
use Rattle.std.proofs.Common.{◌≡◌, ◌≢◌, ℕ, zero, suc, ◌<◌, ℤ, pos, ◌+ℤ◌, ◌-ℤ◌, ◌*ℤ◌, sym, subst, ap, ◌∙◌, arith}
use Rattle.std.proofs.Math.IntN.{*ℤ-zero}
use Rattle.std.specs.Int.{bit_at}
use Rattle.std.proofs.lemmas.Int.{ints}
use Rattle.std.proofs.lemmas.Nat.Bits.{bit_at-zero}
use Rattle.loop_bounds.specs.declared.variable.Variable.{Variable}
use Rattle.loop_bounds.specs.Variable.{rank_of}
use Rattle.affine.specs.declared.space.Space.{Space}
use Rattle.affine.specs.Space.{combination, KnowsAt, coordinate_at, coefficient_at, IsSpanned, LiesOn}
use Rattle.affine.proofs.Ring.{mul_sum, mul_assoc, mul_swap, product_not_zero, zero_from_product}
use Rattle.affine.proofs.Combinations.{combination-multiple, combination-sum, combination-no_factors, combination-zero}

pub spanned_same : (s : Space) (f g : Variable → ℤ) → ((v : Variable) → KnowsAt s (rank_of v) → f v ≡ g v) → IsSpanned s f → IsSpanned s g
spanned_same s f g same h = record {
  scale = h.scale;
  not_zero = h.not_zero;
  factors = h.factors;
  sums = λ v k. ap (λ z. h.scale *ℤ z) (sym (same v k)) ∙ h.sums v k;
}

pub spanned_zero : (s : Space) → IsSpanned s (λ v. pos 0)
spanned_zero s = record {
  scale = pos 1;
  not_zero = λ e. (cc);
  factors = λ i. pos 0;
  sums = λ v k. *ℤ-zero (pos 1) ∙ sym (combination-no_factors s.count (coefficient_at s (rank_of v)));
}

pub spanned_multiple : (s : Space) (a : ℤ) (f : Variable → ℤ) → IsSpanned s f → IsSpanned s (λ v. a *ℤ f v)
spanned_multiple s a f h = record {
  scale = h.scale;
  not_zero = h.not_zero;
  factors = λ i. a *ℤ h.factors i;
  sums = λ v k. mul_swap h.scale a (f v) ∙ ap (λ z. a *ℤ z) (h.sums v k) ∙ sym (combination-multiple s.count a h.factors (coefficient_at s (rank_of v)));
}

pub spanned_divided : (s : Space) (a : ℤ) (f : Variable → ℤ) → a ≢ pos 0 → IsSpanned s (λ v. a *ℤ f v) → IsSpanned s f
spanned_divided s a f n h = record {
  scale = h.scale *ℤ a;
  not_zero = product_not_zero h.scale a h.not_zero n;
  factors = h.factors;
  sums = λ v k. mul_assoc h.scale a (f v) ∙ h.sums v k;
}

module _ (s : Space) (f g : Variable → ℤ) (p : IsSpanned s f) (q : IsSpanned s g) where
  added_factors : ℕ → ℤ
  added_factors i = q.scale *ℤ p.factors i +ℤ p.scale *ℤ q.factors i

  pub spanned_sum : IsSpanned s (λ v. f v +ℤ g v)
  unfolding added_factors
  spanned_sum = record {
    scale = p.scale *ℤ q.scale;
    not_zero = product_not_zero p.scale q.scale p.not_zero q.not_zero;
    factors = added_factors;
    sums = λ v k.
        let c = coefficient_at s (rank_of v) in
        let n = s.count in
        let split = combination-sum n (λ i. q.scale *ℤ p.factors i) (λ i. p.scale *ℤ q.factors i) c in
        let left = combination-multiple n q.scale p.factors c in
        let right = combination-multiple n p.scale q.factors c in
        let first = ap (λ z. q.scale *ℤ z) (p.sums v k) in
        let second = ap (λ z. p.scale *ℤ z) (q.sums v k) in
        omega (arith, ints, split, left, right, first, second, mul_sum (p.scale *ℤ q.scale) (f v) (g v), mul_assoc p.scale q.scale (g v), mul_assoc p.scale q.scale (f v), mul_swap p.scale q.scale (f v));
  }

pub spanned_combination : (s : Space) (n : ℕ) (f : ℕ → ℤ) (g : Variable → ℕ → ℤ) → ((i : ℕ) → i < n → IsSpanned s (λ v. g v i)) → IsSpanned s (λ v. combination n f (g v))
spanned_combination s zero f g each = spanned_zero s
spanned_combination s (suc n) f g each =
    spanned_sum s (λ v. combination n f (g v)) (λ v. f n *ℤ g v n)
    (spanned_combination s n f g (λ i h. each i (omega arith)))
    (spanned_multiple s (f n) (λ v. g v n) (each n (omega arith)))

-- all values lie on a space that knows nothing
pub nothing_known : (s : Space) (x : Variable → ℤ) → s.known ≡ 0 → LiesOn s x
nothing_known s x none = record {
  scale = pos 1;
  not_zero = λ e. (cc);
  factors = λ i. pos 0;
  sums = λ v k.
      let bit : bit_at s.known (rank_of v) ≡ 0 = ap (λ n. bit_at n (rank_of v)) none ∙ bit_at-zero (rank_of v) in
      absurd (omega (arith, bit, k.1));
}

-- one space has all values of another
pub covering : (s other : Space) → ((v : Variable) → KnowsAt s (rank_of v) → KnowsAt other (rank_of v)) → ((i : ℕ) → i < other.count → IsSpanned s (λ v. coefficient_at other (rank_of v) i)) → IsSpanned s (λ v. coordinate_at other (rank_of v) -ℤ coordinate_at s (rank_of v)) → (x : Variable → ℤ) → LiesOn other x → LiesOn s x
covering s other known directions difference x on =
    let sums = spanned_combination s other.count on.factors (λ v. coefficient_at other (rank_of v)) directions in
    let scaled = spanned_same s (λ v. combination other.count on.factors (coefficient_at other (rank_of v))) (λ v. on.scale *ℤ (x v -ℤ coordinate_at other (rank_of v))) (λ v k. sym (on.sums v (known v k))) sums in
    let distance = spanned_divided s on.scale (λ v. x v -ℤ coordinate_at other (rank_of v)) on.not_zero scaled in
    spanned_same s (λ v. (x v -ℤ coordinate_at other (rank_of v)) +ℤ (coordinate_at other (rank_of v) -ℤ coordinate_at s (rank_of v))) (λ v. x v -ℤ coordinate_at s (rank_of v)) (λ v k. omega (arith, ints))
    (spanned_sum s (λ v. x v -ℤ coordinate_at other (rank_of v)) (λ v. coordinate_at other (rank_of v) -ℤ coordinate_at s (rank_of v)) distance difference)

-- the value of a variable that no direction changes
pub only_value : (s : Space) (v : Variable) (rank : ℕ) → rank ≡ rank_of v → KnowsAt s rank → ((i : ℕ) → i < s.count → coefficient_at s rank i ≡ pos 0) → (x : Variable → ℤ) → LiesOn s x → x v ≡ coordinate_at s rank
only_value s v rank same known still x on =
    let here = subst (λ (r : ℕ). KnowsAt s r) same known in
    let sums : on.scale *ℤ (x v -ℤ coordinate_at s rank) ≡ combination s.count on.factors (coefficient_at s rank) =
    subst (λ (r : ℕ). on.scale *ℤ (x v -ℤ coordinate_at s r) ≡ combination s.count on.factors (coefficient_at s r)) (sym same) (on.sums v here) in
    let none = sums ∙ combination-zero s.count on.factors (coefficient_at s rank) still in
    let distance = zero_from_product on.scale (x v -ℤ coordinate_at s rank) on.not_zero none in
    omega (arith, ints, distance)

-- a vector that was found to be a sum of multiples of the directions
pub spanned_by : (s : Space) (vector : Variable → ℤ) (scale : ℤ) (factors : ℕ → ℤ) → scale ≢ pos 0 → ((v : Variable) → KnowsAt s (rank_of v) → scale *ℤ vector v ≡ combination s.count factors (coefficient_at s (rank_of v))) → IsSpanned s vector
spanned_by s vector scale factors not_zero sums = record { scale = scale; not_zero = not_zero; factors = factors; sums = sums }
