-- Values that lie on a space and differ at one variable.
use Rattle.std.proofs.Common.{◌≡◌, ◌≢◌, ℕ, zero, suc, ◌<◌, ◌≤◌, subst, ℤ, pos, ◌+ℤ◌, ◌-ℤ◌, ◌*ℤ◌, cond, eqb, refl, sym, ap, ◌∙◌, arith, inl, inr}
use Rattle.std.proofs.Math.IntN.{one, *ℤ-one, *ℤ_comm, *ℤ-zero, zero-*ℤ}
use Rattle.std.proofs.lemmas.Int.{ints}
use Rattle.std.proofs.lemmas.Bool.{cases_eq}
use Rattle.std.proofs.lemmas.Bool.Decides.{nat_tests}
use Rattle.loop_bounds.specs.declared.variable.Variable.{Variable}
use Rattle.loop_bounds.specs.Variable.{rank_of}
use Rattle.affine.specs.declared.space.Space.{Space}
use Rattle.affine.specs.Space.{combination, KnowsAt, coordinate_at, coefficient_at, LiesOn, HasTwoValues}
use Rattle.affine.proofs.Combinations.{combination-no_factors}

times_one : (z : ℤ) → pos 1 *ℤ z ≡ z
unfolding one
times_one z = let e : z *ℤ pos 1 ≡ z = *ℤ-one z in *ℤ_comm (pos 1) z ∙ e

-- the point
at_point : Space → Variable → ℤ
at_point s v = coordinate_at s (rank_of v)

point_lies : (s : Space) → LiesOn s (at_point s)
unfolding at_point
point_lies s = record {
  scale = pos 1;
  not_zero = λ e. (cc);
  factors = λ i. pos 0;
  sums = λ v k.
      let none : coordinate_at s (rank_of v) -ℤ coordinate_at s (rank_of v) ≡ pos 0 = omega (arith, ints) in
      ap (λ z. pos 1 *ℤ z) none ∙ *ℤ-zero (pos 1) ∙ sym (combination-no_factors s.count (coefficient_at s (rank_of v)));
}

-- the point, with one more at a variable
beside : Space → ℕ → Variable → ℤ
beside s r v = cond (eqb (rank_of v) r) (coordinate_at s (rank_of v) +ℤ pos 1) (coordinate_at s (rank_of v))

beside_here : (s : Space) (v : Variable) → beside s (rank_of v) v ≡ coordinate_at s (rank_of v) +ℤ pos 1
unfolding beside
beside_here s v = grind (arith, nat_tests)

beside_there : (s : Space) (r : ℕ) (v : Variable) → rank_of v ≢ r → beside s r v ≡ coordinate_at s (rank_of v)
unfolding beside
beside_there s r v n = grind (arith, nat_tests)

beside_lies : (s : Space) (r : ℕ) → ¬ KnowsAt s r → LiesOn s (beside s r)
beside_lies s r unknown = record {
  scale = pos 1;
  not_zero = λ e. (cc);
  factors = λ i. pos 0;
  sums = λ v k.
      let other : rank_of v ≢ r = λ e. unknown (subst (λ (n : ℕ). KnowsAt s n) e k) in
      let there = beside_there s r v other in
      let none : beside s r v -ℤ coordinate_at s (rank_of v) ≡ pos 0 = omega (arith, ints, there) in
      ap (λ z. pos 1 *ℤ z) none ∙ *ℤ-zero (pos 1) ∙ sym (combination-no_factors s.count (coefficient_at s (rank_of v)));
}

pub unknown_varies : (s : Space) (v : Variable) → ¬ KnowsAt s (rank_of v) → HasTwoValues s v
unfolding at_point
unknown_varies s v unknown = (
  at_point s,
  beside s (rank_of v),
  point_lies s,
  beside_lies s (rank_of v) unknown,
  λ e. let here = beside_here s v in absurd (omega (arith, ints, e, here)),
)

-- the factor 1 for one direction, and 0 for the others
single : ℕ → ℕ → ℤ
single n i = cond (eqb i n) (pos 1) (pos 0)

single_here : (n : ℕ) → single n n ≡ pos 1
unfolding single
single_here n = grind (arith, nat_tests)

single_there : (n i : ℕ) → i ≢ n → single n i ≡ pos 0
unfolding single
single_there n i other = grind (arith, nat_tests)

combination-before : (count n : ℕ) (g : ℕ → ℤ) → count ≤ n → combination count (single n) g ≡ pos 0
combination-before zero n g h = refl
combination-before (suc c) n g h =
    let other : c ≢ n = omega arith in
    let last = ap (λ z. z *ℤ g c) (single_there n c other) ∙ zero-*ℤ (g c) in
    omega (arith, ints, combination-before c n g (omega arith), last)

combination-single : (count n : ℕ) (g : ℕ → ℤ) → n < count → combination count (single n) g ≡ g n
combination-single zero n g h = absurd (omega arith)
combination-single (suc c) n g h = elim (cases_eq c n) [
  | inl same ↦
      let front = combination-before c n g (omega arith) in
      let factor = ap (single n) same ∙ single_here n in
      let last = ap (λ z. z *ℤ g c) factor ∙ times_one (g c) ∙ ap g same in
      omega (arith, ints, front, last)
  | inr other ↦
      let front = combination-single c n g (omega arith) in
      let last = ap (λ z. z *ℤ g c) (single_there n c other) ∙ zero-*ℤ (g c) in
      omega (arith, ints, front, last)
]

-- the point, moved once along a direction
along : Space → ℕ → Variable → ℤ
along s n v = coordinate_at s (rank_of v) +ℤ coefficient_at s (rank_of v) n

along_lies : (s : Space) (n : ℕ) → n < s.count → LiesOn s (along s n)
unfolding along
along_lies s n h = record {
  scale = pos 1;
  not_zero = λ e. (cc);
  factors = single n;
  sums = λ v k.
      let c = coefficient_at s (rank_of v) n in
      let distance : coordinate_at s (rank_of v) +ℤ coefficient_at s (rank_of v) n -ℤ coordinate_at s (rank_of v) ≡ coefficient_at s (rank_of v) n = omega (arith, ints) in
      ap (λ z. pos 1 *ℤ z) distance ∙ times_one c ∙ sym (combination-single s.count n (coefficient_at s (rank_of v)) h);
}

pub moving_varies : (s : Space) (v : Variable) (n : ℕ) → n < s.count → coefficient_at s (rank_of v) n ≢ pos 0 → HasTwoValues s v
unfolding at_point along
moving_varies s v n h moves = (
  at_point s,
  along s n,
  point_lies s,
  along_lies s n h,
  λ e. moves (omega (arith, ints, e)),
)
