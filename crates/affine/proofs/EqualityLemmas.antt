-- A linear that is 0 at the point and along each direction is 0 at all values that lie on the space.
use Rattle.std.proofs.Common.{◌≡◌, ℕ, zero, suc, ◌<◌, List, [], ◌∷◌, ℤ, pos, ◌+ℤ◌, ◌-ℤ◌, ◌*ℤ◌, refl, sym, ap, ◌∙◌, arith, All}
use Rattle.std.proofs.Math.IntN.{*ℤ-zero}
use Rattle.std.proofs.lemmas.Int.{ints}
use Rattle.loop_bounds.specs.declared.linear.Term.{Term}
use Rattle.loop_bounds.specs.declared.variable.Variable.{Variable}
use Rattle.loop_bounds.specs.Variable.{rank_of}
use Rattle.loop_bounds.specs.Linear.{LinearView, total, value}
use Rattle.affine.specs.declared.space.Space.{Space}
use Rattle.affine.specs.Space.{combination, KnowsAt, coordinate_at, coefficient_at, LiesOn}
use Rattle.affine.proofs.Ring.{mul_sum, mul_swap, zero_from_product}
use Rattle.affine.proofs.Combinations.{combination-zero}

-- all variables of the terms are known
AllKnown : Space → List Term → Type 0
AllKnown s [] = Unit {0}
AllKnown s (t ∷ ts) = KnowsAt s (rank_of t.variable) × AllKnown s ts

all_known : (s : Space) (ts : List Term) → All (λ t. KnowsAt s (rank_of t.variable)) ts → AllKnown s ts
unfolding AllKnown
all_known s [] h = tt
all_known s (t ∷ ts) h = (h 0 t (omega arith), all_known s ts (λ k d low. h (suc k) d (omega arith)))

total_sum : (x y : Variable → ℤ) (ts : List Term) → total (λ v. x v +ℤ y v) ts ≡ total x ts +ℤ total y ts
total_sum x y [] = refl
total_sum x y (t ∷ ts) = omega (arith, ints, total_sum x y ts, mul_sum t.coefficient (x t.variable) (y t.variable))

total_multiple : (a : ℤ) (x : Variable → ℤ) (ts : List Term) → total (λ v. a *ℤ x v) ts ≡ a *ℤ total x ts
total_multiple a x [] = sym (*ℤ-zero a)
total_multiple a x (t ∷ ts) = omega (arith, ints, total_multiple a x ts, mul_swap t.coefficient a (x t.variable), mul_sum a (t.coefficient *ℤ x t.variable) (total x ts))

total_same : (s : Space) (x y : Variable → ℤ) (ts : List Term) → AllKnown s ts → ((v : Variable) → KnowsAt s (rank_of v) → x v ≡ y v) → total x ts ≡ total y ts
unfolding AllKnown
total_same s x y [] k same = refl
total_same s x y (t ∷ ts) k same =
    let here = ap (λ z. t.coefficient *ℤ z) (same t.variable k.0) in
    omega (arith, ints, here, total_same s x y ts k.1 same)

total_zero : (ts : List Term) → total (λ v. pos 0) ts ≡ pos 0
total_zero [] = refl
total_zero (t ∷ ts) = omega (arith, ints, total_zero ts, *ℤ-zero t.coefficient)

total_combination : (n : ℕ) (f : ℕ → ℤ) (g : Variable → ℕ → ℤ) (ts : List Term) → total (λ v. combination n f (g v)) ts ≡ combination n f (λ i. total (λ v. g v i) ts)
total_combination zero f g ts = total_zero ts
total_combination (suc n) f g ts =
    omega (arith, ints, total_sum (λ v. combination n f (g v)) (λ v. f n *ℤ g v n) ts, total_combination n f g ts, total_multiple (f n) (λ v. g v n) ts)

-- the linear is 0 wherever the values lie on the space
pub zero_on : (s : Space) (l : LinearView) → All (λ t. KnowsAt s (rank_of t.variable)) l.terms → value (λ v. coordinate_at s (rank_of v)) l ≡ pos 0 → ((i : ℕ) → i < s.count → total (λ v. coefficient_at s (rank_of v) i) l.terms ≡ pos 0) → (x : Variable → ℤ) → LiesOn s x → value x l ≡ pos 0
zero_on s l known at_point along x on =
    let ts = l.terms in
    let all = all_known s ts known in
    let p = λ (v : Variable). coordinate_at s (rank_of v) in
    let distance = λ (v : Variable). x v -ℤ coordinate_at s (rank_of v) in
    let sums = total_same s (λ v. on.scale *ℤ distance v) (λ v. combination s.count on.factors (coefficient_at s (rank_of v))) ts all on.sums in
    let swapped = total_combination s.count on.factors (λ v. coefficient_at s (rank_of v)) ts in
    let none = combination-zero s.count on.factors (λ i. total (λ v. coefficient_at s (rank_of v) i) ts) along in
    let scaled : on.scale *ℤ total distance ts ≡ pos 0 = sym (total_multiple on.scale distance ts) ∙ sums ∙ swapped ∙ none in
    let zero_distance = zero_from_product on.scale (total distance ts) on.not_zero scaled in
    let back = total_same s (λ v. p v +ℤ distance v) x ts all (λ v k. omega (arith, ints)) in
    omega (arith, ints, total_sum p distance ts, back, zero_distance, at_point)
