-- Sums of products, and their laws.
use Rattle.std.proofs.Common.{◌≡◌, ℕ, zero, suc, ◌<◌, ℤ, pos, ◌+ℤ◌, ◌*ℤ◌, refl, sym, ap, arith}
use Rattle.std.proofs.Math.IntN.{*ℤ-zero, zero-*ℤ}
use Rattle.std.proofs.lemmas.Int.{ints}
use Rattle.affine.specs.Space.{combination}
use Rattle.affine.proofs.Ring.{mul_sum, mul_sum_left, mul_assoc}

pub combination-same : (n : ℕ) (f f' g g' : ℕ → ℤ) → ((i : ℕ) → i < n → f i ≡ f' i) → ((i : ℕ) → i < n → g i ≡ g' i) → combination n f g ≡ combination n f' g'
combination-same zero f f' g g' p q = refl
combination-same (suc n) f f' g g' p q =
    let rest = combination-same n f f' g g' (λ i h. p i (omega arith)) (λ i h. q i (omega arith)) in
    let left : f n ≡ f' n = p n (omega arith) in
    let right : g n ≡ g' n = q n (omega arith) in
    cc

pub combination-multiple : (n : ℕ) (a : ℤ) (f g : ℕ → ℤ) → combination n (λ i. a *ℤ f i) g ≡ a *ℤ combination n f g
combination-multiple zero a f g = sym (*ℤ-zero a)
combination-multiple (suc n) a f g =
    omega (arith, ints, combination-multiple n a f g, mul_assoc a (f n) (g n), mul_sum a (combination n f g) (f n *ℤ g n))

pub combination-sum : (n : ℕ) (f f' g : ℕ → ℤ) → combination n (λ i. f i +ℤ f' i) g ≡ combination n f g +ℤ combination n f' g
combination-sum zero f f' g = refl
combination-sum (suc n) f f' g =
    omega (arith, ints, combination-sum n f f' g, mul_sum_left (f n) (f' n) (g n))

pub combination-no_factors : (n : ℕ) (g : ℕ → ℤ) → combination n (λ i. pos 0) g ≡ pos 0
combination-no_factors zero g = refl
combination-no_factors (suc n) g = omega (arith, ints, combination-no_factors n g, zero-*ℤ (g n))

pub combination-zero : (n : ℕ) (f g : ℕ → ℤ) → ((i : ℕ) → i < n → g i ≡ pos 0) → combination n f g ≡ pos 0
combination-zero zero f g z = refl
combination-zero (suc n) f g z =
    let here = ap (λ c. f n *ℤ c) (z n (omega arith)) in
    omega (arith, ints, combination-zero n f g (λ i h. z i (omega arith)), here, *ℤ-zero (f n))
