-- Products of integers.
use Rattle.std.proofs.Common.{◌≡◌, ◌≢◌, zero, suc, ◌≤◌, ℤ, pos, negsuc, neg_ℤ, ◌+ℤ◌, ◌-ℤ◌, ◌*ℤ◌, refl, sym, ap, ◌∙◌, arith, unsigned_abs}
use Rattle.std.proofs.Math.IntN.{one, *ℤ-one, *ℤ_comm, suc_ℤ-*ℤ, pred_ℤ-*ℤ, zero-*ℤ}
use Rattle.std.proofs.lemmas.Int.{ints, unsigned_abs-mul}
use Rattle.std.proofs.lemmas.Nat.{mul-le}
use Rattle.loop_bounds.proofs.FormLemmas.{product_of_sum}

pub sum_of_products : (c a b : ℤ) → c *ℤ (a +ℤ b) ≡ c *ℤ a +ℤ c *ℤ b
sum_of_products c a b =
    let turned = *ℤ_comm c (a +ℤ b) in
    let split = product_of_sum a b c in
    let first = *ℤ_comm a c in
    let second = *ℤ_comm b c in
    omega (arith, ints, turned, split, first, second)

pub product_of_products : (a b c : ℤ) → (a *ℤ b) *ℤ c ≡ a *ℤ (b *ℤ c)
product_of_products (pos zero) b c =
    ap (λ z. z *ℤ c) (zero-*ℤ b) ∙ zero-*ℤ c ∙ sym (zero-*ℤ (b *ℤ c))
product_of_products (pos (suc n)) b c =
    ap (λ z. z *ℤ c) (suc_ℤ-*ℤ (pos n) b) ∙ product_of_sum (pos n *ℤ b) b c
    ∙ ap (λ z. z +ℤ b *ℤ c) (product_of_products (pos n) b c) ∙ sym (suc_ℤ-*ℤ (pos n) (b *ℤ c))
product_of_products (negsuc zero) b c =
    let minus = minus_times b in
    let both = minus_times (b *ℤ c) in
    let inner = ap (λ z. z *ℤ c) minus in
    let split = product_of_sum b (neg_ℤ b) c in
    let none = ap (λ z. z *ℤ c) (let e : b +ℤ neg_ℤ b ≡ pos 0 = omega (arith, ints) in e) in
    omega (arith, ints, both, inner, split, none, zero-*ℤ c)
  where
    minus_times : (k : ℤ) → negsuc 0 *ℤ k ≡ neg_ℤ k
    minus_times k = let p = pred_ℤ-*ℤ (pos zero) k in omega (arith, ints, p, zero-*ℤ k)
product_of_products (negsuc (suc n)) b c =
    let here = pred_ℤ-*ℤ (negsuc n) b in
    let inner = ap (λ z. z *ℤ c) here in
    let back : negsuc n *ℤ b -ℤ b +ℤ b ≡ negsuc n *ℤ b = omega (arith, ints) in
    let split = product_of_sum (negsuc n *ℤ b -ℤ b) b c in
    let whole = ap (λ z. z *ℤ c) back in
    let rest = product_of_products (negsuc n) b c in
    let there = pred_ℤ-*ℤ (negsuc n) (b *ℤ c) in
    omega (arith, ints, inner, split, whole, rest, there)

pub minus_once : (k : ℤ) → negsuc 0 *ℤ k ≡ neg_ℤ k
minus_once k = let p = pred_ℤ-*ℤ (pos zero) k in omega (arith, ints, p, zero-*ℤ k)

pub swapped_product : (c k b : ℤ) → c *ℤ (k *ℤ b) ≡ k *ℤ (c *ℤ b)
swapped_product c k b = sym (product_of_products c k b) ∙ ap (λ z. z *ℤ b) (*ℤ_comm c k) ∙ product_of_products k c b

pub one_times : (k : ℤ) → pos 1 *ℤ k ≡ k
unfolding one
one_times k = *ℤ_comm (pos 1) k ∙ *ℤ-one k

pub times_one : (k : ℤ) → k *ℤ pos 1 ≡ k
unfolding one
times_one k = *ℤ-one k

size_there : (k : ℤ) → k ≢ pos 0 → 1 ≤ unsigned_abs k
size_there k h = omega (arith, ints)

-- a product of integers that are not 0 is not 0
pub product_there : (k a : ℤ) → k ≢ pos 0 → a ≢ pos 0 → k *ℤ a ≢ pos 0
product_there k a p q e =
    let size = unsigned_abs-mul k a in
    let least = mul-le 1 1 (unsigned_abs k) (unsigned_abs a) (size_there k p) (size_there a q) in
    let none : unsigned_abs (k *ℤ a) ≡ 0 = ap unsigned_abs e in
    omega (arith, size, least, none)

pub zero_factor : (k a : ℤ) → k ≢ pos 0 → k *ℤ a ≡ pos 0 → a ≡ pos 0
zero_factor k a p e = zero_if_not_other a (λ q. product_there k a p q e)
  where
    zero_if_not_other : (z : ℤ) → (z ≢ pos 0 → ⊥) → z ≡ pos 0
    zero_if_not_other (pos zero) h = refl
    zero_if_not_other (pos (suc n)) h = absurd (h (λ e. omega (arith, ints)))
    zero_if_not_other (negsuc n) h = absurd (h (λ e. omega (arith, ints)))

pub cancelled : (k m n : ℤ) → k ≢ pos 0 → k *ℤ m ≡ k *ℤ n → m ≡ n
cancelled k m n p e =
    let split = sum_of_products k (m -ℤ n) n in
    let back = ap (λ z. k *ℤ z) (let same : m -ℤ n +ℤ n ≡ m = omega (arith, ints) in same) in
    let none : k *ℤ (m -ℤ n) ≡ pos 0 = omega (arith, ints, split, back, e) in
    let zero_difference = zero_factor k (m -ℤ n) p none in
    omega (arith, ints, zero_difference)
