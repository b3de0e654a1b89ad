-- Products of integers: over a sum, and of three.
use Rattle.std.proofs.Common.{◌≡◌, zero, suc, ℤ, pos, negsuc, neg_ℤ, ◌+ℤ◌, ◌-ℤ◌, ◌*ℤ◌, sym, ap, ◌∙◌, arith}
use Rattle.std.proofs.Math.IntN.{*ℤ_comm, suc_ℤ-*ℤ, pred_ℤ-*ℤ, zero-*ℤ}
use Rattle.std.proofs.lemmas.Int.{ints}
use Rattle.loop_bounds.proofs.FormLemmas.{product_of_sum}

pub sum_of_products : (c a b : ℤ) → c *ℤ (a +ℤ b) ≡ c *ℤ a +ℤ c *ℤ b
sum_of_products c a b =
    let turned = *ℤ_comm c (a +ℤ b) in
    let split = product_of_sum a b c in
    let first = *ℤ_comm a c in
    let second = *ℤ_comm b c in
    omega (arith, ints, turned, split, first, second)

pub product_of_products : (a b c : ℤ) → (a *ℤ b) *ℤ c ≡ a *ℤ (b *ℤ c)
product_of_products (pos zero) b c =
    ap (λ z. z *ℤ c) (zero-*ℤ b) ∙ zero-*ℤ c ∙ sym (zero-*ℤ (b *ℤ c))
product_of_products (pos (suc n)) b c =
    ap (λ z. z *ℤ c) (suc_ℤ-*ℤ (pos n) b) ∙ product_of_sum (pos n *ℤ b) b c
    ∙ ap (λ z. z +ℤ b *ℤ c) (product_of_products (pos n) b c) ∙ sym (suc_ℤ-*ℤ (pos n) (b *ℤ c))
product_of_products (negsuc zero) b c =
    let minus = minus_times b in
    let both = minus_times (b *ℤ c) in
    let inner = ap (λ z. z *ℤ c) minus in
    let split = product_of_sum b (neg_ℤ b) c in
    let none = ap (λ z. z *ℤ c) (let e : b +ℤ neg_ℤ b ≡ pos 0 = omega (arith, ints) in e) in
    omega (arith, ints, both, inner, split, none, zero-*ℤ c)
  where
    minus_times : (k : ℤ) → negsuc 0 *ℤ k ≡ neg_ℤ k
    minus_times k = let p = pred_ℤ-*ℤ (pos zero) k in omega (arith, ints, p, zero-*ℤ k)
product_of_products (negsuc (suc n)) b c =
    let here = pred_ℤ-*ℤ (negsuc n) b in
    let inner = ap (λ z. z *ℤ c) here in
    let back : negsuc n *ℤ b -ℤ b +ℤ b ≡ negsuc n *ℤ b = omega (arith, ints) in
    let split = product_of_sum (negsuc n *ℤ b -ℤ b) b c in
    let whole = ap (λ z. z *ℤ c) back in
    let rest = product_of_products (negsuc n) b c in
    let there = pred_ℤ-*ℤ (negsuc n) (b *ℤ c) in
    omega (arith, ints, inner, split, whole, rest, there)
