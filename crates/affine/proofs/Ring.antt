-- Products of integers.
use Rattle.std.proofs.Common.{◌≡◌, ◌≢◌, zero, suc, ◌<◌, ◌*◌, ℤ, pos, negsuc, ◌+ℤ◌, ◌-ℤ◌, ◌*ℤ◌, refl, sym, ap, ◌∙◌, arith, unsigned_abs}
use Rattle.std.proofs.Math.IntN.{*ℤ_comm, suc_ℤ-+ℤ, pred_ℤ-+ℤ, suc_ℤ-*ℤ, pred_ℤ-*ℤ, zero-*ℤ, +ℤ_idl}
use Rattle.std.proofs.Math.Nat.{eq_of_mul-eq-mul_left, mul-zero}
use Rattle.std.proofs.lemmas.Int.{ints, unsigned_abs-mul}

pub mul_sum_left : (a b y : ℤ) → (a +ℤ b) *ℤ y ≡ a *ℤ y +ℤ b *ℤ y
mul_sum_left (pos zero) b y =
    let e = ap (λ z. z *ℤ y) (+ℤ_idl b) in
    let n = zero-*ℤ y in
    omega (arith, ints, e, n)
mul_sum_left (pos (suc n)) b y =
    let e = ap (λ z. z *ℤ y) (suc_ℤ-+ℤ (pos n) b) in
    omega (arith, ints, e, suc_ℤ-*ℤ (pos n +ℤ b) y, suc_ℤ-*ℤ (pos n) y, mul_sum_left (pos n) b y)
mul_sum_left (negsuc zero) b y =
    let e = ap (λ z. z *ℤ y) (pred_ℤ-+ℤ (pos zero) b) in
    let k = ap (λ z. z *ℤ y) (+ℤ_idl b) in
    omega (arith, ints, e, k, pred_ℤ-*ℤ (pos zero +ℤ b) y, pred_ℤ-*ℤ (pos zero) y, zero-*ℤ y)
mul_sum_left (negsuc (suc n)) b y =
    let e = ap (λ z. z *ℤ y) (pred_ℤ-+ℤ (negsuc n) b) in
    omega (arith, ints, e, pred_ℤ-*ℤ (negsuc n +ℤ b) y, pred_ℤ-*ℤ (negsuc n) y, mul_sum_left (negsuc n) b y)

pub mul_sum : (a x y : ℤ) → a *ℤ (x +ℤ y) ≡ a *ℤ x +ℤ a *ℤ y
mul_sum a x y = omega (arith, ints, *ℤ_comm a (x +ℤ y), mul_sum_left x y a, *ℤ_comm a x, *ℤ_comm a y)

pub mul_difference_left : (a b y : ℤ) → (a -ℤ b) *ℤ y ≡ a *ℤ y -ℤ b *ℤ y
mul_difference_left a b y =
    let back : a -ℤ b +ℤ b ≡ a = omega (arith, ints) in
    omega (arith, ints, mul_sum_left (a -ℤ b) b y, ap (λ z. z *ℤ y) back)

pub mul_difference : (a x y : ℤ) → a *ℤ (x -ℤ y) ≡ a *ℤ x -ℤ a *ℤ y
mul_difference a x y = omega (arith, ints, *ℤ_comm a (x -ℤ y), mul_difference_left x y a, *ℤ_comm a x, *ℤ_comm a y)

none_assoc : (b c : ℤ) → (pos zero *ℤ b) *ℤ c ≡ pos zero *ℤ (b *ℤ c)
none_assoc b c = omega (arith, ints, ap (λ z. z *ℤ c) (zero-*ℤ b), zero-*ℤ c, zero-*ℤ (b *ℤ c))

pub mul_assoc : (a b c : ℤ) → (a *ℤ b) *ℤ c ≡ a *ℤ (b *ℤ c)
mul_assoc (pos zero) b c = none_assoc b c
mul_assoc (pos (suc n)) b c =
    omega (arith, ints, ap (λ z. z *ℤ c) (suc_ℤ-*ℤ (pos n) b), mul_sum_left (pos n *ℤ b) b c, suc_ℤ-*ℤ (pos n) (b *ℤ c), mul_assoc (pos n) b c)
mul_assoc (negsuc zero) b c =
    omega (arith, ints, ap (λ z. z *ℤ c) (pred_ℤ-*ℤ (pos zero) b), mul_difference_left (pos zero *ℤ b) b c, pred_ℤ-*ℤ (pos zero) (b *ℤ c), none_assoc b c)
mul_assoc (negsuc (suc n)) b c =
    omega (arith, ints, ap (λ z. z *ℤ c) (pred_ℤ-*ℤ (negsuc n) b), mul_difference_left (negsuc n *ℤ b) b c, pred_ℤ-*ℤ (negsuc n) (b *ℤ c), mul_assoc (negsuc n) b c)

-- the two outer factors change places
pub mul_swap : (a b c : ℤ) → a *ℤ (b *ℤ c) ≡ b *ℤ (a *ℤ c)
mul_swap a b c = sym (mul_assoc a b c) ∙ ap (λ z. z *ℤ c) (*ℤ_comm a b) ∙ mul_assoc b a c

abs_pos : (a : ℤ) → a ≢ pos 0 → 0 < unsigned_abs a
abs_pos (pos zero) n = absurd (n refl)
abs_pos (pos (suc m)) n = omega arith
abs_pos (negsuc m) n = omega arith

abs_zero : (a : ℤ) → unsigned_abs a ≡ 0 → a ≡ pos 0
abs_zero a h = omega (arith, ints)

pub zero_from_product : (a b : ℤ) → a ≢ pos 0 → a *ℤ b ≡ pos 0 → b ≡ pos 0
zero_from_product a b n e =
    let size : unsigned_abs a * unsigned_abs b ≡ 0 = sym (unsigned_abs-mul a b) ∙ ap unsigned_abs e in
    let low = abs_pos a n in
    abs_zero b (eq_of_mul-eq-mul_left (unsigned_abs a) low (unsigned_abs b) 0 (size ∙ sym (mul-zero (unsigned_abs a))))

pub product_not_zero : (a b : ℤ) → a ≢ pos 0 → b ≢ pos 0 → a *ℤ b ≢ pos 0
product_not_zero a b n m = λ e. m (zero_from_product a b n e)
