-- Running sums fit 64 bits.
use Rattle.std.proofs.Common.{◌≡◌, ℕ, ◌+◌, ◌*◌, ◌<◌, ◌≤◌, ◌^◌, List, [], ◌∷◌, ◌++◌, length, take, get_or, ℤ, ◌+ℤ◌, ◌*ℤ◌, sym, ap, ◌∙◌, arith, unsigned_abs, FitsSigned, to_z, of_z, add-one}
use Rattle.std.specs.Int.{w64}
use Rattle.std.proofs.lemmas.Int.{ints, to_z-of_z, fits_signed_from_abs}
use Rattle.std.proofs.lemmas.List.{take_more}
use Rattle.loop_bounds.specs.declared.linear.Term.{Term}
use Rattle.loop_bounds.specs.declared.variable.Variable.{Variable}
use Rattle.loop_bounds.specs.Linear.{total}
use Rattle.loop_bounds.proofs.FormLemmas.{total_push}
use Rattle.affine.specs.Space.{combination}

module _ (sum product : ℤ) (bound n : ℕ) (size : unsigned_abs sum ≤ bound * n) (small : unsigned_abs product ≤ bound) (fits : bound * (n + 1) < 2 ^ 63) where
  size_next : unsigned_abs (sum +ℤ product) ≤ bound * (n + 1)
  size_next = omega (arith, ints)

  fits_next : FitsSigned w64 (sum +ℤ product)
  fits_next = fits_signed_from_abs w64 (sum +ℤ product) (omega (arith, size_next))

  fits_product : FitsSigned w64 product
  fits_product = fits_signed_from_abs w64 product (omega arith)

  kept : to_z w64 (of_z w64 (sum +ℤ to_z w64 (of_z w64 product))) ≡ sum +ℤ product
  kept = ap (λ z. to_z w64 (of_z w64 (sum +ℤ z))) (to_z-of_z w64 product fits_product) ∙ to_z-of_z w64 (sum +ℤ product) fits_next

  -- the next sum, where the sum of both is this value
  pub sum_next : (value : ℤ) → sum +ℤ product ≡ value → (to_z w64 (of_z w64 (sum +ℤ to_z w64 (of_z w64 product))) ≡ value) × (unsigned_abs (to_z w64 (of_z w64 (sum +ℤ to_z w64 (of_z w64 product)))) ≤ bound * (n + 1))
  sum_next value is = (kept ∙ is, rw kept size_next)

pub combination_next : (n : ℕ) (f g : ℕ → ℤ) (sum product : ℤ) → sum ≡ combination n f g → product ≡ f n *ℤ g n → sum +ℤ product ≡ combination (n + 1) f g
combination_next n f g sum product is next =
    let more = ap (λ k. combination k f g) (add-one n) in
    let both : sum +ℤ product ≡ combination n f g +ℤ f n *ℤ g n = cc in
    both ∙ sym more

pub total_next : (x : Variable → ℤ) (terms : List Term) (n : ℕ) (t : Term) (sum product : ℤ) → n < length terms → t ≡ get_or terms n t → sum ≡ total x (take n terms) → product ≡ t.coefficient *ℤ x t.variable → sum +ℤ product ≡ total x (take (n + 1) terms)
total_next x terms n t sum product low is_t is next =
    let more = take_more terms n t low ∙ ap (λ (u : Term). take n terms ++ u ∷ []) (sym is_t) in
    let both : sum +ℤ product ≡ total x (take n terms) +ℤ t.coefficient *ℤ x t.variable = cc in
    both ∙ sym (total_push x (take n terms) t) ∙ sym (ap (total x) more)
