-- The bits of a signed sum that does not overflow.
use Rattle.std.proofs.Common.{◌≡◌, ℕ, ◌<◌, ◌^◌, ℤ, ◌+ℤ◌, ap, ◌∙◌, arith, unsigned_abs, FitsSigned, to_z, of_z}
use Rattle.std.specs.Int.{w128}
use Rattle.std.proofs.lemmas.Int.{to_z-of_z, fits_signed_from_abs}

pub fits_128 : (z : ℤ) → unsigned_abs z < 2 ^ 64 → FitsSigned w128 z
fits_128 z h = fits_signed_from_abs w128 z (omega arith)

module _ (bits : ℕ) (a b : ℤ) (is : to_z w128 bits ≡ a) (fits : FitsSigned w128 b) where
  sum_of_bits : to_z w128 bits +ℤ to_z w128 (of_z w128 b) ≡ a +ℤ b
  sum_of_bits = ap (λ z. z +ℤ to_z w128 (of_z w128 b)) is ∙ ap (λ z. a +ℤ z) (to_z-of_z w128 b fits)

  pub sum_fits : FitsSigned w128 (a +ℤ b) → FitsSigned w128 (to_z w128 bits +ℤ to_z w128 (of_z w128 b))
  sum_fits f = rw sum_of_bits f

  pub sum_kept : FitsSigned w128 (a +ℤ b) → to_z w128 (of_z w128 (to_z w128 bits +ℤ to_z w128 (of_z w128 b))) ≡ a +ℤ b
  sum_kept f = ap (λ z. to_z w128 (of_z w128 z)) sum_of_bits ∙ to_z-of_z w128 (a +ℤ b) f
