use Rattle.std.proofs.Common.{◌≡◌, ◌≤◌, ◌^◌, ◌*ℤ◌, unsigned_abs, to_z, of_z, ap, ◌∙◌, rules, lit<}
use Rattle.std.specs.Int.{w64}
use Rattle.std.proofs.lemmas.Int.{to_z-of_z, fits_signed_mul, unsigned_abs-mul}
use Rattle.std.proofs.lemmas.Nat.{mul-le}
use Rattle.affine.proofs.spans.product.Goals as goal

pub returns-clause-value : goal.returns-clause-value
returns-clause-value c =
    let small : unsigned_abs c.args.coefficient ≤ 2 ^ 15 = search rules in
    let fits = fits_signed_mul w64 c.args.factor c.args.coefficient (2 ^ 44) (2 ^ 15) c.requires small (lit< tt) in
    let left : to_z w64 (of_z w64 c.args.factor) ≡ c.args.factor = search rules in
    let right : to_z w64 (of_z w64 c.from.result) ≡ c.args.coefficient = search rules in
    ap (λ z. to_z w64 (of_z w64 (z *ℤ to_z w64 (of_z w64 c.from.result)))) left
    ∙ ap (λ z. to_z w64 (of_z w64 (c.args.factor *ℤ z))) right
    ∙ to_z-of_z w64 (c.args.factor *ℤ c.args.coefficient) fits

pub returns-clause-size : goal.returns-clause-size
unfolding returns-clause-value
returns-clause-size c =
    let small : unsigned_abs c.args.coefficient ≤ 2 ^ 15 = search rules in
    rw (returns-clause-value c, unsigned_abs-mul) (mul-le (unsigned_abs c.args.factor) (unsigned_abs c.args.coefficient) (2 ^ 44) (2 ^ 15) c.requires small)
