use Rattle.std.proofs.Common.{◌≤◌, ◌*ℤ◌, unsigned_abs, rules, arith, FitsSigned}
use Rattle.std.specs.Int.{w32}
use Rattle.std.proofs.lemmas.Int.{to_z-of_z, fits_signed_from_abs}
use Rattle.loop_bounds.proofs.BesideLemmas.{product_size}
use Rattle.loop_bounds.proofs.beside.scaled.Goals as goal

pub returns-clause-value : goal.returns-clause-value
returns-clause-value c =
    let first : FitsSigned w32 c.args.factor = search rules in
    let second : FitsSigned w32 c.args.term.now.coefficient = search rules in
    let small = product_size c.args.factor c.args.term.now.coefficient 1000000 256 c.requires.factor c.requires.slight in
    let fits : FitsSigned w32 (c.args.factor *ℤ c.args.term.now.coefficient) = fits_signed_from_abs w32 _ (omega (arith, small)) in
    simp to_z-of_z

pub returns-clause-size : goal.returns-clause-size
returns-clause-size c =
    let first : FitsSigned w32 c.args.factor = search rules in
    let second : FitsSigned w32 c.args.term.now.coefficient = search rules in
    let small : unsigned_abs (c.args.factor *ℤ c.args.term.now.coefficient) ≤ 256000000 = product_size c.args.factor c.args.term.now.coefficient 1000000 256 c.requires.factor c.requires.slight in
    let fits : FitsSigned w32 (c.args.factor *ℤ c.args.term.now.coefficient) = fits_signed_from_abs w32 _ (omega (arith, small)) in
    simp to_z-of_z small
