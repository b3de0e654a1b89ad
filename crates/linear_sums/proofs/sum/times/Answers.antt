use Rattle.std.proofs.Common.{◌*ℤ◌, ◌^◌, arith, rules, FitsSigned}
use Rattle.std.specs.Int.{w128}
use Rattle.std.proofs.lemmas.Int.{to_z-of_z, fits_signed_mul}
use Rattle.linear_sums.proofs.sum.times.Goals as goal

pub returns-clause-value : goal.returns-clause-value
returns-clause-value c =
    let f1 : FitsSigned w128 c.args.a = search rules in
    let f2 : FitsSigned w128 c.args.b = search rules in
    let product : FitsSigned w128 (c.args.a *ℤ c.args.b) = fits_signed_mul w128 c.args.a c.args.b (2 ^ 60) (2 ^ 60) (omega arith) (omega arith) (omega arith) in
    simp to_z-of_z
