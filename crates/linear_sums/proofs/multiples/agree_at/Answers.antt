use Rattle.std.proofs.Common.{◌*ℤ◌, ◌∙◌, ℤ, ap, rules, FitsSigned}
use Rattle.std.specs.Int.{w128}
use Rattle.std.proofs.lemmas.Int.{to_z-of_z}
use Rattle.linear_sums.proofs.MultipleLemmas.{equal_products}
use Rattle.linear_sums.proofs.multiples.agree_at.Goals as goal

pub returns : goal.returns
returns g c =
    let f1 : FitsSigned w128 c.args.a_factor = search rules in
    let f2 : FitsSigned w128 c.args.b_factor = search rules in
    let f3 : FitsSigned w128 c.canon.result = search rules in
    let f4 : FitsSigned w128 c.canon-2.result = search rules in
    let f5 : FitsSigned w128 c.times.result = search rules in
    let f6 : FitsSigned w128 c.times-2.result = search rules in
    let first = simp to_z-of_z at c.times.ensures.value in
    let second = simp to_z-of_z at c.times-2.ensures.value in
    let test = simp to_z-of_z at c.is_equal.ensures in
    equal_products c.is_equal.result c.times.result c.times-2.result c.args.a_factor _ c.args.b_factor _
    (first ∙ ap (λ (z : ℤ). c.args.a_factor *ℤ z) c.canon.ensures.value)
    (second ∙ ap (λ (z : ℤ). c.args.b_factor *ℤ z) c.canon-2.ensures.value) test
