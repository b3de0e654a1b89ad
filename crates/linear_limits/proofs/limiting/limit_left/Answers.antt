use Rattle.std.proofs.Common.{rules, FitsSigned}
use Rattle.std.specs.Int.{w32, w128}
use Rattle.std.proofs.lemmas.Int.{to_z-of_z}
use Rattle.linear_limits.proofs.LimitLemmas.{below_is, not_below_is}
use Rattle.linear_limits.proofs.limiting.limit_left.Goals as goal

pub returns-in-Below : goal.returns-in-Below
returns-in-Below g c =
    let box = g.R.Ranges.range_of c.args.ranges.now in
    let f1 : FitsSigned w32 c.args.term.now.coefficient = search rules in
    let f2 : FitsSigned w128 c.extremes-extremes.result.least = search rules in
    let f3 : FitsSigned w128 c.least_product.result = search rules in
    let f4 : FitsSigned w128 c.difference-others.result = search rules in
    let f5 : FitsSigned w128 c.difference.result = search rules in
    let is = simp to_z-of_z at c.products_up_to.ensures in
    let to = simp to_z-of_z at c.difference.ensures.value in
    let others = simp to_z-of_z at c.difference-others.ensures.value in
    let lowest = simp to_z-of_z at c.least_product.ensures.value in
    rw c.in-Below.is (below_is box c.args.linear.now c.args.term.now c.range-range.result c.difference.result c.difference-others.result c.extremes-extremes.result.least c.least_product.result c.products_up_to.result c.range-range.ensures c.extremes-extremes.ensures.least lowest others to is)

pub returns-in-NotBelow : goal.returns-in-NotBelow
returns-in-NotBelow g c =
    let box = g.R.Ranges.range_of c.args.ranges.now in
    let f1 : FitsSigned w32 c.args.term.now.coefficient = search rules in
    let f2 : FitsSigned w128 c.extremes-extremes.result.greatest = search rules in
    let f3 : FitsSigned w128 c.greatest_product.result = search rules in
    let f4 : FitsSigned w128 c.difference-others-in-NotBelow.result = search rules in
    let f5 : FitsSigned w128 c.difference-in-NotBelow.result = search rules in
    let is = simp to_z-of_z at c.products_from.ensures in
    let from = simp to_z-of_z at c.difference-in-NotBelow.ensures.value in
    let others = simp to_z-of_z at c.difference-others-in-NotBelow.ensures.value in
    let highest = simp to_z-of_z at c.greatest_product.ensures.value in
    rw c.in-NotBelow.is (not_below_is box c.args.linear.now c.args.term.now c.range-range.result c.difference-in-NotBelow.result c.difference-others-in-NotBelow.result c.extremes-extremes.result.greatest c.greatest_product.result c.products_from.result c.range-range.ensures c.extremes-extremes.ensures.greatest highest others from is)
